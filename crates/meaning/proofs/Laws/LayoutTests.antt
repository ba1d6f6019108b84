-- Computed tests of the layout: needs [7.4], and stores after a run [7.5], [9.6]. Assumes nothing.
use Rattle.std.specs.Prelude.{◌≡◌, refl, List, [], ◌∷◌, map, ℕ, ℤ, pos}
use Rattle.arithmetic.specs.Arithmetic.{Operation}
use Rattle.meaning.specs.Types.{number, array}
use Rattle.meaning.specs.Terms.{LoopKind, Term, Plan}
use Rattle.meaning.specs.Numbers.{clamped32}
use Rattle.meaning.specs.Loops.{Offset, Place, Value, Command, Loops, seq, loop, new}
use Rattle.meaning.specs.Layout.{room, first_room, second_room, region_room, body_room, need}
use Rattle.meaning.specs.Runs.{Orders, run, run_loops}
use Rattle.meaning.specs.Translation.{translation, write_term, use_term, use_reduce, assign}

-- one output cell, and a command
abbrev one_cell : Command → Loops
one_cell c = record { inputs = []; output = 1; command = c }

-- `set,0 out,0 lit,0 lit,0`; `set,0 loc,0 lit,o lit,v`; `set,0 out,0 lit,0 loc,0 lit,0`
abbrev clear : Command
clear = Command.assignment (Place.output (Offset.literal 0)) (Value.literal (pos 0))

abbrev keep : ℕ → ℕ → Command
keep o v = Command.assignment (Place.region 0 (Offset.literal o)) (Value.literal (pos v))

abbrev put_out : Command
put_out = Command.assignment (Place.output (Offset.literal 0)) (Value.region 0 (Offset.literal 0))

-- [7.4] Side by side the greater counts, whichever comes first; one in the other both; an unused one too; in a `for` once, in a `par` once
-- a round, around a `par` once.
needs : map (λ (c : Command). need (one_cell c))
    (seq (new 5 clear) (new 7 clear) ∷ seq (new 7 clear) (new 5 clear) ∷ new 5 (new 7 clear) ∷ new 2 (seq (new 3 clear) (new 4 clear))
    ∷ loop LoopKind.sequential 9 (new 5 clear) ∷ loop LoopKind.parallel 9 (new 5 clear) ∷ new 5 (loop LoopKind.parallel 9 clear) ∷ [])
    ≡ 8 ∷ 8 ∷ 13 ∷ 7 ∷ 6 ∷ 46 ∷ 6 ∷ []
unfolding need room
needs = refl

-- [7.4] Sums side by side in a pair share their cell; in an addition the second stands in the first one's block.
abbrev sum_of_two : Term
sum_of_two = Term.reduce (Term.literal (pos 0)) (Term.input 0) (Term.operation Operation.addition (Term.variable 0) (Term.variable 1))

abbrev over_two : Term → Plan
over_two e = record { inputs = array 2 number ∷ []; term = e }

sums : map (λ (e : Term). need (translation (over_two e)))
    (sum_of_two ∷ Term.pair sum_of_two sum_of_two ∷ Term.operation Operation.addition sum_of_two sum_of_two ∷ [])
    ≡ 4 ∷ 5 ∷ 5 ∷ []
unfolding need room translation write_term use_term use_reduce assign
sums = refl

after : (c : Command) → Orders c → List ℕ → List ℤ
after c ch s = (run_loops clamped32 (one_cell c) ch (map pos s)).store

-- [7.5] A region begins right behind those open around it, not behind its elder sibling.
begins : after (new 1 (seq (new 2 (keep 1 7)) (new 1 (keep 0 8)))) (tt, tt) (0 ∷ 0 ∷ 0 ∷ 0 ∷ 0 ∷ []) ≡ map pos (0 ∷ 0 ∷ 8 ∷ 7 ∷ 0 ∷ [])
unfolding after run_loops run first_room second_room region_room body_room
begins = refl

-- [9.6] `new` clears nothing: the second region holds what the first left.
left : after (seq (new 1 (keep 0 7)) (new 1 put_out)) (tt, tt) (0 ∷ 5 ∷ 6 ∷ []) ≡ map pos (7 ∷ 7 ∷ 6 ∷ [])
unfolding after run_loops run first_room second_room region_room body_room
left = refl
