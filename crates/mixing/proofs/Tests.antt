-- All mixings of some loops, computed: which cells are written in which sequence, and what the store holds after each. `AllMixings` has
-- that the list which is computed has the mixings and nothing else.
use Rattle.std.specs.Prelude.{◌≡◌, refl, List, [], ◌∷◌, map, ℕ, replicate, ℤ, pos}
use Rattle.arithmetic.specs.Arithmetic.{Operation, operate, sum, clamp}
use Rattle.meaning.specs.Terms.{LoopKind}
use Rattle.meaning.specs.Numbers.{clamped32}
use Rattle.meaning.specs.Loops.{Offset, Place, Value, Command, Loops, plus, times, seq, loop, new}
use Rattle.meaning.specs.Layout.{room, first_room, second_room, round_room, region_room, body_room}
use Rattle.meaning.specs.Steps.{SetStep}
use Rattle.mixing.specs.Mixing.{after_mixing}
use Rattle.mixing.specs.Cores.{work, work_of}
use Rattle.mixing.proofs.Laws.Independence.{written_by}
use Rattle.mixing.proofs.Laws.AllMixings.{steps_left, where_none, nexts, flat, all_ways, mixings}

-- loops without inputs, with so many output cells
abbrev loops_of : ℕ → Command → Loops
loops_of n c = record { inputs = []; output = n; command = c }

-- of each mixing, the cells that are written, one after the other; and the store after it
written : Loops → List (List ℕ)
written L = map (λ (l : List SetStep). map (λ (s : SetStep). written_by s) l) (mixings L)

ends : Loops → List ℕ → List (List ℤ)
ends L s = map (λ (l : List SetStep). (after_mixing clamped32 l (map pos s)).store) (mixings L)

-- a `set` of cell 0 of the innermost region; and that cell, read
abbrev keep : Value → Command
keep v = Command.assignment (Place.region 0 (Offset.literal 0)) v

abbrev kept : Value
kept = Value.region 0 (Offset.literal 0)

-- a `set` of output cell i in round i of the innermost loop
abbrev put_out : Value → Command
put_out v = Command.assignment (Place.output (Offset.counter 0)) v

-- [9.13] What follows a `par` waits for both its rounds: the sum is written last, and is always 10.
abbrev barrier : Loops
barrier =
    loops_of 1
    (new 4
    (seq (loop LoopKind.parallel 2 (Command.assignment (Place.region 0 (Offset.counter 0)) (Value.literal (pos 5))))
    (Command.assignment (Place.output (Offset.literal 0))
    (Value.operation Operation.addition kept (Value.region 0 (Offset.literal 1))))))

waits : written barrier ≡ (1 ∷ 2 ∷ 0 ∷ []) ∷ (2 ∷ 1 ∷ 0 ∷ []) ∷ []
unfolding written mixings all_ways nexts flat where_none steps_left work_of work room first_room second_room round_room region_room
    body_room
waits = refl

sum_of_both : ends barrier (0 ∷ 0 ∷ 0 ∷ 0 ∷ 0 ∷ []) ≡ replicate 2 (map pos (10 ∷ 5 ∷ 5 ∷ 0 ∷ 0 ∷ []))
unfolding ends mixings all_ways nexts flat where_none steps_left work_of work room first_room second_room round_room region_room
    body_room operate sum clamp
sum_of_both = refl

-- [9.6] [9.12] Two rounds of two steps, each round with a region of its own: six mixings, and all end alike.
own_regions : ends (loops_of 2 (loop LoopKind.parallel 2 (new 1 (seq (keep (Value.literal (pos 3))) (put_out kept)))))
    (9 ∷ 9 ∷ 9 ∷ 9 ∷ [])
    ≡ replicate 6 (map pos (3 ∷ 3 ∷ 3 ∷ 3 ∷ []))
unfolding ends mixings all_ways nexts flat where_none steps_left work_of work room first_room second_room round_room region_room
    body_room
own_regions = refl

-- [9.12] Loops that no plan gives: both rounds count in one region, which is around the `par`. How they mix shows.
shared_region : ends
    (loops_of 2
    (new 1
    (loop LoopKind.parallel 2
    (seq (keep (Value.operation Operation.addition kept (Value.literal (pos 1)))) (put_out kept)))))
    (0 ∷ 0 ∷ 0 ∷ [])
    ≡ map (map pos)
    ((1 ∷ 2 ∷ 2 ∷ []) ∷ (2 ∷ 2 ∷ 2 ∷ []) ∷ (2 ∷ 2 ∷ 2 ∷ []) ∷ (2 ∷ 2 ∷ 2 ∷ []) ∷ (2 ∷ 2 ∷ 2 ∷ []) ∷ (2 ∷ 1 ∷ 2 ∷ []) ∷ [])
unfolding ends mixings all_ways nexts flat where_none steps_left work_of work room first_room second_room round_room region_room
    body_room operate sum clamp
shared_region = refl

-- [9.12] One `par` in another: the inner rounds of different outer rounds mix, in all 24 sequences of the four steps.
inner_rounds : written
    (loops_of 4
    (loop LoopKind.parallel 2
    (loop LoopKind.parallel 2
    (Command.assignment (Place.output (plus (times 2 (Offset.counter 1)) (Offset.counter 0))) (Value.literal (pos 1))))))
    ≡ (0 ∷ 1 ∷ 2 ∷ 3 ∷ []) ∷ (0 ∷ 1 ∷ 3 ∷ 2 ∷ []) ∷ (0 ∷ 2 ∷ 1 ∷ 3 ∷ []) ∷ (0 ∷ 2 ∷ 3 ∷ 1 ∷ []) ∷ (0 ∷ 3 ∷ 1 ∷ 2 ∷ []) ∷ (0 ∷ 3 ∷ 2 ∷ 1 ∷ [])
    ∷ (1 ∷ 0 ∷ 2 ∷ 3 ∷ []) ∷ (1 ∷ 0 ∷ 3 ∷ 2 ∷ []) ∷ (1 ∷ 2 ∷ 0 ∷ 3 ∷ []) ∷ (1 ∷ 2 ∷ 3 ∷ 0 ∷ []) ∷ (1 ∷ 3 ∷ 0 ∷ 2 ∷ []) ∷ (1 ∷ 3 ∷ 2 ∷ 0 ∷ [])
    ∷ (2 ∷ 0 ∷ 1 ∷ 3 ∷ []) ∷ (2 ∷ 0 ∷ 3 ∷ 1 ∷ []) ∷ (2 ∷ 1 ∷ 0 ∷ 3 ∷ []) ∷ (2 ∷ 1 ∷ 3 ∷ 0 ∷ []) ∷ (2 ∷ 3 ∷ 0 ∷ 1 ∷ []) ∷ (2 ∷ 3 ∷ 1 ∷ 0 ∷ [])
    ∷ (3 ∷ 0 ∷ 1 ∷ 2 ∷ []) ∷ (3 ∷ 0 ∷ 2 ∷ 1 ∷ []) ∷ (3 ∷ 1 ∷ 0 ∷ 2 ∷ []) ∷ (3 ∷ 1 ∷ 2 ∷ 0 ∷ []) ∷ (3 ∷ 2 ∷ 0 ∷ 1 ∷ []) ∷ (3 ∷ 2 ∷ 1 ∷ 0 ∷ []) ∷ []
unfolding written mixings all_ways nexts flat where_none steps_left work_of work room first_room second_room round_room region_room
    body_room
inner_rounds = refl

-- [9.13] A `par` in a `for`: its two visits do not mix.
visits : written (loops_of 2 (loop LoopKind.sequential 2 (loop LoopKind.parallel 2 (put_out (Value.literal (pos 1))))))
    ≡ (0 ∷ 1 ∷ 0 ∷ 1 ∷ []) ∷ (0 ∷ 1 ∷ 1 ∷ 0 ∷ []) ∷ (1 ∷ 0 ∷ 0 ∷ 1 ∷ []) ∷ (1 ∷ 0 ∷ 1 ∷ 0 ∷ []) ∷ []
unfolding written mixings all_ways nexts flat where_none steps_left work_of work room first_room second_room round_room region_room
    body_room
visits = refl

-- [18.10] Two lanes of two steps, each with a region of its own: six mixings, and all end alike.
own_regions_of_lanes : ends (loops_of 2 (loop LoopKind.lanes 2 (new 1 (seq (keep (Value.literal (pos 3))) (put_out kept)))))
    (9 ∷ 9 ∷ 9 ∷ 9 ∷ [])
    ≡ replicate 6 (map pos (3 ∷ 3 ∷ 3 ∷ 3 ∷ []))
unfolding ends mixings all_ways nexts flat where_none steps_left work_of work room first_room second_room round_room region_room
    body_room
own_regions_of_lanes = refl

-- [18.10] A `lanes` in a `par`: the lanes of different rounds mix, in all 24 sequences of the four steps.
lanes_of_rounds : ends
    (loops_of 4
    (loop LoopKind.parallel 2
    (loop LoopKind.lanes 2
    (Command.assignment (Place.output (plus (times 2 (Offset.counter 1)) (Offset.counter 0))) (Value.literal (pos 1))))))
    (0 ∷ 0 ∷ 0 ∷ 0 ∷ [])
    ≡ replicate 24 (map pos (1 ∷ 1 ∷ 1 ∷ 1 ∷ []))
unfolding ends mixings all_ways nexts flat where_none steps_left work_of work room first_room second_room round_room region_room
    body_room
lanes_of_rounds = refl
