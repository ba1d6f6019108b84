-- The rows of loops within the bounds and limits, their literals being 32-bit numbers, can be printed, and 4,096 of them take at most 65,536 bytes.
-- Assumes nothing.
use Rattle.std.specs.Prelude.{refl, ℕ, ◌+◌, ◌*◌, ◌≤◌, ◌<◌, ℤ, pos, length}
use mathlib.Core.List.{List, [], ◌∷◌, ◌++◌}
use Rattle.std.proofs.Common.{inl, inr, arith, SFits}
use Rattle.std.specs.Int.{w32}
use Rattle.arithmetic.specs.Arithmetic.{Operation}
use Rattle.words.specs.Kinds.{Row, word_loops, word_cells, word_set, word_seq, word_new, word_out, word_loc, word_kind_in, word_lit, word_neg, word_ctr, word_plus, word_times, word_over, word_rest}
use Rattle.words.specs.Good.{Good}
use Rattle.words.specs.Words.{words}
use Rattle.words.proofs.Laws.{words_count}
use Rattle.lines.specs.Printing.{text_of}
use Rattle.lines.specs.Printing.{Each, Printable}
use Rattle.lines.proofs.Laws.{Ranged, text_size}
use Rattle.meaning.specs.Terms.{LoopKind}
use Rattle.meaning.specs.Loops.{Offset, Place, Value, Command, Loops, plus, times, over, rest, seq, loop, new}
use Rattle.meaning.specs.Rows.{operation_word, loop_word, offset_rows, value_rows, place_rows, command_rows, all_cells_rows, loops_rows}
use Rattle.meaning.specs.Limits.{LoopsWithin}
use Rattle.meaning.proofs.Laws.Bounds.{rounds_are_count}
use Rattle.syntax.specs.InRange.{OffsetInRange, PlaceInRange, ValueInRange, CommandInRange, AllCounts}
use Rattle.loops.specs.Laws.Passing.{within_cells, within_command}
use Rattle.loops.specs.Laws.Literals.{ValueLiterals, CommandLiterals}

-- a row of a word, with a number that question 5 lets be
record Fits (r : Row) : Type 0 where
  listed : r.0 < length words
  ranged : Ranged r

abbrev AllFit : List Row → Type 0
AllFit R = Each Fits R

number_row : (k n : ℕ) → k < length words → n ≤ 4096 → Fits (k, pos n)
number_row k n h g = record { listed = h; ranged = record { number = record { sfits = omega arith }; small = inr (n, refl, g) } }

none : AllFit []
unfolding Each
none = tt

literal : (z : ℤ) → SFits w32 z → AllFit ((word_lit, z) ∷ [])
unfolding Each
literal z h = (record { listed = omega (arith, words_count); ranged = record { number = h; small = inl refl } }, tt)

one_more : (k n : ℕ) (R : List Row) → k < length words → n ≤ 4096 → AllFit R → AllFit ((k, pos n) ∷ R)
unfolding Each
one_more k n R h g f = (number_row k n h g, f)

both : (a b : List Row) → AllFit a → AllFit b → AllFit (a ++ b)
unfolding Each
both [] b f g = g
both (r ∷ a) b f g = (f.0, both a b f.1 g)

operation_word_holds : (o : Operation) → operation_word o < length words
operation_word_holds Operation.addition = omega (arith, words_count)
operation_word_holds Operation.subtraction = omega (arith, words_count)
operation_word_holds Operation.multiplication = omega (arith, words_count)
operation_word_holds Operation.division = omega (arith, words_count)
operation_word_holds Operation.minimum = omega (arith, words_count)
operation_word_holds Operation.maximum = omega (arith, words_count)

loop_word_holds : (kind : LoopKind) → loop_word kind < length words
loop_word_holds LoopKind.parallel = omega (arith, words_count)
loop_word_holds LoopKind.sequential = omega (arith, words_count)
loop_word_holds LoopKind.lanes = omega (arith, words_count)

module _ (K : ℕ) (few : K ≤ 8) where
  offset_fits : (k : ℕ) (o : Offset) → k ≤ 32 → OffsetInRange k o → AllFit (offset_rows o)
  unfolding offset_rows
  offset_fits k (Offset.literal v) l h = one_more word_lit v [] (omega (arith, words_count)) (omega arith) none
  offset_fits k (Offset.counter d) l h = one_more word_ctr d [] (omega (arith, words_count)) (omega arith) none
  offset_fits k (plus x y) l h =
      one_more word_plus 0 _ (omega (arith, words_count)) (omega arith)
      (both (offset_rows x) (offset_rows y) (offset_fits k x l h.0) (offset_fits k y l h.1))
  offset_fits k (times n x) l h = one_more word_times n _ (omega (arith, words_count)) (omega (arith, h.0)) (offset_fits k x l h.1)
  offset_fits k (over n x) l h = one_more word_over n _ (omega (arith, words_count)) (omega (arith, h.0)) (offset_fits k x l h.1)
  offset_fits k (rest n x) l h = one_more word_rest n _ (omega (arith, words_count)) (omega (arith, h.0)) (offset_fits k x l h.1)

  place_fits : (k r : ℕ) (p : Place) → k ≤ 32 → r ≤ 256 → PlaceInRange k r p → AllFit (place_rows p)
  unfolding place_rows
  place_fits k r (Place.output o) l m h = one_more word_out 0 _ (omega (arith, words_count)) (omega arith) (offset_fits k o l h)
  place_fits k r (Place.region d o) l m h = one_more word_loc d _ (omega (arith, words_count)) (omega (arith, h.0)) (offset_fits k o l h.1)

  value_fits : (k r : ℕ) (v : Value) → k ≤ 32 → r ≤ 256 → ValueInRange K k r v → ValueLiterals (SFits w32) v → AllFit (value_rows v)
  unfolding value_rows
  value_fits k r (Value.input j o) l m h g = one_more word_kind_in j _ (omega (arith, words_count)) (omega (arith, h.0)) (offset_fits k o l h.1)
  value_fits k r (Value.region d o) l m h g = one_more word_loc d _ (omega (arith, words_count)) (omega (arith, h.0)) (offset_fits k o l h.1)
  value_fits k r (Value.literal z) l m h g = literal z g
  value_fits k r (Value.negate v) l m h g = one_more word_neg 0 _ (omega (arith, words_count)) (omega arith) (value_fits k r v l m h g)
  value_fits k r (Value.operation o v w) l m h g =
      one_more (operation_word o) 0 _ (operation_word_holds o) (omega arith)
      (both (value_rows v) (value_rows w) (value_fits k r v l m h.0 g.0) (value_fits k r w l m h.1 g.1))

  command_fits : (k r : ℕ) (c : Command) → k ≤ 32 → r ≤ 256 → CommandInRange K k r c → CommandLiterals (SFits w32) c → AllFit (command_rows c)
  unfolding command_rows
  command_fits k r (Command.assignment p v) l m h g =
      one_more word_set 0 _ (omega (arith, words_count)) (omega arith)
      (both (place_rows p) (value_rows v) (place_fits k r p l m h.0) (value_fits k r v l m h.1 g))
  command_fits k r (seq c d) l m h g =
      one_more word_seq 0 _ (omega (arith, words_count)) (omega arith)
      (both (command_rows c) (command_rows d) (command_fits k r c l m h.0 g.0) (command_fits k r d l m h.1 g.1))
  command_fits k r (loop kind n b) l m h g =
      one_more (loop_word kind) n _ (loop_word_holds kind) (rounds_are_count kind n h.0).1 (command_fits (k + 1) r b (omega (arith, h.1)) m h.2 g)
  command_fits k r (new n b) l m h g =
      one_more word_new n _ (omega (arith, words_count)) (omega (arith, h.0)) (command_fits k (r + 1) b l (omega (arith, h.1)) h.2 g)

cells_fit : (ns : List ℕ) → AllCounts ns → AllFit (all_cells_rows ns)
unfolding all_cells_rows
cells_fit [] h = none
cells_fit (n ∷ ns) h = one_more word_cells n _ (omega (arith, words_count)) (omega (arith, h.0)) (cells_fit ns h.1)

loops_fit : (L : Loops) → LoopsWithin L → CommandLiterals (SFits w32) L.command → AllFit (loops_rows L)
unfolding loops_rows
loops_fit L h g =
    one_more word_loops (length L.inputs) _ (omega (arith, words_count)) (omega (arith, h.inputs_few))
    (both (all_cells_rows L.inputs) _ (cells_fit L.inputs (within_cells L h))
    (one_more word_cells L.output _ (omega (arith, words_count)) (omega (arith, h.output_cells))
    (command_fits (length L.inputs) h.inputs_few 0 0 L.command (omega arith) (omega arith) (within_command L h) g)))

-- ---- what follows

each_is : (P Q : Row → Type 0) → ((r : Row) → P r → Q r) → (R : List Row) → Each P R → Each Q R
unfolding Each
each_is P Q f [] h = tt
each_is P Q f (r ∷ R) h = (f r h.0, each_is P Q f R h.1)

module _ (ws : List (List ℕ)) (good : Good ws) (L : Loops) (h : LoopsWithin L) (g : CommandLiterals (SFits w32) L.command) where
  pub loops_printable : Each (Printable ws) (loops_rows L)
  loops_printable =
      each_is Fits (Printable ws)
      (λ r f. record { listed = omega (arith, good.count, f.listed); number = f.ranged.number }) (loops_rows L) (loops_fit L h g)

  pub loops_size : length (text_of ws (loops_rows L)) ≤ 16 * length (loops_rows L)
  loops_size = text_size ws good (loops_rows L) (each_is Fits Ranged (λ r f. f.ranged) (loops_rows L) (loops_fit L h g))
