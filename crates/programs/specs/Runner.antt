-- What the runner prints, and the store that it leaves: [11.5] to [11.9]. The table of words is an argument. Definitions only;
-- assumes nothing.
use Rattle.std.specs.Prelude.{Bool, not, cond, ◌≡◌, List, [], ◌∷◌, ◌++◌, map, ℕ, suc, eqb, leb, ℤ, pos, length, take, drop, Ok, Err}
use Rattle.loops.specs.Checked.{Checked}
use Rattle.refusals.specs.Answers.{Answer}
use Rattle.refusals.specs.declared.Refusal.TheVariants.{StoreSize, LentSize}
use Rattle.words.specs.Words.{bytes, same_letters}
use Rattle.texts.specs.Texts.{first_line, after_comma}
use Rattle.numerals.specs.Numerals.{decimal}
use Rattle.lines.specs.Reading.{filled}
use Rattle.lines.specs.Lent.{text_rows}
use Rattle.meaning.specs.Sequence.{up_from}
use Rattle.meaning.specs.Loops.{Loops}
use Rattle.meaning.specs.Layout.{all_cells}
use Rattle.syntax.specs.Reading.{loops_of}
use Rattle.values.specs.Values.{filling, value_of, value_lines}
use Rattle.loops.specs.Check.{check_loops_text}
use Rattle.interpreter.specs.Orders.{run_of}
use Rattle.run.specs.Run.{Ran, finished, refused}
use Rattle.programs.specs.Printed.{refusal_text}

-- ---- the questions and the run

-- [11.5] With no input cells the values play no part; else those of n input cells are asked, the store having so many cells.
abbrev pub ask_values : List ℕ → ℕ → ℕ → Answer
ask_values v n store = cond (eqb n 0) (Ok 0) (filling v n store)

-- The cells 0 to n − 1 hold their values, and the others what they held.
abbrev pub with_values : List ℕ → ℕ → List ℤ → List ℤ
with_values v n s = map (value_of (value_lines v)) (up_from 0 n) ++ drop n s

-- [11.6] The run is in order 0, on the store with its values, unless they were refused.
abbrev pub after_values : Answer → Loops → List ℤ → List ℤ → Ran
after_values (Ok m) L held s = finished (run_of L 0 held)
after_values (Err q) L held s = refused q s

-- `values.txt`, and then the run, of loops that pass
unfoldable pub values_run : List ℕ → Loops → List ℤ → Ran
values_run v L s =
    after_values (ask_values v (all_cells L.inputs) (length s)) L (with_values v (all_cells L.inputs) s) s

-- [10.16] The runner asks the loops their questions, 14 included, and then the values.
abbrev pub print_checked : Checked → List ℕ → Loops → List ℤ → Ran
print_checked (Ok p) v L s = cond (leb p.need (length s)) (values_run v L s) (refused StoreSize s)
print_checked (Err q) v L s = refused q s

-- t is the loops' text, v that of the values, s the store
unfoldable pub runner_outcome : List (List ℕ) → List ℕ → List ℕ → List ℤ → Ran
runner_outcome ws t v s = print_checked (check_loops_text ws t) v (loops_of (text_rows ws t)) s

-- ---- the text

-- [11.7] A line `cell,number` for each output cell, counted from 0 and rising: these from number i on
unfoldable pub cell_lines : ℕ → List ℤ → List ℕ
cell_lines i [] = []
cell_lines i (z ∷ zs) = decimal (pos i) ++ (44 ∷ decimal z) ++ (10 ∷ []) ++ cell_lines (suc i) zs

-- [11.7] Then `writes,` and the writes
unfoldable pub finished_text : List ℤ → ℕ → List ℕ
finished_text cells w = cell_lines 0 cells ++ bytes "writes," ++ decimal (pos w) ++ (10 ∷ [])

-- [7.5] The output's cells stand in the store behind those of the inputs.
abbrev pub output_cells : Loops → List ℤ → List ℤ
output_cells L s = take L.output (drop (all_cells L.inputs) s)

-- [11.8] Where there is a refusal its line is printed instead.
abbrev pub ran_text : Loops → Answer → List ℤ → List ℕ
ran_text L (Ok w) s = finished_text (output_cells L s) w
ran_text L (Err q) s = refusal_text q

abbrev pub outcome_text : Loops → Ran → List ℕ
outcome_text L x = ran_text L x.answer x.store

unfoldable pub runner_text : List (List ℕ) → List ℕ → List ℕ → List ℤ → List ℕ
runner_text ws t v s = outcome_text (loops_of (text_rows ws t)) (runner_outcome ws t v s)

-- ---- whether the values are read

-- [11.5] Loops whose first line has the number 0 have no input cells, whatever the words are.
abbrev pub reads_values : List ℕ → Bool
reads_values t = not (same_letters (after_comma (first_line t)) (bytes "0"))

-- ---- what is promised

-- [11.9] Question 12 first of all: is there room for the longest text, 4,096 lines of 17 bytes and `writes,16777216` ([13.17])?
abbrev pub room_for_all : List ℕ → Bool
room_for_all lent = leb 69648 (length lent)

-- What is promised of the answer r, of the store and of the lent text, as lent and as left, where `text` is printed and the store left as
-- `end`.
pub record ShownInto (text : List ℕ) (end store : List ℤ) (lent : List ℕ) (r : Answer) (store' : List ℤ) (lent' : List ℕ) : Type 0 where
  pub answer : r ≡ cond (room_for_all lent) (Ok (length text)) (Err LentSize)
  pub store_left : store' ≡ cond (room_for_all lent) end store
  pub text_left : lent' ≡ filled (room_for_all lent) text lent

abbrev pub RunnerInto : List (List ℕ) → List ℕ → List ℕ → List ℤ → List ℕ → Answer → List ℤ → List ℕ → Type 0
RunnerInto ws t v store = ShownInto (runner_text ws t v store) (runner_outcome ws t v store).store store
