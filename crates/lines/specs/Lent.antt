-- Rows put into a lent table, and what is left in its two slices: [10.12], [10.17], [10.22]. Definitions only; assumes nothing.
use Rattle.std.specs.Prelude.{cond, ◌&&◌, ◌≡◌, List, ℕ, leb, ℤ, length, Ok, Err}
use Rattle.refusals.specs.declared.Refusal.TheVariants.{LentSize}
use Rattle.refusals.specs.Answers.{unless_refused, is_told, Answer}
use Rattle.words.specs.Kinds.{Row}
use Rattle.texts.specs.Texts.{lines_of}
use Rattle.lines.specs.Reading.{rows_in, head_of, kinds_of, numbers_of, filled}
use Rattle.lines.specs.declared.Heads.TheVariants.{Words}

-- [10.12] Has the table room for the rows? [1.8] It has as many as the shorter of its slices.
abbrev pub ask_room : ℕ → ℕ → ℕ → Answer
ask_room rows kinds numbers = cond (leb rows kinds && leb rows numbers) (Ok rows) (Err LentSize)

-- The rows of a text; ws is the table of words.
abbrev pub text_rows : List (List ℕ) → List ℕ → List Row
text_rows ws t = rows_in (head_of ws Words) (lines_of t)

-- What is promised of the answer r and of the two slices, as lent and as left, where the rows R are to be put and v answers the questions
-- before 12. [10.22] The rows stand in front, and what lies behind is as it was; [10.17] refused: all is.
pub record TableInto (v : Answer) (R : List Row) (kinds : List ℕ) (numbers : List ℤ) (r : Answer) (kinds' : List ℕ) (numbers' : List ℤ) : Type 0 where
  pub answer : r ≡ unless_refused v (ask_room (length R) (length kinds) (length numbers))
  pub kinds_left : kinds' ≡ filled (is_told r) (kinds_of R) kinds
  pub numbers_left : numbers' ≡ filled (is_told r) (numbers_of R) numbers
