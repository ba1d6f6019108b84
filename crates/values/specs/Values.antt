-- The values file: [11.3], and the questions that it is asked, [10.14] and [10.15]. Definitions only; assumes nothing.
use Rattle.std.specs.Prelude.{Bool, true, cond, ◌&&◌, ◌≡◌, List, [], ◌∷◌, map, ℕ, zero, suc, eqb, leb, ltb, ℤ, pos, length, Ok, Err}
use Rattle.refusals.specs.declared.Refusal.TheVariants.{StoreSize, ValueLines}
use Rattle.refusals.specs.Answers.{after, is_told, Answer}
use Rattle.words.specs.Kinds.{Row}
use Rattle.texts.specs.Texts.{lines_of}
use Rattle.lines.specs.Reading.{cell_head, rows_in, reading, values_limits, kinds_of, filled}
use Rattle.meaning.specs.Sequence.{up_from}

-- ---- [10.15] every input cell has exactly one line, and there is no other line

-- how many lines name cell k; the list has the cell that each line names
unfoldable pub lines_for : ℕ → List ℕ → ℕ
lines_for k [] = 0
lines_for k (c ∷ cs) = cond (eqb c k) (suc (lines_for k cs)) (lines_for k cs)

-- exactly one line for each of the cells 0 to n − 1
unfoldable pub one_each : ℕ → List ℕ → Bool
one_each zero cs = true
one_each (suc n) cs = eqb (lines_for n cs) 1 && one_each n cs

-- no line for another cell
unfoldable pub no_other : ℕ → List ℕ → Bool
no_other n [] = true
no_other n (c ∷ cs) = ltb c n && no_other n cs

unfoldable pub one_line_each : ℕ → List ℕ → Bool
one_line_each n cs = one_each n cs && no_other n cs

-- ---- the answer

-- [10.14], of n input cells and a store of so many cells; then [10.15], of the cells that the lines name; how many lines there are is
-- told. The runner has asked 14 before: there it is never the "no".
abbrev pub asked : ℕ → ℕ → List ℕ → ℕ → Answer
asked n store cs lines = cond (leb n store) (cond (one_line_each n cs) (Ok lines) (Err ValueLines)) (Err StoreSize)

-- The cell and the value of each line.
abbrev pub value_lines : List ℕ → List Row
value_lines t = rows_in cell_head (lines_of t)

-- [10.16] Filling a store from values asks 1 and 2, by the reading of `lines`, then 14 and 15: how many lines there are, or the first "no".
unfoldable pub filling : List ℕ → ℕ → ℕ → Answer
filling t n store = after (reading cell_head values_limits t) (asked n store (kinds_of (value_lines t)))

-- ---- the store

-- [11.3] The value of cell k is the number on the first line that names it; [10.15] leaves no second one.
unfoldable pub value_of : List Row → ℕ → ℤ
value_of [] k = pos 0
value_of (r ∷ rs) k = cond (eqb r.0 k) r.1 (value_of rs k)

-- What `fill` promises of its answer r and of the store, as lent and as left. Accepted: the cells 0 to n − 1 hold their values and
-- the others what they held. Refused: all hold what they held ([10.17]).
pub record FillInto (t : List ℕ) (n : ℕ) (store : List ℤ) (r : Answer) (store' : List ℤ) : Type 0 where
  pub answer : r ≡ filling t n (length store)
  pub store_left : store' ≡ filled (is_told r) (map (value_of (value_lines t)) (up_from 0 n)) store
