-- A table of rows that is filled from its front. [10.10] Rows past the 4,096th are not put, and the end is then 4,097. Definitions
-- only; assumes nothing.
use Rattle.std.specs.Prelude.{Bool, cond, List, [], ◌∷◌, ℕ, ◌+◌, ltb, eqb, ℤ, pos, replicate, set, take}
use Rattle.words.specs.Kinds.{Row}

-- kinds, numbers, and where the next row goes
pub data Table : Type 0 where
  table : List ℕ → List ℤ → ℕ → Table

-- none yet
abbrev pub no_rows : Table
no_rows = table (replicate 4096 0) (replicate 4096 (pos 0)) 0

-- one row
unfoldable pub put_row : Table → Row → Table
put_row (table kinds numbers end) row =
    cond (ltb end 4096) (table (set kinds end row.0) (set numbers end row.1) (end + 1))
    (table kinds numbers (cond (eqb end 4096) 4097 end))

-- rows, first to last
unfoldable pub put_rows : List Row → Table → Table
put_rows [] t = t
put_rows (row ∷ rows) t = put_rows rows (put_row t row)

-- whether more were put than there is room for
abbrev pub too_many : Table → Bool
too_many (table kinds numbers end) = ltb 4096 end

-- what was put
abbrev pub kinds_put : Table → List ℕ
kinds_put (table kinds numbers end) = take end kinds

abbrev pub numbers_put : Table → List ℤ
numbers_put (table kinds numbers end) = take end numbers
