-- What putting rows comes to in all: they stand in the table one after the other where they are at most 4,096, else the
-- end is 4,097. Assumes nothing.
use Rattle.std.specs.Prelude.{◌≡◌, List, [], ◌∷◌, map, ℕ, suc, ◌+◌, ◌<◌, ◌≤◌, ℤ, length, set}
use Rattle.std.proofs.Common.{ap, sym, ◌∙◌, arith, add-one, add-zero}
use Rattle.std.proofs.Math.Decide.{dec_lt}
use Rattle.std.proofs.lemmas.List.Edits.{sets}
use Rattle.words.specs.Kinds.{Row}
use Rattle.emission.specs.Table.{Table, table, put_row, put_rows}
use Rattle.emission.specs.Laws.Table.{put_room, put_full, put_none_past}

abbrev pub kinds_of : List Row → List ℕ
kinds_of rows = map (λ (row : Row). row.0) rows

abbrev pub numbers_of : List Row → List ℤ
numbers_of rows = map (λ (row : Row). row.1) rows

abbrev pub end_of : Table → ℕ
end_of (table ks ns end) = end

-- they fit: they stand from the end on, and the rest is as it was
pub rows_fit : (rows : List Row) (ks : List ℕ) (ns : List ℤ) (end : ℕ) → end + length rows ≤ 4096
    → put_rows rows (table ks ns end) ≡ table (sets ks end (kinds_of rows)) (sets ns end (numbers_of rows)) (end + length rows)
unfolding put_rows
rows_fit [] ks ns end h = ap (table ks ns) (sym (add-zero end))
rows_fit (row ∷ rows) ks ns end h =
    ap (put_rows rows) (sym (put_room ks ns end row (omega arith)))
    ∙ ap (λ (n : ℕ). put_rows rows (table (set ks end row.0) (set ns end row.1) n)) (add-one end)
    ∙ rows_fit rows (set ks end row.0) (set ns end row.1) (suc end) (omega arith)
    ∙ ap (table (sets ks end (kinds_of (row ∷ rows))) (sets ns end (numbers_of (row ∷ rows)))) (omega arith)

-- they do not: at the first that does not fit the end is past the last, and stays
many_step : (row : Row) (rows : List Row) (ks : List ℕ) (ns : List ℤ) (end : ℕ) → end ≤ 4096 → Dec (end < 4096)
    → (end < 4096 → end_of (put_rows rows (table (set ks end row.0) (set ns end row.1) (suc end))) ≡ 4097)
    → end_of (put_rows rows (put_row (table ks ns end) row)) ≡ 4097
many_step row rows ks ns end l (yes p) f =
    ap (λ (o : Table). end_of (put_rows rows o)) (sym (put_room ks ns end row p))
    ∙ ap (λ (n : ℕ). end_of (put_rows rows (table (set ks end row.0) (set ns end row.1) n))) (add-one end)
    ∙ f p
many_step row rows ks ns end l (no p) f =
    let e : end ≡ 4096 = omega arith in
    ap (λ (o : Table). end_of (put_rows rows o)) (sym (put_full ks ns end row e))
    ∙ ap end_of (sym (put_none_past rows ks ns 4097 (omega arith)))

pub rows_too_many : (rows : List Row) (ks : List ℕ) (ns : List ℤ) (end : ℕ) → end ≤ 4096 → 4096 < end + length rows
    → end_of (put_rows rows (table ks ns end)) ≡ 4097
unfolding put_rows
rows_too_many [] ks ns end l h = absurd (omega arith)
rows_too_many (row ∷ rows) ks ns end l h =
    many_step row rows ks ns end l (dec_lt end 4096)
    (λ p. rows_too_many rows (set ks end row.0) (set ns end row.1) (suc end) (omega arith) (omega arith))
