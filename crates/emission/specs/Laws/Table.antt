-- Laws of putting rows, as the code puts them: one after the other, and none past the last. Assumes nothing.
use Rattle.std.specs.Prelude.{◌≡◌, true, List, [], ◌∷◌, ◌++◌, ℕ, zero, suc, ◌+◌, ◌<◌, ℤ, pos, set, replicate, ◌-◌}
use Rattle.std.proofs.Math.Path.{refl}
use Rattle.std.proofs.Common.{ap, sym, ◌∙◌, arith, add-one, ltb-true}
use borrow.Author.Tests.{lt-ltb, le-ltb, ne_eqb}
use Rattle.words.specs.Kinds.{Row, word_plus}
use Rattle.emission.specs.Table.{Table, table, put_row, put_rows, too_many}

-- rows, then rows
pub put_append : (a b : List Row) (o : Table) → put_rows (a ++ b) o ≡ put_rows b (put_rows a o)
unfolding put_rows
put_append [] b o = refl
put_append (row ∷ a) b o = put_append a b (put_row o row)

-- one row: there is room, it is the first too many, or it comes later still
module _ (ks : List ℕ) (ns : List ℤ) (end : ℕ) (row : Row) where
  pub put_room : end < 4096 → table (set ks end row.0) (set ns end row.1) (end + 1) ≡ put_row (table ks ns end) row
  unfolding put_row
  put_room h = rw (lt-ltb end 4096 h) refl

  pub put_full : end ≡ 4096 → table ks ns 4097 ≡ put_row (table ks ns end) row
  unfolding put_row
  put_full h = rw h refl

  pub put_past : 4096 < end → table ks ns end ≡ put_row (table ks ns end) row
  unfolding put_row
  put_past h = rw (le-ltb end 4096 (omega arith), ne_eqb end 4096 (λ e. omega arith)) refl

-- past the last row nothing is put, so that the work can end early
pub put_none_past : (rows : List Row) (ks : List ℕ) (ns : List ℤ) (end : ℕ) → 4096 < end
    → table ks ns end ≡ put_rows rows (table ks ns end)
unfolding put_rows
put_none_past [] ks ns end h = refl
put_none_past (row ∷ rows) ks ns end h =
    put_none_past rows ks ns end h ∙ ap (put_rows rows) (put_past ks ns end row h)

pub none_past : (rows : List Row) (o : Table) → too_many o ≡ true → o ≡ put_rows rows o
none_past rows (table ks ns end) h = put_none_past rows ks ns end (ltb-true 4096 end h)

-- where the number stored is equal to the row's
pub put_room_as : (ks : List ℕ) (ns : List ℤ) (end k : ℕ) (z' z : ℤ) → z' ≡ z → end < 4096
    → table (set ks end k) (set ns end z') (end + 1) ≡ put_row (table ks ns end) (k, z)
put_room_as ks ns end k z' z e h = rw e (put_room ks ns end (k, z) h)

-- rows `plus`, one more
plus_last : (n : ℕ) (o : Table) → put_row (put_rows (replicate n (word_plus, pos 0)) o) (word_plus, pos 0)
    ≡ put_rows (replicate (suc n) (word_plus, pos 0)) o
unfolding put_rows
plus_last zero o = refl
plus_last (suc n) o = plus_last n (put_row o (word_plus, pos 0))

pub pluses_none : (o : Table) → o ≡ put_rows (replicate 0 (word_plus, pos 0)) o
unfolding put_rows
pluses_none o = refl

pub pluses_more : (n : ℕ) (o o' o'' : Table) → o' ≡ put_rows (replicate n (word_plus, pos 0)) o → o'' ≡ put_row o' (word_plus, pos 0)
    → o'' ≡ put_rows (replicate (n + 1) (word_plus, pos 0)) o
pluses_more n o o' o'' p q =
    q ∙ ap (λ (x : Table). put_row x (word_plus, pos 0)) p ∙ plus_last n o
    ∙ ap (λ (m : ℕ). put_rows (replicate m (word_plus, pos 0)) o) (sym (add-one n))

plus_first : (m : ℕ) → 0 < m → m ≡ suc (m - 1)
plus_first m h = omega arith

pub no_pluses : (m : ℕ) (o : Table) → m ≡ 0 → o ≡ put_rows (replicate m (word_plus, pos 0)) o
unfolding put_rows
no_pluses m o h = rw h refl

pub pluses_after : (m : ℕ) (o o' o'' : Table) → 0 < m → o' ≡ put_row o (word_plus, pos 0)
    → o'' ≡ put_rows (replicate (m - 1) (word_plus, pos 0)) o' → o'' ≡ put_rows (replicate m (word_plus, pos 0)) o
unfolding put_rows
pluses_after m o o' o'' h p q = rw (plus_first m h) (q ∙ ap (put_rows (replicate (m - 1) (word_plus, pos 0))) p)

-- a row with an equal number
pub put_as : (o o' : Table) (k : ℕ) (z z' : ℤ) → z ≡ z' → o' ≡ put_row o (k, z) → o' ≡ put_row o (k, z')
put_as o o' k z z' e h = h ∙ ap (λ (y : ℤ). put_row o (k, y)) e
