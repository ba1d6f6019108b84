-- How many lines a values file has at most: a line and its byte 10 take at least 4 bytes. Assumes nothing.
use Rattle.std.specs.Prelude.{Ok, Err, Option, Some, None}
use Rattle.words.specs.Kinds.{Row}
use mathlib.Core.Path.{◌≡◌, refl, sym, ap, subst}
use mathlib.Core.Bool.{Bool, true, false, cond, ◌&&◌}
use mathlib.Core.List.{List, [], ◌∷◌, ◌++◌}
use Prim.Native.Nat.{ℕ, suc, ◌-◌, ◌*◌, ◌≤◌, ◌<◌}
use native.Mathlib.Nat.{mul-suc}
use native.Mathlib.Omega.{arith}
use lib.Dec.{T, eqb, leb, leb→le}
use lib.IntN.{ℤ, pos, negsuc}
use lib.Ieee.Fits.{and_l, and_r}
use lib.ListN.{length, get_or, length-append}
use Rattle.refusals.specs.declared.Refusal.TheVariants.{TextForm}
use Rattle.numerals.specs.Numerals.{numeral_of}
use Rattle.numerals.specs.Laws.{one_way, decimal_nonempty}
use Rattle.texts.specs.Texts.{begin, lines_of, before_comma, after_comma}
use Rattle.lines.specs.Reading.{cell_head, cell_named, line_of, add_row, rows_in, closed, formed, limited, reading, values_limits}
use Rattle.texts.specs.Laws.{place_split, together}
use Rattle.lines.proofs.Laws.{paired_row, rows_read}
use Rattle.lines.specs.declared.Limits.{Limits}

-- ---- a line with a cell and a value

cell_number : (d : Option ℤ) (k : ℕ) → cell_named d ≡ Some k → (z : ℤ) × (d ≡ Some z)
cell_number (Some (pos n)) k e = (pos n, refl)
cell_number (Some (negsuc n)) k e = absurd (let clash : ◌≡◌ {A = ℕ} 0 1 = cc in omega arith)
cell_number None k e = absurd (let clash : ◌≡◌ {A = ℕ} 0 1 = cc in omega arith)

some_bytes : (bs : List ℕ) {z : ℤ} → numeral_of bs ≡ Some z → 0 < length bs
some_bytes bs {z} e = subst (λ (cs : List ℕ). 0 < length cs) (one_way bs e) (decimal_nonempty z)

row_bytes : (l : List ℕ) (k : ℕ) (z : ℤ) → line_of cell_head l ≡ Some (k, z) → 3 ≤ length l
unfolding line_of
row_bytes l k z e =
    let both = paired_row (cell_head (before_comma l)) (numeral_of (after_comma l)) k z e in
    let before = some_bytes (before_comma l) (cell_number (numeral_of (before_comma l)) k both.0).1 in
    let after = some_bytes (after_comma l) both.1 in
    omega (arith, before, after, length-append (before_comma l) (44 ∷ after_comma l), ap length (place_split 44 l after))

-- ---- all lines

rows_bytes : (ls : List (List ℕ)) → 4 * length (rows_in cell_head ls) ≤ length (together ls)
unfolding rows_in together
rows_bytes [] = omega arith
rows_bytes (l ∷ ls) = go (line_of cell_head l) refl (rows_bytes ls)
  where
    go : (x : Option Row) → line_of cell_head l ≡ x → 4 * length (rows_in cell_head ls) ≤ length (together ls)
        → 4 * length (add_row x (rows_in cell_head ls)) ≤ length (l ++ (10 ∷ together ls))
    go (Some (k, z)) is h = omega (arith, row_bytes l k z is, length-append l (10 ∷ together ls), mul-suc 4 (length (rows_in cell_head ls)))
    go None is h = omega (arith, length-append l (10 ∷ together ls))

begun_bytes : (b : ℕ) (ls : List (List ℕ)) (n : ℕ) → length (together ls) ≤ suc n → length (together (begin b ls)) ≤ suc (suc n)
unfolding together
begun_bytes b [] n h = omega arith
begun_bytes b (l ∷ ls) n h = omega arith

-- a text without its last byte 10 has one byte less than its lines
lines_bytes : (t : List ℕ) → length (together (lines_of t)) ≤ suc (length t)
unfolding lines_of together
lines_bytes [] = omega arith
lines_bytes (b ∷ bs) = go (eqb b 10) (lines_bytes bs)
  where
    go : (x : Bool) → length (together (lines_of bs)) ≤ suc (length bs)
        → length (together (cond x ([] ∷ lines_of bs) (begin b (lines_of bs)))) ≤ suc (suc (length bs))
    go true h = omega arith
    go false h = begun_bytes b (lines_of bs) (length bs) h

within : (f : List ℕ → Option ℕ) (limits : Limits) (t : List ℕ) (m : ℕ) → reading f limits t ≡ Ok m → length t ≤ limits.bytes
unfolding reading
within f limits t m e = go (closed limits.bytes t) refl e
  where
    go : (b : Bool) → closed limits.bytes t ≡ b → cond b (limited limits.lines (formed f 0 (lines_of t))) (Err TextForm) ≡ Ok m
        → length t ≤ limits.bytes
    go true c g =
        let last : Bool = eqb (get_or t (length t - 1) 0) 10 in
        let long : Bool = leb (length t) limits.bytes in
        leb→le (length t) limits.bytes (and_r (leb 1 (length t)) long (and_l (leb 1 (length t) && long) last (subst T (sym c) tt)))
    go false c g = absurd (let clash : ◌≡◌ {A = ℕ} 0 1 = cc in omega arith)

-- 65,536 bytes are at most 16,384 lines.
pub few_rows : (t : List ℕ) (m : ℕ) → reading cell_head values_limits t ≡ Ok m → m ≤ 16384
few_rows t m e =
    omega (
      arith,
      rows_read cell_head values_limits t m e,
      rows_bytes (lines_of t),
      lines_bytes t,
      within cell_head values_limits t m e,
    )
