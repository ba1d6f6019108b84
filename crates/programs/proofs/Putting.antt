-- What is printed, part by part. Assumes nothing.
use Rattle.std.specs.Prelude.{Ok, Err}
use mathlib.Core.Path.{◌≡◌, refl, sym, ap, ap₂, ◌∙◌}
use mathlib.Core.List.{List, [], ◌∷◌, ◌++◌, append_assoc}
use Prim.Native.Nat.{ℕ, ◌+◌, ◌≤◌, ◌<◌}
use native.Mathlib.Nat.{zero-add}
use native.Mathlib.Numerals.{add-one}
use native.Mathlib.Omega.{arith}
use borrow.Author.Tests.{le-leb, lt-leb}
use lib.IntN.{ℤ, pos}
use lib.ListN.{length, get_or, set, take, drop, length-append, drop_of_length-le}
use lib.Seq.{sets, sets-eq, drop-cons, take_all}
use borrow.Rule.Slice.PartMut.{put_mid}
use Rattle.std.proofs.lemmas.Slice.{put_mid-paste}
use Rattle.refusals.specs.declared.Refusal.{Refusal}
use Rattle.refusals.specs.declared.Refusal.TheVariants.{LentSize}
use Rattle.refusals.specs.Refusals.{refusal_number, refusal_line}
use Rattle.words.specs.Words.{bytes}
use Rattle.numerals.specs.Numerals.{decimal}
use Rattle.numerals.specs.DigitLaws.{decimal_length}
use Rattle.numerals.specs.Laws.{decimal_short}
use Rattle.lines.proofs.Stores.{sets_append}
use Rattle.lines.proofs.Sizes.{too_long, fits_in}
use Rattle.programs.specs.Printed.{refusal_text, PutInto}
use Rattle.programs.specs.Runner.{cell_lines, finished_text}

-- two parts, one behind the other
pub two_put : (xs ys t : List ℕ) (at j : ℕ) {t₁ t₂ : List ℕ} → t₁ ≡ sets t at xs → j ≡ at + length xs → t₂ ≡ sets t₁ j ys
    → t₂ ≡ sets t at (xs ++ ys)
two_put xs ys t at j e₁ c e₂ = e₂ ∙ ap₂ (λ (u : List ℕ) (k : ℕ). sets u k ys) e₁ c ∙ sym (sets_append t at xs ys)

-- a number and the byte behind it
pub number_put : (d : List ℕ) (b : ℕ) (t : List ℕ) (at n : ℕ) {t₁ t₂ : List ℕ} → n ≡ length d → t₁ ≡ sets t at d → t₂ ≡ set t₁ (at + n) b
    → t₂ ≡ sets t at (d ++ (b ∷ []))
number_put d b t at n e e₁ e₂ =
    e₂ ∙ ap₂ (λ (u : List ℕ) (k : ℕ). set u (at + k) b) e₁ e ∙ sym (sets_append t at d (b ∷ []))

-- bytes copied over a part of a text, and over its front
pub part_put : (bs t : List ℕ) (at n : ℕ) {b : List ℕ} → b ≡ bs → n ≡ length bs → at + length bs ≤ length t → put_mid at n t b ≡ sets t at bs
part_put bs t at n {b} e size h =
    put_mid-paste at n t b bs (length bs) e (sym size) refl
    ∙ ap (λ (l : List ℕ). take at t ++ l ++ drop (at + length bs) t) (take_all (length bs) bs (omega arith))
    ∙ sym (sets-eq bs t at h)

pub front_copied : (bs t : List ℕ) {b : List ℕ} → b ≡ bs → length bs ≤ length t → b ++ drop (length bs) t ≡ sets t 0 bs
front_copied bs t e h =
    ap (λ (l : List ℕ). l ++ drop (length bs) t) e
    ∙ ap (λ (k : ℕ). bs ++ drop k t) (sym (zero-add (length bs)))
    ∙ sym (sets-eq bs t 0 (omega arith))

-- ---- a text at the front

-- what was put is in front, and the rest as lent
pub front_put : (text lent : List ℕ) {lent' : List ℕ} → length text ≤ length lent → lent' ≡ sets lent 0 text
    → lent' ≡ text ++ drop (length text) lent
front_put text lent h put =
    put ∙ sets-eq text lent 0 (omega arith) ∙ ap (λ (k : ℕ). text ++ drop k lent) (zero-add (length text))

-- a text that fits is put; one that does not is not
pub put_all : (text lent : List ℕ) (n : ℕ) {lent' : List ℕ} → n ≡ length text → n ≤ length lent → lent' ≡ sets lent 0 text
    → PutInto text lent (Ok n) lent'
put_all text lent n e h put = record {
  answer = fits_in text (length lent) n e h;
  text_left = front_put text lent (omega arith) put ∙ simp (le-leb (length text) (length lent) (omega arith));
}

pub put_none : (text lent : List ℕ) → length lent < length text → PutInto text lent (Err LentSize) lent
put_none text lent h = record { answer = too_long text (length lent) h; text_left = simp (lt-leb (length text) (length lent) h) }

-- ---- a refusal's line

module _ (q : Refusal) (n l : ℕ) (en : n ≡ refusal_number q) (el : l ≡ refusal_line q) where
  abbrev number : List ℕ
  number = decimal (pos n) ++ (44 ∷ [])

  abbrev line : List ℕ
  line = decimal (pos l) ++ (10 ∷ [])

  in_parts : refusal_text q ≡ bytes "no," ++ (number ++ line)
  unfolding refusal_text
  in_parts =
      ap₂ (λ (a b : ℕ). bytes "no," ++ decimal (pos a) ++ (44 ∷ decimal (pos b)) ++ (10 ∷ [])) (sym en) (sym el) ∙ simp append_assoc

  pub refusal_sizes : (length (refusal_text q) ≡ 3 + length number + length line)
      × (length number ≡ length (decimal (pos n)) + 1) × (length line ≡ length (decimal (pos l)) + 1)
  refusal_sizes = (
    omega (arith, ap length in_parts, length-append number line),
    length-append (decimal (pos n)) (44 ∷ []),
    length-append (decimal (pos l)) (10 ∷ []),
  )

  pub refusal_put : (t : List ℕ) (comma : ℕ) {t₁ t₂ t₃ : List ℕ} → t₁ ≡ sets t 0 (bytes "no,") → comma ≡ 3 + length number
      → t₂ ≡ sets t₁ 3 number → t₃ ≡ sets t₂ comma line → t₃ ≡ sets t 0 (refusal_text q)
  refusal_put t comma {t₁} e₁ c e₂ e₃ =
      two_put (bytes "no,") (number ++ line) t 0 3 e₁ refl (two_put number line t₁ 3 comma e₂ c e₃)
      ∙ ap (sets t 0) (sym in_parts)

-- ---- the lines of the output cells

abbrev pub cell_line : ℕ → ℤ → List ℕ
cell_line i z = decimal (pos i) ++ (44 ∷ decimal z) ++ (10 ∷ [])

module _ (i : ℕ) (z : ℤ) where
  abbrev cell : List ℕ
  cell = decimal (pos i) ++ (44 ∷ [])

  abbrev value : List ℕ
  value = decimal z

  cell_parts : cell_line i z ≡ cell ++ (value ++ (10 ∷ []))
  cell_parts = simp append_assoc

  pub cell_size : length (cell_line i z) ≡ length (decimal (pos i)) + length value + 2
  cell_size =
      omega (arith, ap length cell_parts, length-append cell (value ++ (10 ∷ [])), length-append (decimal (pos i)) (44 ∷ []), length-append value (10 ∷ []))

  pub cell_put : (t : List ℕ) (at comma n : ℕ) {t₁ t₂ t₃ : List ℕ} → t₁ ≡ sets t at cell → comma ≡ at + length cell → n ≡ length value
      → t₂ ≡ sets t₁ comma value → t₃ ≡ set t₂ (comma + n) 10
      → (comma + n + 1 ≡ at + length (cell_line i z)) × (t₃ ≡ sets t at (cell_line i z))
  cell_put t at comma n {t₁} e₁ c h e₂ e₃ = (
    omega (arith, ap length cell_parts, length-append cell (value ++ (10 ∷ [])), length-append value (10 ∷ [])),
    two_put cell (value ++ (10 ∷ [])) t at comma e₁ c (number_put value 10 t₁ comma n h e₂ e₃) ∙ ap (sets t at) (sym cell_parts),
  )

-- the lines from cell i on
module _ (zs : List ℤ) (i : ℕ) where
  abbrev from : ℕ → List ℕ
  from k = cell_lines k (drop k zs)

  lines_from : i < length zs → from i ≡ cell_line i (get_or zs i (pos 0)) ++ from (i + 1)
  unfolding cell_lines
  lines_from h = rw (add-one, drop-cons zs i (pos 0) h)

  pub lines_end : length zs ≤ i → from i ≡ []
  unfolding cell_lines
  lines_end h = ap (cell_lines i) (drop_of_length-le zs h)

  pub lines_put : i < length zs → (t u all : List ℕ) (at to total : ℕ) → to ≡ at + length (cell_line i (get_or zs i (pos 0)))
      → u ≡ sets t at (cell_line i (get_or zs i (pos 0))) → sets t at (from i) ≡ all → at + length (from i) ≡ total
      → (sets u to (from (i + 1)) ≡ all) × (to + length (from (i + 1)) ≡ total)
  lines_put h t u all at to total e put so_far size =
      let line = cell_line i (get_or zs i (pos 0)) in
      let f = lines_from h in (
        two_put line (from (i + 1)) t at to put e refl ∙ ap (sets t at) (sym f) ∙ so_far,
        omega (arith, size, e, ap length f, length-append line (from (i + 1))),
      )

-- the writes behind them
module _ (zs : List ℤ) (w : ℕ) where
  abbrev writes : List ℕ
  writes = decimal (pos w) ++ (10 ∷ [])

  finished_parts : finished_text zs w ≡ cell_lines 0 zs ++ (bytes "writes," ++ writes)
  unfolding finished_text
  finished_parts = simp append_assoc

  pub finished_put : (t : List ℕ) (at r : ℕ) {t₁ t₂ t₃ : List ℕ} → at ≡ length (cell_lines 0 zs) → t₁ ≡ sets t 0 (cell_lines 0 zs)
      → t₂ ≡ sets t₁ at (bytes "writes,") → r ≡ at + 7 + length writes → t₃ ≡ sets t₂ (at + 7) writes
      → (r ≡ length (finished_text zs w)) × (t₃ ≡ sets t 0 (finished_text zs w))
  finished_put t at r {t₁} e e₁ e₂ c e₃ = (
    omega (arith, ap length finished_parts, length-append (cell_lines 0 zs) (bytes "writes," ++ writes), length-append (bytes "writes,") writes),
    two_put (cell_lines 0 zs) (bytes "writes," ++ writes) t 0 at e₁ (omega (arith, e)) (two_put (bytes "writes,") writes t₁ at (at + 7) e₂ refl e₃)
        ∙ ap (sets t 0) (sym finished_parts),
  )

-- how long they are
pub writes_short : (w : ℕ) → w ≤ 16777216 → length (decimal (pos w) ++ (10 ∷ [])) ≤ 9
writes_short w h = omega (arith, length-append (decimal (pos w)) (10 ∷ []), decimal_length 7 w (omega arith))

pub cell_short : (i : ℕ) (z : ℤ) → i < 4096 → length (decimal z) ≤ 11 → length (cell_line i z) ≤ 17
cell_short i z h g = omega (arith, cell_size i z, decimal_short i (omega arith), g)
