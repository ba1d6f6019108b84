-- The laws of a store. A reader need not believe any of it.
use Rattle.std.specs.Prelude.{◌≡◌, Bool, cond, ℤ, pos, negsuc, length, get_or, take, drop, set}
use Rattle.std.proofs.Math.Path.{refl, ap}
use Rattle.std.proofs.Common.{sym, ◌∙◌, mod-eq_of_lt, arith, lt-ltb, le-ltb, length-append, take_at, drop_at}
use mathlib.Core.List.{List, [], ◌∷◌, append-nil}
use Prim.Native.Nat.{ℕ, zero, suc, ◌+◌, ◌-◌, ◌*◌, ◌/◌, ◌%◌, ◌≤◌, ◌<◌}
use Rattle.std.proofs.Math.Nat.{div-div-eq-div-mul, mod-add-div}
use Rattle.std.specs.Int.Signed.{mag}
use Rattle.store.specs.Cells.{signed_of, bits_of, cell_of, cells_of, left_over}
use Rattle.store.specs.Store.{store_of, frame_of}

-- ---- a number and its bytes

pub signed_low : (n : ℕ) → n < 2147483648 → signed_of n ≡ pos n
unfolding signed_of
signed_low n h = ap (λ (b : Bool). cond b (pos n) (negsuc (4294967295 - n))) (lt-ltb n 2147483648 h)

pub signed_high : (n : ℕ) → 2147483648 ≤ n → signed_of n ≡ negsuc (4294967295 - n)
unfolding signed_of
signed_high n h = ap (λ (b : Bool). cond b (pos n) (negsuc (4294967295 - n))) (le-ltb n 2147483648 h)

pub bits_few : (z : ℤ) → mag z < 2147483648 → bits_of z < 4294967296
unfolding bits_of
bits_few (pos n) h = omega arith
bits_few (negsuc n) h = omega arith

pub bits_signed : (z : ℤ) → mag z < 2147483648 → signed_of (bits_of z) ≡ z
unfolding bits_of
bits_signed (pos n) h = signed_low n h
bits_signed (negsuc n) h = signed_high (4294967295 - n) (omega arith) ∙ ap negsuc (omega arith)

-- the four bytes of 32 bits make them up again
bytes_bits : (n : ℕ) → n < 4294967296 → n % 256 + 256 * (n / 256 % 256) + 65536 * (n / 65536 % 256) + 16777216 * (n / 16777216 % 256) ≡ n
bytes_bits n h =
    let p : n / 256 / 256 ≡ n / 65536 = div-div-eq-div-mul n 256 256 in
    let q : n / 65536 / 256 ≡ n / 16777216 = div-div-eq-div-mul n 65536 256 in
    let few : n / 16777216 < 256 = omega arith in
    join n (n / 256) (n / 65536) (n / 16777216) (n % 256) (n / 256 % 256) (n / 65536 % 256) (n / 16777216 % 256)
    (mod-add-div n 256)
    (ap (λ (x : ℕ). n / 256 % 256 + 256 * x) (sym p) ∙ mod-add-div (n / 256) 256)
    (ap (λ (x : ℕ). n / 65536 % 256 + 256 * x) (sym q) ∙ mod-add-div (n / 65536) 256)
    (mod-eq_of_lt few)
  where
    join : (n q₁ q₂ q₃ a b c d : ℕ) → a + 256 * q₁ ≡ n → b + 256 * q₂ ≡ q₁ → c + 256 * q₃ ≡ q₂ → d ≡ q₃
        → a + 256 * b + 65536 * c + 16777216 * d ≡ n
    join n q₁ q₂ q₃ a b c d e₁ e₂ e₃ e₄ = omega arith

-- A number that is put into four bytes reads back as itself.
pub reads_back : (z : ℤ) → mag z < 2147483648
    → cell_of (bits_of z % 256) (bits_of z / 256 % 256) (bits_of z / 65536 % 256) (bits_of z / 16777216 % 256) ≡ z
reads_back z h = ap signed_of (bytes_bits (bits_of z) (bits_few z h)) ∙ bits_signed z h

-- ---- cells in bytes

pub cells_length : (l : List ℕ) → length (cells_of l) ≡ length l / 4
unfolding cells_of
cells_length [] = refl
cells_length (a ∷ []) = refl
cells_length (a ∷ b ∷ []) = refl
cells_length (a ∷ b ∷ c ∷ []) = refl
cells_length (a ∷ b ∷ c ∷ d ∷ l) = let h = cells_length l in omega arith

pub cell_read : (l : List ℕ) (k : ℕ) → 4 * k + 3 < length l
    → get_or (cells_of l) k (pos 0) ≡ cell_of (get_or l (4 * k) 0) (get_or l (4 * k + 1) 0) (get_or l (4 * k + 2) 0) (get_or l (4 * k + 3) 0)
unfolding cells_of
cell_read [] k h = absurd (omega arith)
cell_read (a ∷ []) k h = absurd (omega arith)
cell_read (a ∷ b ∷ []) k h = absurd (omega arith)
cell_read (a ∷ b ∷ c ∷ []) k h = absurd (omega arith)
cell_read (a ∷ b ∷ c ∷ d ∷ l) zero h = refl
cell_read (a ∷ b ∷ c ∷ d ∷ l) (suc k) h =
    let p₀ = later (4 * k) (4 * suc k) (omega arith) in
    let p₁ = later (4 * k + 1) (4 * suc k + 1) (omega arith) in
    let p₂ = later (4 * k + 2) (4 * suc k + 2) (omega arith) in
    let p₃ = later (4 * k + 3) (4 * suc k + 3) (omega arith) in
    cell_read l k (omega arith) ∙ ap signed_of (omega (arith, p₀, p₁, p₂, p₃))
  where
    later : (x y : ℕ) → suc (suc (suc (suc x))) ≡ y → get_or l x 0 ≡ get_or {A = ℕ} (a ∷ b ∷ c ∷ d ∷ l) y 0
    later x y e = ap (λ (j : ℕ). get_or {A = ℕ} (a ∷ b ∷ c ∷ d ∷ l) j 0) e

-- four bytes stored as cell k
abbrev pub four_at : List ℕ → ℕ → ℕ → ℕ → ℕ → ℕ → List ℕ
four_at l k a b c d = set (set (set (set l (4 * k) a) (4 * k + 1) b) (4 * k + 2) c) (4 * k + 3) d

module _ (w x y z : ℕ) where
  four_later : (a b c d : ℕ) (l : List ℕ) (k : ℕ) → four_at (a ∷ b ∷ c ∷ d ∷ l) (suc k) w x y z ≡ a ∷ b ∷ c ∷ d ∷ four_at l k w x y z
  four_later a b c d l k =
      ap (λ (m : List ℕ). set (set (set m (4 * suc k + 1) x) (4 * suc k + 2) y) (4 * suc k + 3) z) (later l (4 * k) (4 * suc k) w (omega arith))
      ∙ ap (λ (m : List ℕ). set (set m (4 * suc k + 2) y) (4 * suc k + 3) z) (later (set l (4 * k) w) (4 * k + 1) (4 * suc k + 1) x (omega arith))
      ∙ ap (λ (m : List ℕ). set m (4 * suc k + 3) z) (later (set (set l (4 * k) w) (4 * k + 1) x) (4 * k + 2) (4 * suc k + 2) y (omega arith))
      ∙ later (set (set (set l (4 * k) w) (4 * k + 1) x) (4 * k + 2) y) (4 * k + 3) (4 * suc k + 3) z (omega arith)
    where
      later : (m : List ℕ) (i j v : ℕ) → suc (suc (suc (suc i))) ≡ j → set {A = ℕ} (a ∷ b ∷ c ∷ d ∷ m) j v ≡ a ∷ b ∷ c ∷ d ∷ set m i v
      later m i j v e = ap (λ (n : ℕ). set {A = ℕ} (a ∷ b ∷ c ∷ d ∷ m) n v) (sym e)

  pub cell_put : (l : List ℕ) (k : ℕ) → 4 * k + 3 < length l → cells_of (four_at l k w x y z) ≡ set (cells_of l) k (cell_of w x y z)
  unfolding cells_of
  cell_put [] k h = absurd (omega arith)
  cell_put (a ∷ []) k h = absurd (omega arith)
  cell_put (a ∷ b ∷ []) k h = absurd (omega arith)
  cell_put (a ∷ b ∷ c ∷ []) k h = absurd (omega arith)
  cell_put (a ∷ b ∷ c ∷ d ∷ l) zero h = refl
  cell_put (a ∷ b ∷ c ∷ d ∷ l) (suc k) h =
      ap cells_of (four_later a b c d l k) ∙ ap (λ (m : List ℤ). cell_of a b c d ∷ m) (cell_put l k (omega arith))

  pub left_over_put : (l : List ℕ) (k : ℕ) → 4 * k + 3 < length l → left_over (four_at l k w x y z) ≡ left_over l
  unfolding left_over
  left_over_put [] k h = absurd (omega arith)
  left_over_put (a ∷ []) k h = absurd (omega arith)
  left_over_put (a ∷ b ∷ []) k h = absurd (omega arith)
  left_over_put (a ∷ b ∷ c ∷ []) k h = absurd (omega arith)
  left_over_put (a ∷ b ∷ c ∷ d ∷ l) zero h = refl
  left_over_put (a ∷ b ∷ c ∷ d ∷ l) (suc k) h = ap left_over (four_later a b c d l k) ∙ left_over_put l k (omega arith)

-- ---- both parts of a store

pub store_length : (cs : List ℤ) (bs : List ℕ) → length (store_of cs bs) ≡ length cs + length bs / 4
unfolding store_of
store_length cs bs = length-append cs (cells_of bs) ∙ ap (λ (n : ℕ). length cs + n) (cells_length bs)

-- a store of cells alone, and one of bytes alone
pub store_of_cells : (cs : List ℤ) → store_of cs [] ≡ cs
unfolding store_of cells_of
store_of_cells cs = append-nil cs

pub store_of_bytes : (bs : List ℕ) → store_of [] bs ≡ cells_of bs
unfolding store_of
store_of_bytes bs = refl

-- The store and its frame say what both parts are.
pub parts_of_store : (cs cs' : List ℤ) (bs bs' : List ℕ) (s : List ℤ) → store_of cs' bs' ≡ s → frame_of cs' bs' ≡ frame_of cs bs
    → (cs' ≡ take (length cs) s) × (cells_of bs' ≡ drop (length cs) s) × (left_over bs' ≡ left_over bs)
unfolding store_of frame_of
parts_of_store cs cs' bs bs' s e f =
    let n : length cs' ≡ length cs = ap (λ (x : ℕ × ℕ × List ℕ). x.0) f in (
      sym (take_at cs' (cells_of bs') (length cs) n) ∙ ap (take (length cs)) e,
      sym (drop_at cs' (cells_of bs') (length cs) n) ∙ ap (drop (length cs)) e,
      ap (λ (x : ℕ × ℕ × List ℕ). x.2) f,
    )
