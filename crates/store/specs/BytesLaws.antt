-- Bytes are told by their cells and the left-over bytes: where neither changed, no byte did. A reader need not believe any of it.
use Rattle.std.specs.Prelude.{◌≡◌, refl, List, [], ◌∷◌, ℕ, ◌+◌, ◌*◌, ◌/◌, ◌%◌, ◌<◌, ℤ}
use Rattle.std.proofs.Common.{sym, ap, ap₂, ◌∙◌, mod-eq_of_lt, arith}
use Rattle.std.proofs.Math.Nat.{add-mul-mod_self_left}
use Rattle.std.proofs.Math.Decide.{dec_lt}
use Rattle.store.specs.Cells.{signed_of, bits_of, AllBytes, cells_of, left_over}
use Rattle.store.specs.Laws.{signed_low, signed_high}

bits_of_signed : (n : ℕ) → n < 4294967296 → bits_of (signed_of n) ≡ n
unfolding bits_of
bits_of_signed n h = go (dec_lt n 2147483648)
  where
    go : Dec (n < 2147483648) → bits_of (signed_of n) ≡ n
    go (yes g) = ap bits_of (signed_low n g)
    go (no g) = ap bits_of (signed_high n (omega arith)) ∙ (omega arith)

-- the bytes of cells, and then those left over
bytes_in : List ℤ → List ℕ → List ℕ
bytes_in [] rest = rest
bytes_in (z ∷ zs) rest = bits_of z % 256 ∷ bits_of z / 256 % 256 ∷ bits_of z / 65536 % 256 ∷ bits_of z / 16777216 % 256 ∷ bytes_in zs rest

lowest : (n a x : ℕ) → n ≡ a + 256 * x → a < 256 → n % 256 ≡ a
lowest n a x e h = ap (λ (m : ℕ). m % 256) e ∙ add-mul-mod_self_left a 256 x ∙ mod-eq_of_lt h

four_bytes : (n a b c d : ℕ) (l m : List ℕ) → n ≡ a + 256 * b + 65536 * c + 16777216 * d → a < 256 → b < 256 → c < 256 → d < 256 → l ≡ m
    → n % 256 ∷ n / 256 % 256 ∷ n / 65536 % 256 ∷ n / 16777216 % 256 ∷ l ≡ a ∷ b ∷ c ∷ d ∷ m
four_bytes n a b c d l m e p q r s t =
    let u : n / 256 ≡ b + 256 * c + 65536 * d = omega arith in
    let v : n / 65536 ≡ c + 256 * d = omega arith in
    let w : n / 16777216 ≡ d = omega arith in
    let x₀ : n % 256 ≡ a = lowest n a (b + 256 * c + 65536 * d) (omega arith) p in
    let x₁ : n / 256 % 256 ≡ b = lowest (n / 256) b (c + 256 * d) (omega (arith, u)) q in
    let x₂ : n / 65536 % 256 ≡ c = lowest (n / 65536) c d (omega (arith, v)) r in
    let x₃ : n / 16777216 % 256 ≡ d = lowest (n / 16777216) d 0 (omega (arith, w)) s in
    ap₂ (λ (x : ℕ) (y : List ℕ). x ∷ y) x₀
    (ap₂ (λ (x : ℕ) (y : List ℕ). x ∷ y) x₁ (ap₂ (λ (x : ℕ) (y : List ℕ). x ∷ y) x₂ (ap₂ (λ (x : ℕ) (y : List ℕ). x ∷ y) x₃ t)))

bytes_again : (l : List ℕ) → AllBytes l → bytes_in (cells_of l) (left_over l) ≡ l
unfolding bytes_in cells_of left_over
bytes_again [] h = refl
bytes_again (a ∷ []) h = refl
bytes_again (a ∷ b ∷ []) h = refl
bytes_again (a ∷ b ∷ c ∷ []) h = refl
bytes_again (a ∷ b ∷ c ∷ d ∷ l) h =
    let few : a + 256 * b + 65536 * c + 16777216 * d < 4294967296 = omega (arith, h.0, h.1.0, h.1.1.0, h.1.1.1.0) in
    four_bytes (bits_of (signed_of (a + 256 * b + 65536 * c + 16777216 * d))) a b c d (bytes_in (cells_of l) (left_over l)) l
    (bits_of_signed (a + 256 * b + 65536 * c + 16777216 * d) few) h.0 h.1.0 h.1.1.0 h.1.1.1.0
    (bytes_again l h.1.1.1.1)

pub same_bytes : (l m : List ℕ) → AllBytes l → AllBytes m → cells_of l ≡ cells_of m → left_over l ≡ left_over m → l ≡ m
same_bytes l m h g e f = sym (bytes_again l h) ∙ ap₂ bytes_in e f ∙ bytes_again m g
