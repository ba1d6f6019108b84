-- The library's saturating operations, `clamp`, `min` and `max` are those of cells. Assumes nothing.
use Rattle.std.specs.Prelude.{◌≡◌, refl, Bool, true, false, cond, min, ltb, ℤ, pos, negsuc}
use Rattle.std.specs.Int.{saturate_to_bits, int_min, int_max}
use Rattle.std.proofs.Common.{ap, arith, ltb-true, ltb-false}
use Rattle.arithmetic.specs.Arithmetic.{lowest, highest, clamp, lesser, greater}

pub saturated : (z : ℤ) → saturate_to_bits 31 z ≡ clamp z
unfolding clamp
saturated (pos n) = go (ltb 2147483647 n) refl
  where
    go : (b : Bool) → ltb 2147483647 n ≡ b → pos (min n 2147483647) ≡ cond b highest (pos n)
    go true e = ap pos (omega (arith, ltb-true 2147483647 n e))
    go false e = ap pos (omega (arith, ltb-false 2147483647 n e))
saturated (negsuc n) = go (ltb 2147483647 n) refl
  where
    go : (b : Bool) → ltb 2147483647 n ≡ b → negsuc (min n 2147483647) ≡ cond b lowest (negsuc n)
    go true e = ap negsuc (omega (arith, ltb-true 2147483647 n e))
    go false e = ap negsuc (omega (arith, ltb-false 2147483647 n e))

pub between : (z : ℤ) → int_max lowest (int_min z highest) ≡ clamp z
unfolding clamp
between (pos n) = go (ltb 2147483647 n)
  where
    go : (b : Bool) → int_max lowest (cond b highest (pos n)) ≡ cond b highest (pos n)
    go true = refl
    go false = refl
between (negsuc n) = refl

pub the_lesser : (x y : ℤ) → int_min x y ≡ lesser x y
unfolding lesser
the_lesser (pos m) (pos n) = go (ltb n m) (ltb m n) refl refl
  where
    go : (b c : Bool) → ltb n m ≡ b → ltb m n ≡ c → cond b (pos n) (pos m) ≡ cond c (pos m) (pos n)
    go true true e f = absurd (omega (arith, ltb-true n m e, ltb-true m n f))
    go true false e f = refl
    go false true e f = refl
    go false false e f = ap pos (omega (arith, ltb-false n m e, ltb-false m n f))
the_lesser (pos m) (negsuc n) = refl
the_lesser (negsuc m) (pos n) = refl
the_lesser (negsuc m) (negsuc n) = go (ltb m n) (ltb n m) refl refl
  where
    go : (b c : Bool) → ltb m n ≡ b → ltb n m ≡ c → cond b (negsuc n) (negsuc m) ≡ cond c (negsuc m) (negsuc n)
    go true true e f = absurd (omega (arith, ltb-true m n e, ltb-true n m f))
    go true false e f = refl
    go false true e f = refl
    go false false e f = ap negsuc (omega (arith, ltb-false m n e, ltb-false n m f))

-- the greater is the one that the lesser leaves
pub the_greater : (x y : ℤ) → int_max x y ≡ greater x y
unfolding greater
the_greater (pos m) (pos n) = go (ltb n m) (ltb m n) refl refl
  where
    go : (b c : Bool) → ltb n m ≡ b → ltb m n ≡ c → cond b (pos m) (pos n) ≡ cond c (pos n) (pos m)
    go true true e f = absurd (omega (arith, ltb-true n m e, ltb-true m n f))
    go true false e f = refl
    go false true e f = refl
    go false false e f = ap pos (omega (arith, ltb-false n m e, ltb-false m n f))
the_greater (pos m) (negsuc n) = refl
the_greater (negsuc m) (pos n) = refl
the_greater (negsuc m) (negsuc n) = go (ltb m n) (ltb n m) refl refl
  where
    go : (b c : Bool) → ltb m n ≡ b → ltb n m ≡ c → cond b (negsuc m) (negsuc n) ≡ cond c (negsuc n) (negsuc m)
    go true true e f = absurd (omega (arith, ltb-true m n e, ltb-true n m f))
    go true false e f = refl
    go false true e f = refl
    go false false e f = ap negsuc (omega (arith, ltb-false m n e, ltb-false n m f))
