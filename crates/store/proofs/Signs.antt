-- The library's two's complement at 32 bits is that of cells. Assumes nothing.
use mathlib.Core.Bool.{cond}
use mathlib.Core.Path.{◌≡◌, refl, ap}
use Prim.Native.Nat.{ℕ}
use lib.Dec.{ltb}
use native.Mathlib.Omega.{arith}
use lib.IntN.{ℤ, pos, negsuc}
use mir.Syntax.{w32}
use mir.Val.{to_z, of_z}
use Rattle.store.specs.Cells.{signed_of, bits_of}

pub signed_is : (n : ℕ) → to_z w32 n ≡ signed_of n
unfolding signed_of
signed_is n = ap (λ (k : ℕ). cond (ltb n 2147483648) (pos n) (negsuc k)) (omega arith)

pub bits_is : (z : ℤ) → of_z w32 z ≡ bits_of z
unfolding bits_of
bits_is (pos n) = refl
bits_is (negsuc n) = omega arith
