-- Laws of the arithmetic of cells: [4.1] every result is the number of a cell, and clamping leaves such a number as it is.
-- `SFits w32 z` says that a 32-bit signed number can be `z`. Nothing here is a definition to believe; assumes nothing.
use Rattle.std.specs.Prelude.{Bool, true, false, cond, ◌≡◌, refl, zero, suc, ℤ, pos, negsuc}
use Rattle.std.proofs.Common.{arith, ltb-false, le-ltb, SFits}
use Rattle.std.specs.Int.Signed.{lt_z}
use Rattle.std.specs.Int.{w32}
use Rattle.std.proofs.Math.Facts.{sfits_lit}
use Rattle.arithmetic.specs.Arithmetic.{lowest, highest, clamp, sum, difference, product, negation, quotient, lesser, greater, Operation, operate}

-- A number beyond neither end is one of a cell.
pub between_fits : (z : ℤ) → lt_z z lowest ≡ false → lt_z highest z ≡ false → SFits w32 z
between_fits (pos n) above below = record { sfits = omega (arith, ltb-false) }
between_fits (negsuc n) above below = record { sfits = omega (arith, ltb-false) }

-- Every result is the number of a cell: clamped, or one of two such numbers.
pub clamp_fits : (z : ℤ) → SFits w32 (clamp z)
unfolding clamp
clamp_fits z = by_tests (lt_z z lowest) (lt_z highest z) refl refl
  where
    by_tests : (low high : Bool) → lt_z z lowest ≡ low → lt_z highest z ≡ high → SFits w32 (cond low lowest (cond high highest z))
    by_tests true high beyond below = sfits_lit tt
    by_tests false true above beyond = sfits_lit tt
    by_tests false false above below = between_fits z above below

-- Clamping changes no number of a cell.
pub clamp_exact : {z : ℤ} → SFits w32 z → clamp z ≡ z
unfolding clamp
clamp_exact {z = pos n} h = rw (le-ltb 2147483647 n (omega arith))
clamp_exact {z = negsuc n} h = rw (le-ltb 2147483647 n (omega arith))

pub negation_fits : (x : ℤ) → SFits w32 (negation x)
unfolding negation
negation_fits x = clamp_fits _

quotient_fits : (x y : ℤ) → SFits w32 (quotient x y)
unfolding quotient
quotient_fits x (pos zero) = sfits_lit tt
quotient_fits x (pos (suc n)) = clamp_fits _
quotient_fits x (negsuc n) = clamp_fits _

cond_fits : {x y : ℤ} (b : Bool) → SFits w32 x → SFits w32 y → SFits w32 (cond b x y)
cond_fits true hx hy = hx
cond_fits false hx hy = hy

pub operate_fits : (o : Operation) {x y : ℤ} → SFits w32 x → SFits w32 y → SFits w32 (operate o x y)
unfolding operate sum difference product lesser greater
operate_fits Operation.addition hx hy = clamp_fits _
operate_fits Operation.subtraction hx hy = clamp_fits _
operate_fits Operation.multiplication hx hy = clamp_fits _
operate_fits Operation.division {x} {y} hx hy = quotient_fits x y
operate_fits Operation.minimum {x} {y} hx hy = cond_fits (lt_z x y) hx hy
operate_fits Operation.maximum {x} {y} hx hy = cond_fits (lt_z x y) hy hx
