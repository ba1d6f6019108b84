-- `read_below_zero` meets its contract: a magnitude of 1 to 2,147,483,648, negated, fits 32 bits. Assumes nothing.
use Rattle.std.specs.Prelude.{Option, Some, None}
use mathlib.Core.Path.{◌≡◌, sym, ap, subst, ◌∙◌}
use Prim.Native.Nat.{ℕ, zero, suc, ◌≤◌, ◌<◌}
use native.Mathlib.Omega.{arith}
use borrow.Author.Rules.{rules}
use lib.IntN.{pos, neg_ℤ, ◌-ℤ◌}
use mir.Syntax.{w32, w64}
use mir.Val.{SFits, to_z, of_z}
use mir.ValLaws.{to_z-of_z, to_z_pos}
use Rattle.numerals.specs.Magnitudes.{at_most}
use Rattle.numerals.specs.Numerals.{unsigned, below_zero}
use Rattle.numerals.proofs.ReadingLaws as laws
use Rattle.numerals.proofs.SignedLaws.{negated_fits, negated_back}
use Rattle.numerals.proofs.read_below_zero.Goals as goal

negation_fits : (n : ℕ) → n ≤ 2147483648 → SFits w32 (neg_ℤ (pos n))
negation_fits zero h = record { sfits = omega arith }
negation_fits (suc n) h = record { sfits = omega arith }

-- of a magnitude n that was read behind the minus: what the digits say, and what the code's negation of it is
module _ (o : Option ℕ) (n : ℕ) (e : at_most 2147483648 o ≡ Some n) (h : 0 < n) where
  said : (n ≤ 2147483648) × (below_zero o ≡ Some (neg_ℤ (pos n)))
  said = laws.below_zero_holds o e h

  wide : to_z w64 n ≡ pos n
  wide = to_z_pos w64 n (omega (arith, said.0))

  fits : SFits w32 (neg_ℤ (pos n))
  fits = negation_fits n said.0

  fits-wide : SFits w64 (neg_ℤ (pos n))
  fits-wide = record { sfits = omega (arith, fits.sfits) }

  narrow : SFits w32 (to_z w64 (of_z w64 (pos 0 -ℤ to_z w64 n)))
  narrow = subst (SFits w32) (sym (negated_back wide fits-wide)) fits

  back : Some (to_z w32 (of_z w32 (to_z w64 (of_z w64 (pos 0 -ℤ to_z w64 n))))) ≡ below_zero o
  back = ap Some (to_z-of_z w32 _ narrow ∙ negated_back wide fits-wide) ∙ sym said.1

pub returns-in_err-value : goal.returns-in_err-value
returns-in_err-value c =
    let none : c.read_digits.result ≡ None = search rules in
    let gone : c.from_residual.result ≡ None = search rules in
    gone ∙ sym (laws.minus_no_number (unsigned c.args.digits.now) (sym c.read_digits.ensures ∙ none))

pub returns-then-value-eq0 : goal.returns-then-value-eq0
returns-then-value-eq0 c =
    let zero : c.in_ok-value.value ≡ 0 = c.if-value-eq0.true in
    let read = sym c.read_digits.ensures ∙ (search rules) in
    sym (laws.minus_zero _ (read ∙ ap Some zero))

pub overflow_cast-number : goal.overflow_cast-number
overflow_cast-number c = record { sfits = omega (arith, (said (unsigned c.args.digits.now) c.in_ok-value.value (sym c.read_digits.ensures ∙ (search rules)) (omega arith)).0) }

pub overflow_sub-number : goal.overflow_sub-number
overflow_sub-number c = negated_fits (wide (unsigned c.args.digits.now) c.in_ok-value.value (sym c.read_digits.ensures ∙ (search rules)) (omega arith))
    (fits-wide (unsigned c.args.digits.now) c.in_ok-value.value (sym c.read_digits.ensures ∙ (search rules)) (omega arith))

pub overflow_cast-result : goal.overflow_cast-result
overflow_cast-result c = narrow (unsigned c.args.digits.now) c.in_ok-value.value (sym c.read_digits.ensures ∙ (search rules)) (omega arith)

pub returns : goal.returns
returns c = back (unsigned c.args.digits.now) c.in_ok-value.value (sym c.read_digits.ensures ∙ (search rules)) (omega arith)
