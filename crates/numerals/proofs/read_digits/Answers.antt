use mathlib.Core.Path.{◌≡◌, sym, ◌∙◌}
use Prim.Native.Nat.{◌<◌}
use native.Mathlib.Omega.{arith}
use borrow.Author.Rules.{rules}
use borrow.Author.Tests.{tests}
use lib.ListN.{length, get_or}
use Rattle.numerals.specs.Numerals.{unsigned}
use Rattle.numerals.specs.Magnitudes.{at_most}
use Rattle.numerals.specs.DigitLaws.{digit_range}
use Rattle.numerals.proofs.ReadingLaws as laws
use Rattle.numerals.proofs.read_digits.Goals as goal

pub returns-then-is_empty : goal.returns-then-is_empty
returns-then-is_empty c = sym (laws.none_read c.args.most c.args.digits.now (search (rules, tests)))

pub returns-then-digits-eq48 : goal.returns-then-digits-eq48
returns-then-digits-eq48 c =
    let a = c.args in
    sym (laws.zero_led a.most a.digits.now c.if-digits-gt1.true c.if-digits-eq48.true)

pub loop-byte-init : goal.loop-byte-init
loop-byte-init c =
    let most = c.args.most in
    let ds = c.args.digits.now in
    let some : 0 < length ds = search (rules, tests) in
    let whole : at_most most (unsigned ds) ≡ laws.onward most 0 ds =
    elim c.else-digits-gt1.branch as (λ _. at_most most (unsigned ds) ≡ laws.onward most 0 ds) [
      | goal.else-digits-gt1-via-then-digits-gt1+else-digits-eq48 w ↦
          laws.not_zero_led most ds some w.if-digits-eq48.false
      | goal.else-digits-gt1-via-else-digits-gt1 w ↦ laws.one_read most ds some w.if-digits-gt1.false
    ] in
    (omega arith, sym whole)

pub returns-then-not-is_ascii_digit : goal.returns-then-not-is_ascii_digit
returns-then-not-is_ascii_digit c =
    let a = c.args in
    let l = c.loop-byte in
    let h = c.loop-byte-test.true in
    let other = sym c.is_ascii_digit.ensures.value ∙ c.if-not-is_ascii_digit.true in
    sym (sym l.invariant.1 ∙ laws.no_digit a.most l.value a.digits.now l.byte-index h other)

pub overflow_mul-value : goal.overflow_mul-value
overflow_mul-value c = omega arith

pub overflow_add-value : goal.overflow_add-value
overflow_add-value c = omega (arith, digit_range (get_or c.args.digits.now c.loop-byte.byte-index 0) (sym c.is_ascii_digit.ensures.value ∙ c.if-not-is_ascii_digit.false))

pub returns-then-most-value : goal.returns-then-most-value
returns-then-most-value c =
    let a = c.args in
    let l = c.loop-byte in
    let h = c.loop-byte-test.true in
    let one = laws.one_digit a.most l.value a.digits.now l.byte-index h (sym c.is_ascii_digit.ensures.value ∙ c.if-not-is_ascii_digit.false) in
    sym (sym l.invariant.1 ∙ one ∙ laws.beyond a.most _ _ c.if-most-value.true)

pub loop-byte-preserved : goal.loop-byte-preserved
loop-byte-preserved c =
    let a = c.args in
    let l = c.loop-byte in
    let h = c.loop-byte-test.true in
    let one = laws.one_digit a.most l.value a.digits.now l.byte-index h (sym c.is_ascii_digit.ensures.value ∙ c.if-not-is_ascii_digit.false) in
    (c.if-most-value.false, sym one ∙ l.invariant.1)

pub returns : goal.returns
returns c =
    let a = c.args in
    let l = c.loop-byte in
    sym (sym l.invariant.1 ∙ laws.none_left a.most l.value a.digits.now l.byte-index c.loop-byte-test.false l.invariant.0)
