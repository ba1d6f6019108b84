-- `read_not_below_zero` meets its contract: a magnitude of at most 2,147,483,647 fits 32 bits as it is. Assumes nothing.
use Rattle.std.specs.Prelude.{Some, None}
use mathlib.Core.Path.{◌≡◌, sym, ap, ◌∙◌}
use native.Mathlib.Omega.{arith}
use borrow.Author.Rules.{rules}
use lib.IntN.{pos}
use mir.Syntax.{w32}
use mir.Val.{SFits}
use mir.ValLaws.{to_z-of_z}
use Rattle.numerals.specs.Numerals.{unsigned}
use Rattle.numerals.proofs.ReadingLaws as laws
use Rattle.numerals.proofs.read_not_below_zero.Goals as goal

pub returns-in_err-value : goal.returns-in_err-value
returns-in_err-value c =
    let none : c.read_digits.result ≡ None = search rules in
    let gone : c.from_residual.result ≡ None = search rules in
    gone ∙ sym (laws.no_number (unsigned c.args.digits.now) (sym c.read_digits.ensures ∙ none))

pub overflow_cast-result : goal.overflow_cast-result
overflow_cast-result c =
    let read : c.read_digits.result ≡ Some c.in_ok-value.value = search rules in
    record { sfits = omega (arith, (laws.not_below_zero_holds (unsigned c.args.digits.now) (sym c.read_digits.ensures ∙ read)).0) }

pub returns : goal.returns
returns c =
    let read : c.read_digits.result ≡ Some c.in_ok-value.value = search rules in
    let said = laws.not_below_zero_holds (unsigned c.args.digits.now) (sym c.read_digits.ensures ∙ read) in
    let fits : SFits w32 (pos c.in_ok-value.value) = record { sfits = omega (arith, said.0) } in
    ap Some (to_z-of_z w32 (pos c.in_ok-value.value) fits) ∙ sym said.1
