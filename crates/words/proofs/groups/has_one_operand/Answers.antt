-- `words::groups::has_one_operand` meets its contract: the kinds that it names, and no other, have one operand in the table.
use mathlib.Core.Logic.{inl, inr, ⊎_elim}
use native.Mathlib.Omega.{arith}
use Rattle.words.proofs.Lists.{one_operand, not_one_operand, regrouping_or_part, vector_regrouping}
use Rattle.words.proofs.groups.has_one_operand.Goals as goal

pub returns-in_default : goal.returns-in_default
returns-in_default c =
    let rest = c.in_default.in_default-own.rest.1 in
    not_one_operand c.args.kind (
      (λ e. rest (inl e)),
      (
        (λ e. omega arith),
        (
          (λ e. omega arith),
          (
            (λ e. omega arith),
            ((λ e. omega arith), ((λ e. omega arith), ((λ e. omega arith), ((λ e. omega arith), ((λ e. rest (inr e)), tt))))),
          ),
        ),
      ),
    )

pub returns-in_default-2 : goal.returns-in_default-2
returns-in_default-2 c =
    let rest = c.in_default.in_default-own.rest.1 in
    not_one_operand c.args.kind (
      (λ e. rest (inl e)),
      (
        (λ e. omega arith),
        (
          (λ e. omega arith),
          (
            (λ e. omega arith),
            ((λ e. omega arith), ((λ e. omega arith), ((λ e. omega arith), ((λ e. omega arith), ((λ e. rest (inr e)), tt))))),
          ),
        ),
      ),
    )

pub returns-in_default-3 : goal.returns-in_default-3
returns-in_default-3 c =
    let rest = c.in_default.in_default-own.rest.1 in
    not_one_operand c.args.kind (
      (λ e. rest (inl e)),
      (
        (λ e. omega arith),
        (
          (λ e. omega arith),
          (
            (λ e. omega arith),
            ((λ e. omega arith), ((λ e. omega arith), ((λ e. omega arith), ((λ e. omega arith), ((λ e. rest (inr e)), tt))))),
          ),
        ),
      ),
    )

pub returns-in-7 : goal.returns-in-7
returns-in-7 c =
    let k = c.args.kind in
    ⊎_elim (λ e. one_operand k (λ p. p.0 e)) (λ e. one_operand k (λ p. p.1.1.1.1.1.1.1.1.0 e)) c.in-7.is

pub returns-in-7-2 : goal.returns-in-7-2
returns-in-7-2 c = regrouping_or_part c.args.kind (omega arith) (omega arith)

pub returns-in-7-3 : goal.returns-in-7-3
returns-in-7-3 c = vector_regrouping c.args.kind (omega arith) (omega arith)
