-- `make_rows` meets its contract: rows that walk well are those of the plan that they are read as.
use Rattle.std.specs.Prelude.{Ok, Err}
use borrow.Author.Rules.{rules}
use mathlib.Core.Path.{◌≡◌, sym, ◌∙◌}
use Rattle.words.specs.Kinds.{rows_of}
use Rattle.syntax.specs.Reading.{plan_of}
use Rattle.translate.proofs.MadeLaws as made
use Rattle.translate.proofs.making.make_rows.Goals as goal

pub returns-in_err-walk_plan : goal.returns-in_err-walk_plan
returns-in_err-walk_plan c =
    let a = c.args in
    let no : c.walk_plan.result ≡ Err c.in_err-walk_plan.field-0.0 = search rules in
    let gone : c.from_residual.result ≡ Err c.in_err-walk_plan.field-0.0 = search rules in
    let same : c.from_residual.result ≡ c.walk_plan.result = gone ∙ sym no in
    rw same (made.rows_refused a.kinds.now a.numbers.now c.requires.0 c.walk_plan.result c.walk_plan.ensures _ _ _ no)

pub make_plan-requires : goal.make_plan-requires
make_plan-requires c =
    let told : c.walk_plan.result ≡ Ok c.in_ok-walk_plan.field-0 = search rules in
    let a = c.args in
    let pre = c.requires in
    let walk-plan = c.walk_plan in
    let stand = made.rows_stand a.kinds.now a.numbers.now pre.0 walk-plan.result walk-plan.ensures _ told in
    (pre.0, pre.1, (plan_of (rows_of a.kinds.now a.numbers.now), stand))

pub returns : goal.returns
returns c =
    let told : c.walk_plan.result ≡ Ok c.in_ok-walk_plan.field-0 = search rules in
    let a = c.args in
    let pre = c.requires in
    let walk-plan = c.walk_plan in
    let make-plan = c.make_plan in
    let stand = made.rows_stand a.kinds.now a.numbers.now pre.0 walk-plan.result walk-plan.ensures _ told in
    made.rows_made a.kinds.now a.numbers.now pre.0 walk-plan.result walk-plan.ensures _ told
    (make-plan.ensures (plan_of (rows_of a.kinds.now a.numbers.now)) stand)
