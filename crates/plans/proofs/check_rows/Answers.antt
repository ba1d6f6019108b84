-- `check_rows` meets its contract: rows that walk well are those of a plan, and its types are asked.
use Rattle.std.specs.Prelude.{Ok, Err}
use mathlib.Core.Path.{◌≡◌, sym, ◌∙◌}
use native.Mathlib.Omega.{arith}
use borrow.Author.Rules.{rules}
use Rattle.words.specs.Kinds.{rows_of}
use Rattle.plans.proofs.RowsChecked as laws
use Rattle.plans.proofs.check_rows.Goals as goal

pub returns-in_err-rows : goal.returns-in_err-rows
returns-in_err-rows c =
    let a = c.args in
    let no : c.walk_plan.result ≡ Err c.in_err-rows.field-0.0 = search rules in
    let gone : c.from_residual.result ≡ Err c.in_err-rows.field-0.0 = search rules in
    gone ∙ sym no ∙ laws.walk_no (rows_of a.kinds.now a.numbers.now) c.walk_plan.result _ c.walk_plan.ensures no

pub type_plan-requires : goal.type_plan-requires
type_plan-requires c =
    let a = c.args in
    let told : c.walk_plan.result ≡ Ok c.in_ok-rows.rows = search rules in
    laws.plan_room a.kinds.now a.numbers.now c.requires.0 c.requires.1 c.walk_plan.result _ c.walk_plan.ensures told _ _ (omega arith) (omega arith)

pub returns-in_err-type_plan : goal.returns-in_err-type_plan
returns-in_err-type_plan c =
    let a = c.args in
    let told : c.walk_plan.result ≡ Ok c.in_ok-rows.rows = search rules in
    let no : c.type_plan.result ≡ Err c.in_err-type_plan.field-0.0 = search rules in
    let gone : c.from_residual-in_err-type_plan.result ≡ Err c.in_err-type_plan.field-0.0 = search rules in
    gone ∙ laws.types_no a.kinds.now a.numbers.now c.requires.0 c.requires.1 c.walk_plan.result _ c.walk_plan.ensures told
    _ _ _ _ c.type_plan.result c.type_plan.ensures _ no

pub returns : goal.returns
returns c =
    let a = c.args in
    let told : c.walk_plan.result ≡ Ok c.in_ok-rows.rows = search rules in
    let typed : c.type_plan.result ≡ Ok c.in_ok-type_plan.field-0 = search rules in
    sym told ∙ laws.types_yes a.kinds.now a.numbers.now c.requires.0 c.requires.1 c.walk_plan.result _ c.walk_plan.ensures told
    _ _ _ _ c.type_plan.result c.type_plan.ensures _ typed
