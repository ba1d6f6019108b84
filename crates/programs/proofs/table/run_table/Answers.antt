-- `run_table` meets its contract: the check's answer, then question 14, then the values and the run.
use Rattle.std.specs.Prelude.{Err, Ok}
use Rattle.std.proofs.Common.{◌≡◌, ◌∙◌, refl, rules, subst, sym}
use Rattle.refusals.specs.Answers.{Answer}
use Rattle.words.specs.Kinds.{rows_of}
use Rattle.syntax.specs.Reading.{loops_of}
use Rattle.loops.specs.Check.{check_table}
use Rattle.run.specs.Run.{Ran}
use Rattle.programs.specs.Runner.{print_checked}
use Rattle.programs.specs.Parts.{RunsInto}
use Rattle.programs.proofs.Outcomes as outcomes
use Rattle.programs.proofs.table.run_table.Goals as goal

pub layout_of-layout-requires : goal.layout_of-layout-requires
layout_of-layout-requires c =
    let a = c.args in
    outcomes.ready a.values.now a.kinds.now a.numbers.now a.store.now c.check_table.ensures c.in_ok-counted.was c.requires.0 c.requires.1 c.if-store-counted.false

pub returns-in_err-fill_inputs : goal.returns-in_err-fill_inputs
returns-in_err-fill_inputs c =
    let a = c.args in
    let L = loops_of (rows_of a.kinds.now a.numbers.now) in
    let x = print_checked (check_table (rows_of a.kinds.now a.numbers.now)) a.values.now L a.store.now in
    let s = c.fill_inputs.new.store in
    let layout = c.layout_of-layout in
    let gone : c.from_residual-in_err-fill_inputs.result ≡ Err c.in_err-fill_inputs.field-0.0 = search rules in
    subst (λ (r : Answer). RunsInto L x a.lent.now r s a.lent.now) (sym gone) (
      outcomes.passing_run a.values.now a.kinds.now a.numbers.now a.store.now c.check_table.ensures c.in_ok-counted.was c.if-store-counted.false
          ∙ outcomes.values_refused a.values.now L a.store.now s layout.result.inputs layout.result.output layout.ensures c.fill_inputs.ensures c.in_err-fill_inputs.was,
      refl,
    )

pub print_run-requires : goal.print_run-requires
print_run-requires c =
    let a = c.args in (
      outcomes.ready_same a.kinds.now a.numbers.now _ _ c.fill_inputs.auto.store
          (outcomes.ready a.values.now a.kinds.now a.numbers.now a.store.now c.check_table.ensures c.in_ok-counted.was c.requires.0 c.requires.1 c.if-store-counted.false),
      c.layout_of-layout.ensures,
      c.requires.2,
    )

pub returns : goal.returns
returns c =
    let a = c.args in
    let L = loops_of (rows_of a.kinds.now a.numbers.now) in
    let run = c.print_run in
    let layout = c.layout_of-layout in
    subst (λ (x : Ran). RunsInto L x a.lent.now (Ok run.result) run.new.store run.new.lent)
    (sym (outcomes.passing_run a.values.now a.kinds.now a.numbers.now a.store.now c.check_table.ensures c.in_ok-counted.was c.if-store-counted.false
    ∙ outcomes.values_held a.values.now L a.store.now c.fill_inputs.new.store layout.result.inputs layout.result.output layout.ensures c.fill_inputs.ensures c.in_ok-fill_inputs.was))
    run.ensures
