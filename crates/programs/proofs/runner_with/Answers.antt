-- `programs::runner_with` meets its contract: where there is room for the longest text, what is not printed is a refusal, and its line is.
use Rattle.words.specs.Tables.{words_in}
use Rattle.programs.proofs.Outcomes.{run_shown, refusal_run_shown}
use Rattle.programs.proofs.runner_with.Goals as goal

pub returns-in-Ok : goal.returns-in-Ok
returns-in-Ok c =
    let a = c.args in
    run_shown (words_in a.table.now) a.loops.now a.values.now a.store.now a.lent.now _ _ c.if-lent-lt-LONGEST_OUTPUT.false c.in-Ok.ensures

pub returns-in-Err : goal.returns-in-Err
returns-in-Err c =
    let a = c.args in
    refusal_run_shown (words_in a.table.now) a.loops.now a.values.now a.store.now a.lent.now _ _ c.if-lent-lt-LONGEST_OUTPUT.false c.in-Err.ensures
    c.put_refusal.ensures.1 c.put_refusal.ensures.0
