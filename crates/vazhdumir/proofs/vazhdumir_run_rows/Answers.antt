-- `vazhdumir_run_rows` meets its contract: the number of the run's answer, and the bytes as the run leaves them.
use Rattle.words.specs.Kinds.{rows_of}
use Rattle.run.specs.Run.{run_table}
use Rattle.vazhdumir.proofs.RunLaws.{run_coded}
use Rattle.vazhdumir.proofs.vazhdumir_run_rows.Goals as goal

pub returns : goal.returns
returns c =
    let a = c.args in
    run_coded a.bytes.now _ _ c.run_rows.ensures.frame (run_table (rows_of a.kinds.now a.numbers.now) a.order) _ _
    c.code.ensures c.run_rows.ensures.result
