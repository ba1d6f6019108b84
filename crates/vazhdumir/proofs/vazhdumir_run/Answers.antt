-- `vazhdumir_run` meets its contract: the number of the run's answer, and the bytes as the run leaves them.
use Rattle.words.specs.Words.{words}
use Rattle.run.specs.Run.{run_text}
use Rattle.vazhdumir.proofs.RunLaws.{run_coded}
use Rattle.vazhdumir.proofs.vazhdumir_run.Goals as goal

pub returns : goal.returns
returns c =
    let a = c.args in
    run_coded a.bytes.now _ _ c.run_text.ensures.frame (run_text words a.text.now a.order) _ _ c.code.ensures
    c.run_text.ensures.result
