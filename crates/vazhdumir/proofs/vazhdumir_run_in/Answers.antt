-- `vazhdumir_run_in` meets its contract: the number of the answer that the library's twin gives.
use mathlib.Core.Path.{ap, ◌∙◌}
use Rattle.run.specs.Run.{run_text}
use Rattle.vazhdumir.specs.Codes.{answer_code}
use Rattle.vazhdumir.proofs.RunLaws.{run_coded}
use Rattle.own_words.specs.Laws.{under_both}
use Rattle.vazhdumir.proofs.vazhdumir_run_in.Goals as goal

pub returns : goal.returns
returns c =
    let a = c.args in
    under_both c.run_text_in.ensures.result
    (λ ws e. run_coded a.bytes.now _ _ c.run_text_in.ensures.frame (run_text ws a.text.now a.order) _ _ c.code.ensures e)
    (λ q e. (c.code.ensures ∙ ap answer_code e.0, e.2))
