-- `main` of the runner: the bytes put are within the text that is printed.
use Rattle.std.proofs.Common.{◌∙◌, ap, arith, length, sym}
use Rattle.programs.specs.Laws.{shown_within, shown_within_in}
use Rattle.files.specs.Files.{Within}
use Rattle.files.specs.Laws.{put_is_within}
use Rattle.runner.proofs.main.Goals as goal
use Rattle.runner.proofs.main.Goals.{in-Some, in-None}

pub print-requires : goal.print-requires
print-requires c =
    elim c.match-own.branch as (λ _. Within c.match-own.put c.match-own.text) [
      | in-Some w ↦
          put_is_within c.match-own.put _
          (λ n e. omega (arith, ap length w.text-is, shown_within_in _ _ _ _ _ w.runner_in-put.ensures (omega arith) (sym w.put-is ∙ e)))
      | in-None w ↦
          put_is_within c.match-own.put _
          (λ n e. omega (arith, ap length w.text-is, shown_within _ _ _ _ w.runner-put.ensures (omega arith) (sym w.put-is ∙ e)))
    ]
