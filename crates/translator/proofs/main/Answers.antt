-- `main` of the translator: the bytes put are within the text that is printed.
use Rattle.std.proofs.Common.{◌∙◌, ap, arith, length, sym}
use Rattle.programs.specs.Laws.{put_within, put_within_in}
use Rattle.files.specs.Files.{Within}
use Rattle.files.specs.Laws.{put_is_within}
use Rattle.translator.proofs.main.Goals as goal
use Rattle.translator.proofs.main.Goals.{in-Some, in-None}

pub print-requires : goal.print-requires
print-requires c =
    elim c.match-own.branch as (λ _. Within c.match-own.put c.match-own.text) [
      | in-Some w ↦
          put_is_within c.match-own.put _ (λ n e. omega (arith, ap length w.text-is, put_within_in _ _ _ w.translator_in-put.ensures (sym w.put-is ∙ e)))
      | in-None w ↦
          put_is_within c.match-own.put _ (λ n e. omega (arith, ap length w.text-is, put_within _ _ w.translator-put.ensures (sym w.put-is ∙ e)))
    ]
