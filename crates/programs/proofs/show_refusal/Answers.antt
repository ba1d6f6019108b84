-- `programs::show_refusal` meets its contract: where there is room for the longest text, there is room for a refusal's line.
use Rattle.programs.proofs.Outcomes.{refusal_shown}
use Rattle.programs.proofs.show_refusal.Goals as goal

pub returns : goal.returns
returns c s = refusal_shown _ s _ c.if-lent-lt-LONGEST_OUTPUT.false c.put_refusal.ensures.1 c.put_refusal.ensures.0
