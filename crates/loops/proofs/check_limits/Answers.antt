-- `loops::check_limits` meets its contract: the answer follows from the command's.
use Rattle.std.specs.Prelude.{Ok, Err}
use mathlib.Core.Path.{◌≡◌, ◌∙◌}
use borrow.Author.Rules.{rules}
use Rattle.loops.proofs.Limits as limits
use Rattle.loops.proofs.check_limits.Goals as goal

pub returns-in_err-counted : goal.returns-in_err-counted
returns-in_err-counted c =
    let no : c.ask_loops.result ≡ Err c.in_err-counted.field-0.0 = search rules in
    let gone : c.from_residual.result ≡ Err c.in_err-counted.field-0.0 = search rules in
    λ L e h. gone ∙ limits.limits_refused L c.ask_loops.result (c.ask_loops.ensures L e) h _ no

pub returns-then-counted-gt16777216 : goal.returns-then-counted-gt16777216
returns-then-counted-gt16777216 c =
    let told : c.ask_loops.result ≡ Ok c.in_ok-counted.counted = search rules in
    λ L e h. limits.limits_many L c.ask_loops.result (c.ask_loops.ensures L e) h c.in_ok-counted.counted told c.if-counted-gt16777216.true

pub returns : goal.returns
returns c =
    let told : c.ask_loops.result ≡ Ok c.in_ok-counted.counted = search rules in
    λ L e h. limits.limits_passes L c.ask_loops.result (c.ask_loops.ensures L e) h c.in_ok-counted.counted told c.if-counted-gt16777216.false
