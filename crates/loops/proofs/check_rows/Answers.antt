-- `loops::check_rows` meets its contract: a walk that finds nothing wrong has found the tree that `check_limits` speaks of.
use Rattle.std.specs.Prelude.{Ok, Err}
use mathlib.Core.Path.{◌≡◌, sym, ◌∙◌}
use borrow.Author.Rules.{rules}
use Rattle.words.specs.Kinds.{rows_of}
use Rattle.loops.proofs.Limits as limits
use Rattle.loops.proofs.check_rows.Goals as goal

pub returns-in_err-walk_loops : goal.returns-in_err-walk_loops
returns-in_err-walk_loops c =
    let a = c.args in
    let no : c.walk_loops.result ≡ Err c.in_err-walk_loops.field-0.0 = search rules in
    let gone : c.from_residual.result ≡ Err c.in_err-walk_loops.field-0.0 = search rules in
    gone ∙ limits.rows_refused (rows_of a.kinds.now a.numbers.now) _ (sym c.walk_loops.ensures ∙ no)

pub returns : goal.returns
returns c =
    let a = c.args in
    let told : c.walk_loops.result ≡ Ok c.in_ok-walk_loops.field-0 = search rules in
    limits.rows_limits (rows_of a.kinds.now a.numbers.now) _ c.check_limits.result (sym c.walk_loops.ensures ∙ told) c.check_limits.ensures
