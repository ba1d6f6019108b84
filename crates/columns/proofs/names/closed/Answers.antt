-- `columns::names::closed` meets its contract: what is left begins at the first row that is open.
use mathlib.Core.Path.{sym, ap, ◌∙◌}
use native.Mathlib.Omega.{arith}
use lib.ListN.{length, drop, drop_of_length-le}
use lib.Seq.{drop-drop}
use Rattle.syntax.proofs.Front.{part, part_all, part_length}
use Rattle.columns.specs.Names.{closing}
use Rattle.columns.proofs.Stacks as stacks
use Rattle.columns.proofs.names.closed.Goals as goal

pub returns-in-Some : goal.returns-in-Some
returns-in-Some c =
    let a = c.args in
    let all = part_all a.top a.stack.now in
    let at = stacks.close_some a.ends.now (part a.top a.stack.now) a.q c.in-Some.place c.in-Some.ensures in
    record {
      bound = (omega arith, omega (arith, at.0, part_length a.top a.stack.now));
      result = sym (drop-drop c.in-Some.place a.top a.stack.now) ∙ ap (drop c.in-Some.place) (sym all) ∙ at.1 ∙ ap (closing a.ends.now a.q) all;
    }

pub returns-in-None-clause-result : goal.returns-in-None-clause-result
returns-in-None-clause-result c =
    let a = c.args in
    drop_of_length-le a.stack.now {i = length a.stack.now} (omega arith) ∙ stacks.close_none a.ends.now (part a.top a.stack.now) a.q c.in-None.ensures
    ∙ ap (closing a.ends.now a.q) (part_all a.top a.stack.now)
