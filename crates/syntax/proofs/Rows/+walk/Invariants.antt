-- `syntax::Rows::walk` meets its contract, whatever is due behind. The loops' invariants: the walk from the first row on is that of the row now due, and
-- in a row that of its operands still left. The rows left fall with each call, for each is made behind at least one row.
use mathlib.Core.List.{[], ◌∷◌}
use Prim.Native.Nat.{suc, ◌-◌, ◌≤◌}
use lib.ListN.{length}
use Rattle.words.specs.Kinds.{rows_of}
use Rattle.syntax.specs.Names.{Bounded}
use Rattle.syntax.specs.Operands.{operands_due}
use Rattle.syntax.proofs.WalkSteps.{Reached}
use Rattle.syntax.proofs.Rows.+walk.Given as goal

abbrev pub decreases-walk : goal.decreases-walk
decreases-walk l = length l.self.now.kinds.now - l.first

abbrev pub invariant-loop-row : goal.invariant-loop-row
invariant-loop-row l = record {
  further : l.first ≤ l.row;
  within : l.row ≤ length l.self.kinds.now;
  bounded : Bounded l.next.names;
  reached : Reached l.first l.fn.due (rows_of l.self.kinds.now l.self.numbers.now) l.row (l.next ∷ []);
}

abbrev pub decreases-loop-row : goal.decreases-loop-row
decreases-loop-row l = length l.self.kinds.now - l.row

abbrev pub invariant-loop : goal.invariant-loop
invariant-loop l = record {
  further : l.initial.row ≤ l.row;
  within : l.row ≤ length l.self.kinds.now;
  reached : Reached l.first l.fn.due (rows_of l.self.kinds.now l.self.numbers.now) l.row (operands_due l.next l.kind l.number (suc l.count - l.counter));
}
