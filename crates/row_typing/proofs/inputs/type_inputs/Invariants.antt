-- The loop's invariant: so many inputs have their types found, and the check goes on behind them.
use Rattle.meaning.specs.Terms.{Plan}
use Rattle.row_typing.specs.Typed.{PlanStands}
use Rattle.row_typing.proofs.InputLaws.{InputsDone}
use Rattle.row_typing.proofs.inputs.type_inputs.Given as goal

abbrev pub invariant-loop-i : goal.invariant-loop-i
invariant-loop-i l =
    (P : Plan) → PlanStands l.kinds l.numbers P → InputsDone l.initial.types l.types l.places P.inputs l.i l.row l.len
