-- `values::put_values` meets its contract. The loop's invariant: what is stored and the lines still to come make up all lines.
use Rattle.std.proofs.Common.{◌≡◌}
use Rattle.words.specs.Kinds.{rows_of}
use Rattle.values.specs.Stored.{stored}
use Rattle.values.proofs.put_values.Given as goal

abbrev pub invariant-loop-cell : goal.invariant-loop-cell
invariant-loop-cell l =
    stored (rows_of l.cell-iterator.a.rest.now l.cell-iterator.b.rest.now) l.store ≡ stored (rows_of l.cells l.values) l.initial.store
