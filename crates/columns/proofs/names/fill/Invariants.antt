-- `columns::names::fill` meets its contract: turn by turn, both stacks and the column.
use Prim.Native.Nat.{◌+◌, ◌≤◌}
use lib.ListN.{length, drop}
use Rattle.columns.specs.Names.{counter_words, region_words}
use Rattle.columns.proofs.Naming as naming
use Rattle.columns.proofs.names.fill.Given as goal

abbrev pub invariant-loop-q : goal.invariant-loop-q
invariant-loop-q l = record {
  counter : (l.counter ≤ length l.counters) × (length l.counters ≤ l.counter + l.q);
  region : (l.region ≤ length l.regions) × (length l.regions ≤ l.region + l.q);
  loops : naming.Stacked counter_words l.kinds l.ends (drop l.counter l.counters) l.q;
  rooms : naming.Stacked region_words l.kinds l.ends (drop l.region l.regions) l.q;
  named : naming.NamedTo l.kinds l.numbers l.ends l.named l.q;
}
