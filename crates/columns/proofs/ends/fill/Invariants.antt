-- `columns::ends::fill` meets its contract: every row passed keeps the rule.
use Rattle.columns.proofs.EndPasses as passes
use Rattle.columns.proofs.ends.fill.Given as goal

abbrev pub invariant-loop-q : goal.invariant-loop-q
invariant-loop-q l = passes.EndsFrom l.kinds l.ends l.q
