-- `columns::rooms::fill` meets its contract: every row passed keeps the rule.
use lib.ListN.{length}
use Rattle.columns.specs.Figures.{room_at, Column}
use Rattle.columns.proofs.rooms.fill.Given as goal

abbrev pub invariant-loop-q : goal.invariant-loop-q
invariant-loop-q l = Column (length l.kinds) l.ends l.rooms (room_at l.kinds l.numbers) l.q
