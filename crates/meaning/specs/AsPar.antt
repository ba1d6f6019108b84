-- [18.10] Loops with a `par` in place of every `lanes`. Definitions only; assumes nothing.
use Rattle.meaning.specs.Terms.{LoopKind}
use Rattle.meaning.specs.Loops.{Command, Loops, seq, loop, new}

unfoldable pub as_par : Command → Command
as_par (Command.assignment p v) = Command.assignment p v
as_par (seq c d) = seq (as_par c) (as_par d)
as_par (loop LoopKind.parallel n b) = loop LoopKind.parallel n (as_par b)
as_par (loop LoopKind.sequential n b) = loop LoopKind.sequential n (as_par b)
as_par (loop LoopKind.lanes n b) = loop LoopKind.parallel n (as_par b)
as_par (new c b) = new c (as_par b)

abbrev pub loops_as_par : Loops → Loops
loops_as_par L = record { inputs = L.inputs; output = L.output; command = as_par L.command }
