-- `text_size` meets its contract. The loop's invariant: the bytes counted, and those of the rows still to come, are all.
use Rattle.std.proofs.Common.{◌≡◌, ◌+◌, ◌≤◌, length}
use Rattle.words.specs.Kinds.{rows_of}
use Rattle.words.specs.Tables.{words_in}
use Rattle.lines.specs.Printing.{text_of}
use Rattle.lines.proofs.printer.text_size.Given as goal

abbrev pub invariant-loop-kind : goal.invariant-loop-kind
invariant-loop-kind l = (l.bytes ≤ l.room)
    × (l.bytes + length (text_of (words_in l.table) (rows_of l.kind-iterator.a.rest.now l.kind-iterator.b.rest.now)) ≡ length (text_of (words_in l.table) (rows_of l.kinds l.numbers)))
