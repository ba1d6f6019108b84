-- `put_text` meets its contract. The loop's invariant: what is stored and the lines still to come make up the text.
use Rattle.std.proofs.Common.{◌≡◌, ◌+◌, ◌≤◌, length}
use Rattle.std.proofs.lemmas.List.Edits.{sets}
use Rattle.words.specs.Kinds.{rows_of}
use Rattle.words.specs.Tables.{words_in}
use Rattle.lines.specs.Printing.{text_of}
use Rattle.lines.proofs.printer.put_text.Given as goal

abbrev pub invariant-loop-kind : goal.invariant-loop-kind
invariant-loop-kind l =
    (l.at + length (text_of (words_in l.table) (rows_of l.kind-iterator.a.rest.now l.kind-iterator.b.rest.now)) ≤ length l.initial.text)
    × (sets l.text l.at (text_of (words_in l.table) (rows_of l.kind-iterator.a.rest.now l.kind-iterator.b.rest.now))
    ≡ sets l.initial.text 0 (text_of (words_in l.table) (rows_of l.kinds l.numbers)))
