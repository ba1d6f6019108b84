-- `line_size` meets its contract: a line is a word, a comma, a number and byte 10.
use Rattle.std.proofs.Common.{arith}
use mir.Facts.{to_z-of_z}
use Rattle.words.specs.Tables.{words_in}
use Rattle.lines.proofs.Laws.{line_length}
use Rattle.lines.proofs.printer.line_size.Goals as goal

pub returns : goal.returns
returns c =
    let size = rw (to_z-of_z c.ranges.number) at c.size.ensures.value in
    (omega (arith, size, line_length (words_in c.args.table.now) (c.args.kind, c.args.number)), omega arith)
