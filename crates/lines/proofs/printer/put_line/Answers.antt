-- `put_line` meets its contract: word, comma, number and byte 10, each behind the one before.
use Rattle.std.proofs.Common.{arith}
use mir.Facts.{to_z-of_z}
use Rattle.words.specs.Tables.{words_in}
use Rattle.lines.proofs.Laws.{line_length}
use Rattle.lines.proofs.Sizes.{line_put}
use Rattle.lines.proofs.printer.put_line.Goals as goal

pub returns : goal.returns
returns c =
    let a = c.args in
    let size = rw (to_z-of_z c.ranges.number) at c.size.ensures.value in
    let number = rw (to_z-of_z c.ranges.number) at c.put-2.ensures in (
      omega (arith, line_length (words_in a.table.now) (a.kind, a.number), size),
      line_put (words_in a.table.now) a.kind a.number a.text.now a.at c.length.result c.size.result c.length.ensures.0 size
          c.put_word.ensures c.put.ensures number c.put-3.ensures,
    )
