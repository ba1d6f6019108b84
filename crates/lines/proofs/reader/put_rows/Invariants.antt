-- `put_rows` meets its contract. The loop's invariant: the answer is that of the lines still to come, after those counted; and what is stored
-- and the rows still to come make up all rows.
use Rattle.std.proofs.Common.{◌≡◌, ◌+◌, ◌≤◌, map, length}
use Rattle.std.proofs.lemmas.List.Edits.{sets}
use Rattle.words.specs.Kinds.{Row}
use Rattle.words.specs.Tables.{words_in}
use Rattle.texts.specs.Texts.{lines_of}
use Rattle.lines.specs.Reading.{head_of, rows_in, formed, numbers_of}
use Rattle.lines.proofs.reader.put_rows.Given as goal

abbrev pub invariant-loop-rest : goal.invariant-loop-rest
invariant-loop-rest g l = (l.row + length l.rest ≤ length l.text)
    × (formed (head_of (words_in l.table) l.heads) 0 (lines_of l.text) ≡ formed (head_of (words_in l.table) l.heads) l.row (lines_of l.rest))
    × (sets l.column l.row (map (λ (r : Row). g.C.Column.of r.0) (rows_in (head_of (words_in l.table) l.heads) (lines_of l.rest)))
    ≡ sets l.initial.column 0 (map (λ (r : Row). g.C.Column.of r.0) (rows_in (head_of (words_in l.table) l.heads) (lines_of l.text))))
    × (sets l.numbers l.row (numbers_of (rows_in (head_of (words_in l.table) l.heads) (lines_of l.rest)))
    ≡ sets l.initial.numbers 0 (numbers_of (rows_in (head_of (words_in l.table) l.heads) (lines_of l.text))))

abbrev pub decreases-loop-rest : goal.decreases-loop-rest
decreases-loop-rest g l = length l.rest
