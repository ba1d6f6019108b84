-- `read` meets its contract: not closed, the text is refused; else its lines were read and then counted.
use Rattle.std.specs.Prelude.{Err}
use Rattle.std.proofs.Common.{◌≡◌, ◌∙◌, rules}
use Rattle.words.specs.Kinds.{Row}
use Rattle.words.specs.Tables.{words_in}
use Rattle.lines.specs.Reading.{head_of}
use Rattle.lines.proofs.Questions.{not_closed, line_refused, many_lines, few_lines, column_read}
use Rattle.lines.proofs.read.Goals as goal

pub returns-then-not-is_closed-clause-answer : goal.returns-then-not-is_closed-clause-answer
returns-then-not-is_closed-clause-answer g c =
    let a = c.args in
    not_closed (head_of (words_in a.table.now) a.heads) a.limits a.text.now (search rules)

pub returns-in_err-lines-clause-answer : goal.returns-in_err-lines-clause-answer
returns-in_err-lines-clause-answer g c =
    let a = c.args in
    let gone : c.from_residual.result ≡ Err c.in_err-lines.field-0.0 = search rules in
    gone ∙ line_refused (head_of (words_in a.table.now) a.heads) a.limits a.text.now (search rules) c.put_rows.ensures.answer c.in_err-lines.was

pub returns-then-limits-lines-clause-answer : goal.returns-then-limits-lines-clause-answer
returns-then-limits-lines-clause-answer g c =
    let a = c.args in
    many_lines (head_of (words_in a.table.now) a.heads) a.limits a.text.now (search rules) c.put_rows.ensures.answer c.in_ok-lines.was c.if-limits-lines.true

pub returns-clause-answer : goal.returns-clause-answer
returns-clause-answer g c =
    let a = c.args in
    few_lines (head_of (words_in a.table.now) a.heads) a.limits a.text.now (search rules) c.put_rows.ensures.answer c.in_ok-lines.was c.if-limits-lines.false

pub returns-clause-column_left : goal.returns-clause-column_left
returns-clause-column_left g c =
    let a = c.args in
    column_read (head_of (words_in a.table.now) a.heads) a.text.now (λ (r : Row). g.C.Column.of r.0) a.column.now c.put_rows.ensures.answer c.in_ok-lines.was
    c.put_rows.ensures.column_put (λ n m. n)

pub returns-clause-numbers_left : goal.returns-clause-numbers_left
returns-clause-numbers_left g c =
    let a = c.args in
    column_read (head_of (words_in a.table.now) a.heads) a.text.now (λ (r : Row). r.1) a.numbers.now c.put_rows.ensures.answer c.in_ok-lines.was
    c.put_rows.ensures.numbers_put (λ n m. m)
