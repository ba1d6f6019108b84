-- `line_of` meets its contract: what is before the first comma and what is behind it, each read; one way out for each that is not
-- well written.
use Rattle.std.specs.Prelude.{Some, None}
use Rattle.std.proofs.Common.{◌≡◌, ◌∙◌, SFits, rules}
use mir.Syntax.{w32}
use Rattle.std.proofs.lemmas.Int.{to_z-of_z}
use Rattle.words.specs.Tables.{words_in}
use Rattle.lines.specs.Reading.{head_of}
use Rattle.lines.proofs.Lines.{no_head, no_comma, no_number, row}
use Rattle.lines.proofs.reader.line_of.Goals as goal

pub returns-then-line-comma : goal.returns-then-line-comma
returns-then-line-comma c =
    let a = c.args in
    no_comma (head_of (words_in a.table.now) a.heads) a.line.now c.field_length-comma.result c.field_length-comma.ensures.0 c.if-line-comma.true

pub returns-in_err-head : goal.returns-in_err-head
returns-in_err-head c =
    let a = c.args in
    let none : c.head_of.result ≡ None = search rules in
    let gone : c.from_residual.result ≡ None = search rules in
    gone ∙ no_head (head_of (words_in a.table.now) a.heads) a.line.now c.field_length-comma.result c.field_length-comma.ensures.0 c.head_of.ensures none

pub returns-in_err-number : goal.returns-in_err-number
returns-in_err-number c =
    let a = c.args in
    let none : c.read.result ≡ None = search rules in
    let gone : c.from_residual-in_err-number.result ≡ None = search rules in
    gone ∙ no_number (head_of (words_in a.table.now) a.heads) a.line.now c.field_length-comma.result c.field_length-comma.ensures.0 c.read.ensures none

pub returns : goal.returns
returns c =
    let a = c.args in
    let head : c.head_of.result ≡ Some c.in_ok-head.head = search rules in
    let number : c.read.result ≡ Some c.in_ok-number.number = search rules in
    let fits : SFits w32 c.in_ok-number.number = search rules in
    simp to_z-of_z
    (row (head_of (words_in a.table.now) a.heads) a.line.now c.field_length-comma.result c.field_length-comma.ensures.0 c.head_of.ensures head c.read.ensures number)
