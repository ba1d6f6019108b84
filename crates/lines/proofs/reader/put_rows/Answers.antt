use Rattle.std.proofs.Common.{◌≡◌, ◌∙◌, ◌<◌, SFits, ap, arith, length, rules, set, sym}
use mir.Syntax.{w32}
use borrow.Author.Tests.{tests}
use Rattle.std.proofs.lemmas.Int.{to_z-of_z}
use Rattle.words.specs.Kinds.{Row}
use Rattle.words.specs.Tables.{words_in}
use Rattle.lines.specs.Reading.{head_of, line_of}
use Rattle.lines.proofs.Lines.{formed_row, formed_none, formed_end, column_next, column_end, cut_shorter}
use Rattle.lines.proofs.reader.put_rows.Goals as goal

pub returns-in_default-clause-answer : goal.returns-in_default-clause-answer
returns-in_default-clause-answer g c =
    let a = c.args in
    let turn = c.loop-rest in
    let some : 0 < length turn.rest.now = search (rules, tests) in
    let line = c.line_of.ensures ∙ ap (line_of (head_of (words_in a.table.now) a.heads)) c.cut_line.ensures.line in
    formed_none (head_of (words_in a.table.now) a.heads) turn.rest.now c.cut_line.result.1.now some line c.cut_line.ensures.behind turn.row c.in_default.is
    ∙ sym turn.invariant.1

pub loop-rest-preserved : goal.loop-rest-preserved
loop-rest-preserved g c =
    let a = c.args in
    let turn = c.loop-rest in
    let head = head_of (words_in a.table.now) a.heads in
    let some : 0 < length turn.rest.now = search (rules, tests) in
    let line = c.line_of.ensures ∙ ap (line_of head) c.cut_line.ensures.line in
    let fits : SFits w32 c.in-Some.number = search rules in
    let numbers_put = simp to_z-of_z at c.put-in-loop-rest.ensures in
    let column_put = c.put.ensures ∙ ap (set turn.column turn.row) c.of.ensures in (
      omega (arith, cut_shorter turn.rest.now some, ap length c.cut_line.ensures.behind),
      turn.invariant.1 ∙ formed_row head turn.rest.now c.cut_line.result.1.now some line c.cut_line.ensures.behind turn.row c.in-Some.is,
      column_next head turn.rest.now c.cut_line.result.1.now some line c.cut_line.ensures.behind
          (λ (r : Row). g.C.Column.of r.0) turn.column _ turn.row c.in-Some.is column_put turn.invariant.2,
      column_next head turn.rest.now c.cut_line.result.1.now some line c.cut_line.ensures.behind
          (λ (r : Row). r.1) turn.numbers _ turn.row c.in-Some.is numbers_put turn.invariant.3,
    )

pub returns-clause-answer : goal.returns-clause-answer
returns-clause-answer g c =
    let a = c.args in
    let end : length c.loop-rest.rest.now ≡ 0 = search (rules, tests) in
    sym (c.loop-rest.invariant.1 ∙ formed_end (head_of (words_in a.table.now) a.heads) c.loop-rest.rest.now end c.loop-rest.row)

pub returns-clause-column_put : goal.returns-clause-column_put
returns-clause-column_put g c n e =
    let a = c.args in
    let end : length c.loop-rest.rest.now ≡ 0 = search (rules, tests) in
    column_end (head_of (words_in a.table.now) a.heads) c.loop-rest.rest.now end
    (λ (r : Row). g.C.Column.of r.0) c.loop-rest.column c.loop-rest.row c.loop-rest.invariant.2

pub returns-clause-numbers_put : goal.returns-clause-numbers_put
returns-clause-numbers_put g c n e =
    let a = c.args in
    let end : length c.loop-rest.rest.now ≡ 0 = search (rules, tests) in
    column_end (head_of (words_in a.table.now) a.heads) c.loop-rest.rest.now end
    (λ (r : Row). r.1) c.loop-rest.numbers c.loop-rest.row c.loop-rest.invariant.3
