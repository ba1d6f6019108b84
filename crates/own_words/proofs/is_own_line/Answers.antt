-- `is_own_line` meets its contract: the front is looked up among the built-in words, each found at its own place.
use mathlib.Core.Path.{sym}
use lib.Seq.{length-take-le}
use Rattle.own_words.proofs.Rows.{at_place, not_at_place}
use Rattle.own_words.proofs.Lines.{not_there, no_comma, there}
use Rattle.own_words.proofs.is_own_line.Goals as goal

pub slice_bounds-find-end : goal.slice_bounds-find-end
slice_bounds-find-end c =
    sym
    (length-take-le c.field_length-comma.result c.args.line.now c.field_length-comma.ensures.1)

pub returns-then-ne : goal.returns-then-ne
returns-then-ne c =
    let field-length = c.field_length-comma in
    not_there c.args.kind c.args.line.now field-length.result c.requires.1 field-length.ensures.0 c.requires.0
    c.find-front.ensures.0 (not_at_place c.find-front.result.found c.args.kind c.ne.ensures c.if-ne.true)

pub returns-then-line-comma : goal.returns-then-line-comma
returns-then-line-comma c =
    let field-length = c.field_length-comma in
    no_comma c.args.kind c.args.line.now field-length.result c.requires.1 field-length.ensures.0 c.requires.0
    c.if-line-comma.true

pub returns : goal.returns
returns c =
    let field-length = c.field_length-comma in
    there c.args.kind c.args.line.now field-length.result c.requires.1 field-length.ensures.0 c.requires.0
    c.find-front.ensures.0
    (at_place c.find-front.result.found c.args.kind c.ne.ensures c.if-ne.false) c.is_own_word.ensures
