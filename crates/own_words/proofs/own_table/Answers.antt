use mathlib.Core.Path.{◌≡◌, refl, sym, ◌∙◌}
use native.Mathlib.Nat.{not-suc-le-zero}
use native.Mathlib.Omega.{arith}
use lib.ListN.{length}
use borrow.Author.Rules.{rules}
use Rattle.words.proofs.Laws.{words_count}
use Rattle.own_words.specs.Laws.{most_eight}
use Rattle.own_words.proofs.Turns.{too_few, no_own_line, an_own_line, next_turn, too_many, as_many, words_put}
use Rattle.own_words.proofs.own_table.Goals as goal

pub loop-kind-init : goal.loop-kind-init
loop-kind-init c =
    let long : length c.built_in-built_in.result ≡ 44 = search rules in
    record { listed = omega (arith, words_count); within = omega arith; long = long ∙ sym words_count; rest = refl; answer = refl; put = λ i h. absurd (not-suc-le-zero h) }

pub returns-then-text-at : goal.returns-then-text-at
returns-then-text-at c =
    let turn = c.loop-kind in
    sym (too_few c.args.text.now turn.own turn.at turn.kind turn.invariant
    (omega (arith, words_count, c.loop-kind-test.true)) c.if-text-at.true)

pub is_own_line-requires : goal.is_own_line-requires
is_own_line-requires c = (
  c.built_in-built_in.ensures.words_in,
  omega (arith, words_count, c.loop-kind-test.true),
)

pub returns-then-not-is_own_line : goal.returns-then-not-is_own_line
returns-then-not-is_own_line c =
    let turn = c.loop-kind in
    let line-end = c.line_end-end in
    sym (no_own_line c.args.text.now turn.own turn.at turn.kind
    turn.invariant (omega (arith, words_count, c.loop-kind-test.true)) line-end.result
    c.if-text-at.false line-end.ensures.0 c.is_own_line.ensures
    c.if-not-is_own_line.true)

pub row_of_line-requires : goal.row_of_line-requires
row_of_line-requires c =
    let turn = c.loop-kind in
    let line-end = c.line_end-end in
    let line = an_own_line c.args.text.now turn.own
    turn.at turn.kind turn.invariant (omega (arith, words_count, c.loop-kind-test.true)) line-end.result
    c.if-text-at.false line-end.ensures.0 c.is_own_line.ensures
    c.if-not-is_own_line.false in
    (line.own.some, omega (arith, line.own.most, most_eight turn.kind))

pub loop-kind-preserved : goal.loop-kind-preserved
loop-kind-preserved c =
    let turn = c.loop-kind in
    let line-end = c.line_end-end in
    next_turn c.args.text.now turn.own
    turn.at turn.kind turn.invariant (omega (arith, words_count, c.loop-kind-test.true)) line-end.result
    c.if-text-at.false line-end.ensures.0 c.is_own_line.ensures
    c.if-not-is_own_line.false c.row_of_line.result c.row_of_line.ensures line-end.ensures.1

pub returns-then-at-text : goal.returns-then-at-text
returns-then-at-text c =
    let turn = c.loop-kind in
    sym (too_many c.args.text.now turn.own turn.at turn.kind turn.invariant
    (omega (arith, words_count, c.loop-kind-test.false)) (omega (arith, c.if-at-text.true)))

pub returns : goal.returns
returns c =
    let text = c.args.text.now in
    let turn = c.loop-kind in (
      sym (as_many text turn.own turn.at turn.kind turn.invariant (omega (arith, words_count, c.loop-kind-test.false)) (omega (arith, c.if-at-text.false))),
      words_put text turn.own turn.at turn.kind turn.invariant (omega (arith, words_count, c.loop-kind-test.false)) (omega (arith, c.if-at-text.false)),
    )
