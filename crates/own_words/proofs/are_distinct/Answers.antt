use mathlib.Core.Path.{sym, ◌∙◌}
use Prim.Native.Nat.{◌<◌}
use native.Mathlib.Nat.{not-suc-le-zero}
use native.Mathlib.Omega.{arith}
use lib.ListN.{length}
use borrow.Author.Count.{below_more}
use Rattle.words.specs.Tables.{words_in}
use Rattle.words.specs.Words.{words}
use Rattle.words.proofs.Laws.{words_count, words_in_count}
use Rattle.own_words.proofs.Rows.{own_found_holds, all_distinct, not_distinct, at_place, not_at_place}
use Rattle.own_words.proofs.are_distinct.Goals as goal

pub loop-kind-init : goal.loop-kind-init
loop-kind-init c = (omega arith, (λ i h. absurd (not-suc-le-zero h)))

pub returns-then-ne : goal.returns-then-ne
returns-then-ne c =
    let table = c.args.table.now in
    let kind = c.loop-kind.kind in
    let here : kind < length words = omega (arith, words_count, c.loop-kind-test.true) in
    let found = own_found_holds table kind here c.find_row-found.ensures in
    not_distinct (words_in table) kind (omega (arith, words_in_count table))
    (λ e. not_at_place c.find_row-found.result kind c.ne.ensures c.if-ne.true (found ∙ e))

pub loop-kind-preserved : goal.loop-kind-preserved
loop-kind-preserved c =
    let table = c.args.table.now in
    let turn = c.loop-kind in
    let test = c.loop-kind-test.true in
    let found = own_found_holds table turn.kind (omega (arith, words_count, test)) c.find_row-found.ensures in (
      omega (arith, words_count, test),
      below_more _ _ turn.invariant.1 (sym found ∙ at_place c.find_row-found.result turn.kind c.ne.ensures c.if-ne.false),
    )

pub returns : goal.returns
returns c =
    let table = c.args.table.now in
    all_distinct (words_in table) (λ i h. c.loop-kind.invariant.1 i (omega (arith, h, words_count, words_in_count table, c.loop-kind-test.false)))
