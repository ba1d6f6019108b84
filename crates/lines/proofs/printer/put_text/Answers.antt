use Rattle.std.proofs.Common.{◌≡◌, ◌∙◌, SFits, ap, arith, length, rules, sym}
use Rattle.std.proofs.lemmas.List.Edits.{sets}
use Rattle.std.specs.Prelude.{◌⊎◌}
use mir.Syntax.{w32}
use Rattle.std.proofs.lemmas.Int.{to_z-of_z}
use Rattle.words.specs.Tables.{words_in}
use Rattle.lines.proofs.Sizes.{size_from, text_put, text_end}
use Rattle.lines.proofs.printer.put_text.Goals as goal

pub loop-kind-preserved : goal.loop-kind-preserved
loop-kind-preserved c =
    let fits : SFits w32 c.in-Some.number.now = search rules in
    let put = simp to_z-of_z at c.put_line-at.ensures in
    let rest = size_from (words_in c.args.table.now) c.in-Some.ensures.steps.0 c.in-Some.ensures.steps.1 in
    (omega (arith, put, rest), text_put (words_in c.args.table.now) c.in-Some.ensures.steps.0 c.in-Some.ensures.steps.1 _ _ _ _ _ put.0 put.1 c.loop-kind.invariant.1)

pub returns : goal.returns
returns c =
    let ended : (length c.loop-kind.kind-iterator.a.rest.now ≡ 0) ⊎ (length c.loop-kind.kind-iterator.b.rest.now ≡ 0) = grind arith in
    ap (sets c.loop-kind.text c.loop-kind.at) (sym (text_end (words_in c.args.table.now) _ _ ended)) ∙ c.loop-kind.invariant.1
