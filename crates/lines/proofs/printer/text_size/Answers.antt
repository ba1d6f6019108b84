use Rattle.std.proofs.Common.{◌≡◌, SFits, ap, arith, length, rules}
use Rattle.std.specs.Prelude.{◌⊎◌}
use mir.Syntax.{w32}
use Rattle.std.proofs.lemmas.Int.{to_z-of_z}
use Rattle.words.specs.Tables.{words_in}
use Rattle.lines.proofs.Sizes.{size_from, text_end, too_long, fits_in}
use Rattle.lines.proofs.printer.text_size.Goals as goal

pub returns-then-room-bytes : goal.returns-then-room-bytes
returns-then-room-bytes c =
    let fits : SFits w32 c.in-Some.number.now = search rules in
    let size = simp to_z-of_z at c.line_size-size.ensures.0 in
    let rest = size_from (words_in c.args.table.now) c.in-Some.ensures.steps.0 c.in-Some.ensures.steps.1 in
    too_long _ c.args.room (omega (arith, size, rest))

pub loop-kind-preserved : goal.loop-kind-preserved
loop-kind-preserved c =
    let fits : SFits w32 c.in-Some.number.now = search rules in
    let size = simp to_z-of_z at c.line_size-size.ensures.0 in
    let rest = size_from (words_in c.args.table.now) c.in-Some.ensures.steps.0 c.in-Some.ensures.steps.1 in
    (omega arith, omega (arith, size, rest))

pub returns : goal.returns
returns c =
    let ended : (length c.loop-kind.kind-iterator.a.rest.now ≡ 0) ⊎ (length c.loop-kind.kind-iterator.b.rest.now ≡ 0) = grind arith in
    let end = ap length (text_end (words_in c.args.table.now) _ _ ended) in
    fits_in _ c.args.room _ (omega (arith, end)) (omega arith)
