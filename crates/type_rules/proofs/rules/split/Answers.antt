-- `split` meets its contract: groups of n, as many as n goes into the length; a group that is too big makes the whole too big.
use Rattle.std.proofs.Common.{arith, ◌+◌}
use Rattle.std.proofs.lemmas.Grind.{common_steps}
use Rattle.type_table.specs.Table.{type_at}
use Rattle.type_rules.specs.Rules.{meant}
use Rattle.type_rules.proofs.Found.{found_on, split_refused, split_made, quotient_bounds}
use Rattle.type_rules.proofs.rules.split.Goals as goal

pub returns-in_err-group : goal.returns-in_err-group
returns-in_err-group c =
    let array = c.in_ok-array.ensures in
    let bounds = quotient_bounds c.in_ok-array.array.length c.args.n array.2 (grind (arith, common_steps)) (omega arith) in
    let no = split_refused (meant c.args.series) c.args.n c.args.row.line c.in_ok-array.array.length (type_at c.args.types.now c.args.place)
    (type_at c.args.types.now c.in_ok-array.array.element) array.0 (omega arith) c.in_err-group.field-0.0 bounds.0 c.in_err-group.ensures in
    grind (arith, common_steps)

pub returns : goal.returns
returns c =
    let group = c.in_ok-group.ensures in
    found_on c.args.types.now c.args.row.len c.sized.new.types c.in_ok-group.group.len
    c.sized_array.new.types (c.in_ok-group.group.len + 1) (c.args.row.len + 2) c.args.row.rows _ _
    c.sized_array.result group.4 (omega arith)
    (split_made _ c.args.n c.args.row.line _ _ _ c.in_ok-array.ensures.0 (omega arith) _ group.0)
    c.sized_array.ensures
