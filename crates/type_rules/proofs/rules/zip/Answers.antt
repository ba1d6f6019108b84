-- `zip` meets its contract: an array of pairs of the elements; a pair that is too big makes the whole too big.
use Rattle.std.proofs.Common.{arith, ◌+◌}
use Rattle.std.proofs.lemmas.Grind.{common_steps}
use Rattle.type_rules.proofs.Found.{found_on, zip_made, zip_refused}
use Rattle.type_rules.proofs.rules.zip.Goals as goal

pub returns-in_err-both : goal.returns-in_err-both
returns-in_err-both c =
    let left = c.in_ok-one.ensures in
    let no = zip_refused c.args.row.line _ _ _ _ _ _ left.0 c.in_ok-other.ensures.0 (omega arith) _ left.2.0 c.in_err-both.ensures in
    grind (arith, common_steps)

pub returns : goal.returns
returns c =
    let both = c.in_ok-both.ensures in
    found_on c.args.types.now c.args.row.len c.sized_pair.new.types c.in_ok-both.both.len
    c.sized_array.new.types (c.in_ok-both.both.len + 1) (c.args.row.len + 2) c.args.row.rows _ _
    c.sized_array.result both.4 (omega arith)
    (zip_made c.args.row.line _ _ _ _ _ _ c.in_ok-one.ensures.0 c.in_ok-other.ensures.0 (omega arith) _ both.0)
    c.sized_array.ensures
