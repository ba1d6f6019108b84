-- `put_set` meets its contract: the place, then the value, each at the empty path.
use Rattle.emission.specs.Laws.Assign.{set_rows, no_changes}
use Rattle.emission.proofs.assign.put_set.Goals as goal

pub returns : goal.returns
returns c = set_rows _ _ _ _ _ _ _ _ _ _ (no_changes _) (no_changes _) c.put_count.ensures c.put_place.ensures c.put_value.ensures.rows
