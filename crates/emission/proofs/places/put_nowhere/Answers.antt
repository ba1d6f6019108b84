-- `put_nowhere` meets its contract: its two rows.
use Rattle.emission.specs.Laws.Places.{put_nowhere}
use Rattle.emission.proofs.places.put_nowhere.Goals as goal

pub returns : goal.returns
returns c = put_nowhere _ _ _ c.put_count.ensures c.put_count-2.ensures
