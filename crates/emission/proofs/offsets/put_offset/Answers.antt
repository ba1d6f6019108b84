-- `put_offset` meets its contract: a `plus` for each summand but one, then the summands; an empty sum is `lit,0`.
use mathlib.Core.Path.{ap}
use Rattle.emission.specs.Laws.Offsets.{type_past, offset_none, offset_empty, offset_some}
use Rattle.emission.specs.Changes.{path_of}
use Rattle.type_table.specs.Table.{type_at}
use Rattle.meaning.specs.Offsets.{summands}
use Rattle.emission.proofs.offsets.put_offset.Goals as goal

pub returns-then-types-place : goal.returns-then-types-place
returns-then-types-place c =
    offset_none c.args.counters _ _ _
    (ap (λ s. summands s (path_of c.args.path.changes.now c.args.path.depth)) (type_past c.args.types.now c.args.place c.if-types-place.true))
    c.put_count.ensures

pub returns-then-many-eq0 : goal.returns-then-many-eq0
returns-then-many-eq0 c =
    offset_empty c.args.counters (summands (type_at c.args.types.now c.args.place) (path_of c.args.path.changes.now c.args.path.depth)) _ _ _
    c.count_summands-many.ensures.0 c.if-many-eq0.true c.put_count-then-many-eq0.ensures

pub returns : goal.returns
returns c =
    offset_some c.args.counters (summands (type_at c.args.types.now c.args.place) (path_of c.args.path.changes.now c.args.path.depth)) _ _ _ _
    c.count_summands-many.ensures.0 c.if-many-eq0.false c.put_pluses.ensures c.put_summands.ensures
