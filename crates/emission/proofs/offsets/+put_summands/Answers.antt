use mathlib.Core.Path.{sym, ◌∙◌}
use Rattle.emission.specs.Laws.Offsets.{summands_number, summands_elements, summands_second, summands_first, put_none, put_same, put_index, put_part}
use Rattle.emission.specs.Laws.Elements.{is_number}
use Rattle.emission.proofs.offsets.+put_summands.Goals as goal

pub returns-in-Some : goal.returns-in-Some
returns-in-Some t c =
    put_index c.args.counters _ _ _ _ _ _ _ _ (summands_elements _ _ c.args.j c.in-Some.ensures.0) c.put_cells.ensures c.put_index.ensures
    c.put_summands.ensures

pub returns-in_default-as_pair : goal.returns-in_default-as_pair
returns-in_default-as_pair t c =
    put_none c.args.counters _ _ (summands_number _ _ c.args.j (is_number _ c.in_default.ensures c.in_default-as_pair.ensures))

pub returns-then-is_second : goal.returns-then-is_second
returns-then-is_second t c =
    put_part c.args.counters _ _ _ _ _ _ (summands_second _ _ c.args.j _ _ c.in-Some-as_pair.ensures.0 (sym c.if-is_second.true ∙ c.is_second.ensures))
    c.put_cells-then-is_second.ensures c.put_summands-then-is_second.ensures

pub returns : goal.returns
returns t c =
    put_same c.args.counters _ _ _ _ (summands_first _ _ c.args.j _ _ c.in-Some-as_pair.ensures.0 (sym c.if-is_second.false ∙ c.is_second.ensures))
    c.put_summands-2.ensures
