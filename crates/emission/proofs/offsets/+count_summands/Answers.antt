use native.Mathlib.Omega.{arith}
use mathlib.Core.Path.{sym, ◌∙◌}
use Rattle.emission.specs.Laws.Offsets.{summands_number, summands_elements, summands_second, summands_first, count_none, count_more, count_same}
use Rattle.emission.specs.Laws.Elements.{is_number}
use Rattle.emission.proofs.offsets.+count_summands.Goals as goal

pub returns-in-Some : goal.returns-in-Some
returns-in-Some t c = (
  count_more _ _ _ _ (summands_elements _ _ c.args.j c.in-Some.ensures.0) c.count_summands.ensures.0,
  omega (arith, c.in-Some.ensures.1, c.count_summands.ensures.1),
)

pub returns-in_default-as_pair : goal.returns-in_default-as_pair
returns-in_default-as_pair t c =
    (count_none _ (summands_number _ _ c.args.j (is_number _ c.in_default.ensures c.in_default-as_pair.ensures)), omega arith)

pub returns-then-is_second : goal.returns-then-is_second
returns-then-is_second t c = (
  count_more _ _ _ _ (summands_second _ _ c.args.j _ _ c.in-Some-as_pair.ensures.0 (sym c.if-is_second.true ∙ c.is_second.ensures))
      c.count_summands-then-is_second.ensures.0,
  omega (arith, c.in-Some-as_pair.ensures.2, c.count_summands-then-is_second.ensures.1),
)

pub returns : goal.returns
returns t c = (
  count_same _ _ _ (summands_first _ _ c.args.j _ _ c.in-Some-as_pair.ensures.0 (sym c.if-is_second.false ∙ c.is_second.ensures))
      c.count_summands-2.ensures.0,
  omega (arith, c.in-Some-as_pair.ensures.1, c.count_summands-2.ensures.1),
)
