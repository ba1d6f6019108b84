-- `array_length` meets its contract: the table tells whether the type has elements, and a sound type has few enough.
use native.Mathlib.Omega.{arith}
use Rattle.emission.specs.Laws.Elements.{few_elements, its_length, no_length}
use Rattle.type_table.specs.Laws.{sound_below}
use Rattle.clauses.proofs.array_length.Goals as goal

pub returns-in_default : goal.returns-in_default
returns-in_default c = no_length _ c.in_default.ensures

pub overflow_cast-result : goal.overflow_cast-result
overflow_cast-result c =
    omega (arith, few_elements c.args.types.now c.args.place _ _ _ (sound_below c.requires.0 c.requires.1) c.in-Some.ensures.0)

pub returns : goal.returns
returns c = its_length c.in-Some.ensures.0
