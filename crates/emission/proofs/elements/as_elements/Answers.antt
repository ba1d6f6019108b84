-- `as_elements` meets its contract: an array and a vector have elements; a number and a pair have none.
use Rattle.emission.specs.Laws.Elements.{tell_array, tell_vector, tell_no_elements}
use Rattle.emission.proofs.elements.as_elements.Goals as goal

pub returns-in-Array : goal.returns-in-Array
returns-in-Array c = tell_array c.args.types.now c.args.place _ _ c.in-Array.ensures

pub returns-in-Vector : goal.returns-in-Vector
returns-in-Vector c = tell_vector c.args.types.now c.args.place _ c.requires c.in-Vector.ensures

pub returns-in-Number : goal.returns-in-Number
returns-in-Number c = tell_no_elements c.args.types.now c.args.place _ c.shape_at.ensures c.in-Number.is
