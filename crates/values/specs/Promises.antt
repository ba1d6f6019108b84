-- What the entry of `values` promises for every input: the name stands in its `ensures`, and the demands are drawn from it.
use Rattle.std.specs.Prelude.{List, ℕ, ℤ}
use Rattle.refusals.specs.Answers.{Answer}
use Rattle.values.specs.Values.{FillInto}

-- [10.16] `fill`: the text, how many cells it is to fill, the store as lent, the answer, the store as left
abbrev pub FillsStore : List ℕ → ℕ → List ℤ → Answer → List ℤ → Type 0
FillsStore t count store r store' = FillInto t count store r store'
