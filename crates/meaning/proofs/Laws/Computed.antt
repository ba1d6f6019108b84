-- What the computed tests say of plans: whether they have a type, and the rows that are made of them. Assumes nothing.
use Rattle.std.specs.Prelude.{Bool, true, false, List, [], map, ℕ, pos}
use Rattle.std.proofs.Math.Option.{Option, none, some}
use Rattle.words.specs.Kinds.{Row}
use Rattle.meaning.specs.Types.{DataType}
use Rattle.meaning.specs.Terms.{Term, Plan}
use Rattle.meaning.specs.Translation.{translation}
use Rattle.meaning.specs.Rows.{command_rows}
use Rattle.meaning.proofs.Laws.Inference.{infer}

-- a plan with these inputs
abbrev pub plan : List DataType → Term → Plan
plan I e = record { inputs = I; term = e }

-- whether it has a type
unfoldable pub is_some : Option DataType → Bool
is_some none = false
is_some (some t) = true

unfoldable pub typed : Plan → Bool
typed P = is_some (infer P.inputs [] P.term)

-- the rows of the command that is made of it; and rows, by kind and number
unfoldable pub command_of : Plan → List Row
command_of P = command_rows (translation P).command

unfoldable pub rows : List (ℕ × ℕ) → List Row
rows l = map (λ (x : ℕ × ℕ). (x.0, pos x.1)) l
