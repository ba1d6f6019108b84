-- Values put into their cells line after line, as the code goes. Definitions only; assumes nothing.
use Rattle.std.specs.Prelude.{List, [], ◌∷◌, ℤ, set}
use Rattle.words.specs.Kinds.{Row}

-- each row's number put at the row's cell
unfoldable pub stored : List Row → List ℤ → List ℤ
stored [] s = s
stored (r ∷ rs) s = stored rs (set s r.0 r.1)
