-- Numbers in rising order, and doing something for each of a list in turn. Definitions only; assumes nothing.
use Rattle.std.specs.Prelude.{List, [], ◌∷◌, ℕ, zero, suc}

-- k numbers from i on: i, i + 1, ..
abbrev pub up_from : ℕ → ℕ → List ℕ
up_from i zero = []
up_from i (suc k) = i ∷ up_from (suc i) k

-- what begins as x is changed by each of the list in turn, first to last
abbrev pub in_turn : {A B : Type 0} → List B → (B → A → A) → A → A
in_turn [] change x = x
in_turn (b ∷ bs) change x = in_turn bs change (change b x)
