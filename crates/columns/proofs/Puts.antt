-- A column with a row put in, by the library's laws of a list with an element put in: that row, and the others. Assumes nothing.
use mathlib.Core.Path.{◌≡◌}
use mathlib.Core.List.{List}
use mathlib.Core.Logic.{◌⊎◌}
use Prim.Native.Nat.{ℕ, suc, ◌≤◌, ◌<◌}
use native.Mathlib.Omega.{arith}
use lib.ListN.{length, get_or, set}
use Rattle.std.proofs.Math.Nat.{eq-or-lt_of_le}
use Rattle.std.proofs.lemmas.List.{get_or-set_same, get_or-set_other}

pub put_here : (l : List ℕ) (i x : ℕ) → i < length l → get_or (set l i x) i 0 ≡ x
put_here l i x h = get_or-set_same l i x 0 h

pub put_other : (l : List ℕ) (i j x : ℕ) → ¬ (j ≡ i) → get_or (set l i x) j 0 ≡ get_or l j 0
put_other l i j x h = get_or-set_other l i j x 0 h

pub put_there : (l : List ℕ) (i j x : ℕ) → i < j → get_or (set l i x) j 0 ≡ get_or l j 0
put_there l i j x h = put_other l i j x (λ e. absurd (omega (arith, h, e)))

pub here_or_later : (q p : ℕ) → q ≤ p → (q ≡ p) ⊎ (suc q ≤ p)
here_or_later q p h = eq-or-lt_of_le h
