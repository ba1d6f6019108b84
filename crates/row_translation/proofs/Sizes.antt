-- What the rows, types and numbers of a write or a use measure where a term stands and there is room for it. Assumes nothing.
use mathlib.Core.Path.{◌≡◌}
use mathlib.Core.List.{List}
use Prim.Native.Nat.{ℕ, ◌≤◌, ◌<◌}
use native.Mathlib.Omega.{arith}
use lib.IntN.{ℤ}
use lib.ListN.{length, get_or}
use Rattle.row_translation.specs.WriteAndUse.{SomeTerm, Room}
use Rattle.clauses.specs.declared.State.{State}
use Rattle.row_translation.proofs.Calls.{bounds, typed}

abbrev pub Sizes : List ℕ → List ℤ → List ℕ → List ℕ → List ℤ → Type 0
Sizes ks ns C Y N =
    (1 ≤ length ks) × (length ks ≡ length ns) × (length ks ≤ length C) × (length ns ≤ length N) × (length N ≤ 65536) × (get_or C 0 0 < length Y)
    × (length Y ≤ 65536)

pub sizes : {ks : List ℕ} {ns : List ℤ} {C Y : List ℕ} {N : List ℤ} {T : List ℕ} {s : State} {m : ℕ} → SomeTerm ks ns C Y N T s → Room m Y N T s
    → Sizes ks ns C Y N
sizes {ks} {ns} {C} {Y} {N} {T} {s} X R =
    let b = bounds ks ns C Y N T s X.inputs X.variables X.expressions X.term X.stands in
    (b.0, b.1, b.2, b.3, R.plan, typed ks ns C Y N T s X.inputs X.variables X.expressions X.term X.stands, R.types.few)

-- the rows from one of them on
pub from_asks : (ks : List ℕ) (ns : List ℤ) (C Y : List ℕ) (N : List ℤ) {at : ℕ} → Sizes ks ns C Y N → at ≤ length ks
    → (at ≤ length ks) × (at ≤ length ns) × (at ≤ length C)
from_asks ks ns C Y N b h = (h, omega (arith, b.1, h), omega (arith, b.2, h))
