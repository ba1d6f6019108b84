-- What the word of a sound node tells of its type.
use mathlib.Core.Path.{◌≡◌, refl}
use mathlib.Core.List.{List}
use Prim.Native.Nat.{ℕ, zero, suc, ◌≤◌, ◌<◌}
use native.Mathlib.Omega.{arith}
use lib.ListN.{get_or}
use Rattle.type_table.specs.Nodes.{kind_in, left_in, right_in, shape_of, shape_in}
use Rattle.type_table.specs.Table.{by_kind, type_at, Sound, ShapeTold}
use Rattle.type_table.specs.Laws.{type_here}

module _ (T : List ℕ) (i : ℕ) where
  by_shape : (k m n : ℕ) → type_at T i ≡ by_kind k m (type_at T m) (type_at T n)
      → (k ≡ 1 → n < i) × (k ≡ 2 → (m < i) × (n < i)) × (3 ≤ k → 0 < i) → ShapeTold T i (shape_of k m n)
  by_shape zero m n e p = e
  by_shape (suc zero) m n e p = (e, p.0 refl)
  by_shape (suc (suc zero)) m n e p = let q = p.1 refl in (e, q.0, q.1)
  by_shape (suc (suc (suc k))) m n e p = (e, p.2 (omega arith))

  pub shape_told : Sound T (suc i) → ShapeTold T i (shape_in (get_or T i 0))
  shape_told S =
      let w = get_or T i 0 in
      let p = (S.each i (omega arith)).parts in
      by_shape (kind_in w) (left_in w) (right_in w) (type_here T i (omega (arith, S.room)) p) p
