-- The words that are put into the table say their types.
use mathlib.Core.Path.{◌≡◌, refl, ◌∙◌}
use mathlib.Core.List.{List}
use Prim.Native.Nat.{ℕ, ◌+◌, ◌*◌, ◌≤◌, ◌<◌, max}
use native.Mathlib.Omega.{arith}
use lib.ListN.{length, set}
use Rattle.meaning.specs.Types.{DataType, number, array, vector, cells, levels}
use Rattle.meaning.specs.Limits.{IsCount, IsWidth}
use Rattle.meaning.proofs.Laws.Bounds.{width_is_count}
use Rattle.type_table.specs.Nodes.{node_of}
use Rattle.type_table.specs.Table.{by_kind, node_type, types_of, type_at, Sound, Put}
use Rattle.type_table.specs.Laws.{kind_node, levels_node, cells_node, left_node, right_node, length_within, node_put}

-- the type that a node of these fields stands for
node_type_holds : (T : List ℕ) (k l c a b : ℕ) → l < 256 → c < 65536 → a < 65536 → b < 65536
    → node_type (types_of T) (node_of k l c a b) ≡ by_kind k a (type_at T a) (type_at T b)
node_type_holds T k l c a b hl hc ha hb =
    rw (kind_node k l c a b hl hc ha hb, left_node k l c a b hl hc ha hb, right_node k l c a b hl hc ha hb)

pub number_put : (T : List ℕ) → 0 < length T → Put T (set T 0 (node_of 0 1 1 0 0)) 0 number
number_put T h =
    node_put T 0 (node_of 0 1 1 0 0)
    record { room = omega arith; few = omega arith; each = λ i p. absurd (omega arith) }
    h number (omega arith)
    ((λ e. absurd (omega arith)), (λ e. absurd (omega arith)), (λ e. absurd (omega arith)))
    refl refl refl (tt, omega arith)

module _ (T : List ℕ) (n : ℕ) (S : Sound T n) (h : n < length T) (few : n < 65536) where
  pub array_put : (m e l c : ℕ) → e < n → 1 ≤ m → m * cells (type_at T e) ≤ 4096 → levels (type_at T e) < 8
      → l ≡ 1 + levels (type_at T e) → c ≡ m * cells (type_at T e)
      → Put T (set T n (node_of 1 l c m e)) n (array m (type_at T e))
  array_put m e l c p q r s el ec =
      let W = (S.each e p).within in
      let b = length_within m (type_at T e) W.0 in
      let hl : l < 256 = omega arith in
      let hc : c < 65536 = omega arith in
      let hm : m < 65536 = omega arith in
      let he : e < 65536 = omega arith in
      let k = kind_node 1 l c m e hl hc hm he in
      node_put T n (node_of 1 l c m e) S h (array m (type_at T e)) few
      ((λ _. rw (right_node 1 l c m e hl hc hm he) p), (λ f. absurd (omega (arith, k))), (λ f. absurd (omega (arith, k))))
      (node_type_holds T 1 l c m e hl hc hm he)
      (cells_node 1 l c m e hl hc hm he ∙ ec)
      (levels_node 1 l c m e hl hc hm he ∙ omega arith)
      ((q, r, W.0), omega arith)

  pub pair_put : (a b l c : ℕ) → a < n → b < n → cells (type_at T a) + cells (type_at T b) ≤ 4096
      → max (levels (type_at T a)) (levels (type_at T b)) < 8
      → l ≡ 1 + max (levels (type_at T a)) (levels (type_at T b)) → c ≡ cells (type_at T a) + cells (type_at T b)
      → Put T (set T n (node_of 2 l c a b)) n (DataType.pair (type_at T a) (type_at T b))
  pair_put a b l c p q r s el ec =
      let hl : l < 256 = omega arith in
      let hc : c < 65536 = omega arith in
      let ha : a < 65536 = omega arith in
      let hb : b < 65536 = omega arith in
      let k = kind_node 2 l c a b hl hc ha hb in
      node_put T n (node_of 2 l c a b) S h (DataType.pair (type_at T a) (type_at T b)) few
      ((λ f. absurd (omega (arith, k))), (λ _. (rw (left_node 2 l c a b hl hc ha hb) p, rw (right_node 2 l c a b hl hc ha hb) q)), (λ f. absurd (omega (arith, k))))
      (node_type_holds T 2 l c a b hl hc ha hb)
      (cells_node 2 l c a b hl hc ha hb ∙ ec)
      (levels_node 2 l c a b hl hc ha hb ∙ omega arith)
      ((r, (S.each a p).within.0, (S.each b q).within.0), omega arith)

  pub vector_put : (w : ℕ) → 0 < n → IsWidth w → Put T (set T n (node_of 3 2 w w 0)) n (vector w)
  vector_put w some h' =
      let count : IsCount w = width_is_count w h' in
      let hw : w < 65536 = omega (arith, count.1) in
      let k = kind_node 3 2 w w 0 (omega arith) hw hw (omega arith) in
      node_put T n (node_of 3 2 w w 0) S h (vector w) few
      ((λ f. absurd (omega (arith, k))), (λ f. absurd (omega (arith, k))), (λ f. some))
      (node_type_holds T 3 2 w w 0 (omega arith) hw hw (omega arith))
      (cells_node 3 2 w w 0 (omega arith) hw hw (omega arith))
      (levels_node 3 2 w w 0 (omega arith) hw hw (omega arith))
      (h', omega arith)
