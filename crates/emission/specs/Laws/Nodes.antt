-- Laws of nodes: what was put into one comes out, and a node whose operands stand before it is made of what they stand for.
-- Assumes nothing.
use Rattle.std.specs.Prelude.{◌≡◌, Bool, true, false, cond, ltb, get_or, length, take}
use Rattle.std.proofs.Math.Path.{refl, ap}
use Rattle.std.proofs.Common.{sym, ◌∙◌, arith, take-take, get_or-take}
use mathlib.Core.List.{List, [], ◌∷◌, ◌++◌}
use Prim.Native.Nat.{ℕ, zero, suc, ◌<◌, ◌≤◌}
use Rattle.std.proofs.Math.Decide.{dec_lt}
use Rattle.std.proofs.Math.ListN.{length-append, get_or-append}
use Rattle.std.proofs.lemmas.List.{get_or_at}
use borrow.Author.Tests.{lt-ltb, le-ltb}
use Rattle.emission.specs.Nodes.{node_of, kind_in, type_in, number_in, left_in, right_in}
use Rattle.emission.specs.References.{node_over, first_nodes, node_at}

module _ (k t n a b : ℕ) (ht : t < 65536) (hn : n < 65536) (ha : a < 4096) (hb : b < 4096) where
  pub kind_node : kind_in (node_of k t n a b) ≡ k
  kind_node = omega arith

  pub type_node : type_in (node_of k t n a b) ≡ t
  type_node = omega arith

  pub number_node : number_in (node_of k t n a b) ≡ n
  number_node = omega arith

  pub left_node : left_in (node_of k t n a b) ≡ a
  left_node = omega arith

  pub right_node : right_in (node_of k t n a b) ≡ b
  right_node = omega arith

not_less : (i n : ℕ) → (i < n → ⊥) → n ≤ i
not_less i n h = omega arith

module _ {A : Type 0} (nothing : A) (make : ℕ → A → A → A) where
  nodes_length : (T : List ℕ) (n : ℕ) → length (first_nodes nothing make T n) ≡ n
  unfolding first_nodes
  nodes_length T zero = refl
  nodes_length T (suc n) = length-append (first_nodes nothing make T n) _ ∙ omega (arith, nodes_length T n)

  last_or_before : (T : List ℕ) (n i : ℕ) → Dec (i < n) → i < suc n
      → (i < n → get_or (first_nodes nothing make T n) i nothing ≡ node_at nothing make T i)
      → get_or (first_nodes nothing make T n ++ (node_at nothing make T n ∷ [])) i nothing ≡ node_at nothing make T i
  last_or_before T n i (yes p) h f =
      get_or-append (first_nodes nothing make T n) _ nothing i (omega (arith, nodes_length T n)) ∙ f p
  last_or_before T n i (no p) h f =
      let e : length (first_nodes nothing make T n) ≡ i = omega (arith, nodes_length T n, not_less i n p) in
      let g : n ≡ i = omega (arith, not_less i n p) in
      get_or_at (first_nodes nothing make T n) (node_at nothing make T n) [] nothing i e ∙ ap (node_at nothing make T) g

  before_at : (T : List ℕ) (n i : ℕ) → i < n → get_or (first_nodes nothing make T n) i nothing ≡ node_at nothing make T i
  unfolding first_nodes node_at
  before_at T zero i h = absurd (omega arith)
  before_at T (suc n) i h = last_or_before T n i (dec_lt i n) h (λ p. before_at T n i p)

  -- a node whose operands stand before it
  pub node_made : (T : List ℕ) (i w : ℕ) → get_or T i 0 ≡ w → left_in w < i → right_in w < i
      → node_at nothing make T i ≡ make w (node_at nothing make T (left_in w)) (node_at nothing make T (right_in w))
  unfolding node_at
  node_made T i w e ha hb =
      rw (e, lt-ltb (left_in w) i ha, lt-ltb (right_in w) i hb, before_at T i (left_in w) ha, before_at T i (right_in w) hb) refl

  -- one of its operands does not
  pub nothing_left : (T : List ℕ) (i : ℕ) → i ≤ left_in (get_or T i 0) → node_at nothing make T i ≡ nothing
  unfolding node_at
  nothing_left T i h = rw (le-ltb (left_in (get_or T i 0)) i h) refl

  either : (b : Bool) → cond b nothing nothing ≡ nothing
  either true = refl
  either false = refl

  pub nothing_right : (T : List ℕ) (i : ℕ) → i ≤ right_in (get_or T i 0) → node_at nothing make T i ≡ nothing
  unfolding node_at
  nothing_right T i h = rw (le-ltb (right_in (get_or T i 0)) i h) (either (ltb (left_in (get_or T i 0)) i))

  -- node 0 has none before it
  pub nothing_first : (T : List ℕ) → node_at nothing make T 0 ≡ nothing
  nothing_first T = nothing_left T 0 (omega arith)

  -- tables that agree below n have the same nodes there
  module _ (T U : List ℕ) where
    take_less : (m n : ℕ) → m ≤ n → take n T ≡ take n U → take m T ≡ take m U
    take_less m n h e = sym (take-take m n T h) ∙ ap (take m) e ∙ take-take m n U h

    same_node : (n i : ℕ) → i < n → take n T ≡ take n U → get_or T i 0 ≡ get_or U i 0
    same_node n i h e = sym (get_or-take n T i 0 h) ∙ ap (λ (l : List ℕ). get_or l i 0) e ∙ get_or-take n U i 0 h

    before_agree : (n : ℕ) → take n T ≡ take n U → first_nodes nothing make T n ≡ first_nodes nothing make U n
    unfolding first_nodes
    before_agree zero e = refl
    before_agree (suc n) e =
        ap (λ (w : ℕ). first_nodes nothing make T n ++ (node_over nothing make (first_nodes nothing make T n) w n ∷ [])) (same_node (suc n) n (omega arith) e)
        ∙ ap (λ (l : List A). l ++ (node_over nothing make l (get_or U n 0) n ∷ [])) (before_agree n (take_less n (suc n) (omega arith) e))

    pub node_agrees : (n i : ℕ) → i < n → take n T ≡ take n U → node_at nothing make T i ≡ node_at nothing make U i
    unfolding node_at
    node_agrees n i h e =
        ap (λ (w : ℕ). node_over nothing make (first_nodes nothing make T i) w i) (same_node n i h e)
        ∙ ap (λ (l : List A). node_over nothing make l (get_or U i 0) i) (before_agree i (take_less i n (omega arith) e))
