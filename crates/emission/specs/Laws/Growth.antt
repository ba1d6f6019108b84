-- A table of references that grows keeps what its nodes stand for. Assumes nothing.
use Rattle.std.specs.Prelude.{◌≡◌, refl, List, ℕ, ◌<◌, ◌≤◌, length, set, take}
use Rattle.std.proofs.Common.{ap, ap₂, sym, ◌∙◌, arith, length-set, take-take, get_or-set_same}
use Rattle.std.proofs.lemmas.List.{take-set-le}
use Rattle.emission.specs.Nodes.{left_in, right_in}
use Rattle.emission.specs.References.{node_at}
use Rattle.emission.specs.Growth.{Grown, Pushed}
use Rattle.emission.specs.Laws.Nodes.{node_made, node_agrees}

pub grown_none : (T : List ℕ) (len : ℕ) → length T ≡ 1024 → Grown T T len
grown_none T len h = record { same = refl; size = h }

pub grown_more : (T U W : List ℕ) (m n : ℕ) → m ≤ n → Grown T U m → Grown U W n → Grown T W m
grown_more T U W m n h p q = record {
  same = sym (take-take m n W h) ∙ ap (take m) q.same ∙ take-take m n U h ∙ p.same;
  size = q.size;
}

pub pushed : (T U : List ℕ) (len w w' : ℕ) → len < 1024 → length T ≡ 1024 → w ≡ w' → U ≡ set T len w → Pushed T U len w'
pushed T U len w w' h s e u =
    rw (u, sym e)
    record {
      grown = record { same = take-set-le len T len w (omega arith); size = length-set T len w ∙ s };
      node = get_or-set_same T len w 0 (omega (arith, h, s));
    }

module _ {A : Type 0} (nothing : A) (make : ℕ → A → A → A) (T U : List ℕ) (len : ℕ) where
  pub node_kept : (i : ℕ) → i < len → Grown T U len → node_at nothing make U i ≡ node_at nothing make T i
  node_kept i h g = node_agrees nothing make U T len i h g.same

  -- the node put is over what its operands stood for
  pub node_pushed : (w : ℕ) → Pushed T U len w → left_in w < len → right_in w < len
      → node_at nothing make U len ≡ make w (node_at nothing make T (left_in w)) (node_at nothing make T (right_in w))
  node_pushed w p ha hb =
      node_made nothing make U len w p.node ha hb
      ∙ ap₂ (make w) (node_kept (left_in w) ha p.grown) (node_kept (right_in w) hb p.grown)
