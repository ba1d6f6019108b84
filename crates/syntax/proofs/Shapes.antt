-- Which terms have no operand, three operands, or a second operand with a variable of its own. Assumes nothing.
use mathlib.Core.Path.{◌≡◌, refl, ap, sym, ◌∙◌}
use mathlib.Core.Bool.{Bool, true, false, cond}
use Prim.Native.Nat.{ℕ, ◌≤◌}
use native.Mathlib.Omega.{arith}
use lib.IntN.{ℤ}
use Rattle.arithmetic.specs.Arithmetic.{Operation}
use Rattle.words.specs.Kinds.{word_redseq}
use Rattle.words.specs.Groups.{one_of, is_map}
use Rattle.meaning.specs.Types.{Series}
use Rattle.meaning.specs.Terms.{LoopKind, Term}
use Rattle.meaning.specs.Rows.{operation_word, split_word, join_word, index_word}
use Rattle.syntax.specs.Laws.Each.{◌also◌}
use Rattle.syntax.specs.Laws.Heads.{each_operation, is_map_holds}
use Rattle.syntax.specs.Standing.{Shape, none, one, two, three, view_of, count_in, term_kind, operand_count, second_opens}

pub data Leaf : Term → Type 0 where
  input : (k : ℕ) → Leaf (Term.input k)
  variable : (d : ℕ) → Leaf (Term.variable d)
  literal : (v : ℤ) → Leaf (Term.literal v)

pub as_leaf : (e : Term) → operand_count e ≡ 0 → Leaf e
as_leaf (Term.input k) h = Leaf.input k
as_leaf (Term.variable d) h = Leaf.variable d
as_leaf (Term.literal v) h = Leaf.literal v
as_leaf (Term.negate e) h = absurd (omega arith)
as_leaf (Term.operation o e f) h = absurd (omega arith)
as_leaf (Term.map kind a b) h = absurd (omega arith)
as_leaf (Term.reduce z a b) h = absurd (omega arith)
as_leaf (Term.zip a b) h = absurd (omega arith)
as_leaf (Term.pair a b) h = absurd (omega arith)
as_leaf (Term.split series n e) h = absurd (omega arith)
as_leaf (Term.join series e) h = absurd (omega arith)
as_leaf (Term.first e) h = absurd (omega arith)
as_leaf (Term.second e) h = absurd (omega arith)
as_leaf (Term.index series k e) h = absurd (omega arith)

pub data Reduction : Term → Type 0 where
  of : (z a b : Term) → Reduction (Term.reduce z a b)

pub as_reduction : (e : Term) → 3 ≤ operand_count e → Reduction e
as_reduction (Term.input k) h = absurd (omega arith)
as_reduction (Term.variable d) h = absurd (omega arith)
as_reduction (Term.literal v) h = absurd (omega arith)
as_reduction (Term.negate e) h = absurd (omega arith)
as_reduction (Term.operation o e f) h = absurd (omega arith)
as_reduction (Term.map kind a b) h = absurd (omega arith)
as_reduction (Term.reduce z a b) h = Reduction.of z a b
as_reduction (Term.zip a b) h = absurd (omega arith)
as_reduction (Term.pair a b) h = absurd (omega arith)
as_reduction (Term.split series n e) h = absurd (omega arith)
as_reduction (Term.join series e) h = absurd (omega arith)
as_reduction (Term.first e) h = absurd (omega arith)
as_reduction (Term.second e) h = absurd (omega arith)
as_reduction (Term.index series k e) h = absurd (omega arith)

-- a reduction's word tells it
pub two_at_most : (e : Term) → (term_kind e ≡ word_redseq → ⊥) → operand_count e ≤ 2
two_at_most e f = go (view_of e).shape refl
  where
    its_kind : {g : Term} → Reduction g → term_kind g ≡ word_redseq
    its_kind (Reduction.of z a b) = refl

    go : (s : Shape) → (view_of e).shape ≡ s → count_in s ≤ 2
    go none q = omega arith
    go (one a) q = omega arith
    go (two a m b) q = omega arith
    go (three a b m c) q = absurd (f (its_kind (as_reduction e (omega (arith, ap count_in q)))))

-- ---- maps: the terms whose second operand has a variable of its own

pub data Map : Term → Type 0 where
  of : (kind : LoopKind) (a b : Term) → Map (Term.map kind a b)

pub as_map : (e : Term) → second_opens e ≡ 1 → Map e
as_map (Term.input k) h = absurd (omega arith)
as_map (Term.variable d) h = absurd (omega arith)
as_map (Term.literal v) h = absurd (omega arith)
as_map (Term.negate e) h = absurd (omega arith)
as_map (Term.operation o e f) h = absurd (omega arith)
as_map (Term.map kind a b) h = Map.of kind a b
as_map (Term.reduce z a b) h = absurd (omega arith)
as_map (Term.zip a b) h = absurd (omega arith)
as_map (Term.pair a b) h = absurd (omega arith)
as_map (Term.split series n e) h = absurd (omega arith)
as_map (Term.join series e) h = absurd (omega arith)
as_map (Term.first e) h = absurd (omega arith)
as_map (Term.second e) h = absurd (omega arith)
as_map (Term.index series k e) h = absurd (omega arith)

no_map_holds : (o : Operation) → is_map (operation_word o) ≡ false
unfolding one_of
no_map_holds o = each_operation (λ w. is_map w ≡ false) (refl also refl also refl also refl also refl also refl also tt) o

-- nor is a regrouping or an element, of arrays or of vectors
no_map_of : (series : Series) → (is_map (split_word series) ≡ false) × (is_map (join_word series) ≡ false) × (is_map (index_word series) ≡ false)
unfolding one_of
no_map_of Series.arrays = (refl, refl, refl)
no_map_of Series.vectors = (refl, refl, refl)

pub opens_map : (e : Term) → second_opens e ≡ cond (is_map (term_kind e)) 1 0
unfolding one_of
opens_map (Term.input k) = refl
opens_map (Term.variable d) = refl
opens_map (Term.literal v) = refl
opens_map (Term.negate e) = refl
opens_map (Term.operation o e f) = ap (λ (b : Bool). cond b 1 0) (sym (no_map_holds o))
opens_map (Term.map kind a b) = ap (λ (b : Bool). cond b 1 0) (sym (is_map_holds kind))
opens_map (Term.reduce z a b) = refl
opens_map (Term.zip a b) = refl
opens_map (Term.pair a b) = refl
opens_map (Term.split series n e) = ap (λ (b : Bool). cond b 1 0) (sym (no_map_of series).0)
opens_map (Term.join series e) = ap (λ (b : Bool). cond b 1 0) (sym (no_map_of series).1)
opens_map (Term.first e) = refl
opens_map (Term.second e) = refl
opens_map (Term.index series k e) = ap (λ (b : Bool). cond b 1 0) (sym (no_map_of series).2)

pub map_opens : (e : Term) → is_map (term_kind e) ≡ true → second_opens e ≡ 1
map_opens e h = opens_map e ∙ ap (λ (b : Bool). cond b 1 0) h
