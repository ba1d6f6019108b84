-- Laws of the table of types: a node's type is made of the types at its parts' places, and a table that grows keeps
-- the types that it had.
use Rattle.std.specs.Prelude.{◌≡◌, refl, List, [], ◌∷◌, ◌++◌, ℕ, zero, suc, ◌+◌, ◌*◌, ◌≤◌, ◌<◌, length, get_or, take, drop, set, Option, Some, None}
use Rattle.std.proofs.Common.{ap, ap₂, sym, subst, ◌∙◌, arith, mul-le-mul_right, mul-le-mul_left, length-append, length-set, take-append-drop, get_or-set_same, get_or-set_other, length-take-le}
use Rattle.std.proofs.Math.Decide.{dec_lt}
use Rattle.std.proofs.Math.ListN.{get_or-append}
use Rattle.std.proofs.lemmas.List.{get_or_at, take-set-le}
use Rattle.std.proofs.Math.Seq.{split_at}
use Rattle.meaning.specs.Types.{DataType, number, array, vector, cells, levels}
use Rattle.meaning.specs.Limits.{TypeWithin, CellsWithin}
use Rattle.meaning.proofs.Laws.Bounds.{width_is_count}
use Rattle.type_table.specs.Nodes.{node_of, kind_in, levels_in, cells_in, left_in, right_in}
use Rattle.type_table.specs.Table.{by_kind, node_type, types_from, types_of, type_at, PartsBefore, SoundAt, Sound, Put, ArrayTold, PairTold, VectorTold}
use Rattle.type_table.specs.declared.ArrayShape.{ArrayShape}
use Rattle.type_table.specs.declared.PairShape.{PairShape}

-- what was put into a node comes out
module _ (k l c a b : ℕ) (hl : l < 256) (hc : c < 65536) (ha : a < 65536) (hb : b < 65536) where
  pub kind_node : kind_in (node_of k l c a b) ≡ k
  kind_node = omega arith

  pub levels_node : levels_in (node_of k l c a b) ≡ l
  levels_node = omega arith

  pub cells_node : cells_in (node_of k l c a b) ≡ c
  cells_node = omega arith

  pub left_node : left_in (node_of k l c a b) ≡ a
  left_node = omega arith

  pub right_node : right_in (node_of k l c a b) ≡ b
  right_node = omega arith

-- one type for each node
from_length : (B : List DataType) (T : List ℕ) → length (types_from B T) ≡ length B + length T
unfolding types_from
from_length B [] = omega arith
from_length B (w ∷ T) = from_length (B ++ (node_type B w ∷ [])) T ∙ omega (arith, length-append B (node_type B w ∷ []))

types_length : (T : List ℕ) → length (types_of T) ≡ length T
types_length T = from_length [] T ∙ omega arith

-- what stands before stays
from_keeps : (B : List DataType) (T : List ℕ) (i : ℕ) → i < length B → get_or (types_from B T) i number ≡ get_or B i number
unfolding types_from
from_keeps B [] i h = refl
from_keeps B (w ∷ T) i h =
    from_keeps (B ++ (node_type B w ∷ [])) T i (omega (arith, length-append B (node_type B w ∷ [])))
    ∙ get_or-append B (node_type B w ∷ []) number i h

from_append : (B : List DataType) (T U : List ℕ) → types_from B (T ++ U) ≡ types_from (types_from B T) U
unfolding types_from
from_append B [] U = refl
from_append B (w ∷ T) U = from_append (B ++ (node_type B w ∷ [])) T U

-- the types before a place are those of the nodes before it
pub type_before : (T : List ℕ) (n i : ℕ) → n ≤ length T → i < n → type_at T i ≡ type_at (take n T) i
type_before T n i h p =
    let e : length (types_of (take n T)) ≡ n = types_length (take n T) ∙ length-take-le n T h in
    ap (λ (U : List ℕ). type_at U i) (sym (take-append-drop n T))
    ∙ ap (λ (L : List DataType). get_or L i number) (from_append [] (take n T) (drop n T))
    ∙ from_keeps (types_of (take n T)) (drop n T) i (omega arith)

-- a node's type is over the types before it
node_here : (T : List ℕ) (i : ℕ) → i < length T → type_at T i ≡ node_type (types_of (take i T)) (get_or T i 0)
unfolding types_from
node_here T i h =
    let B = types_of (take i T) in
    let w = get_or T i 0 in
    let e : length B ≡ i = types_length (take i T) ∙ length-take-le i T (omega arith) in
    let k : length (B ++ (node_type B w ∷ [])) ≡ length B + 1 = length-append B (node_type B w ∷ []) in
    ap (λ (U : List ℕ). type_at U i) (split_at T i 0 h)
    ∙ ap (λ (L : List DataType). get_or L i number) (from_append [] (take i T) (w ∷ drop (suc i) T))
    ∙ from_keeps (B ++ (node_type B w ∷ [])) (drop (suc i) T) i (omega arith)
    ∙ get_or_at B (node_type B w) [] number i e

-- only the parts that a kind has matter
same_parts : (k n : ℕ) (s t u v : DataType) → (k ≡ 1 → t ≡ v) → (k ≡ 2 → (s ≡ u) × (t ≡ v)) → by_kind k n s t ≡ by_kind k n u v
same_parts zero n s t u v f g = refl
same_parts (suc zero) n s t u v f g = ap (array n) (f refl)
same_parts (suc (suc zero)) n s t u v f g = let h = g refl in ap₂ DataType.pair h.0 h.1
same_parts (suc (suc (suc k))) n s t u v f g = refl

-- a node whose parts stand before it is over the types at their places
module _ (T : List ℕ) (i : ℕ) (h : i < length T) (p : PartsBefore (get_or T i 0) i) where
  pub type_here : type_at T i ≡ node_type (types_of T) (get_or T i 0)
  type_here =
      let w = get_or T i 0 in
      node_here T i h
      ∙ same_parts (kind_in w) (left_in w) (type_at (take i T) (left_in w)) (type_at (take i T) (right_in w)) (type_at T (left_in w)) (type_at T (right_in w))
      (λ e. sym (type_before T i (right_in w) (omega arith) (p.0 e)))
      (λ e. (sym (type_before T i (left_in w) (omega arith) (p.1 e).0), sym (type_before T i (right_in w) (omega arith) (p.1 e).1)))

-- a type within the limits has a cell
pub some_cell : (t : DataType) → CellsWithin t → 1 ≤ cells t
some_cell number h = omega arith
some_cell (array n t) h =
    let m : 1 * cells t ≤ n * cells t = mul-le-mul_right (cells t) h.0 in
    omega (arith, some_cell t h.2)
some_cell (DataType.pair s t) h = omega (arith, some_cell s h.1)
some_cell (vector w) h = (width_is_count w h).0

-- an array within the limits is no longer than its cells
pub length_within : (n : ℕ) (t : DataType) → CellsWithin t → n ≤ n * cells t
length_within n t h =
    let m : n * 1 ≤ n * cells t = mul-le-mul_left n (some_cell t h) in
    omega arith

-- a shorter beginning of a sound table is sound
pub sound_below : {T : List ℕ} {m n : ℕ} → Sound T m → n ≤ m → Sound T n
sound_below S h = record { room = omega (arith, S.room); few = omega (arith, S.few); each = λ i p. S.each i (omega arith) }

not_less : (i n : ℕ) → (i < n → ⊥) → n ≤ i
not_less i n h = omega arith

-- a node put behind a sound table's nodes
module _ (T : List ℕ) (n w : ℕ) (S : Sound T n) (h : n < length T) where
  node_kept : (i : ℕ) → i < n → get_or (set T n w) i 0 ≡ get_or T i 0
  node_kept i p = get_or-set_other T n i w 0 (λ e. omega arith)

  pub type_kept : (i : ℕ) → i < n → type_at (set T n w) i ≡ type_at T i
  type_kept i p =
      type_before (set T n w) n i (omega (arith, length-set T n w)) p
      ∙ ap (λ (U : List ℕ). type_at U i) (take-set-le n T n w (omega arith))
      ∙ sym (type_before T n i (omega arith) p)

  sound_kept : (i : ℕ) → i < n → SoundAt (set T n w) i
  sound_kept i p =
      let A = S.each i p in
      record {
        parts = rw (node_kept i p) A.parts;
        its_cells = rw (node_kept i p, type_kept i p) A.its_cells;
        its_levels = rw (node_kept i p, type_kept i p) A.its_levels;
        within = rw (type_kept i p) A.within;
      }

  module _ (s : DataType) (few : n < 65536) (parts : PartsBefore w n) (is : node_type (types_of T) w ≡ s)
      (its-cells : cells_in w ≡ cells s) (its_levels_holds : levels_in w ≡ levels s) (within : TypeWithin s) where
    here : get_or (set T n w) n 0 ≡ w
    here = get_or-set_same T n w 0 h

    type_put : type_at (set T n w) n ≡ s
    type_put =
        type_here (set T n w) n (omega (arith, length-set T n w)) (rw here parts)
        ∙ ap (node_type (types_of (set T n w))) here
        ∙ same_parts (kind_in w) (left_in w) (type_at (set T n w) (left_in w)) (type_at (set T n w) (right_in w)) (type_at T (left_in w)) (type_at T (right_in w))
        (λ e. type_kept (right_in w) (parts.0 e))
        (λ e. (type_kept (left_in w) (parts.1 e).0, type_kept (right_in w) (parts.1 e).1))
        ∙ is

    sound_at : (i : ℕ) → i < suc n → Dec (i < n) → SoundAt (set T n w) i
    sound_at i p (yes q) = sound_kept i q
    sound_at i p (no q) =
        let e : n ≡ i = omega (arith, not_less i n q) in
        subst (λ (j : ℕ). SoundAt (set T n w) j) e
        record {
          parts = rw here parts;
          its_cells = rw (here, type_put) its-cells;
          its_levels = rw (here, type_put) its_levels_holds;
          within = rw type_put within;
        }

    pub node_put : Put T (set T n w) n s
    node_put =
        record {
          put = type_put;
          kept = type_kept;
          sound = record { room = omega (arith, length-set T n w); few = omega arith; each = λ i p. sound_at i p (dec_lt i n) };
          size = length-set T n w;
        }

-- what is told of an array, of a pair, and of a vector
module _ (T : List ℕ) (i : ℕ) where
  pub told_array : {a : ArrayShape} {r : Option ArrayShape} → r ≡ Some a → ArrayTold T i r
      → (type_at T i ≡ array a.length (type_at T a.element)) × (a.element < i)
  told_array q h = subst (ArrayTold T i) q h

  pub told_no_array : {r : Option ArrayShape} → r ≡ None → ArrayTold T i r
      → (n : ℕ) (t : DataType) → type_at T i ≡ array n t → ⊥
  told_no_array q h = subst (ArrayTold T i) q h

  pub told_pair : {p : PairShape} {r : Option PairShape} → r ≡ Some p → PairTold T i r
      → (type_at T i ≡ DataType.pair (type_at T p.first) (type_at T p.second)) × (p.first < i) × (p.second < i)
  told_pair q h = subst (PairTold T i) q h

  pub told_no_pair : {r : Option PairShape} → r ≡ None → PairTold T i r
      → (s t : DataType) → type_at T i ≡ DataType.pair s t → ⊥
  told_no_pair q h = subst (PairTold T i) q h

  pub told_vector : {n : ℕ} {r : Option ℕ} → r ≡ Some n → VectorTold T i r → (type_at T i ≡ vector n) × (0 < i)
  told_vector q h = subst (VectorTold T i) q h

  pub told_no_vector : {r : Option ℕ} → r ≡ None → VectorTold T i r → (n : ℕ) → type_at T i ≡ vector n → ⊥
  told_no_vector q h = subst (VectorTold T i) q h
