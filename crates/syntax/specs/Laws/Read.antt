-- Rows of any sorts come to the same, whatever stands behind them. Assumes nothing.
use Rattle.std.specs.Prelude.{◌≡◌, refl, ℕ, ℤ, length, get_or, take, drop}
use Rattle.std.proofs.Common.{sym, ap, ◌∙◌, take_at}
use Rattle.std.proofs.Math.Path.{ap₂}
use mathlib.Core.List.{List, [], ◌∷◌, ◌++◌, append_assoc}
use Rattle.std.proofs.Math.Seq.{drop_at, get_or-append_seam}
use Rattle.words.specs.Kinds.{Row}
use Rattle.words.specs.declared.Sort.{Sort}
use Rattle.syntax.specs.Reading.{operands_among, read_rows}

-- ---- rows of any sorts

module _ {A : Type 0} (ss : List Sort) (make : ℕ → ℤ → List A → A) where
  -- the rows come to these, whatever stands behind
  abbrev pub Comes : List Row → List A → Type 0
  Comes a xs = (R : List Row) → read_rows ss make (a ++ R) ≡ xs ++ read_rows ss make R

  pub both : (a b : List Row) (x : A) (ys : List A) → Comes a (x ∷ []) → Comes b ys → Comes (a ++ b) (x ∷ ys)
  both a b x ys f g R = ap (read_rows ss make) (append_assoc a b R) ∙ f (b ++ R) ∙ ap (λ (l : List A). x ∷ l) (g R)

  pub row : (k : ℕ) (z : ℤ) (a : List Row) (xs : List A) → operands_among ss k ≡ length xs → ((S : List A) → make k z (xs ++ S) ≡ make k z xs) → Comes a xs → Comes ((k, z) ∷ a) (make k z xs ∷ [])
  unfolding read_rows
  row k z a xs e m f R =
      ap₂ (λ (y : A) (l : List A). y ∷ l) (ap (make k z) (f R) ∙ m (read_rows ss make R))
      (ap (drop (operands_among ss k)) (f R) ∙ drop_at xs (read_rows ss make R) (operands_among ss k) (sym e))

  -- the rows of a tree come to one part, which has the tree
  abbrev pub Has : {X : Type 0} → (X → List Row) → (A → X) → X → Type 0
  Has rows tree x = (y : A) × (tree y ≡ x) × Comes (rows x) (y ∷ [])

  -- a row over no, one, two and three trees
  pub none : {X : Type 0} (rows : X → List Row) (tree : A → X) (k : ℕ) (z : ℤ) (x : X) → rows x ≡ (k, z) ∷ []
      → operands_among ss k ≡ 0 → ((S : List A) → make k z S ≡ make k z []) → tree (make k z []) ≡ x → Has rows tree x
  none rows tree k z x r e m t = (make k z [], t, rw r (row k z [] [] e m (λ R. refl)))

  pub one : {X Y : Type 0} (rowsX : X → List Row) (treeX : A → X) (rowsY : Y → List Row) (treeY : A → Y) (k : ℕ) (z : ℤ) (f : X → Y) (x : X) → rowsY (f x) ≡ (k, z) ∷ rowsX x → operands_among ss k ≡ 1
      → ((a : A) (S : List A) → make k z (a ∷ S) ≡ make k z (a ∷ [])) → ((a : A) → treeY (make k z (a ∷ [])) ≡ f (treeX a)) → Has rowsX treeX x → Has rowsY treeY (f x)
  one rowsX treeX rowsY treeY k z f x r e m t h =
      (make k z (h.0 ∷ []), t h.0 ∙ ap f h.1, rw r (row k z (rowsX x) (h.0 ∷ []) e (m h.0) h.2))

  pub two : {X Y Z : Type 0} (rowsX : X → List Row) (treeX : A → X) (rowsY : Y → List Row) (treeY : A → Y) (rowsZ : Z → List Row) (treeZ : A → Z) (k : ℕ) (z : ℤ) (f : X → Y → Z) (x : X) (y : Y)
      → rowsZ (f x y) ≡ (k, z) ∷ (rowsX x ++ rowsY y) → operands_among ss k ≡ 2
      → ((a b : A) (S : List A) → make k z (a ∷ b ∷ S) ≡ make k z (a ∷ b ∷ [])) → ((a b : A) → treeZ (make k z (a ∷ b ∷ [])) ≡ f (treeX a) (treeY b))
      → Has rowsX treeX x → Has rowsY treeY y → Has rowsZ treeZ (f x y)
  two rowsX treeX rowsY treeY rowsZ treeZ k z f x y r e m t h g = (
    make k z (h.0 ∷ g.0 ∷ []),
    t h.0 g.0 ∙ ap₂ f h.1 g.1,
    rw r (row k z (rowsX x ++ rowsY y) (h.0 ∷ g.0 ∷ []) e (m h.0 g.0) (both (rowsX x) (rowsY y) h.0 (g.0 ∷ []) h.2 g.2)),
  )

-- ---- the parts of a row of inputs, and what stands behind them
module _ {A : Type 0} (xs : List A) (y : A) (S : List A) (K : ℕ) (e : length xs ≡ K) where
  pub inputs_front : take K (xs ++ (y ∷ S)) ≡ xs
  inputs_front = take_at xs (y ∷ S) K e

  pub behind_inputs : (d : A) → get_or (xs ++ (y ∷ S)) K d ≡ y
  behind_inputs d = ap (λ (n : ℕ). get_or (xs ++ (y ∷ S)) n d) (sym e) ∙ get_or-append_seam xs y S d
