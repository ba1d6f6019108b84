-- Offsets evaluated. An offset's number under some counters, and its bound, both add up as the offset does; so for
-- both the offset of a path comes to the cell that the path leads to.
use Rattle.std.specs.Prelude.{◌≡◌}
use Rattle.std.proofs.Math.Path.{refl, ap₂}
use Rattle.std.proofs.Common.{◌∙◌}
use mathlib.Core.List.{List, [], ◌∷◌}
use Prim.Native.Nat.{ℕ, ◌+◌, ◌*◌, ◌<◌}
use Rattle.std.proofs.Math.Nat.{add_assoc}
use native.Mathlib.Omega.{arith}
use Rattle.meaning.specs.Types.{DataType, cells, number, array, vector}
use Rattle.meaning.specs.Loops.{Offset, plus, times}
use Rattle.meaning.specs.Paths.{Path, index, first, second}
use Rattle.meaning.specs.Offsets.{summands, sum_onto, sum_of, offset_of}
use Rattle.meaning.proofs.Laws.Paths.{PathOf, cell_of, same_vector}

-- Paths of offsets, and the paths of numbers that they come to

abbrev pub path_by : (Offset → ℕ) → Path Offset → Path ℕ
path_by ev [] = []
path_by ev (index o ∷ p) = index (ev o) ∷ path_by ev p
path_by ev (first ∷ p) = first ∷ path_by ev p
path_by ev (second ∷ p) = second ∷ path_by ev p

pub along_array : (ev : Offset → ℕ) (n : ℕ) (t : DataType) (B : Path Offset → Type 0)
    → ((o : Offset) (p : Path Offset) → ev o < n → PathOf t (path_by ev p) → B (index o ∷ p))
    → (p : Path Offset) → PathOf (array n t) (path_by ev p) → B p
along_array ev n t B h [] ok = absurd ok
along_array ev n t B h (index i ∷ p) ok = h i p ok.0 ok.1
along_array ev n t B h (first ∷ p) ok = absurd ok
along_array ev n t B h (second ∷ p) ok = absurd ok

pub along_pair : (ev : Offset → ℕ) (s t : DataType) (B : Path Offset → Type 0)
    → ((p : Path Offset) → PathOf s (path_by ev p) → B (first ∷ p))
    → ((p : Path Offset) → PathOf t (path_by ev p) → B (second ∷ p))
    → (p : Path Offset) → PathOf (DataType.pair s t) (path_by ev p) → B p
along_pair ev s t B h k [] ok = absurd ok
along_pair ev s t B h k (index i ∷ p) ok = absurd ok
along_pair ev s t B h k (first ∷ p) ok = h p ok
along_pair ev s t B h k (second ∷ p) ok = k p ok

-- Sums

pub record Additive (ev : Offset → ℕ) : Type 0 where
  pub of_literal : (v : ℕ) → ev (Offset.literal v) ≡ v
  pub of_plus : (x y : Offset) → ev (plus x y) ≡ ev x + ev y
  pub of_times : (n : ℕ) (x : Offset) → ev (times n x) ≡ n * ev x

unfoldable pub total_by : (Offset → ℕ) → List Offset → ℕ
total_by ev [] = 0
total_by ev (x ∷ xs) = ev x + total_by ev xs

module _ (ev : Offset → ℕ) (add : Additive ev) where
  sum_onto_total : (o : Offset) (xs : List Offset) → ev (sum_onto o xs) ≡ ev o + total_by ev xs
  unfolding total_by
  sum_onto_total o [] = omega arith
  sum_onto_total o (x ∷ xs) =
      sum_onto_total (plus o x) xs
      ∙ ap₂ ◌+◌ (add.of_plus o x) refl
      ∙ add_assoc (ev o) (ev x) (total_by ev xs)

  pub sum_total : (xs : List Offset) → ev (sum_of xs) ≡ total_by ev xs
  unfolding total_by
  sum_total [] = add.of_literal 0
  sum_total (x ∷ xs) = sum_onto_total x xs

  pub summands_total : (t : DataType) (p : Path Offset)
      → PathOf t (path_by ev p) → total_by ev (summands t p) ≡ cell_of t (path_by ev p)
  unfolding total_by
  summands_total number p ok = refl
  summands_total (array n t) p ok =
      along_array ev n t (λ r. total_by ev (summands (array n t) r) ≡ cell_of (array n t) (path_by ev r))
      (λ o r h k. ap₂ ◌+◌ (add.of_times (cells t) o) (summands_total t r k))
      p ok
  summands_total (DataType.pair s t) p ok =
      along_pair ev s t (λ r. total_by ev (summands (DataType.pair s t) r) ≡ cell_of (DataType.pair s t) (path_by ev r))
      (λ r k. summands_total s r k)
      (λ r k. ap₂ ◌+◌ (add.of_literal (cells s)) (summands_total t r k))
      p ok
  summands_total (vector w) p ok =
      along_array ev w number (λ r. total_by ev (summands (vector w) r) ≡ cell_of (vector w) (path_by ev r))
      (λ o r h k. ap₂ ◌+◌ (add.of_times 1 o) refl)
      p ((same_vector w).to (path_by ev p) ok)

  -- the offset of a path is its cell
  pub offset_is_cell : (t : DataType) (p : Path Offset)
      → PathOf t (path_by ev p) → ev (offset_of t p) ≡ cell_of t (path_by ev p)
  offset_is_cell t p ok = sum_total (summands t p) ∙ summands_total t p ok
