-- Paths into a value, made of the steps of [6.18]: the paper's access paths, section 4.3. Definitions only; assumes nothing.
use Rattle.std.specs.Prelude.{List, [], ◌∷◌}

-- A step goes to an element, at an index, or to a part of a pair. Indices are offsets here, and numbers in the laws.
pub data Step (A : Type 0) : Type 0 where
  index : A → Step A
  first : Step A
  second : Step A

abbrev pub Path : Type 0 → Type 0
Path A = List (Step A)

module _ {A : Type 0} where
  -- the index that a path begins with, or else d
  abbrev pub head_index : A → Path A → A
  head_index d [] = d
  head_index d (index i ∷ p) = i
  head_index d (first ∷ p) = d
  head_index d (second ∷ p) = d

  abbrev pub tail : Path A → Path A
  tail [] = []
  tail (x ∷ p) = p

  -- y if a path begins with a second part, else x
  abbrev pub by_part : {B : Type 0} → Path A → B → B → B
  by_part [] x y = x
  by_part (index i ∷ p) x y = x
  by_part (first ∷ p) x y = x
  by_part (second ∷ p) x y = y
