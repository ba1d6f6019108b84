-- What holds between a vector and an array of as many numbers holds between every series and the array of its elements: one lemma for every
-- such relation of types, [18.2]. Assumes nothing.
use Rattle.std.specs.Prelude.{◌≡◌, ℕ}
use Rattle.std.proofs.Common.{sym, subst}
use Rattle.meaning.specs.Types.{DataType, Series, array_length, element, series_of, number, array, vector}
use Rattle.meaning.proofs.Laws.Typing.{IsSeries, MayBeIn}

module _ (Same : DataType → DataType → Type 0) (same : (t : DataType) → Same t t) (as-numbers : (w : ℕ) → Same (vector w) (array w number)) where
  -- n elements of type t
  pub by_series : (series : Series) (n : ℕ) (t : DataType) → MayBeIn series t → Same (series_of series n t) (array n t)
  by_series Series.arrays n t h = same (array n t)
  by_series Series.vectors n t h = subst (λ (s : DataType). Same (vector n) (array n s)) (sym h) (as-numbers n)

  -- the elements of a type
  pub by_elements : (series : Series) (t : DataType) → IsSeries series t → Same t (array (array_length t) (element t))
  by_elements series t h =
      subst (λ (s : DataType). Same s (array (array_length s) (element s))) (sym h) (go series (array_length t) (element t))
    where
      go : (series : Series) (n : ℕ) (t : DataType)
          → Same (series_of series n t) (array (array_length (series_of series n t)) (element (series_of series n t)))
      go Series.arrays n t = same (array n t)
      go Series.vectors n t = as-numbers n
