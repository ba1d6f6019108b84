-- The cells of the inputs, and the numbers of a table. Assumes nothing.
use mathlib.Core.Path.{◌≡◌, refl, sym}
use mathlib.Core.List.{List}
use Prim.Native.Nat.{ℕ}
use lib.IntN.{ℤ, pos}
use lib.ListN.{get_or, get_or-map}
use Rattle.std.specs.List.{sum_by}
use Rattle.std.proofs.lemmas.List.Recursion.{is_sum_by}
use Rattle.meaning.specs.Runs.{entry}
use Rattle.meaning.specs.Layout.{all_cells}
use Rattle.syntax.specs.Ranges.{as_natural, cell_numbers}

pub input_here : (l : List ℤ) (k : ℕ) → as_natural (get_or l k (pos 0)) ≡ entry (cell_numbers l) k
input_here l k = sym (get_or-map as_natural l k (pos 0))

pub inputs_summed : (l : List ℤ) → sum_by as_natural l ≡ all_cells (cell_numbers l)
inputs_summed l = sym (is_sum_by (λ (x : List ℤ). all_cells (cell_numbers x)) as_natural refl (λ z x. refl) l)
