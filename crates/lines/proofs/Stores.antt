-- Runs of stores, taken one part after the other. Assumes nothing.
use mathlib.Core.Path.{◌≡◌, sym, ap, ◌∙◌}
use mathlib.Core.List.{List, [], ◌∷◌, ◌++◌}
use Prim.Native.Nat.{ℕ, suc, ◌+◌}
use native.Mathlib.Nat.{add-zero, add-suc, suc-add}
use lib.ListN.{length, set}
use lib.Seq.{sets}

module _ {A : Type 0} where
  pub sets_append : (l : List A) (i : ℕ) (xs ys : List A) → sets l i (xs ++ ys) ≡ sets (sets l i xs) (i + length xs) ys
  sets_append l i [] ys = ap (λ (n : ℕ). sets l n ys) (sym (add-zero i))
  sets_append l i (a ∷ xs) ys =
      sets_append (set l i a) (suc i) xs ys
      ∙ ap (λ (n : ℕ). sets (sets (set l i a) (suc i) xs) n ys) (suc-add i (length xs) ∙ sym (add-suc i (length xs)))
