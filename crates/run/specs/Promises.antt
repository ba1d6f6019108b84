-- What the entries of `run` promise for every input: each name stands in the `ensures` of its entries, and the demands are drawn from it. A
-- store is cells and bytes, as lent and as left.
use Rattle.std.specs.Prelude.{◌≡◌, List, ℕ, ℤ, Err}
use Rattle.refusals.specs.Answers.{Answer}
use Rattle.own_words.specs.Under.{Under}
use Rattle.words.specs.Kinds.{rows_of}
use Rattle.store.specs.Store.{store_of, frame_of}
use Rattle.run.specs.Run.{outcome, run_table, run_text}

-- [9.11] Every entry: as many cells and bytes as before, and the same left over
abbrev pub KeepsFrame : List ℤ → List ℕ → List ℤ → List ℕ → Type 0
KeepsFrame cells bytes cells' bytes' = frame_of cells' bytes' ≡ frame_of cells bytes

-- [10.16], [10.17] `run_rows`: the kinds, the numbers, the order, the store as lent, the answer, the store as left
abbrev pub RunsRows : List ℕ → List ℤ → ℕ → List ℤ → List ℕ → Answer → List ℤ → List ℕ → Type 0
RunsRows kinds numbers order cells bytes r cells' bytes' =
    outcome r (store_of cells' bytes') ≡ run_table (rows_of kinds numbers) order (store_of cells bytes)

-- [10.16], [10.17] `run_text`: the text, the order, the store as lent, the answer, the store as left
abbrev pub RunsText : List (List ℕ) → List ℕ → ℕ → List ℤ → List ℕ → Answer → List ℤ → List ℕ → Type 0
RunsText ws t order cells bytes r cells' bytes' = outcome r (store_of cells' bytes') ≡ run_text ws t order (store_of cells bytes)

-- [16.6], [16.7] `run_text_in`, which is given a words text w: the same with its own words, or its refusal
abbrev pub RunsTextIn : List ℕ → List ℕ → ℕ → List ℤ → List ℕ → Answer → List ℤ → List ℕ → Type 0
RunsTextIn w t order cells bytes r cells' bytes' =
    Under w (λ ws. RunsText ws t order cells bytes r cells' bytes') (λ q. (r ≡ Err q) × (cells' ≡ cells) × (bytes' ≡ bytes))
