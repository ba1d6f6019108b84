-- The rows of the index at a step of a path, as the code puts them. Assumes nothing.
use Rattle.std.specs.Prelude.{◌≡◌, ◌⊎◌, List, Bool, true, false, ℕ, suc, ◌-◌, ◌≤◌, drop, Option, Some}
use Rattle.std.proofs.Math.Path.{ap, sym}
use Rattle.std.proofs.Common.{◌∙◌, subst, inl, inr}
use Rattle.std.proofs.Math.IntN.{pos}
use Rattle.words.specs.Kinds.{Row, word_lit, word_ctr, word_plus, word_times, word_over, word_rest}
use Rattle.meaning.specs.Loops.{Offset}
use Rattle.meaning.specs.Paths.{by_part}
use Rattle.meaning.specs.Offsets.{leading_index, offset_from_innermost}
use Rattle.meaning.specs.Rows.{offset_rows}
use Rattle.emission.specs.Table.{Table, put_row, put_rows}
use Rattle.emission.specs.Changes.{path_of}
use Rattle.emission.specs.Laws.Table.{put_append}
use Rattle.emission.specs.Laws.PathSteps.{found_at, index_of, is_second, depth_in, found_right}
use Rattle.emission.specs.declared.paths.Found.{Found}
use Rattle.emission.specs.declared.paths.Found.TheVariants.{FirstPart, SecondPart, CounterAt, Same, OfGroup, Quotient, Remainder}

-- the rows of an offset, and of the index that was found, under c counters
abbrev pub rows_under : ℕ → Offset → List Row
rows_under c o = offset_rows (offset_from_innermost c o)

abbrev pub rows_found : List ℕ → ℕ → Option Found → List Row
rows_found C c g = rows_under c (index_of C g)

-- by what was found
module _ (C : List ℕ) (d j : ℕ) (s g : Option Found) (e : s ≡ found_at C d j) (f : s ≡ g) where
  pub index_by : (c : ℕ) (o o' : Table) → o' ≡ put_rows (rows_found C c g) o
      → o' ≡ put_rows (rows_under c (leading_index (drop j (path_of C d)))) o
  index_by c o o' h =
      h ∙ ap (λ (x : Offset). put_rows (rows_under c x) o) (ap (index_of C) (sym f ∙ e) ∙ sym (found_right C d j).its_index)

  pub second_by : (b : Bool) → b ≡ is_second g → b ≡ by_part (drop j (path_of C d)) false true
  second_by b h = h ∙ ap is_second (sym f ∙ e) ∙ sym (found_right C d j).its_part

  pub depth_by : depth_in g ≤ d
  depth_by = subst (λ (r : Option Found). depth_in r ≤ d) (sym e ∙ f) (found_right C d j).its_depth

-- a part stands for no index
pub part_index : (C : List ℕ) (c : ℕ) (o o' : Table) (g : Found) → (g ≡ FirstPart) ⊎ (g ≡ SecondPart) → o' ≡ put_rows (rows_under c (Offset.literal 0)) o
    → o' ≡ put_rows (rows_found C c (Some g)) o
part_index C c o o' g (inl e) h = h ∙ sym (ap (λ (x : Found). put_rows (rows_found C c (Some x)) o) e)
part_index C c o o' g (inr e) h = h ∙ sym (ap (λ (x : Found). put_rows (rows_found C c (Some x)) o) e)

module _ (C : List ℕ) (c : ℕ) (o o' : Table) where
  pub index_counter : (l n : ℕ) → n ≡ c - suc l → o' ≡ put_row o (word_ctr, pos n) → o' ≡ put_rows (rows_found C c (Some (CounterAt l))) o
  unfolding put_rows offset_rows
  index_counter l n e h = h ∙ ap (λ (x : ℕ). put_row o (word_ctr, pos x)) e

  pub index_literal : (v : ℕ) → o' ≡ put_row o (word_lit, pos v) → o' ≡ put_rows (rows_under c (Offset.literal v)) o
  unfolding put_rows offset_rows
  index_literal v h = h

  pub index_over : (n e : ℕ) (o₁ : Table) → o₁ ≡ put_row o (word_over, pos n) → o' ≡ put_rows (rows_found C c (Some (Same e))) o₁
      → o' ≡ put_rows (rows_found C c (Some (Quotient n e))) o
  unfolding put_rows offset_rows
  index_over n e o₁ p q = q ∙ ap (put_rows (rows_found C c (Some (Same e)))) p

  pub index_rest : (n e : ℕ) (o₁ : Table) → o₁ ≡ put_row o (word_rest, pos n) → o' ≡ put_rows (rows_found C c (Some (Same e))) o₁
      → o' ≡ put_rows (rows_found C c (Some (Remainder n e))) o
  unfolding put_rows offset_rows
  index_rest n e o₁ p q = q ∙ ap (put_rows (rows_found C c (Some (Same e)))) p

  pub index_group : (n e : ℕ) (o₁ o₂ o₃ : Table) → o₁ ≡ put_row o (word_plus, pos 0) → o₂ ≡ put_row o₁ (word_times, pos n)
      → o₃ ≡ put_rows (rows_found C c (Some (Same e))) o₂ → o' ≡ put_rows (rows_under c (leading_index (drop 1 (path_of C e)))) o₃
      → o' ≡ put_rows (rows_found C c (Some (OfGroup n e))) o
  unfolding put_rows offset_rows
  index_group n e o₁ o₂ o₃ p q r t =
      t
      ∙ ap (put_rows (rows_under c (leading_index (drop 1 (path_of C e)))))
      (r ∙ ap (put_rows (rows_found C c (Some (Same e)))) (q ∙ ap (λ (x : Table). put_row x (word_times, pos n)) p))
      ∙ sym (put_append (rows_found C c (Some (Same e))) (rows_under c (leading_index (drop 1 (path_of C e)))) (put_row (put_row o (word_plus, pos 0)) (word_times, pos n)))
