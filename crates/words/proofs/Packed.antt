-- The code's table is the table of words, packed: what its columns tell of the entry. Assumes nothing.
use Rattle.std.specs.Prelude.{Option, Some, None}
use mathlib.Core.Path.{◌≡◌, refl, sym, ap, ◌∙◌, subst}
use mathlib.Core.Bool.{Bool, true, false, cond}
use mathlib.Core.List.{List, [], ◌∷◌, ◌++◌, map}
use Prim.Native.Nat.{ℕ, zero, suc, ◌+◌, ◌-◌, ◌≤◌, ◌<◌}
use native.Mathlib.Nat.{le_of_suc-le-suc, not-suc-le-zero}
use native.Mathlib.Omega.{arith}
use borrow.Author.Tests.{ltb-true, ltb-false}
use lib.Dec.{ltb}
use lib.ListN.{length, get_or, take, length-append, get_or-eq_default}
use lib.Seq.{get_or-append-add, length-take-le}
use Rattle.words.proofs.Laws.{table_length}
use Rattle.words.specs.Packed.{packed, packed_table, column_for, sorts}
use Rattle.words.specs.Tables.{no_word, row_in}
use Rattle.words.specs.Words.{Entry, entry, table, words, entry_at, bytes, column_of, operands_as, operands_of}
use Rattle.words.specs.declared.Sort.{Sort}
use Rattle.words.specs.declared.Sort.TheVariants.{Plan, DataType, Term, Loops, Cells, Command, Place, Value, Offset}

-- ---- a place of the table, and past it

past_table : (k : ℕ) → length words ≤ k → packed (entry "" []) ≡ packed (entry_at k)
past_table k h = ap packed (sym (get_or-eq_default table (entry "" []) (omega (arith, table_length))))

get_d_mapped : {A B : Type 0} (f : A → B) (l : List A) (k : ℕ) (d : B) (e : A) → k < length l → get_or (map f l) k d ≡ f (get_or l k e)
get_d_mapped f [] k d e h = absurd (not-suc-le-zero h)
get_d_mapped f (x ∷ l) zero d e h = refl
get_d_mapped f (x ∷ l) (suc k) d e h = get_d_mapped f l k d e (le_of_suc-le-suc h)

packed_row : (k : ℕ) → row_in packed_table k ≡ packed (entry_at k)
unfolding packed_table packed
packed_row k = go (ltb k (length words)) refl
  where
    go : (b : Bool) → ltb k (length words) ≡ b → cond b (get_or packed_table k []) no_word ≡ packed (entry_at k)
    go true e = get_d_mapped packed table k [] (entry "" []) (omega (arith, ltb-true k (length words) e, table_length))
    go false e = past_table k (ltb-false k (length words) e)

-- so the row of a kind is its entry
pub entry_row : {rows : List (List ℕ)} (k : ℕ) {row : List ℕ} → rows ≡ packed_table → row ≡ row_in rows k → row ≡ packed (entry_at k)
entry_row k built_in is = is ∙ ap (λ (t : List (List ℕ)). row_in t k) built_in ∙ packed_row k

-- ---- the columns of a packed entry

abbrev blanks : List ℕ
blanks = bytes "        "

abbrev columns : Entry → List ℕ
columns e = map (λ (s : Sort). column_for (operands_as s e.uses)) sorts

padded : (e : Entry) → length (take 8 (e.letters ++ blanks)) ≡ 8
padded e = length-take-le 8 (e.letters ++ blanks) (simp length-append (omega arith))

-- behind the eight letters
behind : (e : Entry) (i : ℕ) → get_or (packed e) (8 + i) 0 ≡ get_or ((48 + length e.letters) ∷ 32 ∷ columns e) i 0
unfolding packed
behind e i =
    ap (λ (n : ℕ). get_or (packed e) (n + i) 0) (sym (padded e))
    ∙ get_or-append-add (take 8 (e.letters ++ blanks)) ((48 + length e.letters) ∷ 32 ∷ columns e) i 0

module _ (k : ℕ) (w : List ℕ) (is : w ≡ packed (entry_at k)) where
  column_at : (s : Sort) → get_or w (10 + column_of s) 0 ≡ column_for (operands_of k s)
  unfolding operands_of
  column_at s =
      ap (λ (v : List ℕ). get_or v (10 + column_of s) 0) is
      ∙ ap (λ (n : ℕ). get_or (packed (entry_at k)) n 0) (omega arith)
      ∙ behind (entry_at k) (2 + column_of s)
      ∙ each s
    where
      each : (t : Sort) → get_or ((48 + length (entry_at k).letters) ∷ 32 ∷ columns (entry_at k)) (2 + column_of t) 0 ≡ column_for (operands_as t (entry_at k).uses)
      each Plan = refl
      each DataType = refl
      each Term = refl
      each Loops = refl
      each Cells = refl
      each Command = refl
      each Place = refl
      each Value = refl
      each Offset = refl

  pub column_none : (s : Sort) → get_or w (10 + column_of s) 0 ≡ 45 → None ≡ operands_of k s
  column_none s h = go (operands_of k s) (sym (column_at s) ∙ h)
    where
      go : (o : Option ℕ) → column_for o ≡ 45 → None ≡ o
      go (Some n) e = absurd (omega arith)
      go None e = refl

  pub column_count : (s : Sort) → (get_or w (10 + column_of s) 0 ≡ 45 → ⊥)
      → (48 ≤ get_or w (10 + column_of s) 0) × (Some (get_or w (10 + column_of s) 0 - 48) ≡ operands_of k s)
  column_count s h = subst (λ (n : ℕ). (48 ≤ n) × (Some (n - 48) ≡ operands_of k s)) (sym (column_at s)) (go (operands_of k s) (λ e. h (column_at s ∙ e)))
    where
      go : (o : Option ℕ) → (column_for o ≡ 45 → ⊥) → (48 ≤ column_for o) × (Some (column_for o - 48) ≡ o)
      go (Some n) e = (omega arith, ap Some (omega arith))
      go None e = absurd (e refl)
