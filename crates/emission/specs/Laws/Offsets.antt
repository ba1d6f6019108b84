-- The rows of an offset, as the code puts them: the summands of a type at a path, counted and put one by one. Assumes nothing.
use Rattle.std.specs.Prelude.{◌≡◌, refl, true, false, ℕ, zero, suc, ◌+◌, ◌-◌, ◌≤◌, get_or, drop, length, replicate}
use Rattle.std.proofs.Math.Path.{ap, sym}
use Rattle.std.proofs.Common.{◌∙◌, arith, length-append, drop-drop}
use mathlib.Core.List.{List, [], ◌∷◌, ◌++◌, append_assoc}
use Rattle.std.proofs.Math.IntN.{pos}
use Rattle.words.specs.Kinds.{Row, word_lit, word_plus, word_times}
use Rattle.meaning.specs.Types.{DataType, number, cells}
use Rattle.meaning.specs.Loops.{Offset, plus, times}
use Rattle.meaning.specs.Paths.{Path, tail, by_part}
use Rattle.meaning.specs.Offsets.{leading_index, summands, sum_onto, sum_of}
use Rattle.meaning.specs.Rows.{offset_rows}
use Rattle.meaning.proofs.Laws.Bounds.{cells_within}
use Rattle.type_table.specs.Table.{type_at, types_from, types_of, node_type, Sound}
use Rattle.emission.specs.Elements.{HasElements}
use Rattle.emission.specs.Table.{Table, put_row, put_rows}
use Rattle.emission.specs.Laws.Elements.{its_summands}
use Rattle.emission.specs.Laws.Table.{put_append}
use Rattle.emission.specs.Laws.PathSteps.{tail_drop}
use Rattle.emission.specs.Laws.Indices.{rows_under}
use Rattle.emission.specs.Laws.Operands.{is_second_part, is_first_part}

-- a place past the table's end is the type of numbers
types_many : (B : List DataType) (Y : List ℕ) → length (types_from B Y) ≡ length B + length Y
unfolding types_from
types_many B [] = omega arith
types_many B (w ∷ Y) = types_many (B ++ (node_type B w ∷ [])) Y ∙ omega (arith, length-append B (node_type B w ∷ []))

pub get_d_past : {A : Type 0} (l : List A) (i : ℕ) (d : A) → length l ≤ i → get_or l i d ≡ d
get_d_past [] i d h = refl
get_d_past (x ∷ l) zero d h = absurd (omega arith)
get_d_past (x ∷ l) (suc i) d h = get_d_past l i d (omega arith)

pub type_past : (Y : List ℕ) (t : ℕ) → length Y ≤ t → type_at Y t ≡ number
type_past Y t h = get_d_past (types_of Y) t number (omega (arith, types_many [] Y))

-- the summands from step j on, by the type
module _ (t : DataType) (p : Path Offset) (j : ℕ) where
  next : tail (drop j p) ≡ drop (j + 1) p
  next = tail_drop (drop j p) ∙ drop-drop 1 j p

  pub summands_number : t ≡ number → summands t (drop j p) ≡ []
  summands_number e = ap (λ (s : DataType). summands s (drop j p)) e

  pub summands_elements : {n : ℕ} {s : DataType} {k : ℕ} → HasElements t n s k
      → summands t (drop j p) ≡ times (cells s) (leading_index (drop j p)) ∷ summands s (drop (j + 1) p)
  summands_elements {n} {s} e =
      its_summands e (drop j p) ∙ ap (λ (q : Path Offset). times (cells s) (leading_index (drop j p)) ∷ summands s q) next

  module _ (s u : DataType) (e : t ≡ DataType.pair s u) where
    summands_pair : summands t (drop j p)
        ≡ by_part (drop j p) (summands s (drop (j + 1) p)) (Offset.literal (cells s) ∷ summands u (drop (j + 1) p))
    summands_pair =
        ap (λ (v : DataType). summands v (drop j p)) e
        ∙ ap (λ (q : Path Offset). by_part (drop j p) (summands s q) (Offset.literal (cells s) ∷ summands u q)) next

    pub summands_second : true ≡ by_part (drop j p) false true
        → summands t (drop j p) ≡ Offset.literal (cells s) ∷ summands u (drop (j + 1) p)
    summands_second h =
        summands_pair
        ∙ sym (is_second_part (drop j p) (summands s (drop (j + 1) p)) (Offset.literal (cells s) ∷ summands u (drop (j + 1) p)) h)

    pub summands_first : false ≡ by_part (drop j p) false true → summands t (drop j p) ≡ summands s (drop (j + 1) p)
    summands_first h =
        summands_pair
        ∙ sym (is_first_part (drop j p) (summands s (drop (j + 1) p)) (Offset.literal (cells s) ∷ summands u (drop (j + 1) p)) h)

-- counted
pub count_none : (xs : List Offset) → xs ≡ [] → 0 ≡ length xs
count_none xs e = sym (ap (λ (l : List Offset). length l) e)

pub count_more : (xs ys : List Offset) (y : Offset) (n : ℕ) → xs ≡ y ∷ ys → n ≡ length ys → 1 + n ≡ length xs
count_more xs ys y n e h =
    let z : length xs ≡ suc (length ys) = ap (λ (l : List Offset). length l) e in
    omega arith

pub count_same : (xs ys : List Offset) (n : ℕ) → xs ≡ ys → n ≡ length ys → n ≡ length xs
count_same xs ys n e h = h ∙ sym (ap (λ (l : List Offset). length l) e)

-- offsets' rows under c counters, one after the other
unfoldable pub all_offset_rows : ℕ → List Offset → List Row
all_offset_rows c [] = []
all_offset_rows c (x ∷ xs) = rows_under c x ++ all_offset_rows c xs

-- put
module _ (c : ℕ) (xs : List Offset) where
  pub put_none : (o : Table) → xs ≡ [] → o ≡ put_rows (all_offset_rows c xs) o
  unfolding put_rows all_offset_rows
  put_none o e = sym (ap (λ (l : List Offset). put_rows (all_offset_rows c l) o) e)

  pub put_same : (ys : List Offset) (o o' : Table) → xs ≡ ys → o' ≡ put_rows (all_offset_rows c ys) o → o' ≡ put_rows (all_offset_rows c xs) o
  put_same ys o o' e h = h ∙ sym (ap (λ (l : List Offset). put_rows (all_offset_rows c l) o) e)

  pub put_index : (ys : List Offset) (i : Offset) (n : ℕ) (o o₁ o₂ o₃ : Table) → xs ≡ times n i ∷ ys
      → o₁ ≡ put_row o (word_times, pos n) → o₂ ≡ put_rows (rows_under c i) o₁ → o₃ ≡ put_rows (all_offset_rows c ys) o₂
      → o₃ ≡ put_rows (all_offset_rows c xs) o
  unfolding put_rows all_offset_rows offset_rows
  put_index ys i n o o₁ o₂ o₃ e p q r =
      r ∙ ap (put_rows (all_offset_rows c ys)) (q ∙ ap (put_rows (rows_under c i)) p)
      ∙ sym (put_append (rows_under c i) (all_offset_rows c ys) (put_row o (word_times, pos n)))
      ∙ sym (ap (λ (l : List Offset). put_rows (all_offset_rows c l) o) e)

  pub put_part : (ys : List Offset) (n : ℕ) (o o₁ o₂ : Table) → xs ≡ Offset.literal n ∷ ys
      → o₁ ≡ put_row o (word_lit, pos n) → o₂ ≡ put_rows (all_offset_rows c ys) o₁ → o₂ ≡ put_rows (all_offset_rows c xs) o
  unfolding put_rows all_offset_rows offset_rows
  put_part ys n o o₁ o₂ e p r =
      r ∙ ap (put_rows (all_offset_rows c ys)) p ∙ sym (ap (λ (l : List Offset). put_rows (all_offset_rows c l) o) e)

-- a sum's rows: a `plus` for each summand but one, then the summands
none_after : (l : List Row) → l ++ [] ≡ l
none_after [] = refl
none_after (x ∷ l) = ap (λ (m : List Row). x ∷ m) (none_after l)

plus_later : (n : ℕ) (l : List Row) → replicate n (word_plus, pos 0) ++ (word_plus, pos 0) ∷ l ≡ replicate (suc n) (word_plus, pos 0) ++ l
plus_later zero l = refl
plus_later (suc n) l = ap (λ (m : List Row). (word_plus, pos 0) ∷ m) (plus_later n l)

sum_rows : (c : ℕ) (x : Offset) (xs : List Offset)
    → rows_under c (sum_onto x xs) ≡ replicate (length xs) (word_plus, pos 0) ++ (rows_under c x ++ all_offset_rows c xs)
unfolding offset_rows all_offset_rows
sum_rows c x [] = sym (none_after (rows_under c x))
sum_rows c x (y ∷ ys) =
    sum_rows c (plus x y) ys
    ∙ ap (λ (l : List Row). replicate (length ys) (word_plus, pos 0) ++ (word_plus, pos 0) ∷ l) (append_assoc (rows_under c x) (rows_under c y) (all_offset_rows c ys))
    ∙ plus_later (length ys) (rows_under c x ++ (rows_under c y ++ all_offset_rows c ys))

pub offset_none : (c : ℕ) (xs : List Offset) (o o' : Table) → xs ≡ [] → o' ≡ put_row o (word_lit, pos 0) → o' ≡ put_rows (rows_under c (sum_of xs)) o
unfolding put_rows offset_rows
offset_none c xs o o' e h = h ∙ sym (ap (λ (l : List Offset). put_rows (rows_under c (sum_of l)) o) e)

pub offset_empty : (c : ℕ) (xs : List Offset) (m : ℕ) (o o' : Table) → m ≡ length xs → m ≡ 0 → o' ≡ put_row o (word_lit, pos 0)
    → o' ≡ put_rows (rows_under c (sum_of xs)) o
offset_empty c [] m o o' e z h = offset_none c [] o o' refl h
offset_empty c (x ∷ xs) m o o' e z h = absurd (omega arith)

pub offset_some : (c : ℕ) (xs : List Offset) (m : ℕ) (o o₁ o₂ : Table) → m ≡ length xs → (m ≡ 0 → ⊥)
    → o₁ ≡ put_rows (replicate (m - 1) (word_plus, pos 0)) o → o₂ ≡ put_rows (all_offset_rows c xs) o₁ → o₂ ≡ put_rows (rows_under c (sum_of xs)) o
unfolding all_offset_rows
offset_some c [] m o o₁ o₂ e z p q = absurd (z e)
offset_some c (x ∷ xs) m o o₁ o₂ e z p q =
    let n : m - 1 ≡ length xs = omega arith in
    q ∙ ap (put_rows (all_offset_rows c (x ∷ xs))) (p ∙ ap (λ (y : ℕ). put_rows (replicate y (word_plus, pos 0)) o) n)
    ∙ sym (put_append (replicate (length xs) (word_plus, pos 0)) (all_offset_rows c (x ∷ xs)) o)
    ∙ ap (λ (l : List Row). put_rows l o) (sym (sum_rows c x xs))

-- a row whose number was told
pub counted : (o o' : Table) (k n m : ℕ) → n ≡ m → o' ≡ put_row o (k, pos n) → o' ≡ put_row o (k, pos m)
counted o o' k n m e h = h ∙ ap (λ (i : ℕ). put_row o (k, pos i)) e

-- a type's cells fit a count
pub few_cells : (Y : List ℕ) (t : ℕ) → Sound Y (suc t) → cells (type_at Y t) ≤ 4096
few_cells Y t S = cells_within (type_at Y t) (S.each t (omega arith)).within.0
