-- What has elements, as the code tells it: its levels, how many they are, and its summands and assignment by them. Assumes nothing.
use Rattle.std.specs.Prelude.{◌≡◌, ◌⊎◌, refl, List, ◌∷◌, ℕ, zero, suc, ◌≤◌, ◌<◌, pos, get_or, None, Option, Some}
use Rattle.std.proofs.Common.{sym, subst, ap, ◌∙◌, arith, inl, inr}
use Rattle.words.specs.Kinds.{word_par, word_lanes}
use Rattle.meaning.specs.Types.{DataType, number, array, vector, cells, levels, array_length}
use Rattle.meaning.specs.Loops.{Offset, times}
use Rattle.meaning.specs.Paths.{Path, tail}
use Rattle.meaning.specs.Offsets.{leading_index, summands}
use Rattle.meaning.specs.Expressions.{Expression, Acceptor}
use Rattle.meaning.specs.Translation.{assign}
use Rattle.meaning.specs.Rows.{command_rows}
use Rattle.meaning.specs.Limits.{TypeWithin}
use Rattle.meaning.proofs.Laws.Bounds.{length_within, width_is_count}
use Rattle.type_table.specs.Nodes.{kind_in, left_in, right_in}
use Rattle.type_table.specs.Table.{by_kind, type_at, Sound, ShapeTold}
use Rattle.type_table.specs.declared.PairShape.{PairShape}
use Rattle.type_table.specs.declared.Shape.{Shape}
use Rattle.type_table.specs.declared.Shape.TheVariants.{Number, Pair}
use Rattle.type_table.specs.Laws.{type_here}
use Rattle.emission.specs.Elements.{HasElements, ElementsTold}
use Rattle.emission.specs.declared.elements.Elements.{Elements}

-- ---- of a type

-- neither elements nor two parts
pub is_number : (t : DataType) → ((n : ℕ) (s : DataType) (k : ℕ) → HasElements t n s k → ⊥) → ((s u : DataType) → t ≡ DataType.pair s u → ⊥) → t ≡ number
is_number number f g = refl
is_number (array n s) f g = absurd (f n s word_par (HasElements.of_array n s))
is_number (DataType.pair s u) f g = absurd (g s u refl)
is_number (vector w) f g = absurd (f w number word_lanes (HasElements.of_vector w))

-- what has no elements has no length
pub no_length : (t : DataType) → ((n : ℕ) (s : DataType) (k : ℕ) → HasElements t n s k → ⊥) → 0 ≡ array_length t
no_length number f = refl
no_length (array n s) f = absurd (f n s word_par (HasElements.of_array n s))
no_length (DataType.pair s u) f = refl
no_length (vector w) f = absurd (f w number word_lanes (HasElements.of_vector w))

pub its_length : {t : DataType} {n : ℕ} {s : DataType} {k : ℕ} → HasElements t n s k → n ≡ array_length t
its_length (HasElements.of_array n s) = refl
its_length (HasElements.of_vector n) = refl

pub its_levels_holds : {t : DataType} {n : ℕ} {s : DataType} {k : ℕ} → HasElements t n s k → levels t ≡ suc (levels s)
its_levels_holds (HasElements.of_array n s) = refl
its_levels_holds (HasElements.of_vector n) = refl

elements_within : {t : DataType} {n : ℕ} {s : DataType} {k : ℕ} → HasElements t n s k → TypeWithin t → n ≤ 4096
elements_within (HasElements.of_array n s) h = length_within n s h.0
elements_within (HasElements.of_vector n) h = (width_is_count n h.0).1

pub few_elements : (Y : List ℕ) (t n : ℕ) (s : DataType) (k : ℕ) → Sound Y (suc t) → HasElements (type_at Y t) n s k → n ≤ 4096
few_elements Y t n s k S e = elements_within e (S.each t (omega arith)).within

-- [6.18] [18.13] A summand for the index, `times` the element's cells, and then the element's own.
pub its_summands : {t : DataType} {n : ℕ} {s : DataType} {k : ℕ} → HasElements t n s k → (p : Path Offset)
    → summands t p ≡ times (cells s) (leading_index p) ∷ summands s (tail p)
its_summands (HasElements.of_array n s) p = refl
its_summands (HasElements.of_vector n) p = refl

-- [6.3] [18.11] A loop over them.
pub its_assignment : {t : DataType} {n : ℕ} {s : DataType} {k : ℕ} → HasElements t n s k → (E : Expression) (P : Acceptor) (c r : ℕ)
    → command_rows (assign t E P c r)
    ≡ (k, pos n) ∷ command_rows (assign s (Expression.index E (Offset.counter c)) (Acceptor.index P (Offset.counter c)) (suc c) r)
unfolding assign command_rows
its_assignment (HasElements.of_array n s) E P c r = refl
its_assignment (HasElements.of_vector n) E P c r = refl

-- ---- as the table tells it

array_elements : {t s : DataType} {n : ℕ} → t ≡ array n s → HasElements t n s word_par
array_elements {t} {s} {n} e = subst (λ (u : DataType). HasElements u n s word_par) (sym e) (HasElements.of_array n s)

vector_elements : {t s : DataType} {n : ℕ} → t ≡ vector n → s ≡ number → HasElements t n s word_lanes
vector_elements {t} {s} {n} e f =
    subst (λ (u : DataType). HasElements u n s word_lanes) (sym e)
    (subst (λ (u : DataType). HasElements (vector n) n u word_lanes) (sym f) (HasElements.of_vector n))

-- 1 for what has elements
abbrev pub its_elements : DataType → ℕ
its_elements number = 0
its_elements (array n s) = 1
its_elements (DataType.pair s u) = 0
its_elements (vector w) = 1

some_elements : {t : DataType} {n : ℕ} {s : DataType} {k : ℕ} → HasElements t n s k → its_elements t ≡ 1
some_elements (HasElements.of_array n s) = refl
some_elements (HasElements.of_vector n) = refl

no_elements : {t : DataType} {n : ℕ} {s : DataType} {k : ℕ} → HasElements t n s k → ((m : ℕ) (u : DataType) → t ≡ array m u → ⊥)
    → ((m : ℕ) → t ≡ vector m → ⊥) → ⊥
no_elements (HasElements.of_array n s) f g = f n s refl
no_elements (HasElements.of_vector n) f g = g n refl

module _ (T : List ℕ) (i : ℕ) where
  -- the first type is the numbers': no other has its parts before it
  first_is_number : Sound T (suc i) → type_at T 0 ≡ number
  first_is_number S =
      let p = (S.each 0 (omega arith)).parts in
      type_here T 0 (omega (arith, S.room)) p
      ∙ go (kind_in (get_or T 0 0)) (left_in (get_or T 0 0)) (type_at T (left_in (get_or T 0 0))) (type_at T (right_in (get_or T 0 0)))
      (λ e. absurd (omega (arith, p.0 e))) (λ e. absurd (omega (arith, (p.1 e).0))) (λ e. absurd (omega (arith, p.2 e)))
    where
      go : (k n : ℕ) (s t : DataType) → (k ≡ 1 → ⊥) → (k ≡ 2 → ⊥) → (3 ≤ k → ⊥) → by_kind k n s t ≡ number
      go zero n s t f g h = refl
      go (suc zero) n s t f g h = absurd (f refl)
      go (suc (suc zero)) n s t f g h = absurd (g refl)
      go (suc (suc (suc k))) n s t f g h = absurd (h (omega arith))

  pub tell_array : (n e : ℕ) → (type_at T i ≡ array n (type_at T e)) × (e < i) → HasElements (type_at T i) n (type_at T e) word_par × (e < i)
  tell_array n e h = (array_elements h.0, h.1)

  pub tell_vector : (n : ℕ) → Sound T (suc i) → (type_at T i ≡ vector n) × (0 < i) → HasElements (type_at T i) n (type_at T 0) word_lanes × (0 < i)
  tell_vector n S h = (vector_elements h.0 (first_is_number S), h.1)

  none_told : its_elements (type_at T i) ≡ 0 → ElementsTold T i None
  none_told z n t k e = let o : its_elements (type_at T i) ≡ 1 = some_elements e in absurd (omega arith)

  pub tell_no_elements : (r : Shape) → ShapeTold T i r → (r ≡ Number) ⊎ ((p : PairShape) × (r ≡ Pair p)) → ElementsTold T i None
  tell_no_elements r h (inl e) = none_told (ap its_elements (subst (ShapeTold T i) e h))
  tell_no_elements r h (inr q) = none_told (ap its_elements (subst (ShapeTold T i) q.1 h).0)

  pub told_elements : {e : Elements} {r : Option Elements} → r ≡ Some e → ElementsTold T i r → HasElements (type_at T i) e.length (type_at T e.element) e.word × (e.element < i)
  told_elements q h = subst (ElementsTold T i) q h

  pub told_no_elements : {r : Option Elements} → r ≡ None → ElementsTold T i r → (n : ℕ) (t : DataType) (k : ℕ) → HasElements (type_at T i) n t k → ⊥
  told_no_elements q h = subst (ElementsTold T i) q h

  pub tell_none : ((n : ℕ) (t : DataType) → type_at T i ≡ array n t → ⊥) → ((n : ℕ) → type_at T i ≡ vector n → ⊥) → ElementsTold T i None
  tell_none f g n t k e = no_elements e f g
