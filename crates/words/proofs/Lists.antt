-- The kinds of the words that have so many operands as a term: they are those whose column in the table says so. Assumes nothing.
use mathlib.Core.Path.{◌≡◌, refl, sym, ap, ◌∙◌}
use mathlib.Core.Bool.{Bool, true, false, cond}
use mathlib.Core.List.{List, [], ◌∷◌}
use Prim.Native.Nat.{ℕ, zero, suc, ◌+◌, ◌≤◌, ◌<◌}
use native.Mathlib.Nat.{zero-add}
use native.Mathlib.Omega.{arith}
use borrow.Author.Tests.{eq-eqb, ne_eqb}
use lib.Dec.{eqb}
use lib.ListN.{get_or}
use Rattle.words.specs.Groups.{one_of, counted, is_leaf, has_one_operand, operations}
use Rattle.words.specs.Kinds.{word_kind_in, word_var, word_lit, word_neg, word_split, word_join, word_fst, word_snd, word_idx}
use Rattle.words.specs.Kinds.{word_asvec, word_asscal, word_kind_at}
use Rattle.words.proofs.Laws.{All, not_one, is_one}
use Rattle.words.specs.Words.{Entry, entry, table, operands_as, operands_of}
use Rattle.words.specs.declared.Sort.TheVariants.{Term}

-- the kinds, counted from j, of the entries that have n operands as a term
unfoldable kinds_with : ℕ → ℕ → List Entry → List ℕ
kinds_with n j [] = []
kinds_with n j (e ∷ es) = cond (counted n (operands_as Term e.uses)) (j ∷ kinds_with n (suc j) es) (kinds_with n (suc j) es)

-- none of them is below j
none_below : (n j k : ℕ) (es : List Entry) → k < j → one_of k (kinds_with n j es) ≡ false
unfolding kinds_with one_of
none_below n j k [] h = refl
none_below n j k (e ∷ es) h = go (counted n (operands_as Term e.uses)) (none_below n (suc j) k es (omega arith))
  where
    go : (b : Bool) → one_of k (kinds_with n (suc j) es) ≡ false
        → one_of k (cond b (j ∷ kinds_with n (suc j) es) (kinds_with n (suc j) es)) ≡ false
    go true later = simp (ne_eqb k j (λ e. omega arith)) later
    go false later = later

counted_from : (n j k : ℕ) (es : List Entry) → one_of (j + k) (kinds_with n j es) ≡ counted n (operands_as Term (get_or es k (entry "" [])).uses)
unfolding kinds_with one_of
counted_from n j k [] = refl
counted_from n j zero (e ∷ es) = go (counted n (operands_as Term e.uses))
  where
    go : (b : Bool) → one_of (j + zero) (cond b (j ∷ kinds_with n (suc j) es) (kinds_with n (suc j) es)) ≡ b
    go true = simp (eq-eqb (j + zero) j (omega arith))
    go false = none_below n (suc j) (j + zero) es (omega arith)
counted_from n j (suc k) (e ∷ es) =
    go (counted n (operands_as Term e.uses))
    (ap (λ (m : ℕ). one_of m (kinds_with n (suc j) es)) (omega arith) ∙ counted_from n (suc j) k es)
  where
    go : (b : Bool) → one_of (j + suc k) (kinds_with n (suc j) es) ≡ counted n (operands_as Term (get_or es k (entry "" [])).uses)
        → one_of (j + suc k) (cond b (j ∷ kinds_with n (suc j) es) (kinds_with n (suc j) es))
        ≡ counted n (operands_as Term (get_or es k (entry "" [])).uses)
    go true later = simp (ne_eqb (j + suc k) j (λ e. omega arith)) later
    go false later = later

counted_in : (n k : ℕ) → one_of k (kinds_with n 0 table) ≡ counted n (operands_of k Term)
unfolding operands_of
counted_in n k = ap (λ (m : ℕ). one_of m (kinds_with n 0 table)) (sym (zero-add k)) ∙ counted_from n 0 k table

-- [2.2] the leaves, and the words of one operand
abbrev leaves : List ℕ
leaves = word_kind_in ∷ word_var ∷ word_lit ∷ []

abbrev ones : List ℕ
ones = word_neg ∷ word_split ∷ word_join ∷ word_fst ∷ word_snd ∷ word_idx ∷ word_asvec ∷ word_asscal ∷ word_kind_at ∷ []

pub no_leaf : (k : ℕ) → All leaves (λ w. k ≡ w → ⊥) → false ≡ is_leaf k
unfolding kinds_with table
no_leaf k p = sym (not_one k leaves p) ∙ counted_in 0 k

pub leaf : (k : ℕ) → (All leaves (λ w. k ≡ w → ⊥) → ⊥) → true ≡ is_leaf k
unfolding kinds_with table
leaf k p = sym (is_one k leaves p) ∙ counted_in 0 k

pub not_one_operand : (k : ℕ) → All ones (λ w. k ≡ w → ⊥) → false ≡ has_one_operand k
unfolding kinds_with table
not_one_operand k p = sym (not_one k ones p) ∙ counted_in 1 k

pub one_operand : (k : ℕ) → (All ones (λ w. k ≡ w → ⊥) → ⊥) → true ≡ has_one_operand k
unfolding kinds_with table
one_operand k p = sym (is_one k ones p) ∙ counted_in 1 k

-- those that follow one another
none_of_five : (k : ℕ) → word_split ≤ k → k < 24 → (k ≡ 19 → ⊥) → (k ≡ 20 → ⊥) → (k ≡ 21 → ⊥) → (k ≡ 22 → ⊥) → (k ≡ 23 → ⊥) → ⊥
none_of_five k from to a b c d e = omega arith

none_of_two : (k : ℕ) → word_asvec ≤ k → k < 41 → (k ≡ 39 → ⊥) → (k ≡ 40 → ⊥) → ⊥
none_of_two k from to a b = omega arith

pub regrouping_or_part : (k : ℕ) → word_split ≤ k → k < 24 → true ≡ has_one_operand k
regrouping_or_part k from to = one_operand k (λ p. none_of_five k from to p.1.0 p.1.1.0 p.1.1.1.0 p.1.1.1.1.0 p.1.1.1.1.1.0)

pub vector_regrouping : (k : ℕ) → word_asvec ≤ k → k < 41 → true ≡ has_one_operand k
vector_regrouping k from to = one_operand k (λ p. none_of_two k from to p.1.1.1.1.1.1.0 p.1.1.1.1.1.1.1.0)

-- ---- words that follow one another

unfoldable following : ℕ → ℕ → List ℕ
following zero w = []
following (suc n) w = w ∷ following n (suc w)

is_following : (n w k : ℕ) → w ≤ k → k < w + n → one_of k (following n w) ≡ true
unfolding following one_of
is_following zero w k l h = absurd (omega arith)
is_following (suc n) w k l h = go (eqb k w) refl (λ d. is_following n (suc w) k (omega arith) (omega arith))
  where
    go : (b : Bool) → eqb k w ≡ b → ((k ≡ w → ⊥) → one_of k (following n (suc w)) ≡ true) → cond b true (one_of k (following n (suc w))) ≡ true
    go true e later = refl
    go false e later = later (λ x. absurd (let y : true ≡ false = sym (eq-eqb k w x) ∙ e in let z : ◌≡◌ {A = ℕ} 0 1 = cc in omega arith))

pub operation : (k : ℕ) → 8 ≤ k → k < 14 → one_of k operations ≡ true
unfolding following
operation k l h = is_following 6 8 k l h
