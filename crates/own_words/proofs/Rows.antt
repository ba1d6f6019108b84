-- Rows of a table and their words: a row with other letters, and a table whose words are each found at their own place. Assumes nothing.
use Rattle.std.specs.Prelude.{Option, Some, None}
use mathlib.Core.Path.{◌≡◌, refl, sym, ap, ◌∙◌, subst}
use mathlib.Core.Bool.{Bool, true, false, not, cond, true≢false}
use mathlib.Core.List.{List, [], ◌∷◌}
use Prim.Native.Nat.{ℕ, suc, ◌+◌, ◌-◌, ◌≤◌, ◌<◌, min, suc-le-suc}
use native.Mathlib.Nat.{min-eq_left}
use native.Mathlib.Omega.{arith}
use borrow.Author.Tests.{eqb-true, eqb-false, eq-eqb}
use lib.Dec.{T, eqb, not_T}
use lib.Ieee.Fits.{and_i}
use lib.ListN.{length, get_or, take, set}
use lib.Seq.{length-take-le, get_or-take, get_or-set_same, get_or-set_other, ext_get_or}
use Rattle.words.specs.Good.{absent, distinct}
use Rattle.words.proofs.Laws.{own_place, same_equal, same_refl, first_take}
use Rattle.words.specs.Tables.{first_of, letters_in, word_in, words_in}
use Rattle.words.specs.Words.{words, word_at, same_letters, look_from, look_up}
use Rattle.words.proofs.Rows.{word_in_row}
use Rattle.std.specs.Option.{option_eq}
use Rattle.own_words.proofs.Letters.{get_d_within}

-- ---- the word of a row

-- looking up the word of a table's row is looking up the table's word there
pub own_found_holds : (rows : List (List ℕ)) (k : ℕ) {found : Option ℕ} → k < length words → found ≡ look_up (words_in rows) (word_in (get_or rows k []))
    → found ≡ look_up (words_in rows) (word_at (words_in rows) k)
own_found_holds rows k h look = look ∙ ap (look_up (words_in rows)) (sym (word_in_row rows k h))

-- one letter more put into a row
pub put_next : (row letters : List ℕ) (i v : ℕ) → i < length row → v ≡ get_or letters i 32
    → ((j : ℕ) → j < i → get_or row j 0 ≡ get_or letters j 32) → (j : ℕ) → j < i + 1 → get_or (set row i v) j 0 ≡ get_or letters j 32
put_next row letters i v h e put j g = go (eqb j i) refl
  where
    go : (b : Bool) → eqb j i ≡ b → get_or (set row i v) j 0 ≡ get_or letters j 32
    go true q = rw (eqb-true j i q) (get_or-set_same row i v 0 h ∙ e)
    go false q = get_or-set_other row i j v 0 (eqb-false j i q) ∙ put j (omega (arith, eqb-false j i q))

-- the letters put into a row are its word
pub row_word : (row letters : List ℕ) → length row ≡ 19 → get_or row 8 0 ≡ 48 + length letters → length letters ≤ 8
    → ((j : ℕ) → j < 8 → get_or row j 0 ≡ get_or letters j 32) → word_in row ≡ letters
row_word row letters long count short put =
    let n : letters_in row ≡ length letters = ap (λ (b : ℕ). min (b - 48) 8) count ∙ eight in
    ap (λ (m : ℕ). first_of 0 m row) n
    ∙ first_take 0 (length letters) row (omega arith)
    ∙ ext_get_or 0 (take (length letters) row) letters (length-take-le (length letters) row (omega arith))
    (λ j h. let g : j < length letters = omega (arith, h, length-take-le (length letters) row (omega arith)) in
    get_or-take (length letters) row j 0 g ∙ put j (omega arith) ∙ get_d_within letters j 32 0 g)
  where
    eight : min (48 + length letters - 48) 8 ≡ length letters
    eight = ap (λ (m : ℕ). min m 8) (omega arith) ∙ min-eq_left short

-- ---- words that are each found at their own place are distinct, and else not

absent_by : (l : List ℕ) (ws : List (List ℕ)) → ((i : ℕ) → i < length ws → get_or ws i [] ≡ l → ⊥) → T (absent l ws)
unfolding absent
absent_by l [] h = tt
absent_by l (w ∷ ws) h =
    and_i (not (same_letters l w)) (absent l ws) (not_T (same_letters l w) (λ t. h 0 (omega arith) (sym (same_equal l w t))))
    (absent_by l ws (λ i g. h (suc i) (suc-le-suc g)))

later : (b : Bool) (j i : ℕ) (next : Option ℕ) → cond b (Some j) next ≡ Some (j + suc i) → (T b → ⊥) × (next ≡ Some (suc j + i))
later true j i next e = let z : j ≡ j + suc i = cc in absurd (omega arith)
later false j i next e = ((λ t. t), e ∙ ap Some (omega arith))

distinct_from : (j : ℕ) (ws : List (List ℕ)) → ((i : ℕ) → i < length ws → look_from j ws (get_or ws i []) ≡ Some (j + i)) → T (distinct ws)
unfolding distinct look_from
distinct_from j [] h = tt
distinct_from j (w ∷ ws) h =
    let next : (i : ℕ) → i < length ws → (T (same_letters (get_or ws i []) w) → ⊥) × (look_from (suc j) ws (get_or ws i []) ≡ Some (suc j + i)) =
    λ i g. later (same_letters (get_or ws i []) w) j i (look_from (suc j) ws (get_or ws i [])) (h (suc i) (suc-le-suc g)) in
    and_i (absent w ws) (distinct ws)
    (absent_by w ws (λ i g e. (next i g).0 (subst (λ (v : List ℕ). T (same_letters v w)) (sym e) (same_refl w))))
    (distinct_from (suc j) ws (λ i g. (next i g).1))

pub all_distinct : (ws : List (List ℕ)) → ((i : ℕ) → i < length ws → look_up ws (word_at ws i) ≡ Some i) → true ≡ distinct ws
all_distinct ws h = go (distinct ws) (distinct_from 0 ws (λ i g. h i g ∙ ap Some (omega arith)))
  where
    go : (b : Bool) → T b → true ≡ b
    go true t = refl
    go false t = absurd t

pub not_distinct : (ws : List (List ℕ)) (k : ℕ) → k < length ws → (look_up ws (word_at ws k) ≡ Some k → ⊥) → false ≡ distinct ws
not_distinct ws k h other = go (distinct ws) (λ t. other (own_place ws k t h))
  where
    go : (b : Bool) → (T b → ⊥) → false ≡ b
    go true f = absurd (f tt)
    go false f = refl

-- ---- whether what a search answers is a place

pub at_place : (found : Option ℕ) (k : ℕ) {r : Bool} → r ≡ not (option_eq eqb found (Some k)) → r ≡ false → found ≡ Some k
at_place None k e f = absurd (let clash : true ≡ false = sym e ∙ f in true≢false clash)
at_place (Some j) k e f = ap Some (eqb-true j k (go (eqb j k) (sym e ∙ f)))
  where
    go : (b : Bool) → not b ≡ false → b ≡ true
    go true h = refl
    go false h = absurd (true≢false h)

pub not_at_place : (found : Option ℕ) (k : ℕ) {r : Bool} → r ≡ not (option_eq eqb found (Some k)) → r ≡ true → found ≡ Some k → ⊥
not_at_place found k e f same =
    true≢false (sym f ∙ e ∙ ap (λ (o : Option ℕ). not (option_eq eqb o (Some k))) same ∙ ap not (eq-eqb k k refl))
