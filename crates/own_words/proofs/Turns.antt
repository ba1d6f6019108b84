-- The lines of a words text read so far, and a turn more. Assumes nothing.
use mathlib.Core.Path.{◌≡◌, refl, sym, ap, ap₂, ◌∙◌, subst}
use mathlib.Core.Bool.{Bool, true, false, ◌&&◌}
use mathlib.Core.List.{List, [], ◌∷◌, map}
use Prim.Native.Nat.{ℕ, zero, suc, ◌+◌, ◌-◌, ◌≤◌, ◌<◌}
use native.Mathlib.Numerals.{add-one}
use native.Mathlib.Omega.{arith}
use borrow.Author.Tests.{eqb-true, eqb-false}
use lib.Dec.{T, eqb}
use lib.ListN.{length, get_or, take, drop, set, length-set, drop_of_length-le, get_or-map}
use lib.Seq.{drop-cons, get_or-set_same, get_or-set_other, ext_get_or}
use Rattle.words.specs.Tables.{word_in, words_in}
use Rattle.words.specs.Words.{words, word_at}
use Rattle.words.proofs.Laws.{words_in_count}
use Rattle.texts.specs.Texts.{lines_of, place_of, after_first, after_comma}
use Rattle.texts.specs.Laws.{lines_from, lines_done}
use Rattle.own_words.specs.OwnWords.{is_own_line, are_own_lines}
use Rattle.own_words.specs.Laws.{OwnLine, own_line, lines_count}
use Rattle.words.proofs.Rows.{word_in_row}

-- So many kinds have their lines: the own words of these stand in the table, and the answer is that of the lines from `at` on.
pub record ReadTo (text : List ℕ) (own : List (List ℕ)) (at kind : ℕ) : Type 0 where
  pub listed : kind ≤ length words
  pub within : at ≤ length text + 1
  pub long : length own ≡ length words
  pub rest : drop kind (lines_of text) ≡ lines_of (drop at text)
  pub answer : are_own_lines 0 words (lines_of text) ≡ are_own_lines kind (drop kind words) (lines_of (drop at text))
  pub put : (i : ℕ) → i < kind → word_in (get_or own i []) ≡ word_at (map after_comma (lines_of text)) i

-- ---- the lists

drop_next : (k : ℕ) (xs : List (List ℕ)) (y : List ℕ) (ys : List (List ℕ)) → drop k xs ≡ y ∷ ys → (drop (suc k) xs ≡ ys) × (get_or xs k [] ≡ y)
drop_next zero [] y ys e = let z : ◌≡◌ {A = ℕ} 0 1 = cc in absurd (omega arith)
drop_next zero (x ∷ xs) y ys e = (cc, cc)
drop_next (suc k) [] y ys e = let z : ◌≡◌ {A = ℕ} 0 1 = cc in absurd (omega arith)
drop_next (suc k) (x ∷ xs) y ys e = drop_next k xs y ys e

-- ---- a turn

module _ (text : List ℕ) (own : List (List ℕ)) (at kind : ℕ) (so_far : ReadTo text own at kind) (more : kind < length words) where
  built_in : drop kind words ≡ word_at words kind ∷ drop (suc kind) words
  built_in = drop-cons words kind [] (omega arith)

  -- no line is left
  pub too_few : length text ≤ at → false ≡ are_own_lines 0 words (lines_of text)
  unfolding are_own_lines
  too_few h = sym (so_far.answer ∙ ap₂ (are_own_lines kind) built_in (lines_done text at h))

  -- the next line
  module _ (end : ℕ) (here : at < length text) (ends : end ≡ at + place_of 10 (drop at text)) where
    lines_split : lines_of (drop at text) ≡ take (end - at) (drop at text) ∷ lines_of (drop (end + 1) text)
    lines_split =
        let size : place_of 10 (drop at text) ≡ end - at = omega (arith, ends) in
        let after : at + after_first (drop at text) ≡ end + 1 = omega (arith, ends) in
        lines_from text at here ∙ ap₂ (λ (n m : ℕ). take n (drop at text) ∷ lines_of (drop m text)) size after

    turn : are_own_lines 0 words (lines_of text)
        ≡ is_own_line kind (word_at words kind) (take (end - at) (drop at text)) && are_own_lines (suc kind) (drop (suc kind) words) (lines_of (drop (end + 1) text))
    unfolding are_own_lines
    turn = so_far.answer ∙ ap₂ (are_own_lines kind) built_in lines_split

    pub no_own_line : {r : Bool} → r ≡ is_own_line kind (word_at words kind) (take (end - at) (drop at text)) → r ≡ false → false ≡ are_own_lines 0 words (lines_of text)
    no_own_line e refused =
        sym (turn
        ∙ ap (λ (b : Bool). b && are_own_lines (suc kind) (drop (suc kind) words) (lines_of (drop (end + 1) text))) (sym e ∙ refused))

    -- an own line: its facts, and its word put into the table
    module _ {r : Bool} (e : r ≡ is_own_line kind (word_at words kind) (take (end - at) (drop at text))) (yes-line : r ≡ true) where
      pub an_own_line : OwnLine kind (word_at words kind) (take (end - at) (drop at text))
      an_own_line =
          own_line kind (word_at words kind) (take (end - at) (drop at text))
          (subst T (sym yes-line ∙ e) tt)

      lines_next : (drop (suc kind) (lines_of text) ≡ lines_of (drop (end + 1) text)) × (get_or (lines_of text) kind [] ≡ take (end - at) (drop at text))
      lines_next =
          drop_next kind (lines_of text) (take (end - at) (drop at text)) (lines_of (drop (end + 1) text)) (so_far.rest ∙ lines_split)

      put_more : (row : List ℕ) → word_in row ≡ after_comma (take (end - at) (drop at text)) → (i : ℕ) → i < kind + 1
          → word_in (get_or (set own kind row) i []) ≡ word_at (map after_comma (lines_of text)) i
      put_more row word i h = go (eqb i kind) refl
        where
          own_put : word_in (get_or (set own kind row) kind []) ≡ word_at (map after_comma (lines_of text)) kind
          own_put =
              ap (λ (w : List ℕ). word_in w) (get_or-set_same own kind row [] (omega (arith, so_far.long, more)))
              ∙ word
              ∙ ap (λ (l : List ℕ). after_comma l) (sym lines_next.1)
              ∙ sym (get_or-map after_comma (lines_of text) kind [])

          go : (b : Bool) → eqb i kind ≡ b → word_in (get_or (set own kind row) i []) ≡ word_at (map after_comma (lines_of text)) i
          go true q = rw (eqb-true i kind q) own_put
          go false q =
              ap (λ (w : List ℕ). word_in w) (get_or-set_other own kind i row [] (eqb-false i kind q))
              ∙ so_far.put i (omega (arith, eqb-false i kind q))

      pub next_turn : (row : List ℕ) → word_in row ≡ after_comma (take (end - at) (drop at text)) → end ≤ length text
          → ReadTo text (set own kind row) (end + 1) (kind + 1)
      next_turn row word inside =
          record {
            listed = omega arith;
            within = omega arith;
            long = length-set own kind row ∙ so_far.long;
            rest = ap (λ (n : ℕ). drop n (lines_of text)) (add-one kind) ∙ lines_next.0;
            answer = turn
                ∙ ap (λ (b : Bool). b && are_own_lines (suc kind) (drop (suc kind) words) (lines_of (drop (end + 1) text))) (sym e ∙ yes-line)
                ∙ ap (λ (n : ℕ). are_own_lines n (drop n words) (lines_of (drop (end + 1) text))) (sym (add-one kind));
            put = put_more row word;
          }

-- ---- all kinds have their lines

module _ (text : List ℕ) (own : List (List ℕ)) (at kind : ℕ) (so_far : ReadTo text own at kind) (all : length words ≤ kind) where
  none_due : drop kind words ≡ []
  none_due = drop_of_length-le words {i = kind} (omega arith)

  pub too_many : at < length text → false ≡ are_own_lines 0 words (lines_of text)
  unfolding are_own_lines
  too_many here = sym (so_far.answer ∙ ap₂ (are_own_lines kind) none_due (lines_from text at here))

  pub as_many : length text ≤ at → true ≡ are_own_lines 0 words (lines_of text)
  unfolding are_own_lines
  as_many h = sym (so_far.answer ∙ ap₂ (are_own_lines kind) none_due (lines_done text at h))

  pub words_put : length text ≤ at → words_in own ≡ map after_comma (lines_of text)
  words_put h =
      let count = lines_count 0 words (lines_of text) (subst T (as_many h) tt) in
      ext_get_or [] (words_in own) (map after_comma (lines_of text)) (words_in_count own ∙ sym count)
      (λ i g. let below : i < length words = omega (arith, g, words_in_count own) in
      word_in_row own i below ∙ so_far.put i (omega (arith, below, all)))
