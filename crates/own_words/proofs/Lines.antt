-- What the functions over lines know at each way out. A part of a slice from place n on is `take (length l - n) (drop n l)`. Assumes
-- nothing.
use Rattle.std.specs.Prelude.{Option, Some}
use mathlib.Core.Path.{◌≡◌, sym, ap, ap₂, ◌∙◌}
use mathlib.Core.Bool.{Bool, false, ◌&&◌}
use mathlib.Core.List.{List}
use Prim.Native.Nat.{ℕ, suc, ◌+◌, ◌-◌, ◌≤◌, ◌<◌}
use native.Mathlib.Numerals.{add-one}
use native.Mathlib.Omega.{arith}
use lib.ListN.{length, take, drop, length-drop}
use lib.Seq.{take_all}
use Rattle.words.proofs.Laws.{same_true, same_false, own_place, found_word, words_good}
use Rattle.words.specs.Words.{words, word_at, same_letters, look_up}
use Rattle.texts.specs.Texts.{place_of, before_comma, after_comma}
use Rattle.own_words.specs.OwnWords.{is_own_word, is_own_line}
use Rattle.own_words.proofs.Letters.{and_false, no_letters}

pub part_all : (l : List ℕ) (n : ℕ) → take (length l - n) (drop n l) ≡ drop n l
part_all l n = take_all (length l - n) (drop n l) (omega (arith, length-drop n l))

-- what stands behind the comma, by the place of the comma
pub behind_comma : (l : List ℕ) (n : ℕ) → n ≡ place_of 44 l → take (length l - (n + 1)) (drop (n + 1) l) ≡ after_comma l
behind_comma l n comma = part_all l (n + 1) ∙ ap (λ (k : ℕ). drop k l) (add-one n ∙ ap suc comma)

-- where anything stands behind it, there is one
pub comma_within : (l : List ℕ) (n : ℕ) → n ≡ place_of 44 l → 1 ≤ length (after_comma l) → n + 1 ≤ length l
comma_within l n comma some = omega (arith, comma, length-drop (suc (place_of 44 l)) l)

-- ---- a line, by where its front is found in the table of built-in words

module _ (k : ℕ) (l : List ℕ) (n : ℕ) (listed : k < length words) (comma : n ≡ place_of 44 l) {table : List (List ℕ)} (built_in : table ≡ words) where
  front : {found : Option ℕ} → found ≡ look_up table (take n l) → found ≡ look_up words (before_comma l)
  front look = look ∙ ap₂ look_up built_in (ap (λ (m : ℕ). take m l) comma)

  pub not_there : {found : Option ℕ} → found ≡ look_up table (take n l) → (found ≡ Some k → ⊥) → false ≡ is_own_line k (word_at words k) l
  unfolding is_own_line
  not_there look other =
      ap (λ (b : Bool). b && is_own_word k (after_comma l)) (same_false (before_comma l) (word_at words k)
      (λ e. other (front look ∙ ap (look_up words) e ∙ own_place words k words_good.apart listed)))

  pub no_comma : length l ≡ n → false ≡ is_own_line k (word_at words k) l
  unfolding is_own_line
  no_comma e =
      sym (ap (λ (b : Bool). same_letters (before_comma l) (word_at words k) && b)
      (sym (no_letters k (after_comma l) (omega (arith, comma, e, length-drop (suc (place_of 44 l)) l))))
      ∙ and_false (same_letters (before_comma l) (word_at words k)))

  pub there : {found : Option ℕ} {r : Bool} → found ≡ look_up table (take n l) → found ≡ Some k
      → r ≡ is_own_word k (take (length l - (n + 1)) (drop (n + 1) l)) → r ≡ is_own_line k (word_at words k) l
  unfolding is_own_line
  there look at own =
      own
      ∙ ap (is_own_word k) (behind_comma l n comma)
      ∙ ap (λ (b : Bool). b && is_own_word k (after_comma l))
      (same_true (before_comma l) (word_at words k) (sym (found_word words (before_comma l) k (sym (front look) ∙ at)).1))
