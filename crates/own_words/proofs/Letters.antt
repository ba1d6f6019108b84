-- The test of an own word. Assumes nothing.
use mathlib.Core.Path.{◌≡◌, refl, sym, ap, ◌∙◌}
use mathlib.Core.Bool.{Bool, true, false, ◌&&◌}
use mathlib.Core.List.{List, [], ◌∷◌}
use Prim.Native.Nat.{ℕ, zero, suc, ◌+◌, ◌≤◌, ◌<◌}
use native.Mathlib.Numerals.{add-one}
use native.Mathlib.Nat.{le_of_suc-le-suc, not-suc-le-zero}
use native.Mathlib.Omega.{arith}
use borrow.Author.Tests.{le-leb, lt-leb}
use lib.Dec.{leb}
use lib.ListN.{length, get_or, drop, drop_of_length-le}
use lib.Seq.{drop-cons}
use Rattle.words.specs.Good.{lower_case}
use Rattle.own_words.specs.OwnWords.{most_letters, is_own_word}

and_true : (b : Bool) → b && true ≡ b
and_true true = refl
and_true false = refl

pub and_false : (b : Bool) → b && false ≡ false
and_false true = refl
and_false false = refl

-- ---- an own word

module _ (k : ℕ) (w : List ℕ) where
  pub no_letters : length w ≡ 0 → false ≡ is_own_word k w
  unfolding is_own_word
  no_letters e =
      sym (ap (λ (b : Bool). lower_case w && b && leb (length w) (most_letters k)) (lt-leb 1 (length w) (omega (arith, e)))
      ∙ ap (λ (b : Bool). b && leb (length w) (most_letters k)) (and_false (lower_case w)))

  pub many_letters : most_letters k < length w → false ≡ is_own_word k w
  unfolding is_own_word
  many_letters h =
      sym (ap (λ (b : Bool). lower_case w && leb 1 (length w) && b) (lt-leb (length w) (most_letters k) h)
      ∙ and_false (lower_case w && leb 1 (length w)))

  pub own_letters : {r : Bool} → (length w ≡ 0 → ⊥) → length w ≤ most_letters k → r ≡ lower_case w → r ≡ is_own_word k w
  unfolding is_own_word
  own_letters some most e =
      e
      ∙ sym (ap (λ (b : Bool). lower_case w && leb 1 (length w) && b) (le-leb (length w) (most_letters k) most)
      ∙ and_true (lower_case w && leb 1 (length w))
      ∙ ap (λ (b : Bool). lower_case w && b) (le-leb 1 (length w) (omega (arith, some)))
      ∙ and_true (lower_case w))

-- what stands past the end does not matter before it
pub get_d_within : (l : List ℕ) (i d e : ℕ) → i < length l → get_or l i d ≡ get_or l i e
get_d_within [] i d e h = absurd (not-suc-le-zero h)
get_d_within (b ∷ bs) zero d e h = refl
get_d_within (b ∷ bs) (suc i) d e h = get_d_within bs i d e (le_of_suc-le-suc h)
