-- What `read` answers at each way out. Assumes nothing.
use Rattle.std.specs.Prelude.{Some, None, Ok, Err}
use mathlib.Core.Path.{◌≡◌, refl, sym, ap, ap₂, ◌∙◌}
use mathlib.Core.Bool.{Bool, true, false, cond, ◌&&◌}
use mathlib.Core.List.{List, [], ◌∷◌}
use Prim.Native.Nat.{ℕ, ◌-◌}
use native.Mathlib.Omega.{arith}
use borrow.Author.Tests.{eq-eqb, ne_eqb}
use lib.Dec.{eqb}
use lib.ListN.{length, get_or}
use Rattle.words.specs.Good.{distinct}
use Rattle.words.specs.Tables.{words_in}
use Rattle.words.specs.Words.{words}
use Rattle.texts.specs.Texts.{lines_of}
use Rattle.refusals.specs.declared.Refusal.TheVariants.{WordsForm, WordTwice}
use Rattle.own_words.specs.OwnWords.{are_own_lines, is_words_text, own_words, ask_words, TakesLines}
use Rattle.own_words.specs.Promises.{ReadsWords}
use Rattle.own_words.proofs.Letters.{and_false}

-- an empty text does not end with byte 10
pub nothing_closed : (t : List ℕ) → length t ≡ 0 → get_or t (length t - 1) 0 ≡ 10 → ⊥
nothing_closed [] h e = omega arith
nothing_closed (b ∷ bs) h e = omega arith

-- the answer, by those to the two questions
module _ (t : List ℕ) where
  by_questions : {f d : Bool} → f ≡ is_words_text t → d ≡ distinct (own_words t)
      → cond f (cond d (Ok (length words)) (Err WordTwice)) (Err WordsForm) ≡ ask_words t
  unfolding ask_words
  by_questions form apart =
      ap₂ (λ (f d : Bool). cond f (cond d (Ok (length words)) (Err WordTwice)) (Err WordsForm)) form apart

  -- [16.4] "no"
  not_formed : false ≡ is_words_text t → ReadsWords t (Err WordsForm)
  not_formed form = sym (by_questions form refl)

  pub not_closed : (get_or t (length t - 1) 0 ≡ 10 → ⊥) → ReadsWords t (Err WordsForm)
  unfolding is_words_text
  not_closed last = not_formed (sym (ap (λ (b : Bool). b && are_own_lines 0 words (lines_of t)) (ne_eqb (get_or t (length t - 1) 0) 10 last)))

  pub not_lines : TakesLines t None → ReadsWords t (Err WordsForm)
  unfolding is_words_text
  not_lines refused =
      not_formed (sym (ap (λ (b : Bool). eqb (get_or t (length t - 1) 0) 10 && b) refused ∙ and_false (eqb (get_or t (length t - 1) 0) 10)))

  -- [16.4] "yes"
  module _ (table : List (List ℕ)) {d : Bool} (last : get_or t (length t - 1) 0 ≡ 10) (taken : TakesLines t (Some table))
      (apart : d ≡ distinct (words_in table)) where
    formed : true ≡ is_words_text t
    unfolding is_words_text
    formed = sym (ap₂ ◌&&◌ (eq-eqb (get_or t (length t - 1) 0) 10 last) taken.0)

    own : words_in table ≡ own_words t
    unfolding own_words
    own = taken.1

    pub two_alike : d ≡ false → ReadsWords t (Err WordTwice)
    two_alike e = sym (by_questions formed (sym e ∙ apart ∙ ap distinct own))

    pub all_read : d ≡ true → ReadsWords t (Ok table)
    all_read e = (sym (by_questions formed (sym e ∙ apart ∙ ap distinct own)), own)
