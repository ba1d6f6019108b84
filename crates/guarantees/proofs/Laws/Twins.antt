-- The twins: the contract of each, by the answer to its words text. Assumes nothing.
use Rattle.std.specs.Prelude.{Bool, List, [], ◌∷◌, ℕ, ◌<◌, min, T, length, Ok, Err}
use Rattle.std.proofs.Math.Bool.{true, false, cond}
use Rattle.std.proofs.Math.Path.{◌≡◌, refl, ap}
use Rattle.std.proofs.Common.{sym, ◌∙◌, subst, arith}
use Rattle.refusals.specs.declared.Refusal.{Refusal}
use Rattle.refusals.specs.declared.Refusal.TheVariants.{WordsForm, WordTwice}
use Rattle.refusals.specs.Refusals.{refusal_number, refusal_line}
use Rattle.words.specs.Words.{words}
use Rattle.words.specs.Good.{distinct}
use Rattle.own_words.specs.OwnWords.{is_words_text, own_words, ask_words}
use Rattle.own_words.specs.Under.{Under}
use Rattle.own_words.specs.Laws.{accepted_under, refused_under, under_both, accepted_good, words_text_short}
use Rattle.typing.specs.Questions.{Question, question, ask, AllYes, FirstNo}
use Rattle.typing.proofs.Laws.Questions.{all_asked, first_asked}
use Rattle.vazhdumir.specs.Codes.{refusal_code}
use Rattle.guarantees.specs.Told.{Told, refusal, told_answer, told_writes, told_need, told_compared, told_code}
use Rattle.guarantees.specs.Questions.{words_questions}
use Rattle.guarantees.specs.Twins.{Twin, Twins}
use Rattle.guarantees.proofs.Laws.Codes.{refusal_code_holds}
use Rattle.guarantees.proofs.Laws.Programs.{put_answers, shown_answers}

-- w is the words text.
module _ (w : List ℕ) where
  -- ---- what is answered to it

  words_ask : ask_words w ≡ ask Err (words_questions w) (Ok (length words))
  unfolding ask_words ask
  words_ask = refl

  accepted : AllYes (words_questions w) → ask_words w ≡ Ok (length words)
  accepted h = words_ask ∙ all_asked Err (words_questions w) (Ok (length words)) h

  refused : (q : Refusal) → FirstNo (words_questions w) q → ask_words w ≡ Err q
  refused q f = words_ask ∙ first_asked Err (words_questions w) (Ok (length words)) q f

  -- [16.6] with line 0
  no_line : (q : Refusal) → ask_words w ≡ Err q → refusal_line q ≡ 0
  unfolding ask_words
  no_line q e = go (is_words_text w) (distinct (own_words w)) e
    where
      go : (f d : Bool) → cond f (cond d (Ok (length words)) (Err WordTwice)) (Err WordsForm) ≡ Err q
          → refusal_line q ≡ 0
      go true true e = absurd (let clash : ◌≡◌ {A = ℕ} 0 1 = cc in omega arith)
      go true false e = let same : WordTwice ≡ q = cc in ap refusal_line (sym same)
      go false d e = let same : WordsForm ≡ q = cc in ap refusal_line (sym same)

  -- [16.2] of more than 598 bytes
  long : 598 < length w → FirstNo (words_questions w) WordsForm
  long h = go (is_words_text w) refl
    where
      twice : Question
      twice = question (distinct (own_words w)) WordTwice

      go : (f : Bool) → is_words_text w ≡ f → FirstNo (words_questions w) WordsForm
      go true e = absurd (omega (arith, h, words_text_short w (subst T (sym e) tt)))
      go false e = record {
        before = [];
        others = twice ∷ [];
        order = ap (λ (b : Bool). question b WordsForm ∷ twice ∷ []) e;
        yes_before = tt;
      }

  -- ---- what a twin promises, by what its contract says of a refused words text

  module _ {No : Refusal → Type 0} {Yes : List (List ℕ) → Type 0} where
    twin : {No' : Refusal → Type 0} → ((q : Refusal) → ask_words w ≡ Err q → No q → No' q) → Under w Yes No → Twin w No' Yes
    twin refuses under = record {
      first_no_holds = λ q f. let e = refused q f in refuses q e (refused_under e under);
      all_yes = λ h. accepted_under (accepted h) under;
    }

  -- a number told to C
  code : (r : ℕ) (q : Refusal) → ask_words w ≡ Err q → r ≡ refusal_code q → told_code r ≡ refusal q
  code r q asked e =
      let short : min (refusal_line q) 72057594037927935 ≡ refusal_line q = omega (arith, no_line q asked) in
      ap told_code e ∙ refusal_code_holds q ∙ ap (Told.refused (refusal_number q)) short

  pub twins : Twins w
  twins = record {
    good = λ h. accepted_good w (length words) (accepted h);
    long = long;
    check_plan_holds = λ t r I. twin (λ q e x. (ap told_answer x, tt)) I;
    read_plan = λ t k k' n n' r I. twin (λ q e x. (ap told_answer x.0, (x.1, x.2))) I;
    translate_rows = λ t k k' n n' r I. twin (λ q e x. (ap told_answer x.0, (x.1, x.2))) I;
    translate_text = λ t u u' r I. twin (λ q e x. (ap told_answer x.0, x.1)) I;
    check_loops_holds = λ t r I. twin (λ q e x. (ap told_writes x, ap told_need x)) I;
    need_loops = λ t r I. twin (λ q e x. (ap told_answer x, tt)) I;
    read_loops = λ t k k' n n' r I. twin (λ q e x. (ap told_answer x.0, (x.1, x.2))) I;
    run_text_holds = λ t order c c' b b' r frame I. twin (λ q e x. (ap told_answer x.0, (x.1, x.2))) (under_both I (λ ws x. (frame, x)) (λ q x. x));
    print_loops = λ t u u' r I. twin (λ q e x. put_answers x) I;
    print_run = λ t v s s' u u' r I. twin (λ q e x. shown_answers x _ (λ left. left)) I;
    look_up_holds = λ l r I. twin (λ q e x. (ap told_compared x, tt)) I;
    check_plan_c = λ t r I. twin (λ q e x. (code r q e x, tt)) I;
    translate_c = λ t u u' r I. twin (λ q e x. (code r q e x.0, x.1)) I;
    check_loops_c = λ t r I. twin (λ q e x. (code r q e x, tt)) I;
    need_loops_c = λ t r I. twin (λ q e x. (code r q e x, tt)) I;
    read_loops_c = λ t k k' n n' r I. twin (λ q e x. (code r q e x.0, (x.1, x.2))) I;
    run_text_c = λ t order b b' r I. twin (λ q e x. (code r q e x.0, x.1)) I;
    look_up_c = λ l r I. twin (λ q e x. (code r q e x, tt)) I;
  }
