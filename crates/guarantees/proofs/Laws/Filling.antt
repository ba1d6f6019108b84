-- Demand 1 of the values file. Assumes nothing.
use Rattle.std.specs.Prelude.{◌≡◌, refl, ℕ, ℤ, length, Ok, Err}
use Rattle.std.proofs.Math.Path.{sym, ap}
use Rattle.std.proofs.Common.{◌∙◌, arith}
use mathlib.Core.List.{List, map}
use Rattle.texts.specs.Texts.{lines_of}
use Rattle.lines.specs.Reading.{cell_head, values_limits, kinds_of, filled}
use Rattle.refusals.specs.Answers.{after, is_told, Answer}
use Rattle.meaning.specs.Sequence.{up_from}
use Rattle.typing.specs.Questions.{Question, ask}
use Rattle.typing.specs.EntryQuestions.{form_questions}
use Rattle.typing.proofs.Laws.Questions.{ask_append, ask_through}
use Rattle.typing.proofs.Laws.EntryQuestions.{reading_asks_form}
use Rattle.values.specs.Values.{asked, value_lines, filling, value_of}
use Rattle.values.specs.Promises.{FillsStore}
use Rattle.guarantees.specs.Told.{told_answer}
use Rattle.guarantees.specs.Answers.{Answers}
use Rattle.guarantees.specs.Questions.{fill_questions}
use Rattle.guarantees.specs.Demand1.{TextLeft}
use Rattle.guarantees.proofs.Laws.Asked.{answers}
use Rattle.guarantees.proofs.Laws.Told.{told_asks, answer_refused, answer_done}

module _ (t : List ℕ) (n cells : ℕ) where
  abbrev cs : List ℕ
  cs = kinds_of (value_lines t)

  abbrev lines : ℕ
  lines = length (lines_of t)

  pub filling_asks : filling t n cells ≡ ask Err (fill_questions t n cells) (Ok lines)
  unfolding filling ask
  filling_asks =
      let form : List Question = form_questions cell_head 65536 t in
      let next : Answer → Answer = λ r. after r (asked n cells cs) in
      ap next (reading_asks_form cell_head values_limits t (omega arith))
      ∙ ask_through Err Err next (λ q. refl) form (Ok lines)
      ∙ sym (ask_append Err form _ (Ok lines))

pub fill : (t : List ℕ) (n : ℕ) (s s' : List ℤ) (r : Answer) → FillsStore t n s r s'
    → Answers (fill_questions t n (length s)) (length (lines_of t)) (s' ≡ s)
    (TextLeft (map (value_of (value_lines t)) (up_from 0 n)) s s') (told_answer r)
fill t n s s' r I =
    let put : List ℤ = map (value_of (value_lines t)) (up_from 0 n) in
    answers (fill_questions t n (length s)) (length (lines_of t)) (s' ≡ s) (TextLeft put s s') (told_answer r)
    (ap told_answer I.answer
    ∙ told_asks Err told_answer (λ q. refl) (fill_questions t n (length s)) (Ok (length (lines_of t))) _ (filling_asks t n (length s)))
    (λ q e. answer_refused r q e (λ p f. I.store_left ∙ ap (λ (a : Answer). filled (is_told a) put s) f))
    (λ e. answer_done r _ e (λ m f. I.store_left ∙ ap (λ (a : Answer). filled (is_told a) put s) f))
