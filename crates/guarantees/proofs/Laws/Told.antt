-- What is told where an answer is the first "no" of questions; a value is no refusal. Assumes nothing.
use Rattle.std.specs.Prelude.{◌≡◌, refl, List, ◌++◌, ℕ, Ok, Err}
use Rattle.refusals.specs.Answers.{Answer}
use Rattle.std.proofs.Common.{sym, ap, ◌∙◌, arith}
use Rattle.refusals.specs.declared.Refusal.{Refusal}
use Rattle.typing.specs.Questions.{Question, ask}
use Rattle.typing.proofs.Laws.Questions.{ask_append, ask_through}
use Rattle.guarantees.specs.Told.{Told, refusal, told_answer}

pub no_value : {A : Type 0} {v n l : ℕ} → Told.value v ≡ Told.refused n l → A
no_value e = absurd (let clash : ◌≡◌ {A = ℕ} 0 1 = cc in omega arith)

pub no_run : {A : Type 0} {q : Refusal} {w : ℕ} → Err q ≡ Ok w → A
no_run e = absurd (let clash : ◌≡◌ {A = ℕ} 0 1 = cc in omega arith)

-- an answer v that is told by f, where f hands refusals on
pub told_asks : {A : Type 0} (no' : Refusal → A) (f : A → Told) → ((q : Refusal) → f (no' q) ≡ refusal q)
    → (qs : List Question) (end v : A) → v ≡ ask no' qs end → f v ≡ ask refusal qs (f end)
told_asks no' f h qs end v e = ap f e ∙ ask_through no' refusal f h qs end

-- further questions behind those of a plan, or of loops
pub told_further : (door more further : List Question) (r end : Told) → r ≡ ask refusal (door ++ more) (ask refusal further end)
    → r ≡ ask refusal (door ++ (more ++ further)) end
told_further door more further r end e =
    e
    ∙ ask_append refusal door more (ask refusal further end)
    ∙ ap (ask refusal door) (sym (ask_append refusal more further end))
    ∙ sym (ask_append refusal door (more ++ further) end)

-- ---- which answer it was

module _ {A : Type 0} where
  pub answer_refused : (r : Answer) (q : Refusal) → told_answer r ≡ refusal q → ((p : Refusal) → r ≡ Err p → A) → A
  answer_refused (Ok n) q e f = no_value e
  answer_refused (Err p) q e f = f p refl

  pub answer_done : (r : Answer) (v : ℕ) → told_answer r ≡ Told.value v → ((n : ℕ) → r ≡ Ok n → A) → A
  answer_done (Ok n) v e f = f n refl
  answer_done (Err p) v e f = no_value (sym e)
