-- A text that was read: its answer is that of its rows. Assumes nothing.
use Rattle.std.specs.Prelude.{Ok, Err}
use mathlib.Core.Path.{◌≡◌, refl, sym, ap, ◌∙◌}
use mathlib.Core.List.{List}
use Prim.Native.Nat.{ℕ}
use Rattle.refusals.specs.declared.Refusal.{Refusal}
use Rattle.refusals.specs.Answers.{unless_refused, Answer}
use Rattle.words.specs.Kinds.{Row}
use Rattle.words.specs.Words.{look_up}
use Rattle.lines.specs.Reading.{reading, plan_limits}
use Rattle.lines.specs.Lent.{text_rows}
use Rattle.typing.specs.Entry.{check_plan_rows, check_plan_text}

module _ (ws : List (List ℕ)) (t : List ℕ) where
  text_asked : check_plan_text ws t ≡ unless_refused (reading (look_up ws) plan_limits t) (check_plan_rows (text_rows ws t))
  unfolding check_plan_text
  text_asked = refl

  module _ {r : Answer} (e : r ≡ reading (look_up ws) plan_limits t) where
    by_reading : {x : Answer} → r ≡ x → unless_refused x (check_plan_rows (text_rows ws t)) ≡ check_plan_text ws t
    by_reading f = ap (λ (y : Answer). unless_refused y (check_plan_rows (text_rows ws t))) (sym f ∙ e) ∙ sym text_asked

    pub text_refused : {q : Refusal} → r ≡ Err q → r ≡ check_plan_text ws t
    text_refused f = f ∙ by_reading f

    pub text_checked : {n : ℕ} {R : List Row} {c : Answer} → r ≡ Ok n → R ≡ text_rows ws t → c ≡ check_plan_rows R → c ≡ check_plan_text ws t
    text_checked f same q = q ∙ ap check_plan_rows same ∙ by_reading f
