-- A text that was read: its answer is that of its rows. Assumes nothing.
use Rattle.std.specs.Prelude.{Err, Ok}
use Rattle.loops.specs.Checked.{Checked}
use Rattle.refusals.specs.Answers.{Answer}
use mathlib.Core.Path.{◌≡◌, sym, ap, ◌∙◌}
use mathlib.Core.List.{List}
use Prim.Native.Nat.{ℕ}
use Rattle.refusals.specs.declared.Refusal.{Refusal}
use Rattle.words.specs.Kinds.{Row}
use Rattle.lines.specs.Reading.{reading, loops_limits}
use Rattle.words.specs.Words.{look_up}
use Rattle.lines.specs.Lent.{text_rows}
use Rattle.loops.specs.Check.{after_answer, check_loops_rows, check_loops_text}

module _ (ws : List (List ℕ)) (t : List ℕ) where
  module _ {r : Answer} (e : r ≡ reading (look_up ws) loops_limits t) where
    by_reading : {x : Answer} → r ≡ x → after_answer x (check_loops_rows (text_rows ws t)) ≡ check_loops_text ws t
    unfolding check_loops_text
    by_reading f = ap (λ (y : Answer). after_answer y (check_loops_rows (text_rows ws t))) (sym f ∙ e)

    pub text_refused : {q : Refusal} → r ≡ Err q → Err q ≡ check_loops_text ws t
    text_refused f = by_reading f

    pub text_checked : {n : ℕ} {R : List Row} {c : Checked} → r ≡ Ok n → R ≡ text_rows ws t → c ≡ check_loops_rows R → c ≡ check_loops_text ws t
    text_checked f same q = q ∙ ap check_loops_rows same ∙ by_reading f
