-- A plan's text that was read: the table that was lent to the reader holds its rows. Assumes nothing.
use Rattle.std.specs.Prelude.{Ok, Err}
use mathlib.Core.Path.{◌≡◌, sym, ap, ◌∙◌}
use mathlib.Core.List.{List}
use Prim.Native.Nat.{ℕ}
use lib.IntN.{ℤ}
use Rattle.refusals.specs.declared.Refusal.{Refusal}
use Rattle.refusals.specs.Answers.{unless_refused, Answer}
use Rattle.words.specs.Kinds.{Row}
use Rattle.words.specs.Words.{look_up}
use Rattle.texts.specs.Texts.{lines_of}
use Rattle.lines.specs.Reading.{rows_in, reading, head_of, plan_limits}
use Rattle.lines.proofs.TableLaws.{refused_into}
use Rattle.lines.specs.declared.Heads.TheVariants.{Words}
use Rattle.lines.specs.Lent.{TableInto}
use Rattle.syntax.specs.Reading.{plan_of}
use Rattle.typing.specs.Entry.{check_plan_rows}
use Rattle.typing.proofs.Laws.Texts.{read_text, unread_text}
use Rattle.translate.specs.Entry.{made_rows, make_plan, rows_made, make_text}
use Rattle.translate.specs.Laws.Answers.{text_refused}
use Rattle.translate.proofs.MadeLaws.{into_as}

module _ (ws : List (List ℕ)) (t : List ℕ) (r : Answer) (e : r ≡ reading (head_of ws Words) plan_limits t) where
  abbrev R : List Row
  R = rows_in (look_up ws) (lines_of t)

  pub text_unread : {q : Refusal} (lk : List ℕ) (ln : List ℤ) → r ≡ Err q → TableInto (make_text ws t) (rows_made ws t) lk ln r lk ln
  text_unread {q} lk ln f = refused_into (rows_made ws t) lk ln (f ∙ sym (text_refused ws t q (unread_text ws t q (sym e ∙ f)))) f

  pub text_made : {m : ℕ} {S : List Row} {lk lk' : List ℕ} {ln ln' : List ℤ} {v : Answer} → r ≡ Ok m → S ≡ R
      → TableInto (unless_refused (check_plan_rows S) (make_plan (plan_of S))) (made_rows (plan_of S)) lk ln v lk' ln'
      → TableInto (make_text ws t) (rows_made ws t) lk ln v lk' ln'
  unfolding make_text
  text_made {m} f held I =
      into_as
      (ap (λ (S : List Row). unless_refused (check_plan_rows S) (make_plan (plan_of S))) held
      ∙ ap (λ (a : Answer). unless_refused a (make_plan (plan_of R))) (sym (read_text ws t m (sym e ∙ f))))
      (ap (λ (S : List Row). made_rows (plan_of S)) held) I
