-- The plan of a text that passes the check. Assumes nothing.
use Rattle.std.specs.Prelude.{◌≡◌, refl, List, ℕ, ◌≤◌, length, Ok, Err}
use Rattle.refusals.specs.Answers.{Answer}
use Rattle.std.proofs.Common.{sym, ap, ◌∙◌, subst, arith}
use Rattle.words.specs.Kinds.{Row}
use Rattle.words.specs.Words.{look_up}
use Rattle.texts.specs.Texts.{lines_of}
use Rattle.lines.specs.Reading.{rows_in, reading, plan_limits}
use Rattle.lines.proofs.Laws.{rows_read}
use Rattle.meaning.specs.Rows.{plan_rows}
use Rattle.syntax.specs.Reading.{plan_of}
use Rattle.syntax.specs.Theorems.{plan_tree}
use Rattle.typing.specs.Entry.{check_plan_text}
use Rattle.typing.specs.Accepted.{Numbers32}
use Rattle.typing.proofs.Laws.EntryQuestions.{passed_refused}
use Rattle.typing.proofs.Laws.Plans.{plan_accepted}
use Rattle.typing.proofs.Laws.Rows.{passed_rows}
use Rattle.typing.proofs.Laws.Texts.{read_within, rows_printable, printable_numbers, read_text, unread_text}
use Rattle.translate.specs.Entry.{plan_in}
use Rattle.translate.specs.Accepted.{TextPlan}

pub text_plan : (ws : List (List ℕ)) (t : List ℕ) (m : ℕ) → check_plan_text ws t ≡ Ok m → TextPlan ws t (plan_in ws t)
text_plan ws t m e = go (reading (look_up ws) plan_limits t) refl
  where
    R : List Row
    R = rows_in (look_up ws) (lines_of t)

    go : (r : Answer) → reading (look_up ws) plan_limits t ≡ r → TextPlan ws t (plan_of R)
    go (Err q) f = passed_refused (sym e ∙ unread_text ws t q f)
    go (Ok k) f =
        let a = passed_rows R m (sym (read_text ws t k f) ∙ e) in
        let p = plan_tree R a.0 in
        let few : length (plan_rows (plan_of R)) ≤ 256 =
        omega (arith, ap length p.1, rows_read (look_up ws) plan_limits t k f, (read_within (look_up ws) t k f).1) in
        let x = plan_accepted (plan_of R) a.2.0 p.0 few a.2.1 in
        record {
          type = a.2.0;
          well_typed = x.0;
          within = x.1;
          numbers = subst Numbers32 p.1 (printable_numbers ws R (rows_printable ws (lines_of t)));
          rows = p.1;
        }
