-- What each way out of the entries knows. Assumes nothing.
use Rattle.std.specs.Prelude.{Ok, Err}
use Rattle.loops.specs.Checked.{Checked, passing}
use Rattle.refusals.specs.Answers.{Answer}
use mathlib.Core.Bool.{Bool, cond}
use mathlib.Core.Path.{◌≡◌, sym, ap, ◌∙◌}
use mathlib.Core.List.{List}
use Prim.Native.Nat.{ℕ, ◌≤◌, ◌<◌, min}
use native.Mathlib.Omega.{arith}
use borrow.Author.Tests.{le-leb, lt-leb}
use lib.Dec.{leb}
use lib.IntN.{ℤ}
use lib.ListN.{length, take}
use Rattle.refusals.specs.declared.Refusal.{Refusal}
use Rattle.refusals.specs.declared.Refusal.TheVariants.{UnknownOrder, StoreSize}
use Rattle.words.specs.Kinds.{Row, rows_of}
use Rattle.words.proofs.Laws.{rows_length}
use Rattle.texts.specs.Texts.{lines_of}
use Rattle.lines.specs.Reading.{rows_in, head_of, loops_limits, reading}
use Rattle.lines.proofs.Laws.{rows_read}
use Rattle.lines.specs.declared.Heads.TheVariants.{Words}
use Rattle.meaning.specs.Loops.{Loops}
use Rattle.meaning.specs.Rows.{loops_rows}
use Rattle.meaning.specs.Counts.{command_writes}
use Rattle.meaning.specs.Limits.{LoopsPass}
use Rattle.syntax.specs.Reading.{loops_of}
use Rattle.syntax.specs.Theorems.{loops_read}
use Rattle.syntax.proofs.Tables.{rows_take}
use Rattle.loops.specs.Check.{after_answer, check_loops_rows, check_table, check_loops_text}
use Rattle.loops.specs.Theorems.{passes_exactly}
use Rattle.loops.specs.TableTheorems.{few_rows, table_passes_exactly}
use Rattle.interpreter.specs.Orders.{run_of}
use Rattle.interpreter.specs.Interpreter.{state_of}
use Rattle.run.specs.Run.{Ran, outcome, finished, refused, asked_run, run_checked, run_table, run_text}

-- ---- questions 13 and 14, and the run

module _ (L : Loops) (need order : ℕ) (s : List ℤ) where
  abbrev enough : Bool → Ran
  enough b = cond b (finished (run_of L order s)) (refused StoreSize s)

  pub order_unknown : 2 < order → outcome (Err UnknownOrder) s ≡ asked_run L need order s
  unfolding asked_run
  order_unknown h = ap (λ (b : Bool). cond b (enough (leb need (length s))) (refused UnknownOrder s)) (sym (lt-leb order 2 h))

  order_known : order ≤ 2 → enough (leb need (length s)) ≡ asked_run L need order s
  unfolding asked_run
  order_known h = ap (λ (b : Bool). cond b (enough (leb need (length s))) (refused UnknownOrder s)) (sym (le-leb order 2 h))

  pub store_short : order ≤ 2 → length s < need → outcome (Err StoreSize) s ≡ asked_run L need order s
  store_short h g = ap enough (sym (lt-leb need (length s) g)) ∙ order_known h

  pub run_finished : order ≤ 2 → need ≤ length s → (r : ℕ) (s' : List ℤ) → state_of s' r ≡ run_of L order s
      → outcome (Ok r) s' ≡ asked_run L need order s
  run_finished h g r s' e = ap finished e ∙ ap enough (sym (le-leb need (length s) g)) ∙ order_known h

-- the loops whose rows pass are those that the rows are read as
pub passing_loops : (ks : List ℕ) (ns : List ℤ) (order w n r : ℕ) (s s' : List ℤ) → check_loops_rows (rows_of ks ns) ≡ passing w n
    → ((L : Loops) → rows_of ks ns ≡ loops_rows L → LoopsPass L → command_writes L.command ≤ 16777216 → state_of s' r ≡ run_of L order s)
    → state_of s' r ≡ run_of (loops_of (rows_of ks ns)) order s
passing_loops ks ns order w n r s s' e g =
    let a = (passes_exactly (rows_of ks ns) w n).0 e in
    g a.loops a.rows a.passes (omega (arith, a.writes_few, a.writes))
    ∙ ap (λ (L : Loops). run_of L order s) (sym (ap loops_of a.rows ∙ loops_read a.loops))

-- ---- a lent table

module _ (ks : List ℕ) (ns : List ℤ) (order : ℕ) (s : List ℤ) (c : Checked) (e : c ≡ check_table (rows_of ks ns)) where
  abbrev R : List Row
  R = rows_of ks ns

  pub table_refused : (q : Refusal) → c ≡ Err q → outcome (Err q) s ≡ run_table R order s
  unfolding run_table
  table_refused q f = ap (λ (x : Checked). run_checked x (loops_of R) order s) (sym f ∙ e)

  module _ (w n m : ℕ) (f : c ≡ passing w n) (j : m ≡ min (length ks) (length ns)) where
    pub table_few : m ≤ 4096
    table_few = let a = (table_passes_exactly R w n).0 (sym e ∙ f) in omega (arith, a.0, j, rows_length ks ns)

    pub table_run : (r : Answer) (s' : List ℤ)
        → ((w : ℕ) → check_loops_rows (rows_of (take m ks) (take m ns)) ≡ passing w n
        → outcome r s' ≡ asked_run (loops_of (rows_of (take m ks) (take m ns))) n order s)
        → outcome r s' ≡ run_table R order s
    unfolding run_table
    table_run r s' g =
        let t : rows_of (take m ks) (take m ns) ≡ R = rows_take m ks ns j in
        let a = (table_passes_exactly R w n).0 (sym e ∙ f) in
        g w (ap check_loops_rows t ∙ sym (few_rows R a.0) ∙ sym e ∙ f)
        ∙ ap (λ (x : List Row). asked_run (loops_of x) n order s) t
        ∙ ap (λ (x : Checked). run_checked x (loops_of R) order s) (sym f ∙ e)

-- ---- a text

module _ (ws : List (List ℕ)) (t : List ℕ) (order : ℕ) (s : List ℤ) {d : Answer} (i : d ≡ reading (head_of ws Words) loops_limits t) where
  abbrev rows : List Row
  rows = rows_in (head_of ws Words) (lines_of t)

  pub text_refused : {q : Refusal} → d ≡ Err q → outcome d s ≡ run_text ws t order s
  unfolding run_text check_loops_text
  text_refused f =
      ap (λ (x : Answer). outcome x s) f
      ∙ ap (λ (x : Answer). run_checked (after_answer x (check_loops_rows rows)) (loops_of rows) order s) (sym f ∙ i)

  pub text_run : {n : ℕ} {S : List Row} → d ≡ Ok n → n ≤ 4096 → S ≡ rows → (r : Answer) (s' : List ℤ)
      → outcome r s' ≡ run_table S order s → outcome r s' ≡ run_text ws t order s
  unfolding run_table run_text check_loops_text
  text_run {n} f h held r s' e =
      let few : length rows ≤ 4096 = omega (arith, h, rows_read (head_of ws Words) loops_limits t n (sym i ∙ f)) in
      e ∙ ap (λ (z : List Row). run_table z order s) held
      ∙ ap (λ (z : Checked). run_checked z (loops_of rows) order s) (few_rows rows few ∙ ap (λ (z : Answer). after_answer z (check_loops_rows rows)) (sym f ∙ i))
