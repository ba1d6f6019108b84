-- What it means that a lent table passes the check: what Theorems says of rows, said of a table. It rests on `check_table` of Check and on
-- `Accepted` of Theorems. Assumes nothing.
use Rattle.std.specs.Prelude.{Bool, true, false, cond, ◌≡◌, List, [], ◌↔◌, ℕ, ◌≤◌, ◌<◌, leb, length, Err, Ok}
use Rattle.loops.specs.Checked.{Checked, passing}
use Rattle.refusals.specs.Answers.{Answer}
use Rattle.std.proofs.Math.Path.{refl, ap}
use Rattle.std.proofs.Common.{sym, ◌∙◌, arith, leb-true, leb-false, le-leb}
use Rattle.std.proofs.lemmas.Bool.{lt-leb}
use Rattle.refusals.specs.declared.Refusal.{Refusal}
use Rattle.refusals.specs.declared.Refusal.TheVariants.{LineCount, RowDue}
use Rattle.words.specs.Kinds.{Row}
use Rattle.meaning.specs.Numbers.{NumberDomain}
use Rattle.meaning.specs.Loops.{Loops}
use Rattle.meaning.specs.Layout.{regions_from}
use Rattle.meaning.specs.Runs.{Store, start_of}
use Rattle.meaning.specs.Rows.{loops_rows}
use Rattle.meaning.specs.Limits.{TouchesBelow}
use Rattle.syntax.specs.Walk.{walk_from, listed_from, walk_table}
use Rattle.syntax.specs.Reading.{loops_of}
use Rattle.syntax.specs.Laws.Listed.{all_listed, one_unlisted}
use Rattle.loops.specs.Check.{check_loops, after_answer, check_loops_rows, check_table}
use Rattle.loops.specs.Theorems.{Accepted, RunsSafely, passes_exactly, safe, runs_safely}

no_refusal : {A : Type 0} {q : Refusal} {w n : ℕ} → Err q ≡ passing w n → A
no_refusal e = absurd (let z : ◌≡◌ {A = ℕ} 0 1 = cc in omega arith)

-- [10.2] Every kind is that of a word.
abbrev pub AllListed : List Row → Type 0
AllListed R = listed_from 0 R (Ok (length R)) ≡ Ok (length R)

-- A table of no rows lacks its first.
pub no_rows : check_table [] ≡ Err (RowDue 1)
unfolding check_table check_loops_rows walk_table listed_from walk_from
no_rows = refl

module _ (R : List Row) where
  abbrev limited_rows : Bool → Checked
  limited_rows b = cond b (check_loops_rows R) (Err LineCount)

  few : length R ≤ 4096 → limited_rows (leb (length R) 4096) ≡ check_loops_rows R
  few h = ap limited_rows (le-leb (length R) 4096 h)

  many : 4096 < length R → limited_rows (leb (length R) 4096) ≡ Err LineCount
  many h = ap limited_rows (lt-leb (length R) 4096 h)

  unlisted_rows : (q : Refusal) → listed_from 0 R (Ok (length R)) ≡ Err q → check_loops_rows R ≡ Err q
  unfolding check_loops_rows walk_table
  unlisted_rows q e =
      ap (λ (a : Answer). after_answer a (check_loops (loops_of R))) (one_unlisted R 0 (length R) q _ e)

  -- by question 2
  by_kinds : {A : Type 0} → ((q : Refusal) → listed_from 0 R (Ok (length R)) ≡ Err q → check_table R ≡ Err q → A)
      → (AllListed R → check_table R ≡ limited_rows (leb (length R) 4096) → A) → A
  unfolding check_table
  by_kinds {A} unlisted listed = go (listed_from 0 R (Ok (length R))) refl
    where
      go : (a : Answer) → listed_from 0 R (Ok (length R)) ≡ a → A
      go (Err q) e = unlisted q e (ap (λ (a : Answer). after_answer a (limited_rows (leb (length R) 4096))) e)
      go (Ok m) e =
          listed (all_listed R 0 m (Ok (length R)) (Ok (length R)) e)
          (ap (λ (a : Answer). after_answer a (limited_rows (leb (length R) 4096))) e)

  -- A table of at most 4,096 rows is checked as its rows.
  pub few_rows : length R ≤ 4096 → check_table R ≡ check_loops_rows R
  few_rows h = by_kinds (λ q e f. f ∙ sym (unlisted_rows q e)) (λ e f. f ∙ few h)

  -- by question 3
  by_rows : {A : Type 0} → ((length R ≤ 4096) → A) → (4096 < length R → A) → A
  by_rows {A} h g = go (leb (length R) 4096) refl
    where
      go : (b : Bool) → leb (length R) 4096 ≡ b → A
      go true e = h (leb-true _ _ e)
      go false e = g (leb-false _ _ e)

  -- A table passes exactly when it has at most 4,096 rows, and they are those of loops that satisfy the bounds and limits.
  pub table_passes_exactly : (w n : ℕ) → (check_table R ≡ passing w n) ↔ ((length R ≤ 4096) × Accepted R w n)
  table_passes_exactly w n = (
    λ e.
        by_kinds (λ q f g. no_refusal (sym g ∙ e))
        (λ f g. by_rows (λ h. (h, (passes_exactly R w n).0 (sym (few h) ∙ sym g ∙ e))) (λ h. no_refusal (sym (many h) ∙ sym g ∙ e))),
    λ h. few_rows h.0 ∙ (passes_exactly R w n).1 h.1,
  )

  -- [9.9] Loops that pass run safely.
  rows_pass : (w n : ℕ) → check_table R ≡ passing w n → check_loops_rows R ≡ passing w n
  rows_pass w n e = (passes_exactly R w n).1 ((table_passes_exactly w n).0 e).1

  pub table_safe : (w n : ℕ) → check_table R ≡ passing w n
      → (L : Loops) × (R ≡ loops_rows L) × TouchesBelow n L.command (start_of L) (regions_from L)
  table_safe w n e = safe R w n (rows_pass w n e)

  pub table_runs_safely : (𝓝 : NumberDomain) (w n : ℕ) → check_table R ≡ passing w n
      → (L : Loops) × (R ≡ loops_rows L) × ((s : Store 𝓝) → RunsSafely 𝓝 L w n s)
  table_runs_safely 𝓝 w n e = runs_safely 𝓝 R w n (rows_pass w n e)
