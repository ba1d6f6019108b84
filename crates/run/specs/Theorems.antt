-- What it means that loops are run. It rests on Run, on `run_of` of `interpreter`, on `RunOf` and `run_loops` of `meaning`, and on the
-- check of `loops`. Assumes nothing.
use Rattle.std.specs.Prelude.{Bool, true, false, cond, ◌≡◌, refl, List, ℕ, ◌≤◌, leb, ℤ, length, Err, Ok}
use Rattle.loops.specs.Checked.{Checked, passing}
use Rattle.std.proofs.Common.{ap, ◌∙◌, arith, le-leb}
use Rattle.refusals.specs.declared.Refusal.{Refusal}
use Rattle.refusals.specs.declared.Refusal.TheVariants.{UnknownOrder, StoreSize}
use Rattle.words.specs.Kinds.{Row}
use Rattle.texts.specs.Texts.{lines_of}
use Rattle.lines.specs.Reading.{rows_in, head_of}
use Rattle.lines.specs.declared.Heads.TheVariants.{Words}
use Rattle.meaning.specs.Numbers.{clamped32}
use Rattle.meaning.specs.Loops.{Loops}
use Rattle.meaning.specs.Runs.{RunOf}
use Rattle.meaning.specs.NamedOrders.{always}
use Rattle.meaning.proofs.Theorems.{run_is_choice}
use Rattle.syntax.specs.Reading.{loops_of}
use Rattle.loops.specs.Check.{check_table, check_loops_text}
use Rattle.interpreter.specs.Orders.{named, run_of}
use Rattle.run.specs.Run.{Ran, finished, refused, asked_run, run_checked, run_table, run_text}

-- [9.5], [9.10] The run that an entry makes is one of the runs of the loops.
pub run_is_run : (L : Loops) (order : ℕ) (s : List ℤ) → RunOf clamped32 L s (run_of L order s)
unfolding run_of
run_is_run L order s = (run_is_choice clamped32 L s _).1 (always (named order) L.command, refl)

-- ---- loops that pass, an order that is named and a store that is long enough: the run is made

asked_finished : (L : Loops) (n order : ℕ) (s : List ℤ) → order ≤ 2 → n ≤ length s → asked_run L n order s ≡ finished (run_of L order s)
unfolding asked_run
asked_finished L n order s h g =
    ap (λ (b : Bool). cond b (cond (leb n (length s)) (finished (run_of L order s)) (refused StoreSize s)) (refused UnknownOrder s)) (le-leb order 2 h)
    ∙ ap (λ (b : Bool). cond b (finished (run_of L order s)) (refused StoreSize s)) (le-leb n (length s) g)

checked_finished : (c : Checked) (L : Loops) (w n order : ℕ) (s : List ℤ) → c ≡ passing w n → order ≤ 2 → n ≤ length s
    → run_checked c L order s ≡ finished (run_of L order s)
checked_finished c L w n order s e h g = ap (λ (x : Checked). run_checked x L order s) e ∙ asked_finished L n order s h g

pub table_finished : (R : List Row) (w n order : ℕ) (s : List ℤ) → check_table R ≡ passing w n → order ≤ 2 → n ≤ length s
    → run_table R order s ≡ finished (run_of (loops_of R) order s)
unfolding run_table
table_finished R w n order s e h g = checked_finished (check_table R) (loops_of R) w n order s e h g

pub text_finished : (ws : List (List ℕ)) (t : List ℕ) (w n order : ℕ) (s : List ℤ) → check_loops_text ws t ≡ passing w n → order ≤ 2 → n ≤ length s
    → run_text ws t order s ≡ finished (run_of (loops_of (rows_in (head_of ws Words) (lines_of t))) order s)
unfolding run_text
text_finished ws t w n order s e h g = checked_finished (check_loops_text ws t) (loops_of (rows_in (head_of ws Words) (lines_of t))) w n order s e h g

-- ---- [10.17] a refusal leaves the store as it was

StoreKept : Ran → List ℤ → Type 0
StoreKept x s = (q : Refusal) → x.answer ≡ Err q → x.store ≡ s

asked_kept : (L : Loops) (n order : ℕ) (s : List ℤ) → StoreKept (asked_run L n order s) s
unfolding asked_run StoreKept
asked_kept L n order s = go (leb order 2) (leb n (length s))
  where
    go : (a b : Bool) (q : Refusal) → (cond a (cond b (finished (run_of L order s)) (refused StoreSize s)) (refused UnknownOrder s)).answer ≡ Err q
        → (cond a (cond b (finished (run_of L order s)) (refused StoreSize s)) (refused UnknownOrder s)).store ≡ s
    go true true q e = absurd (let z : ◌≡◌ {A = ℕ} 0 1 = cc in omega arith)
    go true false q e = refl
    go false b q e = refl

checked_kept : (c : Checked) (L : Loops) (order : ℕ) (s : List ℤ) → StoreKept (run_checked c L order s) s
unfolding StoreKept
checked_kept (Ok p) L order s = asked_kept L p.need order s
checked_kept (Err p) L order s = λ q e. refl

pub table_kept : (R : List Row) (order : ℕ) (s : List ℤ) (q : Refusal) → (run_table R order s).answer ≡ Err q → (run_table R order s).store ≡ s
unfolding run_table StoreKept
table_kept R order s = checked_kept (check_table R) (loops_of R) order s

pub text_kept : (ws : List (List ℕ)) (t : List ℕ) (order : ℕ) (s : List ℤ) (q : Refusal) → (run_text ws t order s).answer ≡ Err q → (run_text ws t order s).store ≡ s
unfolding run_text StoreKept
text_kept ws t order s = checked_kept (check_loops_text ws t) (loops_of (rows_in (head_of ws Words) (lines_of t))) order s
