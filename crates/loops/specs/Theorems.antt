-- What it means that loops pass the check. It rests on Bounds and Check, on `LoopsPass`, `TouchesBelow`, `need` and `RunOf` of
-- `meaning`, and on the walk of `syntax`; the proofs stand in Laws. Assumes nothing.
use Rattle.std.specs.Prelude.{Bool, true, false, cond, ◌≡◌, refl, List, [], ◌↔◌, ℕ, ◌≤◌, leb, length, Err, Ok}
use Rattle.loops.specs.Checked.{Checked, passing}
use Rattle.refusals.specs.Answers.{Answer}
use Rattle.std.proofs.Common.{sym, ap, ◌∙◌, subst, arith, leb-true, le-leb}
use Rattle.std.proofs.Math.Option.{Option, none, some}
use Rattle.refusals.specs.declared.Refusal.{Refusal}
use Rattle.refusals.specs.declared.Refusal.TheVariants.{LanesInside, WriteCount}
use Rattle.words.specs.Kinds.{Row}
use Rattle.words.specs.declared.Sort.TheVariants as sort
use Rattle.meaning.specs.Types.{DataType}
use Rattle.meaning.specs.Terms.{Plan}
use Rattle.meaning.specs.Typing.{HasType}
use Rattle.meaning.specs.Numbers.{NumberDomain}
use Rattle.meaning.specs.Loops.{Loops}
use Rattle.meaning.specs.Layout.{need, regions_from}
use Rattle.meaning.specs.Runs.{Store, State, RunOf, cell, start_of, run_loops}
use Rattle.meaning.specs.NamedOrders.{forward, always}
use Rattle.meaning.specs.Rows.{loops_rows}
use Rattle.meaning.specs.Counts.{command_writes, plan_writes}
use Rattle.meaning.specs.Limits.{LoopsPass, LoopsWithin, lanes_apart, PlanWithin, TouchesBelow}
use Rattle.meaning.specs.Translation.{translation}
use Rattle.meaning.proofs.Theorems.{safe_loops, beyond_need, writes_of_run, own_loops_within, own_loops_pass, own_writes, run_is_choice}
use Rattle.syntax.specs.Walk.{walk_table}
use Rattle.syntax.specs.Reading.{loops_of}
use Rattle.syntax.specs.InRange.{LoopsInRange}
use Rattle.syntax.specs.Theorems.{WalksWell, all_passed, loops_walk, loops_read, loops_tree, lanes_refused}
use Rattle.bounds.specs.Bounds.{ask_bounds}
use Rattle.loops.specs.Check.{ask_writes, unless, check_loops, after_answer, check_loops_rows}
use Rattle.loops.specs.Laws.Passing.{within_cells, within_command, loops_pass, pass_loops}

no_refusal : {A : Type 0} {q : Refusal} {w n : ℕ} → Err q ≡ passing w n → A
no_refusal e = absurd (let z : ◌≡◌ {A = ℕ} 0 1 = cc in omega arith)

no_pass : {A : Type 0} {q : Refusal} {w n : ℕ} → passing w n ≡ Err q → A
no_pass e = absurd (let z : ◌≡◌ {A = ℕ} 0 1 = cc in omega arith)

-- one answer has one count of writes, and one need
told_writes : Checked → ℕ
told_writes (Ok p) = p.writes
told_writes (Err q) = 0

told_need : Checked → ℕ
told_need (Ok p) = p.need
told_need (Err q) = 0

writes_same : {v m w n : ℕ} → passing v m ≡ passing w n → w ≡ v
unfolding told_writes
writes_same e = sym (ap told_writes e)

need_same : {v m w n : ℕ} → passing v m ≡ passing w n → n ≡ m
unfolding told_need
need_same e = sym (ap told_need e)

-- ---- what passes

-- The rows are those of loops within the bounds and limits; w are their writes and n is their need.
pub record Accepted (R : List Row) (w n : ℕ) : Type 0 where
  pub loops : Loops
  pub rows : R ≡ loops_rows loops
  pub passes : LoopsPass loops
  pub writes_few : w ≤ 16777216
  pub writes : w ≡ command_writes loops.command
  pub needs : n ≡ need loops

few_writes_holds : (L : Loops) (w n : ℕ) → ask_writes L ≡ passing w n
    → (w ≤ 16777216) × (w ≡ command_writes L.command) × (n ≡ need L)
few_writes_holds L w n e = go (leb (command_writes L.command) 16777216) refl e
  where
    go : (b : Bool) → leb (command_writes L.command) 16777216 ≡ b
        → cond b (passing (command_writes L.command) (need L)) (Err WriteCount) ≡ passing w n
        → (w ≤ 16777216) × (w ≡ command_writes L.command) × (n ≡ need L)
    go true h e =
        let x : w ≡ command_writes L.command = writes_same e in
        let y : n ≡ need L = need_same e in
        (omega (arith, leb-true (command_writes L.command) 16777216 h), x, y)
    go false h e = no_refusal e

unless_passes : (a : Option Refusal) (b : Checked) (w n : ℕ) → unless a b ≡ passing w n → (a ≡ none) × (b ≡ passing w n)
unless_passes none b w n e = (refl, e)
unless_passes (some q) b w n e = no_refusal e

walk_passes : (R : List Row) (a : Answer) (b : Checked) (w n : ℕ) → walk_table sort.Loops R ≡ a → after_answer a b ≡ passing w n
    → WalksWell sort.Loops R × (b ≡ passing w n)
walk_passes R (Ok m) b w n h e = (all_passed sort.Loops R m h, e)
walk_passes R (Err q) b w n h e = no_refusal e

walked_rows : (R : List Row) → WalksWell sort.Loops R → check_loops_rows R ≡ check_loops (loops_of R)
unfolding check_loops_rows
walked_rows R h = ap (λ (a : Answer). after_answer a (check_loops (loops_of R))) h

checked_loops : (L : Loops) → LoopsPass L → check_loops L ≡ ask_writes L
unfolding check_loops
checked_loops L h = ap (λ (a : Option Refusal). unless a (ask_writes L)) (pass_loops L h).1

-- The rows of loops that are in range are checked as those loops.
pub tree_checked : (L : Loops) → LoopsInRange L → check_loops_rows (loops_rows L) ≡ check_loops L
tree_checked L h = walked_rows (loops_rows L) ((loops_walk (loops_rows L)).1 (L, h, refl)) ∙ ap check_loops (loops_read L)

-- A table passes exactly when its rows are those of loops that satisfy the bounds and limits.
pub passes_exactly : (R : List Row) (w n : ℕ) → (check_loops_rows R ≡ passing w n) ↔ Accepted R w n
unfolding check_loops_rows check_loops
passes_exactly R w n = (
  λ e.
      let a = walk_passes R (walk_table sort.Loops R) (check_loops (loops_of R)) w n refl e in
      let b = unless_passes (ask_bounds (loops_of R)) (ask_writes (loops_of R)) w n a.1 in
      let t = loops_tree R a.0 in
      let f = few_writes_holds (loops_of R) w n b.1 in
      record {
        loops = loops_of R;
        rows = t.1;
        passes = loops_pass (loops_of R) t.0 b.0;
        writes_few = f.0;
        writes = f.1;
        needs = f.2;
      },
  λ h.
      let L = h.loops in
      let l : leb (command_writes L.command) 16777216 ≡ true = le-leb (command_writes L.command) 16777216 (omega (arith, h.writes_few, h.writes)) in
      let e : ask_writes L ≡ passing w n =
      ap (λ (b : Bool). cond b (passing (command_writes L.command) (need L)) (Err WriteCount)) l
      ∙ ap (λ (x : ℕ). passing x (need L)) (sym h.writes) ∙ ap (passing w) (sym h.needs) in
      ap check_loops_rows h.rows ∙ tree_checked L (pass_loops L h.passes).0 ∙ checked_loops L h.passes ∙ e,
)

-- ---- what loops that pass do

-- [9.9] Loops that pass run safely: every cell that is read or written, in any round of any loop, is below the need.
pub safe : (R : List Row) (w n : ℕ) → check_loops_rows R ≡ passing w n
    → (L : Loops) × (R ≡ loops_rows L) × TouchesBelow n L.command (start_of L) (regions_from L)
safe R w n e =
    let a = (passes_exactly R w n).0 e in
    (a.loops, a.rows, subst (λ (x : ℕ). TouchesBelow x a.loops.command (start_of a.loops) (regions_from a.loops)) (sym a.needs) (safe_loops a.loops a.passes))

-- [9.9] There is a run, and every run, in every order ([9.5]), ends after the writes answered, with a store of the same length in
-- which every cell from the need on is as it was.
pub record RunsSafely (𝓝 : NumberDomain) (L : Loops) (w n : ℕ) (s : Store 𝓝) : Type 0 where
  pub runs : (st : State 𝓝) × RunOf 𝓝 L s st
  pub counted : (st : State 𝓝) → RunOf 𝓝 L s st → st.writes ≡ w
  pub kept : (st : State 𝓝) → RunOf 𝓝 L s st
      → (length st.store ≡ length s) × ((x : ℕ) → n ≤ x → cell 𝓝 st.store x ≡ cell 𝓝 s x)

pub runs_safely : (𝓝 : NumberDomain) (R : List Row) (w n : ℕ) → check_loops_rows R ≡ passing w n
    → (L : Loops) × (R ≡ loops_rows L) × ((s : Store 𝓝) → RunsSafely 𝓝 L w n s)
runs_safely 𝓝 R w n e =
    let a = (passes_exactly R w n).0 e in
    let L = a.loops in (
      L,
      a.rows,
      λ s. record {
        runs = (
          run_loops 𝓝 L (always forward L.command) s,
          (run_is_choice 𝓝 L s _).1 (always forward L.command, refl),
        );
        counted = λ st r. writes_of_run 𝓝 L s st r ∙ sym a.writes;
        kept = λ st r.
            let b = beyond_need 𝓝 L a.passes s st r in
            (b.0, λ x h. b.1 x (subst (λ (m : ℕ). m ≤ x) a.needs h));
      },
    )

-- [18.15] Loops within the bounds and limits that have a `lanes` inside another are turned away by question 18,
pub nested_refused : (L : Loops) → LoopsWithin L → lanes_apart L.command ≡ false → (l : ℕ) × (check_loops_rows (loops_rows L) ≡ Err (LanesInside l))
unfolding check_loops_rows
nested_refused L h nested =
    let r = lanes_refused L h.inputs_few (within_cells L h) h.output_cells (within_command L h) nested in
    (r.0, ap (λ (a : Answer). after_answer a (check_loops (loops_of (loops_rows L)))) r.1)

-- and so are those that the translator made.
pub own_nested : (P : Plan) (t : DataType) → HasType P.inputs [] P.term t → PlanWithin P → lanes_apart (translation P).command ≡ false
    → (l : ℕ) × (check_loops_rows (loops_rows (translation P)) ≡ Err (LanesInside l))
own_nested P t typed within nested = nested_refused (translation P) (own_loops_within P t typed within) nested

-- [9.9] Loops that the translator made pass: those of any plan within the limits that has few enough writes, [18.15] and in whose loops no
-- `lanes` stands inside another.
pub own_pass : (P : Plan) (t : DataType) → HasType P.inputs [] P.term t → PlanWithin P → lanes_apart (translation P).command ≡ true
    → plan_writes P ≤ 16777216 → check_loops_rows (loops_rows (translation P)) ≡ passing (plan_writes P) (need (translation P))
own_pass P t typed within apart few =
    (passes_exactly (loops_rows (translation P)) (plan_writes P) (need (translation P))).1
    (record {
      loops = translation P;
      rows = refl;
      passes = own_loops_pass P t typed within apart;
      writes_few = few;
      writes = sym (own_writes P t typed);
      needs = refl;
    })
