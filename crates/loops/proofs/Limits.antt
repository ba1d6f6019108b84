-- The answer of the check of loops, from the command's. Assumes nothing.
use Rattle.std.specs.Prelude.{Err, Ok}
use Rattle.loops.specs.Checked.{Checked, passing}
use Rattle.refusals.specs.Answers.{Answer}
use mathlib.Core.Bool.{Bool, true, false, cond}
use mathlib.Core.Path.{◌≡◌, sym, ap, ap₂, ◌∙◌}
use mathlib.Core.List.{List}
use mathlib.Core.Option.{Option, none}
use Prim.Native.Nat.{ℕ, ◌≤◌, ◌<◌}
use native.Mathlib.Omega.{arith}
use borrow.Author.Tests.{le-leb, lt-leb}
use lib.Dec.{leb}
use Rattle.refusals.specs.declared.Refusal.{Refusal}
use Rattle.refusals.specs.declared.Refusal.TheVariants.{WriteCount}
use Rattle.words.specs.Kinds.{Row}
use Rattle.meaning.specs.Loops.{Loops}
use Rattle.meaning.specs.Rows.{loops_rows}
use Rattle.meaning.specs.Layout.{need}
use Rattle.meaning.specs.Counts.{command_writes}
use Rattle.meaning.proofs.Theorems.{need_few}
use Rattle.syntax.specs.InRange.{LoopsInRange}
use Rattle.syntax.specs.Walk.{walk_table}
use Rattle.syntax.specs.Reading.{loops_of}
use Rattle.syntax.specs.Theorems.{all_passed, loops_tree}
use Rattle.words.specs.declared.Sort.TheVariants as sort
use Rattle.columns.specs.declared.Counted.{Counted}
use Rattle.bounds.specs.Bounds.{ask_bounds}
use Rattle.loops.specs.Check.{ask_writes, unless, check_loops, after_answer, check_loops_rows}
use Rattle.loops.specs.Laws.Passing.{loops_pass}
use Rattle.columns.specs.Figures.{capped_writes, capped_room}
use Rattle.columns.specs.Whole.{asking}
use Rattle.columns.proofs.WholeLoops.{asking_refused, asking_passed}

-- ---- the loops' answer, from the command's

module _ (L : Loops) (w : Checked) (g : w ≡ asking (command_writes L.command) (need L) (ask_bounds L)) (h : LoopsInRange L) where
  pub limits_refused : (q : Refusal) → w ≡ Err q → Err q ≡ check_loops L
  unfolding check_loops
  limits_refused q f =
      let a = asking_refused (command_writes L.command) (need L) (ask_bounds L) q (sym f ∙ g) in
      ap (λ (o : Option Refusal). unless o (ask_writes L)) (sym a)

  module _ (p : Counted) (f : w ≡ Ok p) where
    passed : (ask_bounds L ≡ none) × (p.writes ≡ capped_writes (command_writes L.command)) × (p.need ≡ capped_room (need L))
    passed = asking_passed p (command_writes L.command) (need L) (ask_bounds L) (sym f ∙ g)

    asked : (b : Bool) → leb (command_writes L.command) 16777216 ≡ b
        → cond b (passing (command_writes L.command) (need L)) (Err WriteCount) ≡ check_loops L
    unfolding check_loops
    asked b e =
        ap (λ (b : Bool). cond b (passing (command_writes L.command) (need L)) (Err WriteCount)) (sym e)
        ∙ ap (λ (o : Option Refusal). unless o (ask_writes L)) (sym passed.0)

    pub limits_many : 16777216 < p.writes → Err WriteCount ≡ check_loops L
    limits_many l =
        let m : 16777216 < command_writes L.command = omega (arith, l, passed.1) in
        asked false (lt-leb (command_writes L.command) 16777216 m)

    -- so few writes leave the need below its cap
    pub limits_passes : p.writes ≤ 16777216 → Ok p ≡ check_loops L
    limits_passes l =
        let m : p.writes ≡ command_writes L.command = omega (arith, l, passed.1) in
        let few = need_few L (loops_pass L h passed.0) (omega (arith, l, m)) in
        let n : p.need ≡ need L = omega (arith, few, passed.2) in
        ap₂ passing m n ∙ asked true (le-leb (command_writes L.command) 16777216 (omega (arith, l, m)))

-- ---- a table's answer, from the walk's

pub rows_refused : (R : List Row) (q : Refusal) → walk_table sort.Loops R ≡ Err q → Err q ≡ check_loops_rows R
unfolding check_loops_rows
rows_refused R q e = ap (λ (a : Answer). after_answer a (check_loops (loops_of R))) (sym e)

pub rows_limits : (R : List Row) (m : ℕ) (r : Checked) → walk_table sort.Loops R ≡ Ok m
    → ((L : Loops) → R ≡ loops_rows L → LoopsInRange L → r ≡ check_loops L) → r ≡ check_loops_rows R
unfolding check_loops_rows
rows_limits R m r e f =
    let t = loops_tree R (all_passed sort.Loops R m e) in
    f (loops_of R) t.1 t.0 ∙ ap (λ (a : Answer). after_answer a (check_loops (loops_of R))) (sym e)
