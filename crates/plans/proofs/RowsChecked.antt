-- Rows that were walked, and the plan whose rows they are. Assumes nothing.
use Rattle.std.specs.Prelude.{Result, Err, Ok}
use Rattle.refusals.specs.Answers.{Answer}
use mathlib.Core.Path.{◌≡◌, sym, ap, ◌∙◌}
use mathlib.Core.List.{List}
use Prim.Native.Nat.{ℕ, ◌≤◌}
use lib.IntN.{ℤ}
use lib.ListN.{length}
use Rattle.refusals.specs.declared.Refusal.{Refusal}
use Rattle.words.specs.Kinds.{Row, rows_of}
use Rattle.words.specs.declared.Sort.TheVariants as sort
use Rattle.syntax.specs.Walk.{walk_table}
use Rattle.syntax.specs.Reading.{plan_of}
use Rattle.syntax.specs.Theorems.{WalksWell, all_passed, plan_tree}
use Rattle.typing.specs.Check.{Verdict, check_plan}
use Rattle.typing.specs.Entry.{answered, check_plan_rows}
use Rattle.typing.proofs.Laws.Rows.{walked_rows, unwalked_rows}
use Rattle.row_typing.specs.Typed.{PlanStands, PlanRoom, PlanAnswered}
use Rattle.row_typing.specs.declared.TypedPlan.{TypedPlan}
use Rattle.row_typing.proofs.PlanLaws.{plan_refused, plan_typed}

pub walk_no : (R : List Row) (a : Answer) (q : Refusal) → a ≡ walk_table sort.Plan R → a ≡ Err q → a ≡ check_plan_rows R
walk_no R a q e f = f ∙ sym (unwalked_rows R q (sym e ∙ f))

module _ (ks : List ℕ) (ns : List ℤ) (sizes : length ks ≡ length ns) (few : length ks ≤ 256) (a : Answer) (n : ℕ)
    (walk : a ≡ walk_table sort.Plan (rows_of ks ns)) (passed : a ≡ Ok n) where
  well : WalksWell sort.Plan (rows_of ks ns)
  well = all_passed sort.Plan (rows_of ks ns) n (sym walk ∙ passed)

  stands : PlanStands ks ns (plan_of (rows_of ks ns))
  stands = let t = plan_tree (rows_of ks ns) well in (t.1, t.0)

  pub plan_room : (T C : List ℕ) → 512 ≤ length T → 256 ≤ length C → PlanRoom ks ns T C
  plan_room T C h g = record { sizes = sizes; few = few; types = h; column = g; plan = plan_of (rows_of ks ns); stands = stands }

  module _ (T C U D : List ℕ) (r : Result TypedPlan Refusal) (A : PlanAnswered ks ns T C U D r) where
    on : (v : Verdict) → check_plan (plan_of (rows_of ks ns)) ≡ v → check_plan_rows (rows_of ks ns) ≡ answered (length (rows_of ks ns)) v
    on v e = walked_rows (rows_of ks ns) well ∙ ap (answered (length (rows_of ks ns))) e

    pub types_no : (q : Refusal) → r ≡ Err q → Err q ≡ check_plan_rows (rows_of ks ns)
    types_no q h = sym (on _ (plan_refused ks ns T C U D r A (plan_of (rows_of ks ns)) stands q h))

    pub types_yes : (f : TypedPlan) → r ≡ Ok f → a ≡ check_plan_rows (rows_of ks ns)
    types_yes f h = walk ∙ well ∙ sym (on _ (plan_typed ks ns T C U D r A (plan_of (rows_of ks ns)) stands f h).1)
