-- What it means that a table walks well, that is, passes [10.4] to [10.6] and [18.15]. It rests on `walk_table` of Walk, on InRange, and on the rows
-- of trees in `meaning`; the proofs stand in Laws. Assumes nothing.
use Rattle.std.specs.Prelude.{◌≡◌, false, List, [], ◌∷◌, ◌↔◌, ℕ, ◌≤◌, length, Ok, Err}
use Rattle.std.proofs.Common.{sym, ap, ◌∙◌, subst, append-nil, ⊎_elim, zero-add, arith}
use Rattle.refusals.specs.declared.Refusal.TheVariants.{LanesInside}
use Rattle.words.specs.Kinds.{Row}
use Rattle.words.specs.declared.Sort.{Sort}
use Rattle.words.specs.declared.Sort.TheVariants as sort
use Rattle.meaning.specs.Terms.{Plan}
use Rattle.meaning.specs.Loops.{Loops}
use Rattle.meaning.specs.Limits.{IsCount, lanes_apart}
use Rattle.meaning.specs.Rows.{plan_rows, loops_rows}
use Rattle.syntax.specs.Names.{no_names}
use Rattle.syntax.specs.Operands.{due}
use Rattle.syntax.specs.Walk.{walk_from, walk_table}
use Rattle.syntax.specs.InRange.{PlanInRange, CommandInRange, AllCounts, LoopsInRange}
use Rattle.syntax.specs.Reading.{plan_of, loops_of}
use Rattle.syntax.specs.Laws.Pass.{Passes}
use Rattle.syntax.specs.Laws.PassPlans.{pass_plan}
use Rattle.syntax.specs.Laws.PassLoops.{pass_loops}
use Rattle.syntax.specs.Laws.Parse.{plan_parsed, loops_parsed}
use Rattle.syntax.specs.Laws.ReadPlans.{plan_back}
use Rattle.syntax.specs.Laws.ReadLoops.{loops_back}
use Rattle.syntax.specs.Laws.Listed.{table_walk, walk_table_holds, table_passed}
use Rattle.syntax.specs.Laws.LanesInside.{lanes_asked}

-- [10.2], of the kinds, [10.4], [10.5], [10.6] and [18.15] are answered "yes" on every row
abbrev pub WalksWell : Sort → List Row → Type 0
WalksWell s R = walk_table s R ≡ Ok (length R)

-- a walk that answers how many rows it passed has passed them all
pub all_passed : (s : Sort) (R : List Row) (m : ℕ) → walk_table s R ≡ Ok m → WalksWell s R
all_passed s R m e = e ∙ ap Ok (table_passed s R m e)

whole : (s : Sort) (a : List Row) → Passes (due s no_names ∷ []) a → WalksWell s a
unfolding walk_from
whole s a f =
    walk_table_holds s a (length a)
    (ap (walk_from 0 (due s no_names ∷ [])) (sym (append-nil a)) ∙ f 0 [] [] ∙ ap Ok (zero-add (length a)))

-- ---- plans

-- The walk finds nothing wrong exactly when the rows are those of a plan whose numbers are in range and whose names are in force.
pub plan_walks : (R : List Row) → WalksWell sort.Plan R ↔ ((P : Plan) × PlanInRange P × (R ≡ plan_rows P))
plan_walks R = (
  (λ e. plan_parsed R (length R) (table_walk sort.Plan R (length R) e)),
  (λ h. subst (WalksWell sort.Plan) (sym h.2) (whole sort.Plan (plan_rows h.0) (pass_plan h.0 h.1))),
)

-- A plan's rows are read back as that plan.
pub plan_read : (P : Plan) → plan_of (plan_rows P) ≡ P
plan_read P = plan_back P

-- That plan is the only one.
pub plan_unique : (P Q : Plan) → plan_rows P ≡ plan_rows Q → P ≡ Q
plan_unique P Q e = sym (plan_back P) ∙ ap plan_of e ∙ plan_back Q

-- So the tree of rows that walk well is the plan that they are read as.
pub plan_tree : (R : List Row) → WalksWell sort.Plan R → PlanInRange (plan_of R) × (R ≡ plan_rows (plan_of R))
plan_tree R e =
    let h = (plan_walks R).0 e in
    let q : plan_of R ≡ h.0 = ap plan_of h.2 ∙ plan_back h.0 in
    subst (λ (P : Plan). PlanInRange P × (R ≡ plan_rows P)) (sym q) (h.1, h.2)

-- ---- loops, in the same way

pub loops_walk : (R : List Row) → WalksWell sort.Loops R ↔ ((L : Loops) × LoopsInRange L × (R ≡ loops_rows L))
loops_walk R = (
  (λ e. loops_parsed R (length R) (table_walk sort.Loops R (length R) e)),
  (λ h. subst (WalksWell sort.Loops) (sym h.2) (whole sort.Loops (loops_rows h.0) (pass_loops h.0 h.1))),
)

pub loops_read : (L : Loops) → loops_of (loops_rows L) ≡ L
loops_read L = loops_back L

pub loops_unique : (L M : Loops) → loops_rows L ≡ loops_rows M → L ≡ M
loops_unique L M e = sym (loops_back L) ∙ ap loops_of e ∙ loops_back M

pub loops_tree : (R : List Row) → WalksWell sort.Loops R → LoopsInRange (loops_of R) × (R ≡ loops_rows (loops_of R))
loops_tree R e =
    let h = (loops_walk R).0 e in
    let q : loops_of R ≡ h.0 = ap loops_of h.2 ∙ loops_back h.0 in
    subst (λ (L : Loops). LoopsInRange L × (R ≡ loops_rows L)) (sym q) (h.1, h.2)

-- [18.15] Loops that are in range but for a `lanes` inside another are turned away, and by question 18.
pub lanes_refused : (L : Loops) → length L.inputs ≤ 8 → AllCounts L.inputs → IsCount L.output
    → CommandInRange (length L.inputs) 0 0 L.command → lanes_apart L.command ≡ false
    → (l : ℕ) × (walk_table sort.Loops (loops_rows L) ≡ Err (LanesInside l))
lanes_refused L few cells out command nested =
    ⊎_elim
    (λ e.
    let t = (loops_tree (loops_rows L) e).0 in
    let h : LoopsInRange L = subst LoopsInRange (loops_back L) t in
    absurd (let y : ◌≡◌ {A = ℕ} 0 1 = let x = h.apart in cc in omega arith))
    (λ r. r) (lanes_asked L few cells out command)
