-- Rows: which are accepted. Assumes nothing.
use Rattle.std.specs.Prelude.{◌≡◌, refl, List, ℕ, ◌≤◌, length, Ok, Err}
use Rattle.std.proofs.Common.{sym, ap, ◌∙◌, subst}
use Rattle.refusals.specs.declared.Refusal.{Refusal}
use Rattle.refusals.specs.Answers.{after, Answer}
use Rattle.words.specs.Kinds.{Row}
use Rattle.words.specs.declared.Sort.TheVariants as sort
use Rattle.meaning.specs.Types.{DataType}
use Rattle.meaning.specs.Terms.{Plan}
use Rattle.meaning.specs.Rows.{plan_rows}
use Rattle.syntax.specs.Walk.{walk_table}
use Rattle.syntax.specs.Reading.{plan_of}
use Rattle.syntax.specs.Theorems.{WalksWell, all_passed, plan_walks, plan_read, plan_unique, plan_tree}
use Rattle.typing.specs.Check.{Verdict, typed, refused, check_plan}
use Rattle.typing.specs.Entry.{answered, check_plan_rows}
use Rattle.typing.specs.Accepted.{Admitted, AcceptedRows}
use Rattle.typing.proofs.Laws.EntryQuestions.{passed_refused}
use Rattle.typing.proofs.Laws.Plans.{plan_accepted, plan_accepts}

-- ---- what the check of rows is made of

-- rows that walk well are put to questions 7 and 8
pub walked_rows : (R : List Row) → WalksWell sort.Plan R → check_plan_rows R ≡ answered (length R) (check_plan (plan_of R))
unfolding check_plan_rows
walked_rows R w = ap (λ (a : Answer). after a (λ n. answered n (check_plan (plan_of R)))) w

pub unwalked_rows : (R : List Row) (q : Refusal) → walk_table sort.Plan R ≡ Err q → check_plan_rows R ≡ Err q
unfolding check_plan_rows
unwalked_rows R q w = ap (λ (a : Answer). after a (λ n. answered n (check_plan (plan_of R)))) w

-- a table walks well or is refused
pub by_walk : {A : Type 0} (R : List Row) → (WalksWell sort.Plan R → A) → ((q : Refusal) → walk_table sort.Plan R ≡ Err q → A) → A
by_walk {A} R well ill = go (walk_table sort.Plan R) refl
  where
    go : (a : Answer) → walk_table sort.Plan R ≡ a → A
    go (Ok m) e = well (all_passed sort.Plan R m e)
    go (Err q) e = ill q e

answered_passed : (n m : ℕ) (v : Verdict) → answered n v ≡ Ok m → (t : DataType) × (v ≡ typed t) × (n ≡ m)
answered_passed n m (typed t) e = (t, refl, cc)
answered_passed n m (refused q) e = passed_refused (sym e)

-- what passes has walked well, and its plan has a type
pub passed_rows : (R : List Row) (m : ℕ) → check_plan_rows R ≡ Ok m
    → WalksWell sort.Plan R × (length R ≡ m) × ((t : DataType) × (check_plan (plan_of R) ≡ typed t))
passed_rows R m e =
    by_walk R
    (λ w. let a = answered_passed (length R) m (check_plan (plan_of R)) (sym (walked_rows R w) ∙ e) in (w, a.2, (a.0, a.1)))
    (λ q w. passed_refused (sym e ∙ unwalked_rows R q w))

-- ---- accepted

pub accepted_rows : (R : List Row) → length R ≤ 256 → check_plan_rows R ≡ Ok (length R) → AcceptedRows R
accepted_rows R few e =
    let a = passed_rows R (length R) e in
    let p = plan_tree R a.0 in
    let x = plan_accepted (plan_of R) a.2.0 p.0 (subst (λ (S : List Row). length S ≤ 256) p.1 few) a.2.1 in
    record {
      plan = plan_of R;
      admitted = record { type = a.2.0; well_typed = x.0; in_range_holds = p.0; within = x.1 };
      rows = p.1;
      only = λ Q f. plan_unique Q (plan_of R) (sym f ∙ p.1);
    }

pub admitted_rows : (P : Plan) → Admitted P → check_plan_rows (plan_rows P) ≡ Ok (length (plan_rows P))
admitted_rows P a =
    walked_rows (plan_rows P) ((plan_walks (plan_rows P)).1 (P, a.in_range_holds, refl))
    ∙ ap (λ (Q : Plan). answered (length (plan_rows P)) (check_plan Q)) (plan_read P)
    ∙ ap (answered (length (plan_rows P))) (plan_accepts P a.type a.well_typed a.within)
