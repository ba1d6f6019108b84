-- Rows that are walked as a plan's are never refused by [18.15]: no `lanes` row is of a plan's sorts. Assumes nothing.
use Rattle.std.specs.Prelude.{◌≡◌, refl, Bool, true, false, cond, List, [], ◌∷◌, ◌++◌, ℕ, zero, suc, ◌+◌, eqb, leb, Err, Option, Some, None}
use Rattle.std.proofs.Common.{sym, ap, ◌∙◌, arith, ne_eqb}
use Rattle.refusals.specs.declared.Refusal.{Refusal}
use Rattle.refusals.specs.declared.Refusal.TheVariants.{LineForm, LanesInside}
use Rattle.refusals.specs.Refusals.{refusal_number}
use Rattle.refusals.specs.Answers.{after, Answer}
use Rattle.words.specs.Kinds.{Row, word_plan, word_redseq, word_loops, word_new, word_lanes}
use Rattle.words.specs.Groups.{one_of, is_map, is_loop, is_listed}
use Rattle.words.specs.Words.{table, operands_of}
use Rattle.words.specs.declared.Sort.{Sort}
use Rattle.words.specs.declared.Sort.TheVariants as sort
use Rattle.syntax.specs.declared.names.Names.{Names}
use Rattle.syntax.specs.declared.operands.Due.{Due}
use Rattle.syntax.specs.Ranges.{as_natural, in_range}
use Rattle.syntax.specs.Names.{names, no_names, lanes_with, opened_by, names_fit, lanes_fit}
use Rattle.syntax.specs.Operands.{inputs_counted, operand_sort, due, operand_of, operands_due}
use Rattle.syntax.specs.Walk.{first_no, ask_row, walk_from, listed_from, walk_table}
use Rattle.typing.proofs.Laws.EntryQuestions.{passed_refused}

-- the sorts of a plan's rows
abbrev of_plan : Sort → Bool
of_plan sort.Plan = true
of_plan sort.DataType = true
of_plan sort.Term = true
of_plan sort.Loops = false
of_plan sort.Cells = false
of_plan sort.Command = false
of_plan sort.Place = false
of_plan sort.Value = false
of_plan sort.Offset = false

never : {A : Type 0} → false ≡ true → A
never e = absurd (let clash : ◌≡◌ {A = ℕ} 0 1 = cc in omega arith)

-- what is due is a plan's, with no `lanes` around
abbrev PlanDue : Due → Type 0
PlanDue d = (of_plan d.sort ≡ true) × (d.names.lanes ≡ 0)

abbrev AllDue : List Due → Type 0
AllDue [] = Unit {0}
AllDue (d ∷ ds) = PlanDue d × AllDue ds

no_lanes_holds : (s : Sort) → of_plan s ≡ true → operands_of word_lanes s ≡ None
unfolding operands_of table
no_lanes_holds sort.Plan h = refl
no_lanes_holds sort.DataType h = refl
no_lanes_holds sort.Term h = refl
no_lanes_holds sort.Loops h = never h
no_lanes_holds sort.Cells h = never h
no_lanes_holds sort.Command h = never h
no_lanes_holds sort.Place h = never h
no_lanes_holds sort.Value h = never h
no_lanes_holds sort.Offset h = never h

sort_kept : (s : Sort) (k : ℕ) (last : Bool) → of_plan s ≡ true → of_plan (operand_sort s k last) ≡ true
sort_kept sort.Plan k true h = refl
sort_kept sort.Plan k false h = refl
sort_kept sort.DataType k last h = refl
sort_kept sort.Term k last h = refl
sort_kept sort.Loops k last h = never h
sort_kept sort.Cells k last h = never h
sort_kept sort.Command k last h = never h
sort_kept sort.Place k last h = never h
sort_kept sort.Value k last h = never h
sort_kept sort.Offset k last h = never h

-- a row that is no `lanes` opens none
lanes_kept : (k n : ℕ) (s : Names) → (k ≡ word_lanes → ⊥) → (opened_by k n s).lanes ≡ s.lanes
unfolding opened_by
lanes_kept k n s f = go (is_map k) (is_loop k) (one_of k (word_plan ∷ word_loops ∷ [])) (eqb k word_redseq) (eqb k word_new)
  where
    go : (a b c d e : Bool)
        → (cond a (names s.inputs (s.variables + 1) s.counters s.regions s.lanes)
        (cond b (names s.inputs s.variables (s.counters + 1) s.regions (lanes_with k s.lanes))
        (cond c (names n s.variables s.counters s.regions s.lanes)
        (cond d (names s.inputs (s.variables + 2) s.counters s.regions s.lanes)
        (cond e (names s.inputs s.variables s.counters (s.regions + 1) s.lanes) s))))).lanes
        ≡ s.lanes
    go true b c d e = refl
    go false true c d e = ap (λ (x : Bool). cond x (s.lanes + 1) s.lanes) (ne_eqb k word_lanes f)
    go false false true d e = refl
    go false false false true e = refl
    go false false false false true = refl
    go false false false false false = refl

operand_due : (d : Due) (k n : ℕ) (last : Bool) → PlanDue d → (k ≡ word_lanes → ⊥) → PlanDue (operand_of d k n last)
unfolding operand_of
operand_due d k n true h f = (sort_kept d.sort k true h.0, lanes_kept k n d.names f ∙ h.1)
operand_due d k n false h f = (sort_kept d.sort k false h.0, h.1)

operands_due_holds : (d : Due) (k n m : ℕ) (ds : List Due) → PlanDue d → (k ≡ word_lanes → ⊥) → AllDue ds → AllDue (operands_due d k n m ++ ds)
unfolding operands_due
operands_due_holds d k n zero ds h f rest = rest
operands_due_holds d k n (suc m) ds h f rest = (operand_due d k n (eqb (suc m) 1) h f, operands_due_holds d k n m ds h f rest)

other : {q : Refusal} {l : ℕ} → (refusal_number q ≡ 18 → ⊥) → ◌≡◌ {A = Answer} (Err q) (Err (LanesInside l)) → ⊥
other {q} {l} f e = let same : q ≡ LanesInside l = cc in f (ap refusal_number same)

walk_apart : (R : List Row) (p : ℕ) (ds : List Due) → AllDue ds → (l : ℕ) → walk_from p ds R ≡ Err (LanesInside l) → ⊥
unfolding walk_from ask_row
walk_apart [] p [] h l e = passed_refused e
walk_apart [] p (d ∷ ds) h l e = other (λ x. omega arith) e
walk_apart (r ∷ rs) p [] h l e = other (λ x. omega arith) e
walk_apart (r ∷ rs) p (d ∷ ds) h l e =
    go (operands_of r.0 d.sort) refl (in_range d.sort d.names r.0 (as_natural r.1))
    (names_fit (opened_by r.0 (as_natural r.1) d.names)) (lanes_fit (opened_by r.0 (as_natural r.1) d.names)) refl
    (λ m g. walk_apart rs (suc p) (dues m) g l) e
  where
    dues : ℕ → List Due
    dues m = operands_due d r.0 (as_natural r.1) m ++ ds

    listed : {m : ℕ} → operands_of r.0 d.sort ≡ Some m → r.0 ≡ word_lanes → ⊥
    listed {m} q k =
        let clash : Some m ≡ None = sym q ∙ ap (λ (x : ℕ). operands_of x d.sort) k ∙ no_lanes_holds d.sort h.0.0 in
        let never' : ◌≡◌ {A = ℕ} 0 1 = cc in omega arith

    go : (o : Option ℕ) → operands_of r.0 d.sort ≡ o → (ranged fit apart : Bool)
        → lanes_fit (opened_by r.0 (as_natural r.1) d.names) ≡ apart
        → ((m : ℕ) → AllDue (dues m) → walk_from (suc p) (dues m) rs ≡ Err (LanesInside l) → ⊥)
        → after (first_no o ranged fit apart (inputs_counted d.sort (as_natural r.1)) (suc p)) (λ m. walk_from (suc p) (dues m) rs)
        ≡ Err (LanesInside l)
        → ⊥
    go None q ranged fit apart a next e = other (λ x. omega arith) e
    go (Some m) q false fit apart a next e = other (λ x. omega arith) e
    go (Some m) q true false apart a next e = other (λ x. omega arith) e
    go (Some m) q true true false a next e =
        let none : (opened_by r.0 (as_natural r.1) d.names).lanes ≡ 0 = lanes_kept r.0 (as_natural r.1) d.names (listed q) ∙ h.0.1 in
        never (sym a ∙ ap (λ (x : ℕ). leb x 1) none)
    go (Some m) q true true true a next e =
        next (inputs_counted d.sort (as_natural r.1) + m) (operands_due_holds d r.0 (as_natural r.1) _ ds h.0 (listed q) h.1) e

listed_apart : (R : List Row) (p : ℕ) (next : Answer) (l : ℕ) → (next ≡ Err (LanesInside l) → ⊥)
    → listed_from p R next ≡ Err (LanesInside l) → ⊥
unfolding listed_from
listed_apart [] p next l f e = f e
listed_apart (r ∷ rs) p next l f e = go (is_listed r.0) (listed_apart rs (suc p) next l f) e
  where
    go : (b : Bool) → (listed_from (suc p) rs next ≡ Err (LanesInside l) → ⊥)
        → cond b (listed_from (suc p) rs next) (Err (LineForm (suc p))) ≡ Err (LanesInside l) → ⊥
    go true rest e = rest e
    go false rest e = other (λ x. omega arith) e

pub plan_apart : (R : List Row) (l : ℕ) → walk_table sort.Plan R ≡ Err (LanesInside l) → ⊥
unfolding walk_table
plan_apart R l e = listed_apart R 0 _ l (walk_apart R 0 (due sort.Plan no_names ∷ []) ((refl, refl), tt) l) e
