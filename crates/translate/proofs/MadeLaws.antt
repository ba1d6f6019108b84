-- The loops of a plan's rows: what each way out of `make_plan` and `make_rows` knows. Assumes nothing.
use Rattle.std.specs.Prelude.{Ok, Err}
use mathlib.Core.Bool.{Bool, true, false, cond}
use mathlib.Core.Path.{◌≡◌, refl, sym, ap, ap₂, ◌∙◌, subst}
use mathlib.Core.List.{List, [], ◌∷◌}
use Prim.Native.Nat.{ℕ, ◌+◌, ◌≤◌, ◌<◌}
use native.Mathlib.Decide.{dec_lt}
use native.Mathlib.Nat.{zero-add}
use native.Mathlib.Omega.{arith}
use borrow.Author.Tests.{eq-eqb, ne_eqb}
use lib.IntN.{ℤ, pos}
use lib.Dec.{ltb, eqb}
use Rattle.std.proofs.Common.{ltb-true, ltb-false}
use Rattle.std.proofs.lemmas.List.{length-replicate}
use Rattle.std.specs.Prelude.{Result, Ok, Err}
use lib.ListN.{length, take, drop, replicate, set, length-set, length-map}
use lib.Seq.{sets, sets-eq, take_at}
use Rattle.refusals.specs.declared.Refusal.{Refusal}
use Rattle.refusals.specs.declared.Refusal.TheVariants.{LoopsLength, LanesInside}
use Rattle.refusals.specs.Refusals.{refusal_number}
use Rattle.refusals.specs.Answers.{unless_refused, Answer}
use Rattle.words.specs.Kinds.{Row, rows_of}
use Rattle.words.proofs.Laws.{rows_length}
use Rattle.words.specs.declared.Sort.TheVariants as sort
use Rattle.lines.specs.Reading.{kinds_of, numbers_of}
use Rattle.lines.proofs.TableLaws.{rows_again, refused_into}
use Rattle.lines.specs.Lent.{TableInto}
use Rattle.meaning.specs.Types.{DataType}
use Rattle.meaning.specs.Terms.{Plan}
use Rattle.meaning.specs.Typing.{HasType}
use Rattle.meaning.specs.Limits.{PlanWithin}
use Rattle.meaning.specs.Rows.{plan_rows}
use Rattle.meaning.specs.Translation.{plan_type}
use Rattle.meaning.proofs.Laws.Typing.{well_typed}
use Rattle.syntax.specs.Walk.{walk_table}
use Rattle.syntax.specs.Reading.{plan_of}
use Rattle.syntax.specs.Theorems.{all_passed, plan_tree}
use Rattle.emission.specs.Table.{Table, table, no_rows, put_row, put_rows, too_many, kinds_put, numbers_put}
use Rattle.emission.specs.Laws.Filled.{end_of, rows_fit, rows_too_many}
use Rattle.loops.specs.Check.{check_table}
use Rattle.typing.specs.Check.{Verdict, typed, refused, check_plan}
use Rattle.typing.specs.Entry.{answered, check_plan_rows}
use Rattle.row_typing.specs.Typed.{PlanStands, PlanTyped, PlanAnswered}
use Rattle.typing.proofs.Laws.Plans.{plan_accepted}
use Rattle.typing.proofs.Laws.Rows.{walked_rows, unwalked_rows}
use Rattle.row_typing.specs.declared.TypedPlan.{TypedPlan}
use Rattle.translate.specs.Entry.{made_rows, make_plan}
use Rattle.translate.specs.Making.{PlanNoted, by_check}
use Rattle.translate.specs.Laws.Answers.{plan_long, made_asked}
use Rattle.translate.proofs.Cut.{cut_sound, cut_names, cut_noted}

-- the same answer and the same rows
pub into_as : {v w : Answer} {R S : List Row} {ks ks' : List ℕ} {ns ns' : List ℤ} {r : Answer} → v ≡ w → R ≡ S
    → TableInto v R ks ns r ks' ns' → TableInto w S ks ns r ks' ns'
into_as {v} {w} {R} {S} {ks} {ks'} {ns} {ns'} {r} e f I =
    subst (λ (T : List Row). TableInto w T ks ns r ks' ns') f (subst (λ (x : Answer). TableInto x R ks ns r ks' ns') e I)

-- ---- the check's refusal of made rows, whose number is k: [18.15] question 18 is told without a line, any other as it is

module _ (n : ℕ) (q : Refusal) (k : ℕ) (is : k ≡ refusal_number q) where
  abbrev told : Bool → Answer
  told b = Err (cond b (LanesInside 0) q)

  pub asked_inside : k ≡ 18 → Err (LanesInside 0) ≡ by_check n (Err q)
  asked_inside e = sym (ap told (eq-eqb (refusal_number q) 18 (sym is ∙ e)))

  pub asked_else : (k ≡ 18 → ⊥) → Err q ≡ by_check n (Err q)
  asked_else f = sym (ap told (ne_eqb (refusal_number q) 18 (λ e. f (is ∙ e))))

-- ---- rows that stand at the front

front : {A : Type 0} (l vs : List A) → length vs ≤ length l → take (length vs) (sets l 0 vs) ≡ vs
front l vs h =
    ap (take (length vs)) (sets-eq vs l 0 (omega arith)) ∙ take_at vs (drop (0 + length vs) l) (length vs) refl

-- rows that are put keep the table's size
abbrev kinds_in : Table → List ℕ
kinds_in (table k n end) = k

abbrev numbers_in : Table → List ℤ
numbers_in (table k n end) = n

row_kept : (o : Table) (row : Row) → (length (kinds_in (put_row o row)) ≡ length (kinds_in o)) × (length (numbers_in (put_row o row)) ≡ length (numbers_in o))
unfolding put_row
row_kept (table k n end) row = go (ltb end 4096)
  where
    go : (b : Bool)
        → (length (kinds_in (cond b (table (set k end row.0) (set n end row.1) (end + 1)) (table k n (cond (eqb end 4096) 4097 end)))) ≡ length k)
        × (length (numbers_in (cond b (table (set k end row.0) (set n end row.1) (end + 1)) (table k n (cond (eqb end 4096) 4097 end)))) ≡ length n)
    go true = (length-set k end row.0, length-set n end row.1)
    go false = (refl, refl)

rows_kept : (R : List Row) (o : Table) → (length (kinds_in (put_rows R o)) ≡ length (kinds_in o)) × (length (numbers_in (put_rows R o)) ≡ length (numbers_in o))
unfolding put_rows
rows_kept [] o = (refl, refl)
rows_kept (r ∷ R) o =
    let a = rows_kept R (put_row o r) in
    let b = row_kept o r in (a.0 ∙ b.0, a.1 ∙ b.1)

pub lengths_kept : (R : List Row) (k k' : List ℕ) (n n' : List ℤ) (from end : ℕ) → table k' n' end ≡ put_rows R (table k n from)
    → (length k' ≡ length k) × (length n' ≡ length n)
lengths_kept R k k' n n' from end e =
    let a = rows_kept R (table k n from) in
    (ap (λ (o : Table). length (kinds_in o)) e ∙ a.0, ap (λ (o : Table). length (numbers_in o)) e ∙ a.1)

-- from an empty table on
pub put_from_none : (R : List Row) (o : Table) → o ≡ no_rows → put_rows R o ≡ put_rows R no_rows
put_from_none R o e = ap (put_rows R) e

-- too many, by the end
past_end : (o : Table) → too_many o ≡ true → 4096 < end_of o
past_end (table k n end) h = ltb-true 4096 end h

within_end : (o : Table) → too_many o ≡ false → end_of o ≤ 4096
within_end (table k n end) h = ltb-false 4096 end h

-- ---- a plan's types

module _ (ks : List ℕ) (ns : List ℤ) (T C U D : List ℕ) (r : Result TypedPlan Refusal) (A : PlanAnswered ks ns T C U D r) (P : Plan) (S : PlanStands ks ns P) where
  pub types_refused : (q : Refusal) → r ≡ Err q → check_plan P ≡ refused q
  types_refused q e = go (check_plan P) refl
    where
      go : (v : Verdict) → check_plan P ≡ v → v ≡ refused q
      go (refused p) h = let f : ◌≡◌ {A = Result TypedPlan Refusal} (Err p) (Err q) = sym (A.no P p S h) ∙ e in let g : p ≡ q = cc in ap refused g
      go (typed t) h =
          let a = A.yes P t S h in
          let f : ◌≡◌ {A = Result TypedPlan Refusal} (Ok a.0) (Err q) = sym a.1 ∙ e in
          absurd (let clash : ◌≡◌ {A = ℕ} 0 1 = cc in omega arith)

  pub plan_refused : (q : Refusal) (lk : List ℕ) (ln : List ℤ) → r ≡ Err q
      → TableInto (unless_refused (answered (length ks) (check_plan P)) (make_plan P)) (made_rows P) lk ln (Err q) lk ln
  plan_refused q lk ln e =
      refused_into (made_rows P) lk ln (ap (λ (v : Verdict). unless_refused (answered (length ks) v) (make_plan P)) (sym (types_refused q e))) refl

  pub types_found : (f : TypedPlan) → r ≡ Ok f
      → (t : DataType) × (check_plan P ≡ typed t) × PlanTyped T C U D P t f.inputs f.row f.term.place f.term.len
  types_found f e = go (check_plan P) refl
    where
      go : (v : Verdict) → check_plan P ≡ v → (t : DataType) × (check_plan P ≡ typed t) × PlanTyped T C U D P t f.inputs f.row f.term.place f.term.len
      go (refused q) h =
          let g : ◌≡◌ {A = Result TypedPlan Refusal} (Err q) (Ok f) = sym (A.no P q S h) ∙ e in
          absurd (let clash : ◌≡◌ {A = ℕ} 0 1 = cc in omega arith)
      go (typed t) h =
          let a = A.yes P t S h in
          let g : ◌≡◌ {A = Result TypedPlan Refusal} (Ok a.0) (Ok f) = sym a.1 ∙ e in
          let k : a.0 ≡ f = cc in
          (t, h, subst (λ (x : TypedPlan). PlanTyped T C U D P t x.inputs x.row x.term.place x.term.len) k a.2)

-- ---- a plan that has a type

module _ (ks : List ℕ) (ns : List ℤ) (P : Plan) (S : PlanStands ks ns P) (sizes : length ks ≡ length ns) (few : length ks ≤ 256)
    (t : DataType) (e : check_plan P ≡ typed t) where
  plan_few : length (plan_rows P) ≤ 256
  plan_few = omega (arith, ap length S.0, rows_length ks ns, sizes, few)

  pub plan_typed : HasType P.inputs [] P.term t × PlanWithin P
  plan_typed = plan_accepted P t S.1 plan_few e

  pub plan_noted : (T C U D I : List ℕ) (row p m : ℕ) → PlanTyped T C U D P t I row p m → PlanNoted ks ns D (take m U) I row p P
  plan_noted T C U D I row p m A =
      let is : t ≡ plan_type P = sym (well_typed plan_typed.0).1 in
      record {
        stands = S;
        sound = cut_sound U m A.sound;
        inputs = λ k h. cut_names U m A.sound (A.inputs k h);
        first = A.row;
        type = let n = cut_names U m A.sound A.place in (n.0, n.1 ∙ is);
        noted = cut_noted U m A.sound P.inputs [] P.term (drop row D) A.noted;
      }

  -- ---- its loops, put from the first row on

  module _ (o : Table) (put : o ≡ put_rows (made_rows P) no_rows) where
    abbrev R : List Row
    R = made_rows P

    limits : (v : Answer) → v ≡ make_plan P → v ≡ unless_refused (answered (length ks) (check_plan P)) (make_plan P)
    limits v h = h ∙ ap (λ (x : Verdict). unless_refused (answered (length ks) x) (make_plan P)) (sym e)

    -- they fit, or the end is past the last row
    stored : length R ≤ 4096 → o ≡ table (sets (replicate 4096 0) 0 (kinds_of R)) (sets (replicate 4096 (pos 0)) 0 (numbers_of R)) (0 + length R)
    stored h = put ∙ rows_fit R (replicate 4096 0) (replicate 4096 (pos 0)) 0 (omega arith)

    fits_end : length R ≤ 4096 → end_of o ≡ length R
    fits_end h = ap end_of (stored h) ∙ zero-add (length R)

    many_end : 4096 < length R → end_of o ≡ 4097
    many_end h = ap end_of put ∙ rows_too_many R (replicate 4096 0) (replicate 4096 (pos 0)) 0 (omega arith) (omega arith)

    by_length : {A : Type 0} → (length R ≤ 4096 → A) → (4096 < length R → A) → A
    by_length {A} f g = go (dec_lt 4096 (length R))
      where
        go : Dec (4096 < length R) → A
        go (yes h) = g h
        go (no h) = f (omega (arith, h))

    pub loops_long : (lk : List ℕ) (ln : List ℤ) → too_many o ≡ true
        → TableInto (unless_refused (answered (length ks) (check_plan P)) (make_plan P)) R lk ln (Err LoopsLength) lk ln
    loops_long lk ln h =
        let past : 4096 < end_of o = past_end o h in
        refused_into R lk ln (by_length (λ g. absurd (omega (arith, past, fits_end g))) (λ g. limits (Err LoopsLength) (sym (plan_long P g)))) refl

    module _ (h : too_many o ≡ false) where
      short : length R ≤ 4096
      short = by_length (λ g. g) (λ g. absurd (omega (arith, within_end o h, many_end g)))

      kinds_front : kinds_put o ≡ kinds_of R
      kinds_front =
          let l : length (kinds_of R) ≡ length R = length-map R (λ (r : Row). r.0) in
          ap kinds_put (stored short) ∙ ap (λ (i : ℕ). take i (sets (replicate 4096 0) 0 (kinds_of R))) (zero-add (length R) ∙ sym l)
          ∙ front (replicate 4096 0) (kinds_of R) (omega (arith, l, length-replicate {A = ℕ} 4096 0, short))

      numbers_front : numbers_put o ≡ numbers_of R
      numbers_front =
          let l : length (numbers_of R) ≡ length R = length-map R (λ (r : Row). r.1) in
          ap numbers_put (stored short) ∙ ap (λ (i : ℕ). take i (sets (replicate 4096 (pos 0)) 0 (numbers_of R))) (zero-add (length R) ∙ sym l)
          ∙ front (replicate 4096 (pos 0)) (numbers_of R) (omega (arith, l, length-replicate {A = ℤ} 4096 (pos 0), short))

      kinds_length : length (kinds_put o) ≡ length R
      kinds_length = ap length kinds_front ∙ length-map R (λ (x : Row). x.0)

      pub same_length : length (kinds_put o) ≡ length (numbers_put o)
      same_length = kinds_length ∙ sym (ap length numbers_front ∙ length-map R (λ (x : Row). x.1))

      pub loops_made : {lk lk' : List ℕ} {ln ln' : List ℤ} {r : Answer}
          → TableInto (by_check (length (kinds_put o)) (check_table (rows_of (kinds_put o) (numbers_put o)))) (rows_of (kinds_put o) (numbers_put o)) lk ln r lk' ln'
          → TableInto (unless_refused (answered (length ks) (check_plan P)) (make_plan P)) R lk ln r lk' ln'
      loops_made I =
          let a : rows_of (kinds_put o) (numbers_put o) ≡ R = ap₂ rows_of kinds_front numbers_front ∙ rows_again R in
          into_as
          (limits _ (ap₂ (λ (i : ℕ) (S : List Row). by_check i (check_table S)) kinds_length a ∙ made_asked P t plan_typed.0 plan_typed.1 short)) a I

-- ---- rows

module _ (ks : List ℕ) (ns : List ℤ) (sizes : length ks ≡ length ns) (a : Answer) (e : a ≡ walk_table sort.Plan (rows_of ks ns)) where
  abbrev rows : List Row
  rows = rows_of ks ns

  abbrev verdict : Answer
  verdict = unless_refused (check_plan_rows rows) (make_plan (plan_of rows))

  pub rows_refused : (q : Refusal) (lk : List ℕ) (ln : List ℤ) → a ≡ Err q → TableInto verdict (made_rows (plan_of rows)) lk ln a lk ln
  rows_refused q lk ln f =
      refused_into (made_rows (plan_of rows)) lk ln
      (f ∙ ap (λ (x : Answer). unless_refused x (make_plan (plan_of rows))) (sym (unwalked_rows rows q (sym e ∙ f)))) f

  module _ (m : ℕ) (f : a ≡ Ok m) where
    pub rows_stand : PlanStands ks ns (plan_of rows)
    rows_stand = let p = plan_tree rows (all_passed sort.Plan rows m (sym e ∙ f)) in (p.1, p.0)

    pub rows_made : {lk lk' : List ℕ} {ln ln' : List ℤ} {r : Answer}
        → TableInto (unless_refused (answered (length ks) (check_plan (plan_of rows))) (make_plan (plan_of rows))) (made_rows (plan_of rows)) lk ln r lk' ln'
        → TableInto verdict (made_rows (plan_of rows)) lk ln r lk' ln'
    rows_made I =
        let l : length ks ≡ length rows = omega (arith, rows_length ks ns, sizes) in
        let c : answered (length ks) (check_plan (plan_of rows)) ≡ check_plan_rows rows =
        ap (λ (i : ℕ). answered i (check_plan (plan_of rows))) l ∙ sym (walked_rows rows (all_passed sort.Plan rows m (sym e ∙ f))) in
        into_as (ap (λ (x : Answer). unless_refused x (make_plan (plan_of rows))) c) refl I
