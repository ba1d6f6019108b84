-- The types of a plan: its term's, behind those of its inputs.
use mathlib.Core.Path.{◌≡◌, refl, ap, sym, subst, ◌∙◌}
use mathlib.Core.List.{List, [], ◌++◌, append-nil}
use Prim.Native.Nat.{ℕ, ◌+◌, ◌*◌, ◌≤◌}
use native.Mathlib.Omega.{arith}
use lib.IntN.{ℤ}
use lib.ListN.{length}
use lib.Seq.{drop-length}
use Rattle.refusals.specs.declared.Refusal.{Refusal}
use Rattle.meaning.specs.Types.{DataType}
use Rattle.meaning.specs.Terms.{Term, Plan}
use Rattle.meaning.specs.Rows.{all_type_rows, term_rows}
use Rattle.syntax.proofs.Front.{part, part_length}
use Rattle.type_table.specs.Table.{type_at}
use Rattle.typing.specs.Check.{Verdict, typed, refused, check, check_types, check_plan, term_line}
use Rattle.row_typing.specs.Terms.{Stands, Place, TermFound}
use Rattle.row_typing.specs.Typed.{PlanStands, PlanTyped, PlanRoom, PlanAnswered, InputsTyped, InputsFound}
use Rattle.row_typing.specs.declared.TypedPlan.{TypedPlan}
use Rattle.std.specs.Prelude.{Result, Ok, Err}
use Rattle.type_rules.specs.declared.Typed.{Typed}
use Rattle.row_typing.specs.declared.inputs.TypedInputs.{TypedInputs}
use Rattle.row_typing.proofs.NotedLaws.{names_on}
use Rattle.row_typing.proofs.TermAnswers.{at_line}
use Rattle.row_typing.proofs.InputLaws.{rows_all, rows_behind, rows_count}

-- the answer, of one plan
abbrev PlanFound : List ℕ → List ℕ → List ℕ → List ℕ → Plan → Result TypedPlan Refusal → Type 0
PlanFound T C U D P (Ok f) = (t : DataType) × (check_plan P ≡ typed t) × PlanTyped T C U D P t f.inputs f.row f.term.place f.term.len
PlanFound T C U D P (Err q) = check_plan P ≡ refused q

plan_answered : (ks : List ℕ) (ns : List ℤ) (T C U D : List ℕ) (x : Result TypedPlan Refusal) → ((P : Plan) → PlanStands ks ns P → PlanFound T C U D P x)
    → PlanAnswered ks ns T C U D x
plan_answered ks ns T C U D (Ok f) F = record {
  no = λ P q S h. absurd (let a = (F P S).1 in cc);
  yes = λ P t S h.
      let e : (F P S).0 ≡ t = let a = (F P S).1 in cc in
      (f, refl, subst (λ (s : DataType). PlanTyped T C U D P s f.inputs f.row f.term.place f.term.len) e (F P S).2);
}
plan_answered ks ns T C U D (Err q) F = record {
  no = λ P p S h. let a = F P S in cc;
  yes = λ P t S h. absurd (let a = F P S in cc);
}

-- what the answer tells, taken apart
module _ (ks : List ℕ) (ns : List ℤ) (T C U D : List ℕ) (r : Result TypedPlan Refusal) (A : PlanAnswered ks ns T C U D r) (P : Plan) (S : PlanStands ks ns P) where
  pub plan_refused : (q : Refusal) → r ≡ Err q → check_plan P ≡ refused q
  plan_refused q h = go (check_plan P) refl
    where
      go : (v : Verdict) → check_plan P ≡ v → v ≡ refused q
      go (typed t) e = absurd (let y = (A.yes P t S e).1 in cc)
      go (refused p) e = let y = A.no P p S e in cc

  pub plan_typed : (f : TypedPlan) → r ≡ Ok f → (t : DataType) × (check_plan P ≡ typed t) × PlanTyped T C U D P t f.inputs f.row f.term.place f.term.len
  plan_typed f h = go (check_plan P) refl
    where
      go : (v : Verdict) → check_plan P ≡ v → (t : DataType) × (check_plan P ≡ typed t) × PlanTyped T C U D P t f.inputs f.row f.term.place f.term.len
      go (typed t) e =
          let y = A.yes P t S e in
          let k : y.0 ≡ f = let z = y.1 in cc in
          (t, e, subst (λ (g : TypedPlan). PlanTyped T C U D P t g.inputs g.row g.term.place g.term.len) k y.2)
      go (refused q) e = absurd (let y = A.no P q S e in cc)

module _ (ks : List ℕ) (ns : List ℤ) (T C : List ℕ) (M : PlanRoom ks ns T C) (U : List ℕ) (r : Result TypedInputs Refusal)
    (F : (P : Plan) → PlanStands ks ns P → InputsFound T U P r) where
  pub inputs_no : (q : Refusal) (X E : List ℕ) (x : Result TypedPlan Refusal) → r ≡ Err q → x ≡ Err q → PlanAnswered ks ns T C X E x
  unfolding check_plan
  inputs_no q X E x h e =
      subst (PlanAnswered ks ns T C X E) (sym e)
      (plan_answered ks ns T C X E (Err q)
      (λ P S. subst (InputsFound T U P) h (F P S) (check P.inputs [] P.term (term_line P.inputs))))

  module _ (f : TypedInputs) (h : r ≡ Ok f) where
    module _ (P : Plan) (S : PlanStands ks ns P) where
      found : InputsTyped T U f.places P.inputs (length P.inputs) f.row f.len × ((v : Verdict) → check_types P.inputs 2 v ≡ v)
      found = subst (InputsFound T U P) h (F P S)

      term_row : f.row ≡ 1 + length (all_type_rows P.inputs)
      term_row = omega (arith, found.0.ends, rows_all P.inputs)

      pub row_within : f.row ≤ length ks
      row_within = omega (arith, term_row, rows_count ks ns M.sizes M.few P S)

      pub term_stands : (W : List ℕ) → length W ≡ 16
          → Stands (part f.row ks) (part f.row ns) U f.len (record { inputs = f.places; variables = W; count = 0 }) P.inputs [] P.term
      unfolding all_type_rows
      term_stands W long = record {
        term = record {
          sizes = omega (arith, part_length f.row ks, part_length f.row ns, M.sizes);
          rest = [];
          rows =
              rows_behind ks ns M.sizes M.few P S (length P.inputs) f.row found.0.ends
              ∙ ap (λ (J : List DataType). all_type_rows J ++ term_rows P.term) (drop-length P.inputs) ∙ sym (append-nil (term_rows P.term));
          in_range = S.1.term;
        };
        in_force = record {
          inputs = found.0.named;
          variables = λ d k. absurd (omega arith);
          count = refl;
          few = S.1.inputs_few;
          deep = omega arith;
          long = long;
        };
      }

    pub term_place : Place (part f.row ks) U f.len C f.row (2 * length (part f.row ks))
    term_place =
        let I = (found M.plan M.stands).0 in
        let w = row_within M.plan M.stands in
        record {
          room = record {
            sound = I.sound;
            places = omega (arith, I.size, I.few, M.types, M.few, part_length f.row ks);
            few = omega (arith, I.few, M.few, part_length f.row ks);
          };
          some = I.some;
          number = I.first;
          column = omega (arith, M.few, M.column, part_length f.row ks);
          few = omega (arith, M.few, part_length f.row ks);
        }

    module _ (W : List ℕ) (long : length W ≡ 16) (X E : List ℕ) (a : Result Typed Refusal)
        (G : (I Γ : List DataType) (e : Term) → Stands (part f.row ks) (part f.row ns) U f.len (record { inputs = f.places; variables = W; count = 0 }) I Γ e
        → TermFound U f.len C X E f.row I Γ e (f.len + 2 * length (term_rows e)) (check I Γ e (f.row + 1)) a) where
      on_term : (P : Plan) → PlanStands ks ns P
          → TermFound U f.len C X E f.row P.inputs [] P.term (f.len + 2 * length (term_rows P.term)) (check P.inputs [] P.term (f.row + 1)) a
      on_term P S = G P.inputs [] P.term (term_stands P S W long)

      pub term_answered : (t : Typed) → a ≡ Ok t → PlanAnswered ks ns T C X E (Ok (record { inputs = f.places; row = f.row; term = t }))
      unfolding check_plan
      term_answered t is = plan_answered ks ns T C X E (Ok (record { inputs = f.places; row = f.row; term = t })) λ P S.
          let K = subst (TermFound U f.len C X E f.row P.inputs [] P.term (f.len + 2 * length (term_rows P.term)) (check P.inputs [] P.term (f.row + 1))) is (on_term P S) in
          let I = found P S in
          let count = rows_count ks ns M.sizes M.few P S in (
            type_at X t.place,
            I.1 _ ∙ at_line P.inputs [] P.term (typed (type_at X t.place)) (f.row + 1) (term_line P.inputs) (omega (arith, term_row P S)) K.0.0,
            record {
              sound = K.0.4.sound;
              few = omega (arith, K.0.3, I.0.few, term_row P S, count, M.few);
              inputs = λ k j. names_on K.0.4 refl (I.0.named k j);
              row = term_row P S;
              place = (K.0.2, refl);
              noted = K.1;
              types = K.0.4.size ∙ I.0.size;
              column = K.2.size;
            },
          )

      pub term_no : (q : Refusal) (x : Result TypedPlan Refusal) → a ≡ Err q → x ≡ Err q → PlanAnswered ks ns T C X E x
      unfolding check_plan
      term_no q x is e = subst (PlanAnswered ks ns T C X E) (sym e) (plan_answered ks ns T C X E (Err q) λ P S.
          let K = subst (TermFound U f.len C X E f.row P.inputs [] P.term (f.len + 2 * length (term_rows P.term)) (check P.inputs [] P.term (f.row + 1))) is (on_term P S) in
          (found P S).1 _ ∙ at_line P.inputs [] P.term (refused q) (f.row + 1) (term_line P.inputs) (omega (arith, term_row P S)) K)
