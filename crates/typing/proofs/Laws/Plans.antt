-- Terms and whole plans: the check finds a type exactly when the relation does, within the limits. Assumes nothing.
use Rattle.std.specs.Prelude.{◌≡◌, List, [], ◌∷◌, ℕ, zero, suc, ◌≤◌, ◌<◌, length, get_or}
use Rattle.std.proofs.Common.{sym, ap, ◌∙◌, subst, suc-le-suc, le_of_suc-le-suc, not-suc-le-zero, arith}
use Rattle.meaning.specs.Types.{DataType, number, array, vector}
use Rattle.meaning.specs.Terms.{Term, Plan}
use Rattle.meaning.specs.Typing.{HasType, type_of}
use Rattle.meaning.specs.Limits.{TypeWithin, TermWithin, PlanWithin}
use Rattle.meaning.specs.Rows.{plan_rows}
use Rattle.meaning.proofs.Laws.Typing.{well_typed, has_type}
use Rattle.syntax.specs.InRange.{TypeInRange, AllTypesInRange, TermInRange, PlanInRange}
use Rattle.typing.specs.Check.{typed, refused, behind_type, check, check_plan, term_line}
use Rattle.typing.specs.Questions.{AllYes}
use Rattle.typing.specs.TypeQuestions.{term_questions, type_questions, all_type_questions, plan_questions}
use Rattle.typing.proofs.Laws.Questions.{yes_append, yes_parts, all_asked}
use Rattle.typing.proofs.Laws.TypeQuestions.{asked_typed, check_asks, plan_type, plan_asks}
use Rattle.typing.specs.Accepted.{Nonempty, AllNonempty}
use Rattle.typing.proofs.Laws.Accept.{passes_size, size_passes, accepted, accepts}

-- ---- terms

pub term_accepted : (I Γ : List DataType) (e : Term) (line : ℕ) (t : DataType) → AllNonempty I → AllNonempty Γ
    → TermInRange (length I) (length Γ) e → check I Γ e line ≡ typed t → HasType I Γ e t × TermWithin I Γ e
term_accepted I Γ e line t full g r h =
    let a = asked_typed (term_questions I Γ e line) (type_of I Γ e) t (sym (check_asks I Γ e line) ∙ h) in
    let x = accepted I full Γ e line g r a.0 in
    (subst (λ (s : DataType). HasType I Γ e s) a.1 (has_type I Γ e x.0), x.1)

pub term_accepts : (I Γ : List DataType) (e : Term) (line : ℕ) (t : DataType) → HasType I Γ e t → TermWithin I Γ e
    → check I Γ e line ≡ typed t
term_accepts I Γ e line t h w =
    let x = well_typed h in
    check_asks I Γ e line
    ∙ all_asked refused (term_questions I Γ e line) (typed (type_of I Γ e)) (accepts I Γ e line x.0 w)
    ∙ ap typed x.1

-- ---- types

pub in_range_nonempty : (t : DataType) → TypeInRange t → Nonempty t
in_range_nonempty number h = tt
in_range_nonempty (array n t) h = (h.0.0, in_range_nonempty t h.1)
in_range_nonempty (DataType.pair s t) h = (in_range_nonempty s h.0, in_range_nonempty t h.1)
in_range_nonempty (vector w) h = h

pub all_nonempty : (I : List DataType) → AllTypesInRange I → AllNonempty I
all_nonempty [] h = tt
all_nonempty (t ∷ I) h = (in_range_nonempty t h.0, all_nonempty I h.1)

type_yes : (t : DataType) (line : ℕ) → TypeWithin t → AllYes (type_questions t line)
unfolding type_questions
type_yes number line h = (size_passes number h, tt)
type_yes (array n t) line h =
    yes_append (type_questions t (suc line)) _ (type_yes t (suc line) (h.0.2, omega (arith, h.1)))
    (size_passes (array n t) h, tt)
type_yes (DataType.pair s t) line h =
    yes_append (type_questions s (suc line)) _ (type_yes s (suc line) (h.0.1, omega (arith, h.1)))
    (yes_append (type_questions t (behind_type s (suc line))) _
    (type_yes t (behind_type s (suc line)) (h.0.2, omega (arith, h.1)))
    (size_passes (DataType.pair s t) h, tt))
type_yes (vector w) line h = (size_passes (vector w) h, tt)

type_within : (t : DataType) (line : ℕ) → Nonempty t → AllYes (type_questions t line) → TypeWithin t
unfolding type_questions
type_within number line g h = passes_size number g h.0
type_within (array n t) line g h =
    passes_size (array n t) g (yes_parts (type_questions t (suc line)) _ h).1.0
type_within (DataType.pair s t) line g h =
    passes_size (DataType.pair s t) g
    (yes_parts (type_questions t (behind_type s (suc line))) _ (yes_parts (type_questions s (suc line)) _ h).1).1.0
type_within (vector w) line g h = passes_size (vector w) g h.0

abbrev EachWithin : List DataType → Type 0
EachWithin I = (k : ℕ) → k < length I → TypeWithin (get_or I k number)

types_yes : (I : List DataType) (line : ℕ) → EachWithin I → AllYes (all_type_questions I line)
unfolding all_type_questions
types_yes [] line h = tt
types_yes (t ∷ I) line h =
    yes_append (type_questions t line) _ (type_yes t line (h 0 (omega arith)))
    (types_yes I (behind_type t line) (λ k b. h (suc k) (suc-le-suc b)))

types_within : (I : List DataType) (line : ℕ) → AllNonempty I → AllYes (all_type_questions I line) → EachWithin I
unfolding all_type_questions
types_within [] line g h k b = absurd (not-suc-le-zero b)
types_within (t ∷ I) line g h zero b = type_within t line g.0 (yes_parts (type_questions t line) _ h).0
types_within (t ∷ I) line g h (suc k) b =
    types_within I (behind_type t line) g.1 (yes_parts (type_questions t line) _ h).1 k (le_of_suc-le-suc b)

-- ---- plans

pub plan_accepted : (P : Plan) (t : DataType) → PlanInRange P → length (plan_rows P) ≤ 256 → check_plan P ≡ typed t
    → HasType P.inputs [] P.term t × PlanWithin P
unfolding plan_questions
plan_accepted P t r few h =
    let full : AllNonempty P.inputs = all_nonempty P.inputs r.types in
    let a = asked_typed (plan_questions P) (plan_type P) t (sym (plan_asks P) ∙ h) in
    let p = yes_parts (all_type_questions P.inputs 2) (term_questions P.inputs [] P.term (term_line P.inputs)) a.0 in
    let x = accepted P.inputs full [] P.term (term_line P.inputs) tt r.term p.1 in (
      subst (λ (s : DataType). HasType P.inputs [] P.term s) a.1 (has_type P.inputs [] P.term x.0),
      record {
        rows_few = few;
        inputs_few = r.inputs_few;
        input_types = types_within P.inputs 2 full p.0;
        term_within = x.1;
      },
    )

pub plan_accepts : (P : Plan) (t : DataType) → HasType P.inputs [] P.term t → PlanWithin P → check_plan P ≡ typed t
unfolding plan_questions
plan_accepts P t h w =
    let x = well_typed h in
    plan_asks P
    ∙ all_asked refused (plan_questions P) (typed (plan_type P))
    (yes_append (all_type_questions P.inputs 2) _ (types_yes P.inputs 2 w.input_types)
    (accepts P.inputs [] P.term (term_line P.inputs) x.0 w.term_within))
    ∙ ap typed x.1
