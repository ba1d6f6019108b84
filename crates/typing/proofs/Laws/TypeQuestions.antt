-- The check of a term and of a plan puts questions 7 and 8 in order. Assumes nothing.
use Rattle.std.specs.Prelude.{◌≡◌, refl, Bool, cond, List, [], ◌∷◌, ◌++◌, ℕ, suc, get_or}
use Rattle.std.proofs.Common.{sym, ap, ◌∙◌, subst, append_assoc, arith}
use Rattle.refusals.specs.declared.Refusal.TheVariants.{TypeMisfit}
use Rattle.meaning.specs.Types.{DataType, number, array, vector, element}
use Rattle.meaning.specs.Terms.{Term, Plan}
use Rattle.meaning.specs.Typing.{type_of}
use Rattle.typing.specs.Check.{Verdict, typed, refused, sized, fitted, after_operand, behind, behind_type, term_line, check, check_type, check_types, check_plan}
use Rattle.typing.specs.Questions.{Question, ask, AllYes}
use Rattle.typing.specs.TypeQuestions.{fits, size, term_questions, type_questions, all_type_questions, plan_questions}
use Rattle.typing.proofs.Laws.Questions.{end_asked, ask_append, ask_through}

-- who gets a type is answered "yes" throughout
pub asked_typed : (qs : List Question) (s t : DataType) → ask refused qs (typed s) ≡ typed t → AllYes qs × (s ≡ t)
asked_typed qs s t e =
    let a = end_asked refused qs (typed s) (typed t) (λ r f. let never : ◌≡◌ {A = ℕ} 0 1 = cc in omega arith) e in
    let same : typed s ≡ typed t = a.1 in
    (a.0, cc)

-- a verdict is what questions come to
record Asks (v : Verdict) (qs : List Question) (end : Verdict) : Type 0 where
  asks : v ≡ ask refused qs end

-- a row's own questions
sized_asks : (line : ℕ) (t : DataType) → Asks (sized line t) (size line t ∷ []) (typed t)
unfolding ask
sized_asks line t = record { asks = refl }

fitted_asks : (line : ℕ) (b : Bool) (t : DataType) → Asks (fitted line b t) (fits line b ∷ size line t ∷ []) (typed t)
unfolding ask
fitted_asks line b t = record { asks = refl }

-- an operand's questions, and then those of what comes behind it
operand : (v : Verdict) (next : DataType → Verdict) {t : DataType} {qs rest : List Question} {end : Verdict}
    → Asks v qs (typed t) → Asks (next t) rest end → Asks (after_operand v next) (qs ++ rest) end
operand v next {t} {qs} {rest} {end} h k = record {
  asks =
      ap (λ (w : Verdict). after_operand w next) h.asks
      ∙ ask_through refused refused (λ (w : Verdict). after_operand w next) (λ r. refl) qs (typed t)
      ∙ ap (ask refused qs) k.asks
      ∙ sym (ask_append refused qs rest end);
}

-- a body's, once its array, [18.6] or its vector, is known to be one
body : (line : ℕ) (is : Bool) {v : Verdict} {qs : List Question} {end : Verdict}
    → Asks v qs end → Asks (cond is v (refused (TypeMisfit line))) (fits line is ∷ qs) end
unfolding ask
body line is h = record { asks = ap (λ (w : Verdict). cond is w (refused (TypeMisfit line))) h.asks }

term_asks : (I Γ : List DataType) (e : Term) (line : ℕ) → Asks (check I Γ e line) (term_questions I Γ e line) (typed (type_of I Γ e))
unfolding check term_questions
term_asks I Γ (Term.input k) line = sized_asks line (get_or I k number)
term_asks I Γ (Term.variable d) line = sized_asks line (get_or Γ d number)
term_asks I Γ (Term.literal v) line = sized_asks line number
term_asks I Γ (Term.negate e) line = operand _ _ (term_asks I Γ e (suc line)) (fitted_asks line _ number)
term_asks I Γ (Term.operation o e f) line =
    operand _ _ (term_asks I Γ e (suc line)) (operand _ _ (term_asks I Γ f (behind e (suc line))) (fitted_asks line _ number))
term_asks I Γ (Term.map kind a b) line =
    operand _ _ (term_asks I Γ a (suc line))
    (body line _
    (operand _ _ (term_asks I (element (type_of I Γ a) ∷ Γ) b (behind a (suc line))) (fitted_asks line _ _)))
term_asks I Γ (Term.reduce z a b) line =
    operand _ _ (term_asks I Γ z (suc line)) (operand _ _ (term_asks I Γ a (behind z (suc line)))
    (body line _
    (operand _ _ (term_asks I (type_of I Γ z ∷ element (type_of I Γ a) ∷ Γ) b (behind a (behind z (suc line)))) (fitted_asks line _ _))))
term_asks I Γ (Term.zip a b) line =
    operand _ _ (term_asks I Γ a (suc line)) (operand _ _ (term_asks I Γ b (behind a (suc line))) (fitted_asks line _ _))
term_asks I Γ (Term.pair a b) line =
    operand _ _ (term_asks I Γ a (suc line)) (operand _ _ (term_asks I Γ b (behind a (suc line))) (sized_asks line _))
term_asks I Γ (Term.split series n e) line = operand _ _ (term_asks I Γ e (suc line)) (fitted_asks line _ _)
term_asks I Γ (Term.join series e) line = operand _ _ (term_asks I Γ e (suc line)) (fitted_asks line _ _)
term_asks I Γ (Term.first e) line = operand _ _ (term_asks I Γ e (suc line)) (fitted_asks line _ _)
term_asks I Γ (Term.second e) line = operand _ _ (term_asks I Γ e (suc line)) (fitted_asks line _ _)
term_asks I Γ (Term.index series k e) line = operand _ _ (term_asks I Γ e (suc line)) (fitted_asks line _ _)

type_asks : (t : DataType) (line : ℕ) → Asks (check_type t line) (type_questions t line) (typed t)
unfolding check_type type_questions
type_asks number line = sized_asks line number
type_asks (array n t) line = operand _ _ (type_asks t (suc line)) (sized_asks line _)
type_asks (DataType.pair s t) line =
    operand _ _ (type_asks s (suc line)) (operand _ _ (type_asks t (behind_type s (suc line))) (sized_asks line _))
type_asks (vector w) line = sized_asks line (vector w)

types_ask : (I : List DataType) (line : ℕ) {next end : Verdict} {qs : List Question}
    → Asks next qs end → Asks (check_types I line next) (all_type_questions I line ++ qs) end
unfolding check_types all_type_questions
types_ask [] line h = h
types_ask (t ∷ I) line {next} {end} {qs} h =
    subst (λ (l : List Question). Asks (check_types (t ∷ I) line next) l end)
    (sym (append_assoc (type_questions t line) (all_type_questions I (behind_type t line)) qs))
    (operand _ _ (type_asks t line) (types_ask I (behind_type t line) h))

pub check_asks : (I Γ : List DataType) (e : Term) (line : ℕ) → check I Γ e line ≡ ask refused (term_questions I Γ e line) (typed (type_of I Γ e))
check_asks I Γ e line = (term_asks I Γ e line).asks

-- the type of a plan's term
abbrev pub plan_type : Plan → DataType
plan_type P = type_of P.inputs [] P.term

pub plan_asks : (P : Plan) → check_plan P ≡ ask refused (plan_questions P) (typed (plan_type P))
unfolding check_plan plan_questions
plan_asks P = (types_ask P.inputs 2 (term_asks P.inputs [] P.term (term_line P.inputs))).asks
