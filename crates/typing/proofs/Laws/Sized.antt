-- Where question 8 is answered "yes" on every row of a term that is well typed, so is question 7: types that Figure 3's relation gives
-- fit. Assumes nothing.
use Rattle.std.specs.Prelude.{refl, List, [], ◌∷◌, ◌++◌, ℕ, suc}
use Rattle.meaning.specs.Types.{DataType, element}
use Rattle.meaning.specs.Terms.{Term, Plan, series_in}
use Rattle.meaning.specs.Typing.{type_of, HasType}
use Rattle.meaning.proofs.Laws.Typing.{WellTyped, well_typed}
use Rattle.typing.specs.Check.{behind, behind_type, term_line}
use Rattle.typing.specs.Questions.{Question, AllYes, AllYesTo}
use Rattle.typing.specs.TypeQuestions.{type_questions, all_type_questions, term_questions, plan_questions}
use Rattle.typing.proofs.Laws.Questions.{yes_append}
use Rattle.typing.proofs.Laws.Tests.{both_tell, number_tells, array_tells, series_tells, element_tells, pair_tells, same_tells, zip_tells, split_tells, join_tells, index_tells}

pub to_parts : (n : ℕ) (a b : List Question) → AllYesTo n (a ++ b) → AllYesTo n a × AllYesTo n b
to_parts n [] b h = (tt, h)
to_parts n (q ∷ a) b h = let r = to_parts n a b h.1 in ((h.0, r.0), r.1)

pub yes_to : (n : ℕ) (qs : List Question) → AllYes qs → AllYesTo n qs
yes_to n [] h = tt
yes_to n (q ∷ qs) h = (λ e. h.0, yes_to n qs h.1)

pub sized_fits : (I Γ : List DataType) (e : Term) (line : ℕ) → WellTyped I Γ e → AllYesTo 8 (term_questions I Γ e line)
    → AllYes (term_questions I Γ e line)
unfolding term_questions
sized_fits I Γ (Term.input k) line h s = (s.0 refl, tt)
sized_fits I Γ (Term.variable d) line h s = (s.0 refl, tt)
sized_fits I Γ (Term.literal v) line h s = (s.0 refl, tt)
sized_fits I Γ (Term.negate e) line h s =
    let p = to_parts 8 (term_questions I Γ e (suc line)) _ s in
    yes_append (term_questions I Γ e (suc line)) _ (sized_fits I Γ e (suc line) h.0 p.0) ((number_tells (type_of I Γ e)).passes h.1, (p.1.1.0 refl, tt))
sized_fits I Γ (Term.operation o e f) line h s =
    let p = to_parts 8 (term_questions I Γ e (suc line)) _ s in
    let q = to_parts 8 (term_questions I Γ f (behind e (suc line))) _ p.1 in
    yes_append (term_questions I Γ e (suc line)) _ (sized_fits I Γ e (suc line) h.0 p.0)
    (yes_append (term_questions I Γ f (behind e (suc line))) _ (sized_fits I Γ f (behind e (suc line)) h.1 q.0)
    ((both_tell (number_tells (type_of I Γ e)) (number_tells (type_of I Γ f))).passes (h.2, h.3), (q.1.1.0 refl, tt)))
sized_fits I Γ (Term.map kind a b) line h s =
    let p = to_parts 8 (term_questions I Γ a (suc line)) _ s in
    let body : List Question = term_questions I (element (type_of I Γ a) ∷ Γ) b (behind a (suc line)) in
    let q = to_parts 8 body _ p.1.1 in
    yes_append (term_questions I Γ a (suc line)) _ (sized_fits I Γ a (suc line) h.0 p.0) (
      (series_tells (series_in kind) (type_of I Γ a)).passes h.1,
      yes_append body _ (sized_fits I (element (type_of I Γ a) ∷ Γ) b (behind a (suc line)) h.2 q.0)
          ((element_tells (series_in kind) (type_of I (element (type_of I Γ a) ∷ Γ) b)).passes h.3, (q.1.1.0 refl, tt)),
    )
sized_fits I Γ (Term.reduce z a b) line h s =
    let Δ : List DataType = type_of I Γ z ∷ element (type_of I Γ a) ∷ Γ in
    let body : List Question = term_questions I Δ b (behind a (behind z (suc line))) in
    let p = to_parts 8 (term_questions I Γ z (suc line)) _ s in
    let q = to_parts 8 (term_questions I Γ a (behind z (suc line))) _ p.1 in
    let r = to_parts 8 body _ q.1.1 in
    yes_append (term_questions I Γ z (suc line)) _ (sized_fits I Γ z (suc line) h.0 p.0)
    (yes_append (term_questions I Γ a (behind z (suc line))) _ (sized_fits I Γ a (behind z (suc line)) h.1 q.0) (
      (array_tells (type_of I Γ a)).passes h.2,
      yes_append body _ (sized_fits I Δ b (behind a (behind z (suc line))) h.3 r.0)
          ((same_tells (type_of I Δ b) (type_of I Γ z)).passes h.4, (r.1.1.0 refl, tt)),
    ))
sized_fits I Γ (Term.zip a b) line h s =
    let p = to_parts 8 (term_questions I Γ a (suc line)) _ s in
    let q = to_parts 8 (term_questions I Γ b (behind a (suc line))) _ p.1 in
    yes_append (term_questions I Γ a (suc line)) _ (sized_fits I Γ a (suc line) h.0 p.0)
    (yes_append (term_questions I Γ b (behind a (suc line))) _ (sized_fits I Γ b (behind a (suc line)) h.1 q.0)
    ((zip_tells (type_of I Γ a) (type_of I Γ b)).passes ((h.2, h.3), h.4), (q.1.1.0 refl, tt)))
sized_fits I Γ (Term.pair a b) line h s =
    let p = to_parts 8 (term_questions I Γ a (suc line)) _ s in
    let q = to_parts 8 (term_questions I Γ b (behind a (suc line))) _ p.1 in
    yes_append (term_questions I Γ a (suc line)) _ (sized_fits I Γ a (suc line) h.0 p.0)
    (yes_append (term_questions I Γ b (behind a (suc line))) _ (sized_fits I Γ b (behind a (suc line)) h.1 q.0)
    (q.1.0 refl, tt))
sized_fits I Γ (Term.split series n e) line h s =
    let p = to_parts 8 (term_questions I Γ e (suc line)) _ s in
    yes_append (term_questions I Γ e (suc line)) _ (sized_fits I Γ e (suc line) h.0 p.0) ((split_tells series n (type_of I Γ e)).passes ((h.1, h.2), h.4), (p.1.1.0 refl, tt))
sized_fits I Γ (Term.join series e) line h s =
    let p = to_parts 8 (term_questions I Γ e (suc line)) _ s in
    yes_append (term_questions I Γ e (suc line)) _ (sized_fits I Γ e (suc line) h.0 p.0) ((join_tells series (type_of I Γ e)).passes (h.1, h.2), (p.1.1.0 refl, tt))
sized_fits I Γ (Term.first e) line h s =
    let p = to_parts 8 (term_questions I Γ e (suc line)) _ s in
    yes_append (term_questions I Γ e (suc line)) _ (sized_fits I Γ e (suc line) h.0 p.0) ((pair_tells (type_of I Γ e)).passes h.1, (p.1.1.0 refl, tt))
sized_fits I Γ (Term.second e) line h s =
    let p = to_parts 8 (term_questions I Γ e (suc line)) _ s in
    yes_append (term_questions I Γ e (suc line)) _ (sized_fits I Γ e (suc line) h.0 p.0) ((pair_tells (type_of I Γ e)).passes h.1, (p.1.1.0 refl, tt))
sized_fits I Γ (Term.index series k e) line h s =
    let p = to_parts 8 (term_questions I Γ e (suc line)) _ s in
    yes_append (term_questions I Γ e (suc line)) _ (sized_fits I Γ e (suc line) h.0 p.0) ((index_tells series k (type_of I Γ e)).passes (h.1, h.2), (p.1.1.0 refl, tt))

-- input types have nothing to fit
sized_type : (t : DataType) (line : ℕ) → AllYesTo 8 (type_questions t line) → AllYes (type_questions t line)
unfolding type_questions
sized_type DataType.number line s = (s.0 refl, tt)
sized_type (DataType.array n t) line s =
    let p = to_parts 8 (type_questions t (suc line)) _ s in
    yes_append (type_questions t (suc line)) _ (sized_type t (suc line) p.0) (p.1.0 refl, tt)
sized_type (DataType.pair t u) line s =
    let p = to_parts 8 (type_questions t (suc line)) _ s in
    let q = to_parts 8 (type_questions u (behind_type t (suc line))) _ p.1 in
    yes_append (type_questions t (suc line)) _ (sized_type t (suc line) p.0)
    (yes_append (type_questions u (behind_type t (suc line))) _ (sized_type u (behind_type t (suc line)) q.0) (q.1.0 refl, tt))
sized_type (DataType.vector w) line s = (s.0 refl, tt)

sized_types : (I : List DataType) (line : ℕ) → AllYesTo 8 (all_type_questions I line) → AllYes (all_type_questions I line)
unfolding all_type_questions
sized_types [] line s = tt
sized_types (t ∷ I) line s =
    let p = to_parts 8 (type_questions t line) _ s in
    yes_append (type_questions t line) _ (sized_type t line p.0) (sized_types I (behind_type t line) p.1)

pub plan_fits : (P : Plan) (t : DataType) → HasType P.inputs [] P.term t → AllYesTo 8 (plan_questions P) → AllYes (plan_questions P)
unfolding plan_questions
plan_fits P t typed s =
    let p = to_parts 8 (all_type_questions P.inputs 2) _ s in
    yes_append (all_type_questions P.inputs 2) _ (sized_types P.inputs 2 p.0)
    (sized_fits P.inputs [] P.term (term_line P.inputs) (well_typed typed).0 p.1)
