-- Questions 7 and 8 as one list for a plan, in the order of [10.19]. That the check is the first "no" of this list is said by
-- `Theorems`. Definitions only; assumes nothing.
use Rattle.std.specs.Prelude.{Bool, ◌&&◌, List, [], ◌∷◌, ◌++◌, ℕ, suc}
use Rattle.refusals.specs.declared.Refusal.TheVariants.{TypeMisfit, TypeSize}
use Rattle.meaning.specs.Types.{DataType, number, array, vector, element, is_number}
use Rattle.meaning.specs.Terms.{Term, Plan, series_in}
use Rattle.meaning.specs.Typing.{type_of}
use Rattle.typing.specs.Check.{is_array, is_pair, is_series, may_be_in, same_type, zip_fits, split_fits, join_fits, index_fits, in_limits, behind_type, behind, term_line}
use Rattle.typing.specs.Questions.{Question, question}

-- [10.7] the operands' types
abbrev pub fits : ℕ → Bool → Question
fits line b = question b (TypeMisfit line)

-- [10.8] the row's own type
abbrev pub size : ℕ → DataType → Question
size line t = question (in_limits t) (TypeSize line)

-- [5.11] Each row after its operands, from left to right; a map or `redseq` is asked for its array before its body is, [18.6] a `mapvec` for
-- its vector before its body is, and behind it whether the body is a number. `type_of` is the type of a term that has one; where a "no" came
-- before, nobody hears the rest.
unfoldable pub term_questions : List DataType → List DataType → Term → ℕ → List Question
term_questions I Γ (Term.input k) line = size line (type_of I Γ (Term.input k)) ∷ []
term_questions I Γ (Term.variable d) line = size line (type_of I Γ (Term.variable d)) ∷ []
term_questions I Γ (Term.literal v) line = size line number ∷ []
term_questions I Γ (Term.negate e) line =
    term_questions I Γ e (suc line) ++ (fits line (is_number (type_of I Γ e)) ∷ size line number ∷ [])
term_questions I Γ (Term.operation o e f) line =
    term_questions I Γ e (suc line)
    ++ (term_questions I Γ f (behind e (suc line))
    ++ (fits line (is_number (type_of I Γ e) && is_number (type_of I Γ f)) ∷ size line number ∷ []))
term_questions I Γ (Term.map kind a b) line =
    term_questions I Γ a (suc line)
    ++ (fits line (is_series (series_in kind) (type_of I Γ a))
    ∷ (term_questions I (element (type_of I Γ a) ∷ Γ) b (behind a (suc line))
    ++ (fits line (may_be_in (series_in kind) (type_of I (element (type_of I Γ a) ∷ Γ) b))
    ∷ size line (type_of I Γ (Term.map kind a b))
    ∷ [])))
term_questions I Γ (Term.reduce z a b) line =
    term_questions I Γ z (suc line)
    ++ (term_questions I Γ a (behind z (suc line))
    ++ (fits line (is_array (type_of I Γ a))
    ∷ (term_questions I (type_of I Γ z ∷ element (type_of I Γ a) ∷ Γ) b (behind a (behind z (suc line)))
    ++ (fits line (same_type (type_of I (type_of I Γ z ∷ element (type_of I Γ a) ∷ Γ) b) (type_of I Γ z))
    ∷ size line (type_of I Γ z)
    ∷ []))))
term_questions I Γ (Term.zip a b) line =
    term_questions I Γ a (suc line)
    ++ (term_questions I Γ b (behind a (suc line))
    ++ (fits line (zip_fits (type_of I Γ a) (type_of I Γ b)) ∷ size line (type_of I Γ (Term.zip a b)) ∷ []))
term_questions I Γ (Term.pair a b) line =
    term_questions I Γ a (suc line)
    ++ (term_questions I Γ b (behind a (suc line)) ++ (size line (type_of I Γ (Term.pair a b)) ∷ []))
term_questions I Γ (Term.split series n e) line =
    term_questions I Γ e (suc line)
    ++ (fits line (split_fits series n (type_of I Γ e)) ∷ size line (type_of I Γ (Term.split series n e)) ∷ [])
term_questions I Γ (Term.join series e) line =
    term_questions I Γ e (suc line)
    ++ (fits line (join_fits series (type_of I Γ e)) ∷ size line (type_of I Γ (Term.join series e)) ∷ [])
term_questions I Γ (Term.first e) line =
    term_questions I Γ e (suc line)
    ++ (fits line (is_pair (type_of I Γ e)) ∷ size line (type_of I Γ (Term.first e)) ∷ [])
term_questions I Γ (Term.second e) line =
    term_questions I Γ e (suc line)
    ++ (fits line (is_pair (type_of I Γ e)) ∷ size line (type_of I Γ (Term.second e)) ∷ [])
term_questions I Γ (Term.index series k e) line =
    term_questions I Γ e (suc line)
    ++ (fits line (index_fits series k (type_of I Γ e)) ∷ size line (type_of I Γ (Term.index series k e)) ∷ [])

-- [10.8] of the rows of an input's type
unfoldable pub type_questions : DataType → ℕ → List Question
type_questions number line = size line number ∷ []
type_questions (array n t) line = type_questions t (suc line) ++ (size line (array n t) ∷ [])
type_questions (DataType.pair s t) line =
    type_questions s (suc line) ++ (type_questions t (behind_type s (suc line)) ++ (size line (DataType.pair s t) ∷ []))
type_questions (vector w) line = size line (vector w) ∷ []

unfoldable pub all_type_questions : List DataType → ℕ → List Question
all_type_questions [] line = []
all_type_questions (t ∷ I) line = type_questions t line ++ all_type_questions I (behind_type t line)

unfoldable pub plan_questions : Plan → List Question
plan_questions P = all_type_questions P.inputs 2 ++ term_questions P.inputs [] P.term (term_line P.inputs)
