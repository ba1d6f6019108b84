-- The check of a plan on its tree: [10.7] and [10.8], put to the types of inputs too, and to each row after its operands, from left to
-- right [10.19]. Definitions only; assumes nothing.
use Rattle.std.specs.Prelude.{Bool, true, false, cond, ◌&&◌, List, [], ◌∷◌, ℕ, suc, ◌+◌, ◌*◌, ◌/◌, eqb, ltb, leb, length, get_or}
use Rattle.refusals.specs.declared.Refusal.{Refusal}
use Rattle.refusals.specs.declared.Refusal.TheVariants.{TypeMisfit, TypeSize}
use Rattle.meaning.specs.Types.{DataType, Series, number, array, vector, is_number, cells, levels, array_length, element, first_type, second_type, series_of}
use Rattle.meaning.specs.Terms.{Term, Plan, series_in}
use Rattle.meaning.specs.Rows.{type_rows, all_type_rows, term_rows}

-- the type of what was checked, or the first "no"
pub data Verdict : Type 0 where
  typed : DataType → Verdict
  refused : Refusal → Verdict

-- ---- what is asked about types

abbrev pub is_array : DataType → Bool
is_array number = false
is_array (array n t) = true
is_array (DataType.pair s t) = false
is_array (vector w) = false

abbrev pub is_pair : DataType → Bool
is_pair number = false
is_pair (array n t) = false
is_pair (DataType.pair s t) = true
is_pair (vector w) = false

-- [18.2] a vector, which is no array
abbrev pub is_vector : DataType → Bool
is_vector number = false
is_vector (array n t) = false
is_vector (DataType.pair s t) = false
is_vector (vector w) = true

-- [18.2] an array or a vector, as it is named; and a type that its elements may have: those of vectors are numbers
abbrev pub is_series : Series → DataType → Bool
is_series Series.arrays t = is_array t
is_series Series.vectors t = is_vector t

abbrev pub may_be_in : Series → DataType → Bool
may_be_in Series.arrays t = true
may_be_in Series.vectors t = is_number t

abbrev pub same_type : DataType → DataType → Bool
same_type number number = true
same_type number (array n t) = false
same_type number (DataType.pair s t) = false
same_type number (vector w) = false
same_type (array m s) number = false
same_type (array m s) (array n t) = eqb m n && same_type s t
same_type (array m s) (DataType.pair t u) = false
same_type (array m s) (vector w) = false
same_type (DataType.pair r s) number = false
same_type (DataType.pair r s) (array n t) = false
same_type (DataType.pair r s) (DataType.pair t u) = same_type r t && same_type s u
same_type (DataType.pair r s) (vector w) = false
same_type (vector v) number = false
same_type (vector v) (array n t) = false
same_type (vector v) (DataType.pair t u) = false
same_type (vector v) (vector w) = eqb v w

-- [5.6] two arrays of one length
abbrev pub zip_fits : DataType → DataType → Bool
zip_fits s t = is_array s && is_array t && eqb (array_length s) (array_length t)

-- [5.8] an array whose length n divides; [18.4] for `asvec` one of numbers
abbrev pub split_fits : Series → ℕ → DataType → Bool
split_fits series n t = is_array t && eqb (array_length t / n * n) (array_length t) && may_be_in series (element t)

-- [5.9] an array of arrays; [18.5] for `asscal` one of vectors
abbrev pub join_fits : Series → DataType → Bool
join_fits series t = is_array t && is_series series (element t)

-- [5.10] an array of more than k elements; [18.7] for `at` a vector of more than k lanes
abbrev pub index_fits : Series → ℕ → DataType → Bool
index_fits series k t = is_series series t && ltb k (array_length t)

-- [13.13] the cells, and [13.14] the levels
abbrev pub in_limits : DataType → Bool
in_limits t = leb (cells t) 4096 && leb (levels t) 8

-- ---- the questions on a row

-- [10.8] The size of the row's type.
abbrev pub sized : ℕ → DataType → Verdict
sized line t = cond (in_limits t) (typed t) (refused (TypeSize line))

-- [10.7] The fit of the operands' types, and then [10.8].
abbrev pub fitted : ℕ → Bool → DataType → Verdict
fitted line fits t = cond fits (sized line t) (refused (TypeMisfit line))

-- [5.11] a row comes after its operands: an operand's refusal is handed on
abbrev pub after_operand : Verdict → (DataType → Verdict) → Verdict
after_operand (typed t) next = next t
after_operand (refused q) next = refused q

-- the line behind the rows of a type or a term that begins on a line
abbrev pub behind_type : DataType → ℕ → ℕ
behind_type t line = line + length (type_rows t)

abbrev pub behind : Term → ℕ → ℕ
behind e line = line + length (term_rows e)

-- ---- terms

-- [5.2] to [5.10] The inputs' types, those of the variables in force (innermost first), a term, and the line of its first row.
-- [5.11] A map or `redseq` whose array is none is refused before its body is typed, [18.6] and so is a `mapvec` over no vector; that its
-- body is no number is told after it.
unfoldable pub check : List DataType → List DataType → Term → ℕ → Verdict
check I Γ (Term.input k) line = sized line (get_or I k number)
check I Γ (Term.variable d) line = sized line (get_or Γ d number)
check I Γ (Term.literal v) line = sized line number
check I Γ (Term.negate e) line = after_operand (check I Γ e (suc line)) λ t. fitted line (is_number t) number
check I Γ (Term.operation o e f) line =
    after_operand (check I Γ e (suc line)) λ s. after_operand (check I Γ f (behind e (suc line))) λ t.
    fitted line (is_number s && is_number t) number
check I Γ (Term.map kind a b) line =
    after_operand (check I Γ a (suc line)) λ s. cond (is_series (series_in kind) s)
    (after_operand (check I (element s ∷ Γ) b (behind a (suc line))) λ t.
    fitted line (may_be_in (series_in kind) t) (series_of (series_in kind) (array_length s) t))
    (refused (TypeMisfit line))
check I Γ (Term.reduce z a b) line =
    after_operand (check I Γ z (suc line)) λ t. after_operand (check I Γ a (behind z (suc line))) λ s. cond (is_array s)
    (after_operand (check I (t ∷ element s ∷ Γ) b (behind a (behind z (suc line)))) λ u. fitted line (same_type u t) t)
    (refused (TypeMisfit line))
check I Γ (Term.zip a b) line =
    after_operand (check I Γ a (suc line)) λ s. after_operand (check I Γ b (behind a (suc line))) λ t.
    fitted line (zip_fits s t) (array (array_length s) (DataType.pair (element s) (element t)))
check I Γ (Term.pair a b) line =
    after_operand (check I Γ a (suc line)) λ s. after_operand (check I Γ b (behind a (suc line))) λ t.
    sized line (DataType.pair s t)
check I Γ (Term.split series n e) line =
    after_operand (check I Γ e (suc line)) λ t.
    fitted line (split_fits series n t) (array (array_length t / n) (series_of series n (element t)))
check I Γ (Term.join series e) line =
    after_operand (check I Γ e (suc line)) λ t.
    fitted line (join_fits series t) (array (array_length t * array_length (element t)) (element (element t)))
check I Γ (Term.first e) line = after_operand (check I Γ e (suc line)) λ t. fitted line (is_pair t) (first_type t)
check I Γ (Term.second e) line = after_operand (check I Γ e (suc line)) λ t. fitted line (is_pair t) (second_type t)
check I Γ (Term.index series k e) line =
    after_operand (check I Γ e (suc line)) λ t. fitted line (index_fits series k t) (element t)

-- ---- types of inputs

-- [5.1] a type row's type is the one it spells
unfoldable pub check_type : DataType → ℕ → Verdict
check_type number line = sized line number
check_type (array n t) line = after_operand (check_type t (suc line)) λ u. sized line (array n t)
check_type (DataType.pair s t) line =
    after_operand (check_type s (suc line)) λ u. after_operand (check_type t (behind_type s (suc line))) λ v.
    sized line (DataType.pair s t)
check_type (vector w) line = sized line (vector w)

-- [10.19] the input types from a line on, and what comes behind them
unfoldable pub check_types : List DataType → ℕ → Verdict → Verdict
check_types [] line next = next
check_types (t ∷ I) line next = after_operand (check_type t line) λ u. check_types I (behind_type t line) next

-- [3.6] the line on which a plan's term begins: `plan,K` is line 1, and the input types begin on line 2
abbrev pub term_line : List DataType → ℕ
term_line I = 2 + length (all_type_rows I)

unfoldable pub check_plan : Plan → Verdict
check_plan P = check_types P.inputs 2 (check P.inputs [] P.term (term_line P.inputs))
