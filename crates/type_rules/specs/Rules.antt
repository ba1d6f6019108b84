-- Questions 7 and 8, [10.7] and [10.8], on a row whose operands have types, by the row's kind and number; and what it is that the code
-- found what the check says. Definitions only; assumes nothing.
use Rattle.std.specs.Prelude.{◌≡◌, Bool, true, false, cond, ◌&&◌, List, ◌∷◌, ℕ, ◌+◌, ◌*◌, ◌/◌, ◌≤◌, ◌<◌, eqb, length, Option, Some, None, Result, Ok, Err}
use Rattle.words.specs.Kinds.{word_neg, word_zip, word_pair, word_split, word_join, word_fst, word_snd, word_asvec, word_asscal, word_mapvec, word_kind_at}
use Rattle.words.specs.Groups.{is_map}
use Rattle.meaning.specs.Types.{DataType, Series, number, array, array_length, element, first_type, second_type, is_number, series_of}
use Rattle.meaning.specs.Limits.{IsCount, IsWidth}
use Rattle.type_table.specs.Table.{type_at, Sound}
use Rattle.typing.specs.Check.{Verdict, typed, refused, is_pair, is_series, may_be_in, same_type, zip_fits, split_fits, join_fits, index_fits, sized, fitted}
use Rattle.refusals.specs.declared.Refusal.{Refusal}
use Rattle.refusals.specs.declared.Refusal.TheVariants.{TypeMisfit}
use Rattle.type_table.specs.declared.ArrayShape.{ArrayShape}
use Rattle.type_rules.specs.declared.Typed.{Typed}
use Rattle.type_rules.specs.declared.series.Series.{Series as CodeSeries}
use Rattle.type_rules.specs.declared.series.Series.TheVariants.{Arrays, Vectors}

-- ---- the rules, [5.3] to [5.10], and those of vectors

-- [5.8] `split,n`: an array whose length n divides; [18.4] `asvec,n`: such an array of numbers.
abbrev pub split_rule : Series → ℕ → ℕ → DataType → Verdict
split_rule series n line t = fitted line (split_fits series n t) (array (array_length t / n) (series_of series n (element t)))

-- [5.9] `join`: an array of arrays; [18.5] `asscal`: an array of vectors.
abbrev pub join_rule : Series → ℕ → DataType → Verdict
join_rule series line t = fitted line (join_fits series t) (array (array_length t * array_length (element t)) (element (element t)))

-- [5.7] `fst` and `snd`: a pair.
abbrev pub first_rule : ℕ → DataType → Verdict
first_rule line t = fitted line (is_pair t) (first_type t)

abbrev pub second_rule : ℕ → DataType → Verdict
second_rule line t = fitted line (is_pair t) (second_type t)

-- [5.7] either, by the row's kind
abbrev pub part_rule : ℕ → ℕ → DataType → Verdict
part_rule k line t = cond (eqb k word_fst) (first_rule line t) (second_rule line t)

-- [5.10] `idx,k`: an array of more than k elements; [18.7] `at,k`: a vector of more than k lanes.
abbrev pub index_rule : Series → ℕ → ℕ → DataType → Verdict
index_rule series k line t = fitted line (index_fits series k t) (element t)

-- [5.3] `neg`: a number.
abbrev pub negate_rule : ℕ → DataType → Verdict
negate_rule line t = fitted line (is_number t) number

-- a row of one operand
unfoldable pub unary_rule : ℕ → ℕ → ℕ → DataType → Verdict
unary_rule k n line t =
    cond (eqb k word_neg) (negate_rule line t)
    (cond (eqb k word_split) (split_rule Series.arrays n line t)
    (cond (eqb k word_join) (join_rule Series.arrays line t)
    (cond (eqb k word_fst) (first_rule line t)
    (cond (eqb k word_snd) (second_rule line t)
    (cond (eqb k word_asvec) (split_rule Series.vectors n line t)
    (cond (eqb k word_asscal) (join_rule Series.vectors line t)
    (cond (eqb k word_kind_at) (index_rule Series.vectors n line t)
    (index_rule Series.arrays n line t))))))))

-- [5.6] `zip`: two arrays of one length.
abbrev pub zip_rule : ℕ → DataType → DataType → Verdict
zip_rule line s t = fitted line (zip_fits s t) (array (array_length s) (DataType.pair (element s) (element t)))

-- [18.3] what a map of kind k goes over: `mapvec` over a vector, the others over an array
abbrev pub map_series : ℕ → Series
map_series k = cond (eqb k word_mapvec) Series.vectors Series.arrays

-- [5.4] A map over an array of type s with a body of type t; [18.6] over a vector, with a body that is a number.
abbrev pub map_rule : Series → ℕ → DataType → DataType → Verdict
map_rule series line s t = fitted line (is_series series s && may_be_in series t) (series_of series (array_length s) t)

-- [5.3] An operation: two numbers.
abbrev pub operation_rule : ℕ → DataType → DataType → Verdict
operation_rule line s t = fitted line (is_number s && is_number t) number

-- [5.4] The names in force in a row's second operand, the first having the type t; [5.11] a map's body stands over an array,
-- [18.6] that of a `mapvec` over a vector.
abbrev pub opens_second : ℕ → DataType → Bool
opens_second k t = cond (is_map k) (is_series (map_series k) t) true

abbrev pub second_scope : ℕ → DataType → List DataType → List DataType
second_scope k t Γ = cond (is_map k) (element t ∷ Γ) Γ

-- a row of two operands
unfoldable pub binary_rule : ℕ → ℕ → DataType → DataType → Verdict
binary_rule k line s t =
    cond (is_map k) (map_rule (map_series k) line s t)
    (cond (eqb k word_zip) (zip_rule line s t)
    (cond (eqb k word_pair) (sized line (DataType.pair s t))
    (operation_rule line s t)))

-- [5.5] A reduction with a start of type s and a body of type u
abbrev pub reduce_rule : ℕ → DataType → DataType → Verdict
reduce_rule line s u = fitted line (same_type u s) s

-- ---- what was found

-- n types stand in T', and the m of T are among them as they were
pub record Grown (T : List ℕ) (m : ℕ) (T' : List ℕ) (n : ℕ) : Type 0 where
  pub more : m ≤ n
  pub sound : Sound T' n
  pub kept : (i : ℕ) → i < m → type_at T' i ≡ type_at T i
  pub size : length T' ≡ length T

-- the answer that finds the type at place p, of a term of so many rows, n types standing in the table
abbrev pub type_found : ℕ → ℕ → ℕ → Result Typed Refusal
type_found p rows n = Ok (record { place = p; rows = rows; len = n })

-- The code's answer is the verdict v: the type of a term of so many rows, at most n types standing in the table; or the refusal.
abbrev pub Found : List ℕ → ℕ → List ℕ → ℕ → ℕ → Verdict → Result Typed Refusal → Type 0
Found T m T' n rows v (Ok t) = (v ≡ typed (type_at T' t.place)) × (t.rows ≡ rows) × (t.place < t.len) × (t.len ≤ n) × Grown T m T' t.len
Found T m T' n rows v (Err q) = v ≡ refused q

-- which series the code means
abbrev pub meant : CodeSeries → Series
meant Arrays = Series.arrays
meant Vectors = Series.vectors

-- how long an array or a vector may be
abbrev pub LengthWithin : Series → ℕ → Type 0
LengthWithin Series.arrays n = IsCount n
LengthWithin Series.vectors n = IsWidth n

-- What is told of the type at place i when it is asked whether it is such a series: its length, and the place of its element's type, which is
-- that of numbers for a vector.
abbrev pub SeriesTold : Series → List ℕ → ℕ → Option ArrayShape → Type 0
SeriesTold series T i (Some a) =
    (type_at T i ≡ series_of series a.length (type_at T a.element)) × (a.element < i) × LengthWithin series a.length
    × (type_at T 0 ≡ number → element (type_at T i) ≡ type_at T a.element)
SeriesTold series T i None = is_series series (type_at T i) ≡ false

-- [10.7] The same, an operand having to be such a series.
abbrev pub SeriesAsked : Series → ℕ → List ℕ → ℕ → Result ArrayShape Refusal → Type 0
SeriesAsked series line T i (Ok a) = SeriesTold series T i (Some a)
SeriesAsked series line T i (Err q) = (is_series series (type_at T i) ≡ false) × (q ≡ TypeMisfit line)

-- m types stand in T, with room for n more
pub record Room (T : List ℕ) (m n : ℕ) : Type 0 where
  pub sound : Sound T m
  pub places : m + n ≤ length T
  pub few : m + n ≤ 65536
