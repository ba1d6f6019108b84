-- Which term has which type: [5.2] to [5.10], Figure 3 of the paper. Definitions only; assumes nothing. `I` are the types of the
-- inputs, `Γ` those of the variables in force, innermost first.
use Rattle.std.specs.Prelude.{◌≡◌, List, ◌∷◌, ℕ, ◌*◌, ◌/◌, ◌<◌, length, get_or, ℤ}
use Rattle.arithmetic.specs.Arithmetic.{Operation}
use Rattle.meaning.specs.Types.{DataType, Series, array_length, element, first_type, second_type, series_of, number}
use Rattle.meaning.specs.Types.{array, vector}
use Rattle.meaning.specs.Terms.{LoopKind, Term, series_in}

-- The rules, in Figure 3's order. Other than there, inputs and variables are numbered [3.7], the number of `split,n` is the length
-- of a group [5.8], `idx,k` has a constant and `min` and `max` are there [14.2], and the body of `reduce` has two variables [14.8].
pub data HasType (I : List DataType) : List DataType → Term → DataType → Type 0 where
  -- [5.2]
  input : {Γ : List DataType} {t : DataType} (k : ℕ)
      → k < length I → get_or I k number ≡ t
      → HasType I Γ (Term.input k) t
  variable : {Γ : List DataType} {t : DataType} (d : ℕ)
      → d < length Γ → get_or Γ d number ≡ t
      → HasType I Γ (Term.variable d) t
  literal : {Γ : List DataType} (v : ℤ)
      → HasType I Γ (Term.literal v) number
  -- [5.3]
  negate : {Γ : List DataType} {e : Term}
      → HasType I Γ e number
      → HasType I Γ (Term.negate e) number
  operation : {Γ : List DataType} {e f : Term} (o : Operation)
      → HasType I Γ e number → HasType I Γ f number
      → HasType I Γ (Term.operation o e f) number
  -- [5.4]
  map : {Γ : List DataType} {a b : Term} {n : ℕ} {s t : DataType} (kind : LoopKind)
      → series_in kind ≡ Series.arrays → HasType I Γ a (array n s) → HasType I (s ∷ Γ) b t
      → HasType I Γ (Term.map kind a b) (array n t)
  -- [5.5]
  reduce : {Γ : List DataType} {z a b : Term} {n : ℕ} {s t : DataType}
      → HasType I Γ z t → HasType I Γ a (array n s) → HasType I (t ∷ s ∷ Γ) b t
      → HasType I Γ (Term.reduce z a b) t
  -- [5.6]
  zip : {Γ : List DataType} {a b : Term} {n : ℕ} {s t : DataType}
      → HasType I Γ a (array n s) → HasType I Γ b (array n t)
      → HasType I Γ (Term.zip a b) (array n (DataType.pair s t))
  -- [5.8]
  split : {Γ : List DataType} {e : Term} {l : ℕ} {t : DataType} (m n : ℕ)
      → 0 < n → l ≡ m * n → HasType I Γ e (array l t)
      → HasType I Γ (Term.split Series.arrays n e) (array m (array n t))
  -- [5.9]
  join : {Γ : List DataType} {e : Term} {l m n : ℕ} {t : DataType}
      → l ≡ m * n → HasType I Γ e (array m (array n t))
      → HasType I Γ (Term.join Series.arrays e) (array l t)
  -- [5.7]
  pair : {Γ : List DataType} {a b : Term} {s t : DataType}
      → HasType I Γ a s → HasType I Γ b t
      → HasType I Γ (Term.pair a b) (DataType.pair s t)
  first : {Γ : List DataType} {e : Term} {s t : DataType}
      → HasType I Γ e (DataType.pair s t)
      → HasType I Γ (Term.first e) s
  second : {Γ : List DataType} {e : Term} {s t : DataType}
      → HasType I Γ e (DataType.pair s t)
      → HasType I Γ (Term.second e) t
  -- [5.10]
  index : {Γ : List DataType} {e : Term} {n : ℕ} {t : DataType} (k : ℕ)
      → k < n → HasType I Γ e (array n t)
      → HasType I Γ (Term.index Series.arrays k e) t
  -- Vectors, by Figure 7 of the paper. [18.6]
  map_vector : {Γ : List DataType} {a b : Term} {w : ℕ}
      → HasType I Γ a (vector w) → HasType I (number ∷ Γ) b number
      → HasType I Γ (Term.map LoopKind.lanes a b) (vector w)
  -- [18.4]
  as_vector : {Γ : List DataType} {e : Term} {l : ℕ} (m w : ℕ)
      → 0 < w → l ≡ m * w → HasType I Γ e (array l number)
      → HasType I Γ (Term.split Series.vectors w e) (array m (vector w))
  -- [18.5]
  as_scalar : {Γ : List DataType} {e : Term} {l m w : ℕ}
      → l ≡ m * w → HasType I Γ e (array m (vector w))
      → HasType I Γ (Term.join Series.vectors e) (array l number)
  -- [18.7]
  lane : {Γ : List DataType} {e : Term} {w : ℕ} (k : ℕ)
      → k < w → HasType I Γ e (vector w)
      → HasType I Γ (Term.index Series.vectors k e) number

-- The type of a term that has one, by computing: [5.2] to [5.10]. Of a term that has none it says nothing of use.
abbrev pub type_of : List DataType → List DataType → Term → DataType
type_of I Γ (Term.input k) = get_or I k number
type_of I Γ (Term.variable d) = get_or Γ d number
type_of I Γ (Term.literal v) = number
type_of I Γ (Term.negate e) = number
type_of I Γ (Term.operation o e f) = number
type_of I Γ (Term.map kind a b) =
    series_of (series_in kind) (array_length (type_of I Γ a)) (type_of I (element (type_of I Γ a) ∷ Γ) b)
type_of I Γ (Term.reduce z a b) = type_of I Γ z
type_of I Γ (Term.zip a b) =
    array (array_length (type_of I Γ a)) (DataType.pair (element (type_of I Γ a)) (element (type_of I Γ b)))
type_of I Γ (Term.pair a b) = DataType.pair (type_of I Γ a) (type_of I Γ b)
type_of I Γ (Term.split series n e) = array (array_length (type_of I Γ e) / n) (series_of series n (element (type_of I Γ e)))
type_of I Γ (Term.join series e) =
    array (array_length (type_of I Γ e) * array_length (element (type_of I Γ e))) (element (element (type_of I Γ e)))
type_of I Γ (Term.first e) = first_type (type_of I Γ e)
type_of I Γ (Term.second e) = second_type (type_of I Γ e)
type_of I Γ (Term.index series k e) = element (type_of I Γ e)
