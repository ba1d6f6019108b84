-- A plan's value, from the plan and its inputs alone: [8.1] to [8.5]. No loop is spoken of. Definitions only; assumes nothing.
use Rattle.std.specs.Prelude.{List, [], ◌∷◌, ◌++◌, map, ℕ, zero, suc, ◌/◌, length, get_or, take, drop, ℤ}
use Rattle.meaning.specs.Terms.{Term}
use Rattle.meaning.specs.Numbers.{NumberDomain}
use Rattle.meaning.specs.Sequence.{in_turn}

-- [8.1] A number, a list or a pair. `Data` is a list of them: antt has no nested data.
mutual
  pub data Datum (N : Type 0) : Type 0 where
    number : N → Datum N
    array : Data N → Datum N
    pair : Datum N → Datum N → Datum N

  pub data Data (N : Type 0) : Type 0 where
    nil : Data N
    cons : Datum N → Data N → Data N

module _ {N : Type 0} where
  abbrev pub to_list : Data N → List (Datum N)
  to_list Data.nil = []
  to_list (Data.cons v vs) = v ∷ to_list vs

  abbrev pub of_list : List (Datum N) → Data N
  of_list [] = Data.nil
  of_list (v ∷ vs) = Data.cons v (of_list vs)

  abbrev pub array_of : List (Datum N) → Datum N
  array_of l = Datum.array (of_list l)

  abbrev pub elements : Datum N → List (Datum N)
  elements (Datum.number x) = []
  elements (Datum.array vs) = to_list vs
  elements (Datum.pair a b) = []

  abbrev pub first_of : Datum N → Datum N
  first_of (Datum.number x) = Datum.number x
  first_of (Datum.array vs) = Datum.array vs
  first_of (Datum.pair a b) = a

  abbrev pub second_of : Datum N → Datum N
  second_of (Datum.number x) = Datum.number x
  second_of (Datum.array vs) = Datum.array vs
  second_of (Datum.pair a b) = b

  -- [8.5] two lists, paired element by element
  abbrev pub zipped : List (Datum N) → List (Datum N) → List (Datum N)
  zipped [] m = []
  zipped (a ∷ l) [] = []
  zipped (a ∷ l) (b ∷ m) = Datum.pair a b ∷ zipped l m

  -- [8.5] a list cut into k groups of n
  abbrev pub groups : ℕ → ℕ → List (Datum N) → List (Datum N)
  groups zero n l = []
  groups (suc k) n l = array_of (take n l) ∷ groups k n (drop n l)

  -- [8.5] groups put back together
  abbrev pub joined : List (Datum N) → List (Datum N)
  joined [] = []
  joined (v ∷ l) = elements v ++ joined l

  -- [3.4] A value in cells: elements one behind the other, a first part before its second.
  abbrev mutual
    pub flatten : Datum N → List N
    flatten (Datum.number x) = x ∷ []
    flatten (Datum.array vs) = flatten_all vs
    flatten (Datum.pair a b) = flatten a ++ flatten b

    pub flatten_all : Data N → List N
    flatten_all Data.nil = []
    flatten_all (Data.cons v vs) = flatten v ++ flatten_all vs

module _ (𝓝 : NumberDomain) where
  abbrev pub DatumOf : Type 0
  DatumOf = Datum 𝓝.Number

  -- what stands where nothing is: an input, a variable or an element that is not there
  abbrev pub no_number : 𝓝.Number
  no_number = 𝓝.literal (ℤ.pos 0)

  abbrev pub no_datum : DatumOf
  no_datum = Datum.number no_number

  abbrev pub number_of : DatumOf → 𝓝.Number
  number_of (Datum.number x) = x
  number_of (Datum.array vs) = no_number
  number_of (Datum.pair a b) = no_number

  -- The value of a term, of the inputs' values X and the variables' values env, innermost first.
  unfoldable pub value : List DatumOf → Term → List DatumOf → DatumOf
  -- [8.2] What is named; and arithmetic.
  value X (Term.input k) env = get_or X k no_datum
  value X (Term.variable d) env = get_or env d no_datum
  value X (Term.literal v) env = Datum.number (𝓝.literal v)
  value X (Term.negate e) env = Datum.number (𝓝.negate (number_of (value X e env)))
  value X (Term.operation o e f) env =
      Datum.number (𝓝.operate o (number_of (value X e env)) (number_of (value X f env)))
  -- [8.3] The body's value for each element.
  value X (Term.map kind a b) env = array_of (map (λ x. value X b (x ∷ env)) (elements (value X a env)))
  -- [8.4] The start is the first total; with each element, first to last, the body's value is the next.
  value X (Term.reduce z a b) env =
      in_turn (elements (value X a env)) (λ x total. value X b (total ∷ x ∷ env)) (value X z env)
  -- [8.5] Lists and pairs, put together and taken apart.
  value X (Term.zip a b) env = array_of (zipped (elements (value X a env)) (elements (value X b env)))
  value X (Term.pair a b) env = Datum.pair (value X a env) (value X b env)
  value X (Term.split series n e) env =
      array_of (groups (length (elements (value X e env)) / n) n (elements (value X e env)))
  value X (Term.join series e) env = array_of (joined (elements (value X e env)))
  value X (Term.first e) env = first_of (value X e env)
  value X (Term.second e) env = second_of (value X e env)
  value X (Term.index series k e) env = get_or (elements (value X e env)) k no_datum
