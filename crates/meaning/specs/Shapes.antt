-- The shape that a type gives its values [8.1]. It is there for the law that every value has its type's shape. Definitions only;
-- assumes nothing.
use Rattle.std.specs.Prelude.{◌≡◌, List, [], ◌∷◌, length}
use Rattle.meaning.specs.Types.{DataType, number, array, vector}
use Rattle.meaning.specs.Values.{Datum, to_list}

-- each of the list is such
abbrev pub Every : {A : Type 0} → (A → Type 0) → List A → Type 0
Every Such [] = Unit {0}
Every Such (x ∷ l) = Such x × Every Such l

-- a number, and neither a list nor a pair
abbrev pub OneNumber : {N : Type 0} → Datum N → Type 0
OneNumber (Datum.number x) = Unit {0}
OneNumber (Datum.array vs) = ⊥
OneNumber (Datum.pair a b) = ⊥

-- A number for `num`; for an array of n elements a list of just n, each of the element's shape; for a pair two values
-- of its two shapes; [18.8] for a vector a list of as many numbers as it has lanes; and nothing else.
abbrev pub Shaped : {N : Type 0} → DataType → Datum N → Type 0
Shaped number v = OneNumber v
Shaped (array n t) (Datum.number x) = ⊥
Shaped (array n t) (Datum.array vs) = (length (to_list vs) ≡ n) × Every (λ v. Shaped t v) (to_list vs)
Shaped (array n t) (Datum.pair a b) = ⊥
Shaped (DataType.pair s t) (Datum.number x) = ⊥
Shaped (DataType.pair s t) (Datum.array vs) = ⊥
Shaped (DataType.pair s t) (Datum.pair a b) = Shaped s a × Shaped t b
Shaped (vector w) (Datum.number x) = ⊥
Shaped (vector w) (Datum.array vs) = (length (to_list vs) ≡ w) × Every (λ v. OneNumber v) (to_list vs)
Shaped (vector w) (Datum.pair a b) = ⊥
