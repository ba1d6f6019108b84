-- A node of the table of types as one word: its kind (0 a number, 1 an array, 2 a pair, 3 a vector), the levels and cells of its
-- type, and two fields: an array's length and its element's place, the places of a pair's two types, or a vector's width. Definitions
-- only; assumes nothing.
use Rattle.std.specs.Prelude.{ℕ, zero, suc, ◌+◌, ◌*◌, ◌/◌, ◌%◌}
use Rattle.type_table.specs.declared.Shape.{Shape}
use Rattle.type_table.specs.declared.Shape.TheVariants.{Number, Array, Pair, Vector}

abbrev pub node_of : ℕ → ℕ → ℕ → ℕ → ℕ → ℕ
node_of kind l c left right =
    kind * 72057594037927936 + l * 281474976710656 + c * 4294967296 + left * 65536 + right

abbrev pub kind_in : ℕ → ℕ
kind_in w = w / 72057594037927936

abbrev pub levels_in : ℕ → ℕ
levels_in w = w / 281474976710656 % 256

abbrev pub cells_in : ℕ → ℕ
cells_in w = w / 4294967296 % 65536

abbrev pub left_in : ℕ → ℕ
left_in w = w / 65536 % 65536

abbrev pub right_in : ℕ → ℕ
right_in w = w % 65536

-- the kind and the two fields of a shape
abbrev pub kind_of : Shape → ℕ
kind_of Number = 0
kind_of (Array a) = 1
kind_of (Pair p) = 2
kind_of (Vector w) = 3

abbrev pub left_of : Shape → ℕ
left_of Number = 0
left_of (Array a) = a.length
left_of (Pair p) = p.first
left_of (Vector w) = w

abbrev pub right_of : Shape → ℕ
right_of Number = 0
right_of (Array a) = a.element
right_of (Pair p) = p.second
right_of (Vector w) = 0

-- the shape of a kind and two fields
abbrev pub shape_of : ℕ → ℕ → ℕ → Shape
shape_of zero m n = Number
shape_of (suc zero) m n = Array (record { length = m; element = n })
shape_of (suc (suc zero)) m n = Pair (record { first = m; second = n })
shape_of (suc (suc (suc k))) m n = Vector m

abbrev pub shape_in : ℕ → Shape
shape_in w = shape_of (kind_in w) (left_in w) (right_in w)
