-- A node of the table of references as one word: its kind, the place of a type in the table of types, a number, and the
-- numbers of two nodes. Definitions only; assumes nothing.
use Rattle.std.specs.Prelude.{ℕ, ◌+◌, ◌*◌, ◌/◌, ◌%◌}

abbrev pub node_of : ℕ → ℕ → ℕ → ℕ → ℕ → ℕ
node_of kind place number left right =
    kind * 72057594037927936 + place * 1099511627776 + number * 16777216 + left * 4096 + right

abbrev pub kind_in : ℕ → ℕ
kind_in w = w / 72057594037927936

abbrev pub type_in : ℕ → ℕ
type_in w = w / 1099511627776 % 65536

abbrev pub number_in : ℕ → ℕ
number_in w = w / 16777216 % 65536

abbrev pub left_in : ℕ → ℕ
left_in w = w / 4096 % 4096

abbrev pub right_in : ℕ → ℕ
right_in w = w % 4096
