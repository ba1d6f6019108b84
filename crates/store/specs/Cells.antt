-- Cells in bytes: [9.11]. Definitions only; assumes nothing.
use Rattle.std.specs.Prelude.{cond, List, [], ◌∷◌, ℕ, ◌+◌, ◌-◌, ◌*◌, ◌<◌, ltb, ℤ, pos, negsuc}

-- [9.11] Two's complement: the number that 32 bits stand for, and its bits; `negsuc n` is −(n + 1)
unfoldable pub signed_of : ℕ → ℤ
signed_of n = cond (ltb n 2147483648) (pos n) (negsuc (4294967295 - n))

unfoldable pub bits_of : ℤ → ℕ
bits_of (pos n) = n
bits_of (negsuc n) = 4294967295 - n

-- [9.11] The number of four bytes, the lowest in front
abbrev pub cell_of : ℕ → ℕ → ℕ → ℕ → ℤ
cell_of a b c d = signed_of (a + 256 * b + 65536 * c + 16777216 * d)

-- what the type of a byte says
abbrev pub AllBytes : List ℕ → Type 0
AllBytes [] = Unit {0}
AllBytes (b ∷ l) = (b < 256) × AllBytes l

-- [9.11] A cell is every four bytes.
unfoldable pub cells_of : List ℕ → List ℤ
cells_of [] = []
cells_of (a ∷ []) = []
cells_of (a ∷ b ∷ []) = []
cells_of (a ∷ b ∷ c ∷ []) = []
cells_of (a ∷ b ∷ c ∷ d ∷ l) = cell_of a b c d ∷ cells_of l

-- [9.11] One to three bytes at the end are no cell.
unfoldable pub left_over : List ℕ → List ℕ
left_over [] = []
left_over (a ∷ []) = a ∷ []
left_over (a ∷ b ∷ []) = a ∷ b ∷ []
left_over (a ∷ b ∷ c ∷ []) = a ∷ b ∷ c ∷ []
left_over (a ∷ b ∷ c ∷ d ∷ l) = left_over l
