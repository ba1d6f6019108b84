-- The arithmetic of cells: [4.1] to [4.5]. Definitions only; assumes nothing.
use Rattle.std.specs.Prelude.{cond, ℕ, zero, suc, ◌+◌, ◌*◌, ◌/◌, ◌%◌, ltb, ℤ, pos, negsuc, neg_ℤ, ◌+ℤ◌, ◌-ℤ◌, ◌*ℤ◌}
use Rattle.std.specs.Int.Signed.{lt_z}

-- [4.1] The range of a cell [13.1]: from −2,147,483,648, since `negsuc n` is −(n + 1), to 2,147,483,647.
abbrev pub lowest : ℤ
lowest = negsuc 2147483647

abbrev pub highest : ℤ
highest = pos 2147483647

-- [4.2] The number itself, or the end of the range that it lies beyond.
unfoldable pub clamp : ℤ → ℤ
clamp z = cond (lt_z z lowest) lowest (cond (lt_z highest z) highest z)

-- [4.2] The exact result, clamped; [4.5] so each operation is clamped for itself.
unfoldable pub sum : ℤ → ℤ → ℤ
sum x y = clamp (x +ℤ y)

unfoldable pub difference : ℤ → ℤ → ℤ
difference x y = clamp (x -ℤ y)

unfoldable pub product : ℤ → ℤ → ℤ
product x y = clamp (x *ℤ y)

unfoldable pub negation : ℤ → ℤ
negation x = clamp (neg_ℤ x)

-- [4.3] a by b, rounded to nearest, an exact half to the even neighbour. The fraction is more than a half where twice the remainder is
-- more than b, and less where it is less; at a half an odd quotient goes one up.
unfoldable pub nearest : ℕ → ℕ → ℕ
nearest a b = cond (ltb b (2 * (a % b))) (a / b + 1) (cond (ltb (2 * (a % b)) b) (a / b) (a / b + a / b % 2))

-- [4.3] The same of a number with a sign; the result has that sign.
abbrev pub nearest_z : ℤ → ℕ → ℤ
nearest_z (pos a) b = pos (nearest a b)
nearest_z (negsuc a) b = neg_ℤ (pos (nearest (suc a) b))

-- [4.3] The exact quotient so rounded, and clamped; 0 if the divisor is 0. x by −b is −x by b.
unfoldable pub quotient : ℤ → ℤ → ℤ
quotient x (pos zero) = pos 0
quotient x (pos (suc n)) = clamp (nearest_z x (suc n))
quotient x (negsuc n) = clamp (nearest_z (neg_ℤ x) (suc n))

-- [4.4] One of the two numbers.
unfoldable pub lesser : ℤ → ℤ → ℤ
lesser x y = cond (lt_z x y) x y

unfoldable pub greater : ℤ → ℤ → ℤ
greater x y = cond (lt_z x y) y x

-- [3.8] The six operations over two numbers, by their words `add sub mul div min max`.
pub data Operation : Type 0 where
  addition subtraction multiplication division minimum maximum : Operation

unfoldable pub operate : Operation → ℤ → ℤ → ℤ
operate Operation.addition x y = sum x y
operate Operation.subtraction x y = difference x y
operate Operation.multiplication x y = product x y
operate Operation.division x y = quotient x y
operate Operation.minimum x y = lesser x y
operate Operation.maximum x y = greater x y
