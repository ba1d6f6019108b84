-- How a number is written in bytes: [1.4], range [13.1]. Definitions only; assumes nothing.
use Rattle.std.specs.Prelude.{Bool, true, false, not, cond, ◌&&◌, List, [], ◌∷◌, ◌++◌, ℕ, zero, suc, ◌+◌, ◌-◌, ◌*◌, ◌/◌, ◌%◌, leb, eqb, ℤ, pos, negsuc, Some, None, Option}

-- [1.4] A digit is one of the bytes 48 to 57.
abbrev pub digit : ℕ → Bool
digit b = leb 48 b && leb b 57

unfoldable pub all_digits : List ℕ → Bool
all_digits [] = true
all_digits (b ∷ bs) = digit b && all_digits bs

-- [1.4] The number that digits stand for, where those before them stand for n.
unfoldable pub value : ℕ → List ℕ → ℕ
value n [] = n
value n (b ∷ bs) = value (10 * n + (b - 48)) bs

-- [1.4] No 0 stands in front of other digits.
unfoldable pub leading_zero : List ℕ → Bool
leading_zero [] = false
leading_zero (b ∷ []) = false
leading_zero (b ∷ c ∷ bs) = eqb b 48

-- [1.4] A number without its sign: digits, at least one, and nothing else, so no plus sign either.
unfoldable pub unsigned : List ℕ → Option ℕ
unsigned [] = None
unsigned (b ∷ bs) = cond (not (leading_zero (b ∷ bs)) && all_digits (b ∷ bs)) (Some (value 0 (b ∷ bs))) None

-- [13.1] With no minus sign before it, it is at most 2,147,483,647.
unfoldable pub not_below_zero : Option ℕ → Option ℤ
not_below_zero None = None
not_below_zero (Some n) = cond (leb n 2147483647) (Some (pos n)) None

-- [1.4], [13.1] With a minus sign before it, it is not 0 and at most 2,147,483,648. (`negsuc n` is −(n + 1).)
unfoldable pub below_zero : Option ℕ → Option ℤ
below_zero None = None
below_zero (Some zero) = None
below_zero (Some (suc n)) = cond (leb (suc n) 2147483648) (Some (negsuc n)) None

-- [1.4] The number that bytes say. The minus sign is byte 45.
unfoldable pub numeral_of : List ℕ → Option ℤ
numeral_of [] = None
numeral_of (b ∷ bs) = cond (eqb b 45) (below_zero (unsigned bs)) (not_below_zero (unsigned (b ∷ bs)))

-- The digits of n: those of n / 10, then n % 10; none for 0. Of them the last ones, at most `most`.
unfoldable pub last_digits : ℕ → ℕ → List ℕ
last_digits zero n = []
last_digits (suc most) zero = []
last_digits (suc most) (suc n) = last_digits most (suc n / 10) ++ ((48 + suc n % 10) ∷ [])

-- All of them: n has at most n digits.
unfoldable pub digits : ℕ → List ℕ
digits n = last_digits n n

-- [1.4], [1.9] The one way in which a number is written.
unfoldable pub decimal : ℤ → List ℕ
decimal (pos zero) = 48 ∷ []
decimal (pos (suc n)) = digits (suc n)
decimal (negsuc n) = 45 ∷ digits (suc n)
