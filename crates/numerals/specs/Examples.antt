-- Texts that are well-written numbers and texts that are not: [1.4], card P10 of [15.2] among them. One computed test for reading and
-- one for writing; assumes nothing.
use Rattle.std.specs.Prelude.{List, [], ◌∷◌, map, ◌≡◌, refl, ℕ, ℤ, pos, negsuc, Option, Some, None}
use Prim.Native.Char.{code}
use Prim.Native.String.{String, [] as none, ◌∷◌ as ◌before◌}
use Rattle.numerals.specs.Numerals.{all_digits, value, leading_zero, unsigned, not_below_zero, below_zero, numeral_of, last_digits, digits, decimal}

-- the bytes of a text
abbrev pub bytes : String → List ℕ
bytes none = []
bytes (c before s) = code c ∷ bytes s

-- a text, and what it says (`negsuc n` is −(n + 1))
abbrev pub readings : List (String × Option ℤ)
readings =
    ("0", Some (pos 0))
    ∷ ("-0", None)
    ∷ ("00", None)
    ∷ ("01", None)
    ∷ ("-01", None)
    ∷ ("-00", None)
    ∷ ("+1", None)
    ∷ ("", None)
    ∷ ("-", None)
    ∷ ("--1", None)
    ∷ ("1.0", None)
    ∷ ("0x1", None)
    ∷ ("-1", Some (negsuc 0))
    ∷ ("10", Some (pos 10))
    ∷ ("2147483647", Some (pos 2147483647))
    ∷ ("2147483648", None)
    ∷ ("-2147483648", Some (negsuc 2147483647))
    ∷ ("-2147483649", None)
    ∷ ("99999999999999999999999999999999", None)
    ∷ []

pub texts_read : map (λ (e : String × Option ℤ). numeral_of (bytes e.0)) readings ≡ map (λ (e : String × Option ℤ). e.1) readings
unfolding all_digits value leading_zero unsigned not_below_zero below_zero numeral_of
texts_read = refl

-- a number, and how it is written
abbrev pub writings : List (ℤ × String)
writings =
    (pos 0, "0")
    ∷ (pos 9, "9")
    ∷ (pos 10, "10")
    ∷ (pos 4096, "4096")
    ∷ (negsuc 0, "-1")
    ∷ (pos 2147483647, "2147483647")
    ∷ (negsuc 2147483647, "-2147483648")
    ∷ []

pub numbers_written : map (λ (e : ℤ × String). decimal e.0) writings ≡ map (λ (e : ℤ × String). bytes e.1) writings
unfolding last_digits digits decimal
numbers_written = refl
