-- A text cut into lines [1.1], and a line into what stands before its first comma and what behind it [1.2]. Definitions only; assumes
-- nothing.
use Rattle.std.specs.Prelude.{cond, List, [], ◌∷◌, ℕ, suc, eqb, take, drop}

-- [1.1] Each line ends with byte 10. Bytes behind the last byte 10 would be one line more.
abbrev pub begin : ℕ → List (List ℕ) → List (List ℕ)
begin b [] = (b ∷ []) ∷ []
begin b (l ∷ ls) = (b ∷ l) ∷ ls

unfoldable pub lines_of : List ℕ → List (List ℕ)
lines_of [] = []
lines_of (b ∷ bs) = cond (eqb b 10) ([] ∷ lines_of bs) (begin b (lines_of bs))

-- where byte b first stands; the length where it does not
unfoldable pub place_of : ℕ → List ℕ → ℕ
place_of b [] = 0
place_of b (c ∷ cs) = cond (eqb c b) 0 (suc (place_of b cs))

-- the bytes before the first byte 10
abbrev pub first_line : List ℕ → List ℕ
first_line t = take (place_of 10 t) t

-- how many bytes the first line takes, its byte 10 among them
abbrev pub after_first : List ℕ → ℕ
after_first t = suc (place_of 10 t)

-- [1.2] What stands before the first comma, byte 44, of a line, and what behind it.
abbrev pub before_comma : List ℕ → List ℕ
before_comma l = take (place_of 44 l) l

abbrev pub after_comma : List ℕ → List ℕ
after_comma l = drop (suc (place_of 44 l)) l
