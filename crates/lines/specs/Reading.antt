-- From a text to rows: [1.1] to [1.5], [11.3], [11.4], and questions 1 to 3, [10.1] to [10.3]. The table of words is an argument.
-- Definitions only; assumes nothing.
use Rattle.std.specs.Prelude.{Bool, true, false, cond, ◌&&◌, ◌≡◌, List, [], ◌∷◌, ◌++◌, map, ℕ, suc, ◌-◌, eqb, leb, ℤ, pos, negsuc, length, get_or, drop, ◌<◌, Ok, Err, Option, Some, None}
use Rattle.refusals.specs.Answers.{Answer}
use Rattle.std.proofs.lemmas.List.Edits.{sets}
use Rattle.refusals.specs.declared.Refusal.TheVariants.{TextForm, LineForm, LineCount}
use Rattle.words.specs.Kinds.{Row}
use Rattle.words.specs.Words.{look_up}
use Rattle.texts.specs.Texts.{lines_of, before_comma, after_comma}
use Rattle.numerals.specs.Numerals.{numeral_of}
use Rattle.lines.specs.declared.Heads.{Heads}
use Rattle.lines.specs.declared.Heads.TheVariants.{Words, Cells}
use Rattle.lines.specs.declared.Limits.{Limits}

-- ---- a line's row

-- [11.3] In a values file a number that is not below 0 stands for the word, and is a cell; [11.4] no other number is one.
abbrev pub cell_named : Option ℤ → Option ℕ
cell_named (Some (pos n)) = Some n
cell_named (Some (negsuc n)) = None
cell_named None = None

abbrev pub cell_head : List ℕ → Option ℕ
cell_head l = cell_named (numeral_of l)

-- [1.3] What stands before the comma: a listed word, or in the values file a cell, whatever the words are ([16.3]).
abbrev pub head_of : List (List ℕ) → Heads → List ℕ → Option ℕ
head_of ws Words = look_up ws
head_of ws Cells = cell_head

abbrev pub paired : Option ℕ → Option ℤ → Option Row
paired (Some k) (Some z) = Some (k, z)
paired (Some k) None = None
paired None n = None

-- [1.2] A line is a word, one comma and a number; a second comma makes what is behind the first no number.
unfoldable pub line_of : (List ℕ → Option ℕ) → List ℕ → Option Row
line_of head l = paired (head (before_comma l)) (numeral_of (after_comma l))

-- [1.5] The rows of lines.
abbrev pub add_row : Option Row → List Row → List Row
add_row (Some r) rs = r ∷ rs
add_row None rs = rs

unfoldable pub rows_in : (List ℕ → Option ℕ) → List (List ℕ) → List Row
rows_in head [] = []
rows_in head (l ∷ ls) = add_row (line_of head l) (rows_in head ls)

-- the kind, or cell, of a line's row is below n
abbrev pub Below : ℕ → Option Row → Type 0
Below n (Some r) = r.0 < n
Below n None = Unit {0}

-- ---- questions 1 to 3

-- [10.1] The bytes are at least one and at most as many as they may be, and the last is byte 10.
abbrev pub closed : ℕ → List ℕ → Bool
closed limit t = leb 1 (length t) && leb (length t) limit && eqb (get_or t (length t - 1) 0) 10

-- [10.2] Every line is well written; else the first that is not is told, counted from 1 ([1.5]). n lines were asked already.
abbrev pub whether : Option Row → Answer → Answer → Answer
whether (Some r) yes' no' = yes'
whether None yes' no' = no'

unfoldable pub formed : (List ℕ → Option ℕ) → ℕ → List (List ℕ) → Answer
formed head n [] = Ok n
formed head n (l ∷ ls) = whether (line_of head l) (formed head (suc n) ls) (Err (LineForm (suc n)))

-- [10.3] The lines are at most as many as they may be.
abbrev pub limited : ℕ → Answer → Answer
limited limit (Ok n) = cond (leb n limit) (Ok n) (Err LineCount)
limited limit (Err r) = Err r

-- [10.2] All lines are asked for their form before they are counted. The first "no" of the three; else how many rows there are.
unfoldable pub reading : (List ℕ → Option ℕ) → Limits → List ℕ → Answer
reading head limits t =
    cond (closed limits.bytes t) (limited limits.lines (formed head 0 (lines_of t))) (Err TextForm)

-- [13.2], [13.4] Those of a plan.
abbrev pub plan_limits : Limits
plan_limits = record { bytes = 4096; lines = 256 }

-- [13.3], [13.5] Those of loops.
abbrev pub loops_limits : Limits
loops_limits = record { bytes = 65536; lines = 4096 }

-- [13.3] Question 3 is not put to a values file ([10.3]): 65,536 bytes have no more lines than that.
abbrev pub values_limits : Limits
values_limits = record { bytes = 65536; lines = 65536 }

-- ---- what the two slices of a table hold that a text was read into

abbrev pub room_for : Answer → ℕ → ℕ → Bool
room_for (Ok n) kinds numbers = leb n kinds && leb n numbers
room_for (Err r) kinds numbers = false

abbrev pub kinds_of : List Row → List ℕ
kinds_of rs = map (λ (r : Row). r.0) rs

abbrev pub numbers_of : List Row → List ℤ
numbers_of rs = map (λ (r : Row). r.1) rs

-- [10.22] what is put stands in front, and behind it what was held; or all is as it was
abbrev pub filled : {A : Type 0} → Bool → List A → List A → List A
filled room put held = cond room (put ++ drop (length put) held) held

-- Not refused: these were stored from the first place on, those that had room.
abbrev pub Put : {A : Type 0} → Answer → List A → List A → List A → Type 0
Put r held put held' = (n : ℕ) → r ≡ Ok n → held' ≡ sets held 0 put

-- What a reader promises of its answer r and of the two slices, as lent and as left: the rows stand in front if both have room for them. Where they
-- have not, or the text is refused, nothing is said of the slices.
pub record ReadInto (head : List ℕ → Option ℕ) (limits : Limits) (t : List ℕ) (kinds : List ℕ) (numbers : List ℤ)
    (r : Answer) (kinds' : List ℕ) (numbers' : List ℤ) : Type 0 where
  pub answer : r ≡ reading head limits t
  pub kinds_left : room_for r (length kinds) (length numbers) ≡ true → kinds' ≡ filled true (kinds_of (rows_in head (lines_of t))) kinds
  pub numbers_left : room_for r (length kinds) (length numbers) ≡ true → numbers' ≡ filled true (numbers_of (rows_in head (lines_of t))) numbers
