-- From rows to a text: [1.9], [10.12]. The table of words is an argument. Definitions only; assumes nothing.
use Rattle.std.specs.Prelude.{Bool, cond, ◌≡◌, List, [], ◌∷◌, ◌++◌, ℕ, ◌<◌, leb, length, Ok, Err}
use Rattle.refusals.specs.Answers.{Answer}
use Rattle.std.specs.Int.{w32}
use Rattle.std.proofs.Common.{SFits}
use Rattle.refusals.specs.declared.Refusal.TheVariants.{LentSize}
use Rattle.words.specs.Kinds.{Row}
use Rattle.words.specs.Words.{word_at}
use Rattle.numerals.specs.Numerals.{decimal}
use Rattle.lines.specs.Reading.{filled}

-- [1.1], [1.2] A row's line: its word, a comma (byte 44), its number, and byte 10.
unfoldable pub written : List (List ℕ) → Row → List ℕ
written ws r = word_at ws r.0 ++ (44 ∷ decimal r.1) ++ (10 ∷ [])

unfoldable pub text_of : List (List ℕ) → List Row → List ℕ
text_of ws [] = []
text_of ws (r ∷ rs) = written ws r ++ text_of ws rs

-- [10.12] Has a text of so many bytes room for the text that goes into it?
abbrev pub fitting : List ℕ → ℕ → Bool
fitting text room = leb (length text) room

unfoldable pub printing : List ℕ → ℕ → Answer
printing text room = cond (fitting text room) (Ok (length text)) (Err LentSize)

-- What a printer promises of its answer r and of the text, as lent and as left.
pub record PrintInto (ws : List (List ℕ)) (rows : List Row) (text : List ℕ) (r : Answer) (text' : List ℕ) : Type 0 where
  pub answer : r ≡ printing (text_of ws rows) (length text)
  pub text_left : text' ≡ filled (fitting (text_of ws rows) (length text)) (text_of ws rows) text

-- ---- [1.9] what can be printed and read back: rows of listed words and of numbers in a cell's range

pub record Printable (ws : List (List ℕ)) (r : Row) : Type 0 where
  pub listed : r.0 < length ws
  pub number : SFits w32 r.1

unfoldable pub Each : (Row → Type 0) → List Row → Type 0
Each P [] = Unit {0}
Each P (r ∷ rs) = P r × Each P rs
