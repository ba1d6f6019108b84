-- What the translator prints: [11.1], [11.8]. The table of words is an argument. Definitions only; assumes nothing.
use Rattle.std.specs.Prelude.{◌≡◌, List, [], ◌∷◌, ◌++◌, ℕ, pos, length, Ok, Err}
use Rattle.refusals.specs.Answers.{Answer}
use Rattle.refusals.specs.declared.Refusal.{Refusal}
use Rattle.refusals.specs.Refusals.{refusal_number, refusal_line}
use Rattle.words.specs.Words.{bytes}
use Rattle.numerals.specs.Numerals.{decimal}
use Rattle.lines.specs.Reading.{filled}
use Rattle.lines.specs.Printing.{text_of, fitting, printing}
use Rattle.translate.specs.Entry.{rows_made, make_text}

-- [11.8] A refusal's line is `no,number,line`, closed by byte 10. The comma is byte 44.
unfoldable pub refusal_text : Refusal → List ℕ
refusal_text q = bytes "no," ++ decimal (pos (refusal_number q)) ++ (44 ∷ decimal (pos (refusal_line q))) ++ (10 ∷ [])

-- [11.1] The text of the loops made, or [11.8] the refusal's line.
abbrev pub made_text : Answer → List ℕ → List ℕ
made_text (Ok n) loops = loops
made_text (Err q) loops = refusal_text q

unfoldable pub translator_text : List (List ℕ) → List ℕ → List ℕ
translator_text ws t = made_text (make_text ws t) (text_of ws (rows_made ws t))

-- [11.9] What is promised of the answer r and of a lent text, as lent and as left, where `text` is to be put: it stands in front and
-- the rest is as it was, and r says how many bytes it has; or it does not fit, all is as it was, and r is refusal 12.
pub record PutInto (text lent : List ℕ) (r : Answer) (lent' : List ℕ) : Type 0 where
  pub answer : r ≡ printing text (length lent)
  pub text_left : lent' ≡ filled (fitting text (length lent)) text lent
