-- What an entry tells C, as one number of 64 bits: [12.2], [12.3], [17.4]. Definitions only; assumes nothing.
use Rattle.std.specs.Prelude.{◌≡◌, List, ℕ, ◌+◌, ◌*◌, min, ℤ, length, Ok, Err, Option, Some, None, Result}
use Rattle.refusals.specs.Answers.{Answer}
use Rattle.refusals.specs.declared.Refusal.{Refusal}
use Rattle.refusals.specs.Refusals.{refusal_number, refusal_line}
use Rattle.words.specs.declared.Search.{Search}
use Rattle.loops.specs.Promises.{ReadsLoops}
use Rattle.translate.specs.Entry.{make_text, rows_made, TextInto}
use Rattle.store.specs.Cells.{cells_of, left_over}
use Rattle.run.specs.Run.{Ran}

-- [12.2] The highest byte is the refusal's number, the rest its line. A line is far below 2^56; were it not, it would stop there.
abbrev pub refusal_code : Refusal → ℕ
refusal_code q = refusal_number q * 72057594037927936 + min (refusal_line q) 72057594037927935

-- [12.3] What an entry tells: the rows or bytes that were put, the writes, the need
abbrev pub answer_code : Answer → ℕ
answer_code (Ok n) = n
answer_code (Err q) = refusal_code q

-- [12.3] Of a plan that is accepted 0 is told.
abbrev pub accepted_code : Answer → ℕ
accepted_code (Ok n) = 0
accepted_code (Err q) = refusal_code q

-- [17.4] Of a search: the rows compared, n of them, and 2^16 more where the word is listed
abbrev pub compared_code : Option ℕ → ℕ → ℕ
compared_code (Some k) n = 65536 + n
compared_code None n = n

abbrev pub search_code : Search → ℕ
search_code s = compared_code s.found s.compared

abbrev pub searched_code : Result Search Refusal → ℕ
searched_code (Ok s) = search_code s
searched_code (Err q) = refusal_code q

-- What is promised of the answer r and of the two slices, as lent and as left.
pub record ReadCoded (ws : List (List ℕ)) (t kinds : List ℕ) (numbers : List ℤ) (r : ℕ) (kinds' : List ℕ) (numbers' : List ℤ) : Type 0 where
  pub reading : Answer
  pub answer : r ≡ answer_code reading
  pub left : ReadsLoops ws t kinds numbers reading kinds' numbers'

-- What is promised of the answer r and of the lent text.
pub record TextCoded (ws : List (List ℕ)) (t lent : List ℕ) (r : ℕ) (lent' : List ℕ) : Type 0 where
  pub printing : Answer
  pub answer : r ≡ answer_code printing
  pub left : TextInto ws (make_text ws t) (rows_made ws t) lent printing lent'

-- [12.4] What is promised of the answer r and of a store in bytes, as lent and as left, where o is the run's outcome on its cells.
-- [9.11] Left-over bytes are as they were.
pub record RunCoded (o : Ran) (bytes : List ℕ) (r : ℕ) (bytes' : List ℕ) : Type 0 where
  pub answer : r ≡ answer_code o.answer
  pub cells_left : cells_of bytes' ≡ o.store
  pub others_left : left_over bytes' ≡ left_over bytes
  pub length_left : length bytes' ≡ length bytes
