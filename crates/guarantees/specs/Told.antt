-- What an entry tells its caller, a refusal's number and line or a value: [10.17], and to C [12.2], [12.3]. Definitions only;
-- assumes nothing.
use Rattle.std.specs.Prelude.{cond, ◌≡◌, ℕ, ◌/◌, ◌%◌, min, ltb, Result, Ok, Err}
use Rattle.loops.specs.Checked.{Checked}
use Rattle.words.specs.declared.Search.{Search}
use Rattle.refusals.specs.Answers.{Answer}
use Rattle.refusals.specs.declared.Refusal.{Refusal}
use Rattle.refusals.specs.Refusals.{refusal_number, refusal_line}
use Rattle.loops.specs.Check.{writes_of, need_of}

-- [10.17] a refusal's number and line, or a value
pub data Told : Type 0 where
  refused : ℕ → ℕ → Told
  value : ℕ → Told

abbrev pub refusal : Refusal → Told
refusal q = Told.refused (refusal_number q) (refusal_line q)

-- a number, or the first "no"
abbrev pub told_answer : Answer → Told
told_answer (Ok n) = Told.value n
told_answer (Err q) = refusal q

-- the check of loops tells two values: their writes and their need
abbrev pub told_writes : Checked → Told
told_writes c = told_answer (writes_of c)

abbrev pub told_need : Checked → Told
told_need c = told_answer (need_of c)

-- a search tells how many rows were compared; where the word stands is told besides
abbrev pub told_compared : Result Search Refusal → Told
told_compared (Ok s) = Told.value s.compared
told_compared (Err q) = refusal q

-- [12.3] to C of a plan that is accepted: 0
abbrev pub told_accepted : Answer → Told
told_accepted (Ok n) = Told.value 0
told_accepted (Err q) = refusal q

-- [12.2] To C: one number of 64 bits. Below 2^56, so that its highest byte is 0, it is the value; else the highest byte is the number, the
-- rest the line.
abbrev pub told_code : ℕ → Told
told_code r = cond (ltb r 72057594037927936) (Told.value r) (Told.refused (r / 72057594037927936) (r % 72057594037927936))

-- [12.2] A line is told to C as at most 2^56 − 1.
abbrev pub cut : Told → Told
cut (Told.refused n l) = Told.refused n (min l 72057594037927935)
cut (Told.value v) = Told.value v

-- What C is told is what the library's entry tells: r is the number, and a the answer of which the contract speaks.
abbrev pub ToldToC : {A : Type 0} → (A → Type 0) → (A → Told) → ℕ → Type 0
ToldToC {A} Contract told r = (a : A) × Contract a × (told_code r ≡ cut (told a))
