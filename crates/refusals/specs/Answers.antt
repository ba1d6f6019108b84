-- A number, or the first question that was answered "no": on from one question to the next. Definitions only; assumes nothing.
use Rattle.std.specs.Prelude.{Bool, true, false, ℕ, Result, Ok, Err}
use Rattle.refusals.specs.declared.Refusal.{Refusal}

-- [10.17] A number, or the first "no"
abbrev pub Answer : Type 0
Answer = Result ℕ Refusal

-- [10.17] On with what follows, which may go by the number told; a "no" is the last answer.
abbrev pub after : Answer → (ℕ → Answer) → Answer
after (Ok n) next = next n
after (Err q) next = Err q

-- The same where what follows does not go by the number.
abbrev pub unless_refused : Answer → Answer → Answer
unless_refused a next = after a (λ n. next)

abbrev pub is_told : Answer → Bool
is_told (Ok n) = true
is_told (Err q) = false
