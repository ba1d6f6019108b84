-- [16.6], [16.7] What an entry that is given a words text promises. Definitions only; assumes nothing.
use Rattle.std.specs.Prelude.{List, ℕ, Ok, Err}
use Rattle.refusals.specs.Answers.{Answer}
use Rattle.refusals.specs.declared.Refusal.{Refusal}
use Rattle.own_words.specs.OwnWords.{ask_words, own_words}

abbrev pub ByAnswer : Answer → Type 0 → (Refusal → Type 0) → Type 0
ByAnswer (Ok n) accepted refused = accepted
ByAnswer (Err q) accepted refused = refused q

-- Where the words text w is accepted, `accepted` of its own words; else `refused` of the "no".
pub record Under (w : List ℕ) (accepted : List (List ℕ) → Type 0) (refused : Refusal → Type 0) : Type 0 where
  pub promised : ByAnswer (ask_words w) (accepted (own_words w)) refused
