-- The form in which demand 1 speaks of every entry: [10.17], [10.22]. Definitions only; assumes nothing.
use Rattle.std.specs.Prelude.{◌≡◌, List, ℕ}
use Rattle.refusals.specs.declared.Refusal.{Refusal}
use Rattle.words.specs.Kinds.{Row}
use Rattle.typing.specs.Questions.{Question, AllYes, FirstNo}
use Rattle.guarantees.specs.Told.{Told, refusal}

-- [10.17] The first "no" is told by number and line, and what is lent is `Kept`; where all are answered "yes" the value is told, and what
-- is lent is `Left`. One or the other is the case for every list of questions, so that the answer r is fixed.
pub record Answers (qs : List Question) (v : ℕ) (Kept Left : Type 0) (r : Told) : Type 0 where
  pub first_no_holds : (q : Refusal) → FirstNo qs q → (r ≡ refusal q) × Kept
  pub all_yes : AllYes qs → (r ≡ Told.value v) × Left

-- The same where questions are put at the door, and, once they are all answered "yes", more of them to the plan or the loops x whose rows
-- stand there: there is one such x, and no other.
pub record AnswersOf {A : Type 0} (rows : A → List Row) (R : List Row) (door : List Question) (more : A → List Question) (v : A → ℕ)
    (Kept : Type 0) (Left : A → Type 0) (r : Told) : Type 0 where
  pub at_door : (q : Refusal) → FirstNo door q → (r ≡ refusal q) × Kept
  pub behind : AllYes door → (x : A) × (R ≡ rows x) × ((y : A) → R ≡ rows y → y ≡ x) × Answers (more x) (v x) Kept (Left x) r
