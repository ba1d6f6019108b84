-- Questions put in order, of which the first "no" is told: [10.17]. Definitions only; assumes nothing.
use Rattle.std.specs.Prelude.{Bool, false, cond, ◌≡◌, List, [], ◌∷◌, ◌++◌, ℕ, T}
use Rattle.refusals.specs.declared.Refusal.{Refusal}
use Rattle.refusals.specs.Refusals.{refusal_number}

-- how a question is answered, and the refusal that a "no" gives
pub record Question : Type 0 where
  pub answer : Bool
  pub refusal : Refusal

abbrev pub question : Bool → Refusal → Question
question b r = record { answer = b; refusal = r }

-- [10.17] The first "no", as an answer of some kind; where there is none, what is answered in the end.
unfoldable pub ask : {A : Type 0} → (Refusal → A) → List Question → A → A
ask no' [] end = end
ask no' (q ∷ qs) end = cond q.answer (ask no' qs end) (no' q.refusal)

abbrev pub AllYes : List Question → Type 0
AllYes [] = Unit {0}
AllYes (q ∷ qs) = T q.answer × AllYes qs

-- those of one number are answered "yes"
abbrev pub AllYesTo : ℕ → List Question → Type 0
AllYesTo n [] = Unit {0}
AllYesTo n (q ∷ qs) = (refusal_number q.refusal ≡ n → T q.answer) × AllYesTo n qs

-- A refusal is the first "no" of questions: all before it are answered "yes".
pub record FirstNo (qs : List Question) (r : Refusal) : Type 0 where
  pub before : List Question
  pub others : List Question
  pub order : qs ≡ before ++ (question false r ∷ others)
  pub yes_before : AllYes before
