-- What the names in force stand for: the inputs' types and the variables' types ([5.2]), by their places in the table of types.
-- Definitions only; assumes nothing.
use Rattle.std.specs.Prelude.{◌≡◌, Bool, true, false, List, ℕ, ◌+◌, ◌-◌, ◌≤◌, ◌<◌, length, get_or, Result, Ok, Err}
use Rattle.refusals.specs.declared.Refusal.{Refusal}
use Rattle.refusals.specs.declared.Refusal.TheVariants.{TypeMisfit}
use Rattle.meaning.specs.Types.{DataType, number}
use Rattle.type_table.specs.Columns.{Names}
use Rattle.type_rules.specs.declared.scope.Scope.{Scope}

-- I are the types of the inputs, Γ those of the variables, innermost first
pub record InForce (T : List ℕ) (m : ℕ) (s : Scope) (I Γ : List DataType) : Type 0 where
  pub inputs : (k : ℕ) → k < length I → Names T m (get_or s.inputs k 0) (get_or I k number)
  pub variables : (d : ℕ) → d < length Γ → Names T m (get_or s.variables (s.count - (d + 1)) 0) (get_or Γ d number)
  pub count : s.count ≡ length Γ
  pub few : length I ≤ 8
  pub deep : s.count ≤ 16
  pub long : length s.variables ≡ 16

-- The names in force in an operand, of which P is to hold, if there is such an operand; or the "no" to question 7.
abbrev pub Opens : ℕ → Bool → (Scope → Type 0) → Result Scope Refusal → Type 0
Opens line opens P (Ok s) = (opens ≡ true) × P s
Opens line opens P (Err q) = (opens ≡ false) × (q ≡ TypeMisfit line)
