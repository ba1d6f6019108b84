-- Plans that differ in a length only: the cards P3, P4 and P9 and `zip` of 3 and 4 elements [15.2], for every length. Definitions only;
-- assumes nothing.
use Rattle.std.specs.Prelude.{◌≡◌, [], ◌∷◌, ℕ}
use Rattle.refusals.specs.declared.Refusal.{Refusal}
use Rattle.meaning.specs.Types.{DataType, Series, number, array, vector}
use Rattle.meaning.specs.Terms.{Term, Plan}
use Rattle.typing.specs.Check.{Verdict, typed, refused}

-- `plan,1 arr,l num,0 split,n in,0`, and with `idx,k`; [18.4] with `asvec,w`, and `plan,1 vec,w at,k in,0`
abbrev pub split_plan : ℕ → ℕ → Plan
split_plan n l = record { inputs = array l number ∷ []; term = Term.split Series.arrays n (Term.input 0) }

abbrev pub index_plan : ℕ → ℕ → Plan
index_plan k l = record { inputs = array l number ∷ []; term = Term.index Series.arrays k (Term.input 0) }

abbrev pub asvec_plan : ℕ → ℕ → Plan
asvec_plan w l = record { inputs = array l number ∷ []; term = Term.split Series.vectors w (Term.input 0) }

abbrev pub at_plan : ℕ → ℕ → Plan
at_plan k w = record { inputs = vector w ∷ []; term = Term.index Series.vectors k (Term.input 0) }

-- `plan,2 arr,m num,0 arr,n num,0 zip,0 in,0 in,1`
abbrev pub zip_plan : ℕ → ℕ → Plan
zip_plan m n = record { inputs = array m number ∷ array n number ∷ []; term = Term.zip (Term.input 0) (Term.input 1) }

-- `plan,1 arr,m arr,n num,0 in,0`
abbrev pub table_plan : ℕ → ℕ → Plan
table_plan m n = record { inputs = array m (array n number) ∷ []; term = Term.input 0 }

-- With a fact the verdict is a type, and without it a refusal.
pub record Decided (v : Verdict) (fact : Type 0) (t : DataType) (q : Refusal) : Type 0 where
  pub passes : fact → v ≡ typed t
  pub refuses : (fact → ⊥) → v ≡ refused q
