-- The types of a term's rows ([5.1]), noted in a column beside them: each entry is the place of a type in the table of types.
-- Definitions only; assumes nothing.
use Rattle.std.specs.Prelude.{◌≡◌, List, ◌∷◌, ℕ, ◌<◌, length, get_or, drop}
use Rattle.meaning.specs.Types.{DataType, element}
use Rattle.meaning.specs.Terms.{Term}
use Rattle.meaning.specs.Typing.{type_of}
use Rattle.meaning.specs.Rows.{term_rows}
use Rattle.type_table.specs.Table.{type_at}

-- the place p, one of the first m, has the type t
abbrev pub Names : List ℕ → ℕ → ℕ → DataType → Type 0
Names T m p t = (p < m) × (type_at T p ≡ t)

-- the column behind the rows of a term
abbrev pub behind_term : Term → List ℕ → List ℕ
behind_term e C = drop (length (term_rows e)) C

-- In the column C, from the term's first row on, stands the type of the term and of every term in it. I are the types of the
-- inputs, Γ those of the variables in force, innermost first.
unfoldable pub Noted : List ℕ → ℕ → List DataType → List DataType → Term → List ℕ → Type 0
Noted T m I Γ (Term.input k) C = Names T m (get_or C 0 0) (type_of I Γ (Term.input k))
Noted T m I Γ (Term.variable d) C = Names T m (get_or C 0 0) (type_of I Γ (Term.variable d))
Noted T m I Γ (Term.literal v) C = Names T m (get_or C 0 0) (type_of I Γ (Term.literal v))
Noted T m I Γ (Term.negate e) C = Names T m (get_or C 0 0) (type_of I Γ (Term.negate e)) × Noted T m I Γ e (drop 1 C)
Noted T m I Γ (Term.operation o e f) C =
    Names T m (get_or C 0 0) (type_of I Γ (Term.operation o e f)) × Noted T m I Γ e (drop 1 C)
    × Noted T m I Γ f (behind_term e (drop 1 C))
Noted T m I Γ (Term.map kind a b) C =
    Names T m (get_or C 0 0) (type_of I Γ (Term.map kind a b)) × Noted T m I Γ a (drop 1 C)
    × Noted T m I (element (type_of I Γ a) ∷ Γ) b (behind_term a (drop 1 C))
Noted T m I Γ (Term.reduce z a b) C =
    Names T m (get_or C 0 0) (type_of I Γ (Term.reduce z a b)) × Noted T m I Γ z (drop 1 C)
    × Noted T m I Γ a (behind_term z (drop 1 C))
    × Noted T m I (type_of I Γ z ∷ element (type_of I Γ a) ∷ Γ) b (behind_term a (behind_term z (drop 1 C)))
Noted T m I Γ (Term.zip a b) C =
    Names T m (get_or C 0 0) (type_of I Γ (Term.zip a b)) × Noted T m I Γ a (drop 1 C)
    × Noted T m I Γ b (behind_term a (drop 1 C))
Noted T m I Γ (Term.pair a b) C =
    Names T m (get_or C 0 0) (type_of I Γ (Term.pair a b)) × Noted T m I Γ a (drop 1 C)
    × Noted T m I Γ b (behind_term a (drop 1 C))
Noted T m I Γ (Term.split series n e) C = Names T m (get_or C 0 0) (type_of I Γ (Term.split series n e)) × Noted T m I Γ e (drop 1 C)
Noted T m I Γ (Term.join series e) C = Names T m (get_or C 0 0) (type_of I Γ (Term.join series e)) × Noted T m I Γ e (drop 1 C)
Noted T m I Γ (Term.first e) C = Names T m (get_or C 0 0) (type_of I Γ (Term.first e)) × Noted T m I Γ e (drop 1 C)
Noted T m I Γ (Term.second e) C = Names T m (get_or C 0 0) (type_of I Γ (Term.second e)) × Noted T m I Γ e (drop 1 C)
Noted T m I Γ (Term.index series k e) C = Names T m (get_or C 0 0) (type_of I Γ (Term.index series k e)) × Noted T m I Γ e (drop 1 C)
