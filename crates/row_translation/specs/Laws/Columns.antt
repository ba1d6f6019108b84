-- In the column of a term's types stand those of its operands. Assumes nothing.
use Rattle.std.specs.Prelude.{◌≡◌, List, ◌∷◌, ℕ, zero, suc, ◌≤◌, get_or, drop}
use Rattle.std.proofs.Common.{arith}
use Rattle.meaning.specs.Types.{DataType, element}
use Rattle.meaning.specs.Terms.{Term}
use Rattle.meaning.specs.Typing.{type_of}
use Rattle.syntax.specs.Standing.{Shape, none, one, two, three, view_of, count_in, opens_in, first_in, second_in, third_in}
use Rattle.syntax.specs.Standing.{operand_count, first_operand, second_operand, third_operand, second_opens}
use Rattle.type_table.specs.Columns.{Names, behind_term, Noted}

-- the types of the variables in force in a second operand that has so many of its own, the first having the type t
abbrev under : ℕ → DataType → List DataType → List DataType
under zero t Γ = Γ
under (suc n) t Γ = element t ∷ Γ

module _ (Y : List ℕ) (m : ℕ) (I Γ : List DataType) where
  abbrev OperandsNoted : Shape → List ℕ → Type 0
  OperandsNoted none C = Unit {0}
  OperandsNoted (one a) C = Noted Y m I Γ a (drop 1 C)
  OperandsNoted (two a n b) C = Noted Y m I Γ a (drop 1 C) × Noted Y m I (under n (type_of I Γ a) Γ) b (behind_term a (drop 1 C))
  OperandsNoted (three z a n b) C =
      Noted Y m I Γ z (drop 1 C) × Noted Y m I Γ a (behind_term z (drop 1 C))
      × Noted Y m I (type_of I Γ z ∷ element (type_of I Γ a) ∷ Γ) b (behind_term a (behind_term z (drop 1 C)))

  noted_view : (e : Term) (C : List ℕ) → Noted Y m I Γ e C → Names Y m (get_or C 0 0) (type_of I Γ e) × OperandsNoted (view_of e).shape C
  unfolding Noted
  noted_view (Term.input k) C h = (h, tt)
  noted_view (Term.variable d) C h = (h, tt)
  noted_view (Term.literal v) C h = (h, tt)
  noted_view (Term.negate e) C h = (h.0, h.1)
  noted_view (Term.operation o e f) C h = (h.0, (h.1, h.2))
  noted_view (Term.map k a b) C h = (h.0, (h.1, h.2))
  noted_view (Term.reduce z a b) C h = (h.0, (h.1, h.2, h.3))
  noted_view (Term.zip a b) C h = (h.0, (h.1, h.2))
  noted_view (Term.pair a b) C h = (h.0, (h.1, h.2))
  noted_view (Term.split series n e) C h = (h.0, h.1)
  noted_view (Term.join series e) C h = (h.0, h.1)
  noted_view (Term.first e) C h = (h.0, h.1)
  noted_view (Term.second e) C h = (h.0, h.1)
  noted_view (Term.index series k e) C h = (h.0, h.1)

  pub noted_here : (e : Term) (C : List ℕ) → Noted Y m I Γ e C → Names Y m (get_or C 0 0) (type_of I Γ e)
  noted_here e C h = (noted_view e C h).0

  module _ (e : Term) (C : List ℕ) where
    first_in_holds : (S : Shape) → 1 ≤ count_in S → OperandsNoted S C → Noted Y m I Γ (first_in e S) (drop 1 C)
    first_in_holds none p h = absurd (omega arith)
    first_in_holds (one a) p h = h
    first_in_holds (two a n b) p h = h.0
    first_in_holds (three z a n b) p h = h.0

    second_in_holds : (S : Shape) → 2 ≤ count_in S → opens_in S ≡ 0 → OperandsNoted S C → Noted Y m I Γ (second_in e S) (behind_term (first_in e S) (drop 1 C))
    second_in_holds none p q h = absurd (omega arith)
    second_in_holds (one a) p q h = absurd (omega arith)
    second_in_holds (two a zero b) p q h = h.1
    second_in_holds (two a (suc n) b) p q h = absurd (omega arith)
    second_in_holds (three z a n b) p q h = h.1

    body_in : (S : Shape) → opens_in S ≡ 1 → OperandsNoted S C
        → Noted Y m I (element (type_of I Γ (first_in e S)) ∷ Γ) (second_in e S) (behind_term (first_in e S) (drop 1 C))
    body_in none q h = absurd (omega arith)
    body_in (one a) q h = absurd (omega arith)
    body_in (two a zero b) q h = absurd (omega arith)
    body_in (two a (suc n) b) q h = h.1
    body_in (three z a n b) q h = absurd (omega arith)

    third_in_holds : (S : Shape) → 3 ≤ count_in S → OperandsNoted S C
        → Noted Y m I (type_of I Γ (first_in e S) ∷ element (type_of I Γ (second_in e S)) ∷ Γ) (third_in e S) (behind_term (second_in e S) (behind_term (first_in e S) (drop 1 C)))
    third_in_holds none p h = absurd (omega arith)
    third_in_holds (one a) p h = absurd (omega arith)
    third_in_holds (two a n b) p h = absurd (omega arith)
    third_in_holds (three z a n b) p h = h.2

    pub noted_first : 1 ≤ operand_count e → Noted Y m I Γ e C → Noted Y m I Γ (first_operand e) (drop 1 C)
    noted_first p h = first_in_holds (view_of e).shape p (noted_view e C h).1

    -- of a second operand that has the variables of the term
    pub noted_second : 2 ≤ operand_count e → second_opens e ≡ 0 → Noted Y m I Γ e C
        → Noted Y m I Γ (second_operand e) (behind_term (first_operand e) (drop 1 C))
    noted_second p q h = second_in_holds (view_of e).shape p q (noted_view e C h).1

    -- of a map's body
    pub noted_body : second_opens e ≡ 1 → Noted Y m I Γ e C
        → Noted Y m I (element (type_of I Γ (first_operand e)) ∷ Γ) (second_operand e) (behind_term (first_operand e) (drop 1 C))
    noted_body q h = body_in (view_of e).shape q (noted_view e C h).1

    -- of a reduction's
    pub noted_third : 3 ≤ operand_count e → Noted Y m I Γ e C
        → Noted Y m I (type_of I Γ (first_operand e) ∷ element (type_of I Γ (second_operand e)) ∷ Γ) (third_operand e)
        (behind_term (second_operand e) (behind_term (first_operand e) (drop 1 C)))
    noted_third p h = third_in_holds (view_of e).shape p (noted_view e C h).1
