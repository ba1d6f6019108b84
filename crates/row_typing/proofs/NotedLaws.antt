-- Types noted in the column beside a term's rows: from those of its operands, and as the table grows and the column changes elsewhere.
use mathlib.Core.Path.{◌≡◌, refl, ap, sym, ◌∙◌}
use mathlib.Core.List.{List, ◌∷◌}
use Prim.Native.Nat.{ℕ, ◌+◌, ◌≤◌, ◌<◌}
use native.Mathlib.Omega.{arith}
use lib.ListN.{length, get_or, drop}
use lib.Seq.{get_or-drop}
use Rattle.arithmetic.specs.Arithmetic.{Operation}
use Rattle.words.specs.Groups.{one_of}
use Rattle.meaning.specs.Types.{DataType, element}
use Rattle.meaning.specs.Terms.{LoopKind, Term}
use Rattle.meaning.specs.Typing.{type_of}
use Rattle.meaning.specs.Rows.{term_rows}
use Rattle.syntax.specs.Standing.{Shape, none, one, two, three, view_of, count_in, first_in, second_in, third_in}
use Rattle.syntax.specs.Standing.{term_kind, operand_count, first_operand, second_operand, third_operand}
use Rattle.syntax.proofs.Standing.{rows_of_none, rows_of_one, rows_of_two, rows_of_three}
use Rattle.type_table.specs.Table.{type_at}
use Rattle.type_table.specs.Columns.{Names, Noted, behind_term}
use Rattle.type_rules.specs.Rules.{second_scope, Grown}

-- ---- a term's row, and its operands

module _ (T : List ℕ) (m : ℕ) (I Γ : List DataType) (C : List ℕ) where
  -- the types of the operands of a row of kind k
  abbrev OperandsNoted : ℕ → Shape → Type 0
  OperandsNoted k none = Unit {0}
  OperandsNoted k (one a) = Noted T m I Γ a (drop 1 C)
  OperandsNoted k (two a n b) = Noted T m I Γ a (drop 1 C) × Noted T m I (second_scope k (type_of I Γ a) Γ) b (behind_term a (drop 1 C))
  OperandsNoted k (three z a n b) =
      Noted T m I Γ z (drop 1 C) × Noted T m I (second_scope k (type_of I Γ z) Γ) a (behind_term z (drop 1 C))
      × Noted T m I (type_of I Γ z ∷ element (type_of I Γ a) ∷ Γ) b (behind_term a (behind_term z (drop 1 C)))

  noted_by : (e : Term) → Names T m (get_or C 0 0) (type_of I Γ e) → OperandsNoted (term_kind e) (view_of e).shape → Noted T m I Γ e C
  unfolding Noted one_of
  noted_by (Term.input k) n p = n
  noted_by (Term.variable d) n p = n
  noted_by (Term.literal v) n p = n
  noted_by (Term.negate e) n p = (n, p)
  noted_by (Term.operation Operation.addition e f) n p = (n, p.0, p.1)
  noted_by (Term.operation Operation.subtraction e f) n p = (n, p.0, p.1)
  noted_by (Term.operation Operation.multiplication e f) n p = (n, p.0, p.1)
  noted_by (Term.operation Operation.division e f) n p = (n, p.0, p.1)
  noted_by (Term.operation Operation.minimum e f) n p = (n, p.0, p.1)
  noted_by (Term.operation Operation.maximum e f) n p = (n, p.0, p.1)
  noted_by (Term.map LoopKind.parallel a b) n p = (n, p.0, p.1)
  noted_by (Term.map LoopKind.sequential a b) n p = (n, p.0, p.1)
  noted_by (Term.map LoopKind.lanes a b) n p = (n, p.0, p.1)
  noted_by (Term.reduce z a b) n p = (n, p.0, p.1, p.2)
  noted_by (Term.zip a b) n p = (n, p.0, p.1)
  noted_by (Term.pair a b) n p = (n, p.0, p.1)
  noted_by (Term.split series j e) n p = (n, p)
  noted_by (Term.join series e) n p = (n, p)
  noted_by (Term.first e) n p = (n, p)
  noted_by (Term.second e) n p = (n, p)
  noted_by (Term.index series j e) n p = (n, p)

  module _ (e : Term) (n : Names T m (get_or C 0 0) (type_of I Γ e)) where
    pub noted_none : operand_count e ≡ 0 → Noted T m I Γ e C
    noted_none h = noted_by e n (go (view_of e).shape h)
      where
        go : (S : Shape) → count_in S ≡ 0 → OperandsNoted (term_kind e) S
        go none h = tt
        go (one a) h = absurd (omega arith)
        go (two a j b) h = absurd (omega arith)
        go (three z a j b) h = absurd (omega arith)

    pub noted_one : operand_count e ≡ 1 → Noted T m I Γ (first_operand e) (drop 1 C) → Noted T m I Γ e C
    noted_one h x = noted_by e n (go (view_of e).shape h x)
      where
        go : (S : Shape) → count_in S ≡ 1 → Noted T m I Γ (first_in e S) (drop 1 C) → OperandsNoted (term_kind e) S
        go none h x = absurd (omega arith)
        go (one a) h x = x
        go (two a j b) h x = absurd (omega arith)
        go (three z a j b) h x = absurd (omega arith)

    pub noted_two : operand_count e ≡ 2 → Noted T m I Γ (first_operand e) (drop 1 C)
        → Noted T m I (second_scope (term_kind e) (type_of I Γ (first_operand e)) Γ) (second_operand e) (behind_term (first_operand e) (drop 1 C))
        → Noted T m I Γ e C
    noted_two h x y = noted_by e n (go (view_of e).shape h x y)
      where
        go : (S : Shape) → count_in S ≡ 2 → Noted T m I Γ (first_in e S) (drop 1 C)
            → Noted T m I (second_scope (term_kind e) (type_of I Γ (first_in e S)) Γ) (second_in e S) (behind_term (first_in e S) (drop 1 C)) → OperandsNoted (term_kind e) S
        go none h x y = absurd (omega arith)
        go (one a) h x y = absurd (omega arith)
        go (two a j b) h x y = (x, y)
        go (three z a j b) h x y = absurd (omega arith)

    pub noted_three : 3 ≤ operand_count e → Noted T m I Γ (first_operand e) (drop 1 C)
        → Noted T m I (second_scope (term_kind e) (type_of I Γ (first_operand e)) Γ) (second_operand e) (behind_term (first_operand e) (drop 1 C))
        → Noted T m I (type_of I Γ (first_operand e) ∷ element (type_of I Γ (second_operand e)) ∷ Γ) (third_operand e)
        (behind_term (second_operand e) (behind_term (first_operand e) (drop 1 C)))
        → Noted T m I Γ e C
    noted_three h x y w = noted_by e n (go (view_of e).shape h x y w)
      where
        go : (S : Shape) → 3 ≤ count_in S → Noted T m I Γ (first_in e S) (drop 1 C)
            → Noted T m I (second_scope (term_kind e) (type_of I Γ (first_in e S)) Γ) (second_in e S) (behind_term (first_in e S) (drop 1 C))
            → Noted T m I (type_of I Γ (first_in e S) ∷ element (type_of I Γ (second_in e S)) ∷ Γ) (third_in e S) (behind_term (second_in e S) (behind_term (first_in e S) (drop 1 C)))
            → OperandsNoted (term_kind e) S
        go none h x y w = absurd (omega arith)
        go (one a) h x y w = absurd (omega arith)
        go (two a j b) h x y w = absurd (omega arith)
        go (three z a j b) h x y w = (x, y, w)

-- ---- the table grown, the column changed elsewhere

-- D is C in its first n entries
pub record Alike (n : ℕ) (C D : List ℕ) : Type 0 where
  pub same : (i : ℕ) → i < n → get_or D i 0 ≡ get_or C i 0

pub alike_drop : {n : ℕ} {C D : List ℕ} (a k : ℕ) → Alike n C D → a + k ≤ n → Alike k (drop a C) (drop a D)
alike_drop {n} {C} {D} a k A h =
    record { same = λ i l. get_or-drop a D i 0 ∙ A.same (a + i) (omega arith) ∙ sym (get_or-drop a C i 0) }

alike_less : {n : ℕ} {C D : List ℕ} (k : ℕ) → Alike n C D → k ≤ n → Alike k C D
alike_less k A h = record { same = λ i l. A.same i (omega arith) }

-- the first m types of T are those of U
module _ (T U : List ℕ) {m l : ℕ} (more : m ≤ l) (kept : (i : ℕ) → i < m → type_at U i ≡ type_at T i) where
  pub names_kept : {p q : ℕ} {t : DataType} → q ≡ p → Names T m p t → Names U l q t
  names_kept {p} {q} e n =
      (omega (arith, n.0, more), ap (type_at U) e ∙ kept p n.0 ∙ n.1)

  pub noted_kept : (I Γ : List DataType) (e : Term) (C D : List ℕ) → Alike (length (term_rows e)) C D → Noted T m I Γ e C → Noted U l I Γ e D
  unfolding Noted
  noted_kept I Γ (Term.input k) C D A N = let k = rows_of_none (Term.input k) refl in names_kept (A.same 0 (omega (arith, k))) N
  noted_kept I Γ (Term.variable d) C D A N = let k = rows_of_none (Term.variable d) refl in names_kept (A.same 0 (omega (arith, k))) N
  noted_kept I Γ (Term.literal v) C D A N = let k = rows_of_none (Term.literal v) refl in names_kept (A.same 0 (omega (arith, k))) N
  noted_kept I Γ (Term.negate e) C D A N =
      let k = rows_of_one (Term.negate e) refl in
      (names_kept (A.same 0 (omega (arith, k))) N.0, noted_kept I Γ e (drop 1 C) (drop 1 D) (alike_drop 1 _ A (omega arith)) N.1)
  noted_kept I Γ (Term.operation o e f) C D A N =
      let k = rows_of_two (Term.operation o e f) refl in
      let B = alike_drop 1 (length (term_rows e) + length (term_rows f)) A (omega arith) in (
        names_kept (A.same 0 (omega (arith, k))) N.0,
        noted_kept I Γ e (drop 1 C) (drop 1 D) (alike_less _ B (omega arith)) N.1,
        noted_kept I Γ f (behind_term e (drop 1 C)) (behind_term e (drop 1 D)) (alike_drop (length (term_rows e)) (length (term_rows f)) B (omega arith)) N.2,
      )
  noted_kept I Γ (Term.map kind a b) C D A N =
      let k = rows_of_two (Term.map kind a b) refl in
      let B = alike_drop 1 (length (term_rows a) + length (term_rows b)) A (omega arith) in (
        names_kept (A.same 0 (omega (arith, k))) N.0,
        noted_kept I Γ a (drop 1 C) (drop 1 D) (alike_less _ B (omega arith)) N.1,
        noted_kept I (element (type_of I Γ a) ∷ Γ) b (behind_term a (drop 1 C)) (behind_term a (drop 1 D)) (alike_drop (length (term_rows a)) (length (term_rows b)) B (omega arith)) N.2,
      )
  noted_kept I Γ (Term.reduce z a b) C D A N =
      let k = rows_of_three (Term.reduce z a b) (omega arith) in
      let B = alike_drop 1 (length (term_rows z) + (length (term_rows a) + length (term_rows b))) A (omega arith) in
      let B' = alike_drop (length (term_rows z)) (length (term_rows a) + length (term_rows b)) B (omega arith) in (
        names_kept (A.same 0 (omega (arith, k))) N.0,
        noted_kept I Γ z (drop 1 C) (drop 1 D) (alike_less _ B (omega arith)) N.1,
        noted_kept I Γ a (behind_term z (drop 1 C)) (behind_term z (drop 1 D)) (alike_less _ B' (omega arith)) N.2,
        noted_kept I (type_of I Γ z ∷ element (type_of I Γ a) ∷ Γ) b (behind_term a (behind_term z (drop 1 C))) (behind_term a (behind_term z (drop 1 D)))
            (alike_drop (length (term_rows a)) (length (term_rows b)) B' (omega arith)) N.3,
      )
  noted_kept I Γ (Term.zip a b) C D A N =
      let k = rows_of_two (Term.zip a b) refl in
      let B = alike_drop 1 (length (term_rows a) + length (term_rows b)) A (omega arith) in (
        names_kept (A.same 0 (omega (arith, k))) N.0,
        noted_kept I Γ a (drop 1 C) (drop 1 D) (alike_less _ B (omega arith)) N.1,
        noted_kept I Γ b (behind_term a (drop 1 C)) (behind_term a (drop 1 D)) (alike_drop (length (term_rows a)) (length (term_rows b)) B (omega arith)) N.2,
      )
  noted_kept I Γ (Term.pair a b) C D A N =
      let k = rows_of_two (Term.pair a b) refl in
      let B = alike_drop 1 (length (term_rows a) + length (term_rows b)) A (omega arith) in (
        names_kept (A.same 0 (omega (arith, k))) N.0,
        noted_kept I Γ a (drop 1 C) (drop 1 D) (alike_less _ B (omega arith)) N.1,
        noted_kept I Γ b (behind_term a (drop 1 C)) (behind_term a (drop 1 D)) (alike_drop (length (term_rows a)) (length (term_rows b)) B (omega arith)) N.2,
      )
  noted_kept I Γ (Term.split series n e) C D A N =
      let k = rows_of_one (Term.split series n e) refl in
      (names_kept (A.same 0 (omega (arith, k))) N.0, noted_kept I Γ e (drop 1 C) (drop 1 D) (alike_drop 1 _ A (omega arith)) N.1)
  noted_kept I Γ (Term.join series e) C D A N =
      let k = rows_of_one (Term.join series e) refl in
      (names_kept (A.same 0 (omega (arith, k))) N.0, noted_kept I Γ e (drop 1 C) (drop 1 D) (alike_drop 1 _ A (omega arith)) N.1)
  noted_kept I Γ (Term.first e) C D A N =
      let k = rows_of_one (Term.first e) refl in
      (names_kept (A.same 0 (omega (arith, k))) N.0, noted_kept I Γ e (drop 1 C) (drop 1 D) (alike_drop 1 _ A (omega arith)) N.1)
  noted_kept I Γ (Term.second e) C D A N =
      let k = rows_of_one (Term.second e) refl in
      (names_kept (A.same 0 (omega (arith, k))) N.0, noted_kept I Γ e (drop 1 C) (drop 1 D) (alike_drop 1 _ A (omega arith)) N.1)
  noted_kept I Γ (Term.index series k e) C D A N =
      let k = rows_of_one (Term.index series k e) refl in
      (names_kept (A.same 0 (omega (arith, k))) N.0, noted_kept I Γ e (drop 1 C) (drop 1 D) (alike_drop 1 _ A (omega arith)) N.1)

module _ {T U : List ℕ} {m l : ℕ} (G : Grown T m U l) where
  pub names_on : {p q : ℕ} {t : DataType} → q ≡ p → Names T m p t → Names U l q t
  names_on e n = names_kept T U G.more G.kept e n

  pub noted_on : (I Γ : List DataType) (e : Term) (C D : List ℕ) → Alike (length (term_rows e)) C D → Noted T m I Γ e C → Noted U l I Γ e D
  noted_on I Γ e C D A N = noted_kept T U G.more G.kept I Γ e C D A N

  pub noted_moved : (I Γ : List DataType) (e : Term) (C D : List ℕ) → D ≡ C → Noted T m I Γ e C → Noted U l I Γ e D
  noted_moved I Γ e C D h N = noted_on I Γ e C D (record { same = λ i k. ap (λ (Y : List ℕ). get_or Y i 0) h }) N
