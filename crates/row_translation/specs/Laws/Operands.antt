-- Where a term stands, its operands stand: what the code is given for its calls. Assumes nothing.
use Rattle.std.specs.Prelude.{◌≡◌, List, ◌∷◌, ℕ, suc, ◌+◌, ◌-◌, ◌≤◌, ◌<◌, ℤ, length, get_or, drop}
use Rattle.std.proofs.Common.{ap, sym, subst, ◌∙◌, arith, drop-drop, get_or-drop}
use Rattle.meaning.specs.Types.{DataType, element}
use Rattle.meaning.specs.Terms.{Term}
use Rattle.meaning.specs.Typing.{type_of}
use Rattle.meaning.specs.Expressions.{Expression}
use Rattle.meaning.specs.Rows.{term_rows}
use Rattle.syntax.specs.Standing.{TermStands, operand_count, first_operand, second_operand, third_operand, second_opens}
use Rattle.syntax.proofs.WalkSteps.{part_all}
use Rattle.syntax.proofs.Standing.{first_stands, second_stands, third_stands, rows_within, some_row, rows_of_two, rows_of_three}
use Rattle.syntax.proofs.Front.{part, part_length}
use Rattle.type_table.specs.Table.{type_at}
use Rattle.type_table.specs.Columns.{Noted}
use Rattle.row_translation.specs.WriteAndUse.{Variables, Stands}
use Rattle.row_translation.specs.Laws.Columns.{noted_here, noted_first, noted_second, noted_body, noted_third}
use Rattle.clauses.specs.declared.State.{State}

literals_on : (ns N : List ℤ) (a : ℕ) → a ≤ length ns → length ns ≤ length N → ns ≡ drop (length N - length ns) N
    → (length (part a ns) ≤ length N) × (part a ns ≡ drop (length N - length (part a ns)) N)
literals_on ns N a h l e =
    let q : length (part a ns) ≡ length ns - a = part_length a ns in
    let d : length N - length ns + a ≡ length N - length (part a ns) = omega (arith, q) in (
      omega (arith, q),
      part_all ns a ∙ ap (drop a) e ∙ drop-drop a (length N - length ns) N ∙ ap (λ (i : ℕ). drop i N) d,
    )

module _ (ks : List ℕ) (ns : List ℤ) (C Y : List ℕ) (N : List ℤ) (T : List ℕ) (s : State) (I Γ : List DataType) (Δ : List Expression) (e : Term)
    (S : Stands ks ns C Y N T s I Γ Δ e) where
  -- a term f that stands a rows later, in another state
  stands_on : (T' : List ℕ) (s' : State) (a : ℕ) (Γ' : List DataType) (Δ' : List Expression) (f : Term) → a ≤ length ns
      → TermStands (part a ks) (part a ns) (length I) (length Γ') f → Noted Y (length Y) I Γ' f (drop a C) → length Δ' ≡ length Γ'
      → Variables Y N T' s' Δ' → Stands (part a ks) (part a ns) (part a C) Y N T' s' I Γ' Δ' f
  stands_on T' s' a Γ' Δ' f h R M d v = record {
    rows = R;
    noted = subst (λ (D : List ℕ). Noted Y (length Y) I Γ' f D) (sym (part_all C a)) M;
    named = d;
    variables = v;
    literals = literals_on ns N a h S.literals.0 S.literals.1;
    column = omega (arith, part_length a ks, part_length a C, S.column);
    inputs = S.inputs;
  }

  rows_fit : length (term_rows e) ≤ length ns
  rows_fit = omega (arith, rows_within ks ns (length I) (length Γ) e S.rows, S.rows.sizes)

  -- the type of the term stands in the column
  pub type_here : (get_or C 0 0 < length Y) × (type_at Y (get_or C 0 0) ≡ type_of I Γ e)
  type_here = noted_here Y (length Y) I Γ e C S.noted

  module _ (h : 1 ≤ operand_count e) where
    -- and that of its first operand
    pub type_first : (get_or C 1 0 < length Y) × (type_at Y (get_or C 1 0) ≡ type_of I Γ (first_operand e))
    type_first =
        let x = noted_here Y (length Y) I Γ (first_operand e) (drop 1 C) (noted_first Y (length Y) I Γ e C h S.noted) in
        let q : get_or (drop 1 C) 0 0 ≡ get_or C 1 0 = get_or-drop 1 C 0 0 in
        (omega (arith, q, x.0), ap (type_at Y) (sym q) ∙ x.1)

    pub stands_first : (T' : List ℕ) (s' : State) → Variables Y N T' s' Δ
        → Stands (part 1 ks) (part 1 ns) (part 1 C) Y N T' s' I Γ Δ (first_operand e)
    stands_first T' s' v =
        stands_on T' s' 1 Γ Δ (first_operand e) (omega (arith, some_row ks ns (length I) (length Γ) e S.rows, S.rows.sizes)) (first_stands ks ns (length I) (length Γ) e S.rows h)
        (noted_first Y (length Y) I Γ e C h S.noted) S.named v

  -- the second of two that have the variables of the term, behind a rows of the first
  module _ (h : operand_count e ≡ 2) (a : ℕ) (ea : a ≡ length (term_rows (first_operand e))) where
    past_one : 1 + a ≤ length ns
    past_one = omega (arith, rows_fit, rows_of_two e h)

    noted_past : drop (length (term_rows (first_operand e))) (drop 1 C) ≡ drop (1 + a) C
    noted_past = drop-drop (length (term_rows (first_operand e))) 1 C ∙ ap (λ (i : ℕ). drop (1 + i) C) (sym ea)

    pub stands_second : second_opens e ≡ 0 → (T' : List ℕ) (s' : State) → Variables Y N T' s' Δ
        → Stands (part (1 + a) ks) (part (1 + a) ns) (part (1 + a) C) Y N T' s' I Γ Δ (second_operand e)
    stands_second q T' s' v =
        let w : length Γ + second_opens e ≡ length Γ = omega arith in
        stands_on T' s' (1 + a) Γ Δ (second_operand e) past_one
        (subst (λ (n : ℕ). TermStands (part (1 + a) ks) (part (1 + a) ns) (length I) n (second_operand e)) w (second_stands ks ns (length I) (length Γ) e S.rows (omega arith) a ea))
        (subst (λ (D : List ℕ). Noted Y (length Y) I Γ (second_operand e) D) noted_past (noted_second Y (length Y) I Γ e C (omega arith) q S.noted))
        S.named v

    -- the body of a map, whose variable is the element F
    pub stands_body : second_opens e ≡ 1 → (F : Expression) (T' : List ℕ) (s' : State) → Variables Y N T' s' (F ∷ Δ)
        → Stands (part (1 + a) ks) (part (1 + a) ns) (part (1 + a) C) Y N T' s' I (element (type_of I Γ (first_operand e)) ∷ Γ) (F ∷ Δ) (second_operand e)
    stands_body q F T' s' v =
        let Γ' : List DataType = element (type_of I Γ (first_operand e)) ∷ Γ in
        let w : length Γ + second_opens e ≡ length Γ' = omega arith in
        stands_on T' s' (1 + a) Γ' (F ∷ Δ) (second_operand e) past_one
        (subst (λ (n : ℕ). TermStands (part (1 + a) ks) (part (1 + a) ns) (length I) n (second_operand e)) w (second_stands ks ns (length I) (length Γ) e S.rows (omega arith) a ea))
        (subst (λ (D : List ℕ). Noted Y (length Y) I Γ' (second_operand e) D) noted_past (noted_body Y (length Y) I Γ e C q S.noted))
        (ap suc S.named) v

  -- the array of a reduction, behind a rows of the start, and the body, behind b rows of the array
  module _ (h : operand_count e ≡ 3) (a : ℕ) (ea : a ≡ length (term_rows (first_operand e))) where
    array_past : drop (length (term_rows (first_operand e))) (drop 1 C) ≡ drop (1 + a) C
    array_past = drop-drop (length (term_rows (first_operand e))) 1 C ∙ ap (λ (i : ℕ). drop (1 + i) C) (sym ea)

    pub type_array : second_opens e ≡ 0 → (get_or C (1 + a) 0 < length Y) × (type_at Y (get_or C (1 + a) 0) ≡ type_of I Γ (second_operand e))
    type_array q =
        let x = noted_here Y (length Y) I Γ (second_operand e) (drop (1 + a) C)
        (subst (λ (D : List ℕ). Noted Y (length Y) I Γ (second_operand e) D) array_past (noted_second Y (length Y) I Γ e C (omega arith) q S.noted)) in
        let j : 1 + a + 0 ≡ 1 + a = omega arith in
        let p : get_or (drop (1 + a) C) 0 0 ≡ get_or C (1 + a) 0 = get_or-drop (1 + a) C 0 0 ∙ ap (λ (i : ℕ). get_or C i 0) j in
        (omega (arith, p, x.0), ap (type_at Y) (sym p) ∙ x.1)

    pub stands_array : second_opens e ≡ 0 → (T' : List ℕ) (s' : State) → Variables Y N T' s' Δ
        → Stands (part (1 + a) ks) (part (1 + a) ns) (part (1 + a) C) Y N T' s' I Γ Δ (second_operand e)
    stands_array q T' s' v =
        let w : length Γ + second_opens e ≡ length Γ = omega arith in
        stands_on T' s' (1 + a) Γ Δ (second_operand e) (omega (arith, rows_fit, rows_of_three e (omega arith)))
        (subst (λ (n : ℕ). TermStands (part (1 + a) ks) (part (1 + a) ns) (length I) n (second_operand e)) w (second_stands ks ns (length I) (length Γ) e S.rows (omega arith) a ea))
        (subst (λ (D : List ℕ). Noted Y (length Y) I Γ (second_operand e) D) array_past (noted_second Y (length Y) I Γ e C (omega arith) q S.noted))
        S.named v

    -- its variables are the total G and the element F
    pub stands_round : (b : ℕ) → b ≡ length (term_rows (second_operand e)) → (G F : Expression) (T' : List ℕ) (s' : State) → Variables Y N T' s' (G ∷ F ∷ Δ)
        → Stands (part (1 + a + b) ks) (part (1 + a + b) ns) (part (1 + a + b) C) Y N T' s' I
        (type_of I Γ (first_operand e) ∷ element (type_of I Γ (second_operand e)) ∷ Γ) (G ∷ F ∷ Δ) (third_operand e)
    stands_round b eb G F T' s' v =
        let Γ' : List DataType = type_of I Γ (first_operand e) ∷ element (type_of I Γ (second_operand e)) ∷ Γ in
        let w : length Γ + 2 ≡ length Γ' = omega arith in
        let p : drop (length (term_rows (second_operand e))) (drop (length (term_rows (first_operand e))) (drop 1 C)) ≡ drop (1 + a + b) C
        = ap (drop (length (term_rows (second_operand e)))) array_past ∙ drop-drop (length (term_rows (second_operand e))) (1 + a) C ∙ ap (λ (i : ℕ). drop (1 + a + i) C) (sym eb) in
        stands_on T' s' (1 + a + b) Γ' (G ∷ F ∷ Δ) (third_operand e) (omega (arith, rows_fit, rows_of_three e (omega arith)))
        (subst (λ (n : ℕ). TermStands (part (1 + a + b) ks) (part (1 + a + b) ns) (length I) n (third_operand e)) w (third_stands ks ns (length I) (length Γ) e S.rows (omega arith) a b ea eb))
        (subst (λ (D : List ℕ). Noted Y (length Y) I Γ' (third_operand e) D) p (noted_third Y (length Y) I Γ e C (omega arith) S.noted))
        (ap (λ (n : ℕ). suc (suc n)) S.named) v
