-- The steps of the recursion on a term's second operand, one law for each place in the code that asks one.
use mathlib.Core.Path.{◌≡◌, refl, ap, ap₂, sym, subst, ◌∙◌}
use mathlib.Core.Bool.{Bool, true, false, cond}
use mathlib.Core.List.{List, ◌∷◌}
use Prim.Native.Nat.{ℕ, suc, ◌+◌, ◌-◌, ◌*◌, ◌≤◌, ◌<◌}
use native.Mathlib.Omega.{arith}
use lib.IntN.{ℤ}
use lib.ListN.{length, get_or, set, drop}
use lib.Seq.{get_or-drop, drop-drop}
use Rattle.refusals.specs.declared.Refusal.{Refusal}
use Rattle.refusals.specs.declared.Refusal.TheVariants.{TypeMisfit}
use Rattle.words.specs.Kinds.{word_redseq}
use Rattle.meaning.specs.Types.{DataType, number, element}
use Rattle.meaning.specs.Terms.{Term}
use Rattle.meaning.specs.Typing.{type_of}
use Rattle.meaning.specs.Rows.{term_rows}
use Rattle.syntax.specs.InRange.{TermInRange}
use Rattle.syntax.specs.Standing.{TermStands, term_kind, operand_count, first_operand, second_operand, second_opens}
use Rattle.syntax.proofs.Standing.{its_kind, rows_within, some_row, second_stands, rows_of_two, three_operands}
use Rattle.syntax.proofs.Shapes.{Reduction, as_reduction, Map, as_map, two_at_most, opens_map, map_opens}
use Rattle.syntax.proofs.Front.{part, part_length}
use Rattle.type_table.specs.Table.{type_at, Sound}
use Rattle.type_table.specs.Laws.{sound_below}
use Rattle.type_table.specs.Columns.{Noted, behind_term}
use Rattle.typing.specs.Check.{typed, refused, check, behind}
use Rattle.words.specs.Groups.{one_of, is_map}
use Rattle.type_rules.specs.Rules.{Found, Grown, Room, opens_second, second_scope, binary_rule}
use Rattle.type_rules.specs.Scopes.{InForce}
use Rattle.row_typing.specs.Terms.{Stands, Place, Kept, TermFound, FirstTyped, SecondTyped, with_type}
use Rattle.std.specs.Prelude.{Result, Err}
use Rattle.type_rules.specs.declared.Typed.{Typed}
use Rattle.type_rules.specs.Rules.{type_found}
use Rattle.type_rules.specs.declared.scope.Scope.{Scope}
use Rattle.type_rules.proofs.Found.{room_grown}
use Rattle.row_typing.proofs.TermLaws.{checked_type, second_misfit, second_refused, row_of_two}
use Rattle.row_typing.proofs.NotedLaws.{noted_two, noted_on, noted_moved}
use Rattle.row_typing.proofs.TermAnswers.{operands_within, at_line, force_on, place_part, place_on, term_was_no, term_was, term_on, behind_set, noted_row}

-- ---- the names in force in the second operand

scope_count : (e : Term) (t : DataType) (Γ : List DataType) → length Γ + second_opens e ≡ length (second_scope (term_kind e) t Γ)
scope_count e t Γ = omega (arith, opens_map e, counted (is_map (term_kind e)))
  where
    counted : (b : Bool) → length Γ + cond b 1 0 ≡ length (cond b (element t ∷ Γ) Γ)
    counted true = omega arith
    counted false = omega arith

map_room : (K v : ℕ) {e : Term} → Map e → TermInRange K v e → v < 16
map_room K w (Map.of kind a b) r = omega (arith, r.0)

pub reduce_scope : {e : Term} (t : DataType) (Γ : List DataType) → Reduction e → second_scope (term_kind e) t Γ ≡ Γ
unfolding one_of
reduce_scope t Γ (Reduction.of z a b) = refl

-- ---- the steps

module _ (ks : List ℕ) (ns : List ℤ) (T : List ℕ) (m : ℕ) (C : List ℕ) (row : ℕ) (s : Scope) (p at : ℕ) (P : Place ks T m C row (2 * (suc (length ks) - at)))
    (I Γ : List DataType) (e : Term) (S : Stands ks ns T m s I Γ e) (Q : FirstTyped T m C row I Γ e p at) where
  kind_is : get_or ks 0 0 ≡ term_kind e
  kind_is = its_kind ks ns (length I) (length Γ) e S.term

  pub row_there : 1 ≤ length ks
  row_there = some_row ks ns (length I) (length Γ) e S.term

  pub row_inside : row < length C
  row_inside = omega (arith, row_there, P.column)

  rows_there : length (term_rows e) ≤ length ks
  rows_there = rows_within ks ns (length I) (length Γ) e S.term

  pub at_within : (1 ≤ at) × (at ≤ length ks)
  at_within = (omega (arith, Q.start), omega (arith, Q.start, operands_within e Q.two, rows_there))

  checked : check I Γ (first_operand e) (suc (row + 1)) ≡ typed (type_at T p)
  checked = at_line I Γ (first_operand e) (typed (type_at T p)) (row + 2) (suc (row + 1)) (omega arith) Q.checked

  first_type_holds : type_of I Γ (first_operand e) ≡ type_at T p
  first_type_holds = checked_type I Γ (first_operand e) (suc (row + 1)) (type_at T p) checked

  pub scope_ready : Sound T (suc p) × (is_map (get_or ks 0 0) ≡ true → s.count < 16) × (type_at T 0 ≡ number)
  scope_ready = (
    sound_below P.room.sound (omega (arith, Q.place)),
    λ h. omega
        (arith, map_room (length I) (length Γ) (as_map e (map_opens e (ap is_map (sym kind_is) ∙ h))) S.term.in_range, S.in_force.count),
    P.number,
  )

  opens_is : opens_second (term_kind e) (type_at T p) ≡ opens_second (get_or ks 0 0) (type_at T p)
  opens_is = ap (λ (k : ℕ). opens_second k (type_at T p)) (sym kind_is)

  pub closed_row : opens_second (get_or ks 0 0) (type_at T p) ≡ false → check I Γ e (row + 1) ≡ refused (TypeMisfit (row + 1))
  closed_row shut = second_misfit I Γ e (row + 1) (type_at T p) checked Q.two (opens_is ∙ shut)

  module _ (inner : Scope) (O : (opens_second (get_or ks 0 0) (type_at T p) ≡ true)
      × ((m : ℕ) (I Γ : List DataType) → p < m → InForce T m s I Γ → InForce T m inner I (second_scope (get_or ks 0 0) (type_at T p) Γ))) where
    opens : opens_second (term_kind e) (type_at T p) ≡ true
    opens = opens_is ∙ O.0

    pub variables : List DataType
    variables = second_scope (term_kind e) (type_at T p) Γ

    pub operand_stands : Stands (part at ks) (part at ns) T m inner I variables (second_operand e)
    unfolding variables
    operand_stands = record {
      term =
          subst (λ (v : ℕ). TermStands (part at ks) (part at ns) (length I) v (second_operand e)) (scope_count e (type_at T p) Γ)
          (subst (λ (x : ℕ). TermStands (part x ks) (part x ns) (length I) (length Γ + second_opens e) (second_operand e)) (sym Q.start)
          (second_stands ks ns (length I) (length Γ) e S.term Q.two (length (term_rows (first_operand e))) refl));
      in_force =
          subst (λ (k : ℕ). InForce T m inner I (second_scope k (type_at T p) Γ)) kind_is (O.1 m I Γ Q.place S.in_force);
    }

    pub operand_place : Place (part at ks) T m C (row + at) (2 * length (part at ks))
    operand_place = place_part at (2 * length (part at ks)) P at_within.1 (omega (arith, part_length at ks))

    -- the second operand's answer
    module _ (U D : List ℕ) (r : Result Typed Refusal)
        (F : (I Γ : List DataType) (e : Term) → Stands (part at ks) (part at ns) T m inner I Γ e
        → TermFound T m C U D (row + at) I Γ e (m + 2 * length (term_rows e)) (check I Γ e (row + at + 1)) r) where
      lines : row + at + 1 ≡ behind (first_operand e) (suc (row + 1))
      lines = omega (arith, Q.start)

      pub operand_no : (q : Refusal) → r ≡ Err q → check I Γ e (row + 1) ≡ refused q
      unfolding variables
      operand_no q h =
          second_refused I Γ e (row + 1) (type_at T p) checked opens q Q.two
          (at_line I variables (second_operand e) (refused q) (row + at + 1) (behind (first_operand e) (suc (row + 1))) lines
          (term_was_no T m C U D (row + at) I variables (second_operand e) _ _ r q h (F I variables (second_operand e) operand_stands)))

      module _ (q b l : ℕ) (h : r ≡ type_found q b l) where
        found : Found T m U (m + 2 * length (term_rows (second_operand e))) (length (term_rows (second_operand e))) (check I variables (second_operand e) (row + at + 1)) (type_found q b l)
            × Noted U l I variables (second_operand e) (drop (row + at) D) × Kept C D (row + at) (length (term_rows (second_operand e)))
        found = term_was T m C U D (row + at) I variables (second_operand e) _ _ r q b l h (F I variables (second_operand e) operand_stands)

        operand_rows : b ≡ length (term_rows (second_operand e))
        operand_rows = found.0.1

        grown : Grown T m U l
        grown = found.0.4

        pub places : (p < l) × (q < l)
        places = (omega (arith, Q.place, grown.more), found.0.2)

        few_types : l ≤ m + 2 * b
        few_types = omega (arith, found.0.3, operand_rows)

        pub last_within : at + b ≤ length ks
        last_within = omega (arith, Q.start, operand_rows, operands_within e Q.two, rows_there)

        pub column_kept : length D ≡ length C
        column_kept = found.2.size

        first_kept : type_at U p ≡ type_at T p
        first_kept = grown.kept p Q.place

        second_checked : check I variables (second_operand e) (behind (first_operand e) (suc (row + 1))) ≡ typed (type_at U q)
        second_checked =
            at_line I variables (second_operand e) (typed (type_at U q)) (row + at + 1) (behind (first_operand e) (suc (row + 1))) lines found.0.0

        first_noted : Noted U l I Γ (first_operand e) (drop (row + 1) D)
        first_noted = noted_on grown I Γ (first_operand e) (drop (row + 1) C) (drop (row + 1) D)
            (record { same = λ i k. get_or-drop (row + 1) D i 0 ∙ found.2.before (row + 1 + i) (omega (arith, Q.start)) ∙ sym (get_or-drop (row + 1) C i 0) })
            Q.noted

        second_noted : Noted U l I variables (second_operand e) (behind_term (first_operand e) (drop (row + 1) D))
        second_noted =
            let k : row + at ≡ row + 1 + length (term_rows (first_operand e)) = omega (arith, Q.start) in
            subst (Noted U l I variables (second_operand e))
            (ap (λ (i : ℕ). drop i D) k ∙ sym (drop-drop (length (term_rows (first_operand e))) (row + 1) D)) found.1

        -- a row of two operands
        module _ (other : get_or ks 0 0 ≡ word_redseq → ⊥) where
          just_two : operand_count e ≡ 2
          just_two = let k = two_at_most e (λ g. other (kind_is ∙ g)) in omega (arith, Q.two)

          pub binary_ready : Room U l 2 × (p < l) × (q < l)
          binary_ready = (
            room_grown (2 * (suc (length ks) - at)) 2 P.room grown (omega (arith, few_types, last_within)),
            places.0,
            places.1,
          )

          pub binary_row : (X : List ℕ) (answer r' : Result Typed Refusal) (E : List ℕ)
              → Found U l X (l + 2) (at + b) (binary_rule (get_or ks 0 0) (row + 1) (type_at U p) (type_at U q)) answer → r' ≡ answer → E ≡ with_type D row answer
              → TermFound T m C X E row I Γ e (m + 2 * (suc (length (term_rows e)) - at)) (check I Γ e (row + 1)) r'
          unfolding variables
          binary_row X answer r' E F' f g =
              let total = rows_of_two e just_two in
              noted_row T m C U l D X row I Γ e (m + 2 * (suc (length (term_rows e)) - at)) (l + 2)
              (binary_rule (get_or ks 0 0) (row + 1) (type_at U p) (type_at U q)) grown (omega (arith, few_types, operand_rows, Q.start))
              (row_of_two I Γ e (row + 1) (type_at T p) checked opens (type_at U q) second_checked just_two
              ∙ ap₂ (λ (k : ℕ) (t : DataType). binary_rule k (row + 1) t (type_at U q)) (sym kind_is) (sym first_kept))
              (record {
                size = found.2.size;
                before = λ i k. found.2.before i (omega arith);
                behind = λ i k. found.2.behind i (omega (arith, Q.start));
              })
              row_inside
              (λ z j G N. noted_two X j I Γ (drop row (set D row z)) e N just_two
              (noted_moved G I Γ (first_operand e) (drop (row + 1) D) (drop 1 (drop row (set D row z))) (behind_set D row z) first_noted)
              (subst
              (λ (t : DataType). Noted X j I (second_scope (term_kind e) t Γ) (second_operand e) (behind_term (first_operand e) (drop 1 (drop row (set D row z)))))
              (sym first_type_holds)
              (noted_moved G I variables (second_operand e) (behind_term (first_operand e) (drop (row + 1) D))
              (behind_term (first_operand e) (drop 1 (drop row (set D row z)))) (ap (drop (length (term_rows (first_operand e)))) (behind_set D row z)) second_noted)))
              answer r' E (at + b) (omega (arith, Q.start, operand_rows)) F' f g

        -- a reduction
        module _ (reduction : get_or ks 0 0 ≡ word_redseq) where
          just_three : 3 ≤ operand_count e
          just_three = three_operands e (sym kind_is ∙ reduction)

          plain : variables ≡ Γ
          unfolding variables
          plain = reduce_scope (type_at T p) Γ (as_reduction e just_three)

          pub still_stands : Stands ks ns U l s I Γ e
          still_stands = record { term = S.term; in_force = force_on grown S.in_force }

          pub second_typed : SecondTyped U l D row I Γ e p q (at + b)
          second_typed = record {
            three = just_three;
            start = omega (arith, Q.start, operand_rows);
            place = places.0;
            array = places.1;
            checked = Q.checked ∙ ap typed (sym first_kept);
            array_checked =
                subst (λ (Δ : List DataType). check I Δ (second_operand e) (row + 2 + length (term_rows (first_operand e))) ≡ typed (type_at U q)) plain
                (at_line I variables (second_operand e) (typed (type_at U q)) (row + at + 1) (row + 2 + length (term_rows (first_operand e))) (omega (arith, Q.start)) found.0.0);
            noted = first_noted;
            array_noted =
                subst (λ (Δ : List DataType). Noted U l I Δ (second_operand e) (behind_term (first_operand e) (drop (row + 1) D))) plain second_noted;
          }

          pub body_place : Place ks U l D row (2 * (suc (length ks) - (at + b)))
          body_place = place_on (2 * (suc (length ks) - at)) _ P grown column_kept (omega (arith, few_types, last_within))

          pub body_row : (X E : List ℕ) (r' : Result Typed Refusal)
              → TermFound U l D X E row I Γ e (l + 2 * (suc (length (term_rows e)) - (at + b))) (check I Γ e (row + 1)) r'
              → TermFound T m C X E row I Γ e (m + 2 * (suc (length (term_rows e)) - at)) (check I Γ e (row + 1)) r'
          body_row X E r' F' =
              let w = operands_within e Q.two in
              term_on T m C U l D X E row I Γ e (m + 2 * (suc (length (term_rows e)) - at)) (l + 2 * (suc (length (term_rows e)) - (at + b)))
              (row + at) (length (term_rows (second_operand e))) (check I Γ e (row + 1)) r' grown found.2 (omega arith) (omega (arith, w, Q.start))
              (omega (arith, few_types, operand_rows, w, Q.start)) F'
