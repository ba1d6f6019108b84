-- The steps of the recursion on the body of a reduction, one law for each place in the code that asks one.
use mathlib.Core.Path.{◌≡◌, refl, ap, ap₂, sym, subst, ◌∙◌}
use mathlib.Core.Bool.{true, false}
use mathlib.Core.List.{List, ◌∷◌}
use Prim.Native.Nat.{ℕ, suc, ◌+◌, ◌-◌, ◌*◌, ◌≤◌, ◌<◌}
use native.Mathlib.Omega.{arith}
use lib.IntN.{ℤ}
use lib.ListN.{length, set, drop}
use lib.Seq.{get_or-drop, drop-drop}
use Rattle.refusals.specs.declared.Refusal.{Refusal}
use Rattle.refusals.specs.declared.Refusal.TheVariants.{TypeMisfit}
use Rattle.words.specs.Groups.{one_of}
use Rattle.meaning.specs.Types.{DataType, element}
use Rattle.meaning.specs.Terms.{Term}
use Rattle.meaning.specs.Typing.{type_of}
use Rattle.meaning.specs.Rows.{term_rows}
use Rattle.syntax.specs.InRange.{TermInRange}
use Rattle.syntax.specs.Standing.{TermStands, term_kind, first_operand, second_operand, third_operand}
use Rattle.syntax.proofs.Standing.{rows_within, some_row, third_stands, rows_of_three}
use Rattle.syntax.proofs.Shapes.{Reduction, as_reduction}
use Rattle.syntax.proofs.Front.{part, part_length}
use Rattle.type_table.specs.Table.{type_at, Sound}
use Rattle.type_table.specs.Laws.{sound_below}
use Rattle.type_table.specs.Columns.{Noted, behind_term}
use Rattle.typing.specs.Check.{typed, refused, check, behind, is_array}
use Rattle.type_rules.specs.Rules.{Found, Grown, Room, opens_second, second_scope, reduce_rule}
use Rattle.type_rules.specs.Scopes.{InForce}
use Rattle.row_typing.specs.Terms.{Stands, Place, Kept, TermFound, SecondTyped, with_type}
use Rattle.std.specs.Prelude.{Result, Err}
use Rattle.type_rules.specs.declared.Typed.{Typed}
use Rattle.type_rules.specs.Rules.{type_found}
use Rattle.type_rules.specs.declared.scope.Scope.{Scope}
use Rattle.type_rules.proofs.Found.{room_grown}
use Rattle.row_typing.proofs.TermLaws.{checked_type, body_misfit, body_refused, row_of_three}
use Rattle.row_typing.proofs.NotedLaws.{noted_three, noted_on, noted_moved}
use Rattle.row_typing.proofs.TermAnswers.{at_line, place_part, term_was_no, term_was, behind_set, noted_row}
use Rattle.row_typing.proofs.SecondSteps.{reduce_scope}

reduce_room : (K v : ℕ) {e : Term} → Reduction e → TermInRange K v e → v < 15
reduce_room K w (Reduction.of z a b) r = omega (arith, r.0)

reduce_opens : {e : Term} (t : DataType) → Reduction e → opens_second (term_kind e) t ≡ true
unfolding one_of
reduce_opens t (Reduction.of z a b) = refl

module _ (ks : List ℕ) (ns : List ℤ) (T : List ℕ) (m : ℕ) (C : List ℕ) (row : ℕ) (s : Scope) (p q at : ℕ) (P : Place ks T m C row (2 * (suc (length ks) - at)))
    (I Γ : List DataType) (e : Term) (S : Stands ks ns T m s I Γ e) (Q : SecondTyped T m C row I Γ e p q at) where
  row_there : 1 ≤ length ks
  row_there = some_row ks ns (length I) (length Γ) e S.term

  pub row_inside : row < length C
  row_inside = omega (arith, row_there, P.column)

  rows_there : length (term_rows e) ≤ length ks
  rows_there = rows_within ks ns (length I) (length Γ) e S.term

  total : length (term_rows e) ≡ at + length (term_rows (third_operand e))
  total = omega (arith, Q.start, rows_of_three e Q.three)

  pub at_within : (1 ≤ at) × (at ≤ length ks)
  at_within = (omega (arith, Q.start), omega (arith, total, rows_there))

  checked : check I Γ (first_operand e) (suc (row + 1)) ≡ typed (type_at T p)
  checked = at_line I Γ (first_operand e) (typed (type_at T p)) (row + 2) (suc (row + 1)) (omega arith) Q.checked

  array_checked_holds : check I (second_scope (term_kind e) (type_at T p) Γ) (second_operand e) (behind (first_operand e) (suc (row + 1))) ≡ typed (type_at T q)
  array_checked_holds =
      subst (λ (Δ : List DataType). check I Δ (second_operand e) (behind (first_operand e) (suc (row + 1))) ≡ typed (type_at T q))
      (sym (reduce_scope (type_at T p) Γ (as_reduction e Q.three)))
      (at_line I Γ (second_operand e) (typed (type_at T q)) (row + 2 + length (term_rows (first_operand e))) (behind (first_operand e) (suc (row + 1))) (omega arith)
      Q.array_checked)

  opens : opens_second (term_kind e) (type_at T p) ≡ true
  opens = reduce_opens (type_at T p) (as_reduction e Q.three)

  start_type : type_of I Γ (first_operand e) ≡ type_at T p
  start_type = checked_type I Γ (first_operand e) (row + 2) (type_at T p) Q.checked

  array_type : type_of I Γ (second_operand e) ≡ type_at T q
  array_type = checked_type I Γ (second_operand e) (row + 2 + length (term_rows (first_operand e))) (type_at T q) Q.array_checked

  pub scope_ready : Sound T (suc p) × Sound T (suc q) × (s.count < 15)
  scope_ready = (
    sound_below P.room.sound (omega (arith, Q.place)),
    sound_below P.room.sound (omega (arith, Q.array)),
    omega (arith, reduce_room (length I) (length Γ) (as_reduction e Q.three) S.term.in_range, S.in_force.count),
  )

  pub closed_row : is_array (type_at T q) ≡ false → check I Γ e (row + 1) ≡ refused (TypeMisfit (row + 1))
  closed_row shut = body_misfit I Γ e (row + 1) (type_at T p) checked opens (type_at T q) array_checked_holds Q.three shut

  module _ (inner : Scope) (O : (is_array (type_at T q) ≡ true)
      × ((m : ℕ) (I Γ : List DataType) → p < m → q < m → InForce T m s I Γ → InForce T m inner I (type_at T p ∷ element (type_at T q) ∷ Γ))) where
    over_array : is_array (type_at T q) ≡ true
    over_array = O.0

    pub operand_stands : Stands (part at ks) (part at ns) T m inner I (type_at T p ∷ element (type_at T q) ∷ Γ) (third_operand e)
    operand_stands =
        let k : length Γ + 2 ≡ length (type_at T p ∷ element (type_at T q) ∷ Γ) = omega arith in
        record {
          term =
              subst (λ (v : ℕ). TermStands (part at ks) (part at ns) (length I) v (third_operand e)) k
              (subst (λ (x : ℕ). TermStands (part x ks) (part x ns) (length I) (length Γ + 2) (third_operand e)) (sym Q.start)
              (third_stands ks ns (length I) (length Γ) e S.term Q.three (length (term_rows (first_operand e))) (length (term_rows (second_operand e))) refl refl));
          in_force = O.1 m I Γ Q.place Q.array S.in_force;
        }

    pub operand_place : Place (part at ks) T m C (row + at) (2 * length (part at ks))
    operand_place = place_part at (2 * length (part at ks)) P at_within.1 (omega (arith, part_length at ks))

    -- the body's answer
    module _ (U D : List ℕ) (r : Result Typed Refusal)
        (F : (I Γ : List DataType) (e : Term) → Stands (part at ks) (part at ns) T m inner I Γ e
        → TermFound T m C U D (row + at) I Γ e (m + 2 * length (term_rows e)) (check I Γ e (row + at + 1)) r) where
      lines : row + at + 1 ≡ behind (second_operand e) (behind (first_operand e) (suc (row + 1)))
      lines = omega (arith, Q.start)

      pub operand_no : (z : Refusal) → r ≡ Err z → check I Γ e (row + 1) ≡ refused z
      operand_no z h =
          body_refused I Γ e (row + 1) (type_at T p) checked opens (type_at T q) array_checked_holds Q.three z over_array
          (at_line I (type_at T p ∷ element (type_at T q) ∷ Γ) (third_operand e) (refused z) (row + at + 1) (behind (second_operand e) (behind (first_operand e) (suc (row + 1)))) lines
          (term_was_no T m C U D (row + at) I (type_at T p ∷ element (type_at T q) ∷ Γ) (third_operand e) _ _ r z h
          (F I (type_at T p ∷ element (type_at T q) ∷ Γ) (third_operand e) operand_stands)))

      module _ (u c l : ℕ) (h : r ≡ type_found u c l) where
        found : Found T m U (m + 2 * length (term_rows (third_operand e))) (length (term_rows (third_operand e)))
            (check I (type_at T p ∷ element (type_at T q) ∷ Γ) (third_operand e) (row + at + 1)) (type_found u c l)
            × Noted U l I (type_at T p ∷ element (type_at T q) ∷ Γ) (third_operand e) (drop (row + at) D) × Kept C D (row + at) (length (term_rows (third_operand e)))
        found = term_was T m C U D (row + at) I (type_at T p ∷ element (type_at T q) ∷ Γ) (third_operand e) _ _ r u c l h
            (F I (type_at T p ∷ element (type_at T q) ∷ Γ) (third_operand e) operand_stands)

        operand_rows : c ≡ length (term_rows (third_operand e))
        operand_rows = found.0.1

        grown : Grown T m U l
        grown = found.0.4

        few_types : l ≤ m + 2 * c
        few_types = omega (arith, found.0.3, operand_rows)

        pub last_within : at + c ≤ length ks
        last_within = omega (arith, total, operand_rows, rows_there)

        pub column_kept : length D ≡ length C
        column_kept = found.2.size

        start_kept : type_at U p ≡ type_at T p
        start_kept = grown.kept p Q.place

        -- what stood before the body's rows
        earlier : (f : Term) (Δ : List DataType) (a : ℕ) → a + length (term_rows f) ≤ row + at → Noted T m I Δ f (drop a C) → Noted U l I Δ f (drop a D)
        earlier f Δ a k N = noted_on grown I Δ f (drop a C) (drop a D)
            (record { same = λ i j. get_or-drop a D i 0 ∙ found.2.before (a + i) (omega arith) ∙ sym (get_or-drop a C i 0) }) N

        second_from : (Y : List ℕ) → behind_term (first_operand e) (drop (row + 1) Y) ≡ drop (row + 1 + length (term_rows (first_operand e))) Y
        second_from Y = drop-drop (length (term_rows (first_operand e))) (row + 1) Y

        start_noted : Noted U l I Γ (first_operand e) (drop (row + 1) D)
        start_noted = earlier (first_operand e) Γ (row + 1) (omega (arith, Q.start)) Q.noted

        array_noted_holds : Noted U l I Γ (second_operand e) (behind_term (first_operand e) (drop (row + 1) D))
        array_noted_holds =
            subst (Noted U l I Γ (second_operand e)) (sym (second_from D))
            (earlier (second_operand e) Γ (row + 1 + length (term_rows (first_operand e))) (omega (arith, Q.start))
            (subst (Noted T m I Γ (second_operand e)) (second_from C) Q.array_noted))

        body_noted : Noted U l I (type_at T p ∷ element (type_at T q) ∷ Γ) (third_operand e) (behind_term (second_operand e) (behind_term (first_operand e) (drop (row + 1) D)))
        body_noted =
            let k : row + at ≡ row + 1 + length (term_rows (first_operand e)) + length (term_rows (second_operand e)) = omega (arith, Q.start) in
            subst (Noted U l I (type_at T p ∷ element (type_at T q) ∷ Γ) (third_operand e))
            (ap (λ (i : ℕ). drop i D) k
            ∙ sym (drop-drop (length (term_rows (second_operand e))) (row + 1 + length (term_rows (first_operand e))) D)
            ∙ ap (drop (length (term_rows (second_operand e)))) (sym (second_from D)))
            found.1

        pub reduce_ready : Room U l 0 × (p < l) × (u < l)
        reduce_ready = (
          room_grown (2 * (suc (length ks) - at)) 0 P.room grown (omega (arith, few_types, last_within)),
          omega (arith, Q.place, grown.more),
          found.0.2,
        )

        pub reduce_row : (answer r' : Result Typed Refusal) (E : List ℕ)
            → Found U l U l (at + c) (reduce_rule (row + 1) (type_at U p) (type_at U u)) answer → r' ≡ answer → E ≡ with_type D row answer
            → TermFound T m C U E row I Γ e (m + 2 * (suc (length (term_rows e)) - at)) (check I Γ e (row + 1)) r'
        reduce_row answer r' E F' f g =
            noted_row T m C U l D U row I Γ e (m + 2 * (suc (length (term_rows e)) - at)) l (reduce_rule (row + 1) (type_at U p) (type_at U u)) grown
            (omega (arith, few_types, operand_rows, total))
            (row_of_three I Γ e (row + 1) (type_at T p) checked opens (type_at T q) array_checked_holds Q.three (type_at U u) over_array
            (at_line I (type_at T p ∷ element (type_at T q) ∷ Γ) (third_operand e) (typed (type_at U u))
            (row + at + 1) (behind (second_operand e) (behind (first_operand e) (suc (row + 1)))) lines
            found.0.0)
            ∙ ap (λ (t : DataType). reduce_rule (row + 1) t (type_at U u)) (sym start_kept))
            (record {
              size = found.2.size;
              before = λ i k. found.2.before i (omega arith);
              behind = λ i k. found.2.behind i (omega (arith, total));
            })
            row_inside
            (λ z j G N. noted_three U j I Γ (drop row (set D row z)) e N Q.three
            (noted_moved G I Γ (first_operand e) (drop (row + 1) D) (drop 1 (drop row (set D row z))) (behind_set D row z) start_noted)
            (subst
            (λ (Δ : List DataType). Noted U j I Δ (second_operand e) (behind_term (first_operand e) (drop 1 (drop row (set D row z)))))
            (sym (reduce_scope (type_of I Γ (first_operand e)) Γ (as_reduction e Q.three)))
            (noted_moved G I Γ (second_operand e) (behind_term (first_operand e) (drop (row + 1) D)) (behind_term (first_operand e) (drop 1 (drop row (set D row z))))
            (ap (drop (length (term_rows (first_operand e)))) (behind_set D row z)) array_noted_holds))
            (subst
            (λ (Δ : List DataType). Noted U j I Δ (third_operand e) (behind_term (second_operand e) (behind_term (first_operand e) (drop 1 (drop row (set D row z))))))
            (ap₂ (λ (x y : DataType). x ∷ element y ∷ Γ) (sym start_type) (sym array_type))
            (noted_moved G I (type_at T p ∷ element (type_at T q) ∷ Γ) (third_operand e) (behind_term (second_operand e) (behind_term (first_operand e) (drop (row + 1) D)))
            (behind_term (second_operand e) (behind_term (first_operand e) (drop 1 (drop row (set D row z)))))
            (ap (λ (Y : List ℕ). drop (length (term_rows (second_operand e))) (drop (length (term_rows (first_operand e))) Y)) (behind_set D row z)) body_noted)))
            answer r' E (at + c) (omega (arith, total, operand_rows)) F' f g
