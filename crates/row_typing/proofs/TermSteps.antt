-- The steps of the recursion on a term's first row and first operand, one law for each place in the code that asks one.
use mathlib.Core.Path.{◌≡◌, refl, ap, ap₂, sym, subst, ◌∙◌}
use mathlib.Core.Bool.{true, false}
use mathlib.Core.List.{List}
use Prim.Native.Nat.{ℕ, suc, ◌+◌, ◌-◌, ◌*◌, ◌≤◌, ◌<◌}
use native.Mathlib.Omega.{arith}
use lib.IntN.{ℤ, pos}
use lib.ListN.{length, get_or, set, drop}
use Rattle.refusals.specs.declared.Refusal.{Refusal}
use Rattle.words.specs.Kinds.{word_kind_in, word_var, word_split, word_asvec}
use Rattle.words.specs.Groups.{is_leaf, has_one_operand}
use Rattle.meaning.specs.Types.{DataType, Series, number}
use Rattle.meaning.specs.Limits.{IsWidth, TypeWithin}
use Rattle.meaning.specs.Terms.{Term}
use Rattle.meaning.specs.Typing.{type_of}
use Rattle.meaning.specs.Rows.{term_rows}
use Rattle.syntax.specs.Ranges.{as_natural}
use Rattle.syntax.specs.InRange.{TermInRange}
use Rattle.syntax.specs.Standing.{term_kind, term_number, operand_count, first_operand}
use Rattle.syntax.proofs.Standing.{its_kind, its_number, rows_within, some_row, leaf_kind, some_operand, one_operand, two_operands, first_stands, rows_of_none, rows_of_one}
use Rattle.syntax.proofs.Shapes.{Leaf, as_leaf}
use Rattle.syntax.proofs.Front.{part, part_length}
use Rattle.type_table.specs.Table.{type_at}
use Rattle.type_table.specs.Columns.{Names, Noted}
use Rattle.typing.specs.Check.{typed, refused, check}
use Rattle.type_rules.specs.Rules.{Found, Grown, Room, unary_rule}
use Rattle.type_rules.specs.Scopes.{InForce}
use Rattle.row_typing.specs.Terms.{Stands, Place, Kept, TermFound, FirstTyped, leaf_place, with_type}
use Rattle.std.specs.Prelude.{Result, Err}
use Rattle.type_rules.specs.declared.Typed.{Typed}
use Rattle.type_rules.specs.Rules.{type_found}
use Rattle.type_rules.specs.declared.scope.Scope.{Scope}
use Rattle.type_rules.proofs.Found.{found_type, grown_same, within_sized, room_grown}
use Rattle.row_typing.proofs.TermLaws.{first_refused, row_of_one}
use Rattle.row_typing.proofs.NotedLaws.{noted_none, noted_one, noted_moved}
use Rattle.row_typing.proofs.TermAnswers.{at_line, force_on, place_on, operands_within, term_was_no, term_was, term_on, behind_set, noted_row}

-- ---- numbers in range

in-number : (K v : ℕ) {e : Term} → Leaf e → term_kind e ≡ word_kind_in → TermInRange K v e → term_number e < K
in-number K w (Leaf.input k) g r = r
in-number K w (Leaf.variable d) g r = absurd (omega arith)
in-number K w (Leaf.literal v) g r = absurd (omega arith)

var_number : (K v : ℕ) {e : Term} → Leaf e → term_kind e ≡ word_var → TermInRange K v e → term_number e < v
var_number K w (Leaf.input k) g r = absurd (omega arith)
var_number K w (Leaf.variable d) g r = r
var_number K w (Leaf.literal v) g r = absurd (omega arith)

-- the length of a group, [13.19] and the width of a vector
group_number : (K v : ℕ) (e : Term) → operand_count e ≡ 1 → TermInRange K v e
    → (term_kind e ≡ word_split → (1 ≤ term_number e) × (term_number e ≤ 4096)) × (term_kind e ≡ word_asvec → IsWidth (term_number e))
group_number K w (Term.input k) h r = absurd (omega arith)
group_number K w (Term.variable d) h r = absurd (omega arith)
group_number K w (Term.literal v) h r = absurd (omega arith)
group_number K w (Term.negate e) h r = (λ g. absurd (omega arith), λ g. absurd (omega arith))
group_number K w (Term.operation o e f) h r = absurd (omega arith)
group_number K w (Term.map kind a b) h r = absurd (omega arith)
group_number K w (Term.reduce z a b) h r = absurd (omega arith)
group_number K w (Term.zip a b) h r = absurd (omega arith)
group_number K w (Term.pair a b) h r = absurd (omega arith)
group_number K w (Term.split Series.arrays n e) h r = (λ g. r.0, λ g. absurd (omega arith))
group_number K w (Term.split Series.vectors n e) h r = (λ g. absurd (omega arith), λ g. r.0)
group_number K w (Term.join Series.arrays e) h r = (λ g. absurd (omega arith), λ g. absurd (omega arith))
group_number K w (Term.join Series.vectors e) h r = (λ g. absurd (omega arith), λ g. absurd (omega arith))
group_number K w (Term.first e) h r = (λ g. absurd (omega arith), λ g. absurd (omega arith))
group_number K w (Term.second e) h r = (λ g. absurd (omega arith), λ g. absurd (omega arith))
group_number K w (Term.index Series.arrays k e) h r = (λ g. absurd (omega arith), λ g. absurd (omega arith))
group_number K w (Term.index Series.vectors k e) h r = (λ g. absurd (omega arith), λ g. absurd (omega arith))

-- ---- a row without operands

leaf_checked : (I Γ : List DataType) {e : Term} (line : ℕ) → Leaf e → TypeWithin (type_of I Γ e) → check I Γ e line ≡ typed (type_of I Γ e)
unfolding check
leaf_checked I Γ line (Leaf.input k) w = within_sized line (type_of I Γ (Term.input k)) w
leaf_checked I Γ line (Leaf.variable d) w = within_sized line (type_of I Γ (Term.variable d)) w
leaf_checked I Γ line (Leaf.literal v) w = within_sized line (type_of I Γ (Term.literal v)) w

module _ (T : List ℕ) (m : ℕ) (s : Scope) (I Γ : List DataType) (F : InForce T m s I Γ) (some : 1 ≤ m) (zero : type_at T 0 ≡ number) where
  leaf_names : {e : Term} (n : ℕ) → Leaf e → TermInRange (length I) (length Γ) e → n ≡ term_number e → Names T m (leaf_place (term_kind e) n s) (type_of I Γ e)
  leaf_names i (Leaf.input k) r g = subst (λ (x : ℕ). Names T m (get_or s.inputs x 0) (get_or I k number)) (sym g) (F.inputs k r)
  leaf_names i (Leaf.variable d) r g = subst (λ (x : ℕ). Names T m (get_or s.variables (s.count - (x + 1)) 0) (get_or Γ d number)) (sym g) (F.variables d r)
  leaf_names i (Leaf.literal v) r g = (some, zero)

module _ (ks : List ℕ) (ns : List ℤ) (T : List ℕ) (m : ℕ) (C : List ℕ) (row : ℕ) (s : Scope) (P : Place ks T m C row (2 * length ks))
    (I Γ : List DataType) (e : Term) (S : Stands ks ns T m s I Γ e) where
  kind_is : get_or ks 0 0 ≡ term_kind e
  kind_is = its_kind ks ns (length I) (length Γ) e S.term

  pub row_there : 1 ≤ length ks
  row_there = some_row ks ns (length I) (length Γ) e S.term

  pub row_inside : row < length C
  row_inside = omega (arith, row_there, P.column)

  -- a row without operands
  module _ (small : is_leaf (get_or ks 0 0) ≡ true) (n : ℕ) (read : n ≡ as_natural (get_or ns 0 (pos 0))) where
    no_operand : operand_count e ≡ 0
    no_operand = leaf_kind e (ap is_leaf (sym kind_is) ∙ small)

    its_leaf : Leaf e
    its_leaf = as_leaf e no_operand

    number_is : n ≡ term_number e
    number_is = read ∙ its_number ks ns (length I) (length Γ) e S.term

    pub leaf_ready : (get_or ks 0 0 ≡ word_kind_in → n < 8) × (get_or ks 0 0 ≡ word_var → n < s.count) × (s.count ≤ 16)
    leaf_ready = (
      (λ h. let q : term_kind e ≡ word_kind_in = sym kind_is ∙ h in
          omega (arith, number_is, in-number (length I) (length Γ) its_leaf q S.term.in_range, S.in_force.few)),
      (λ h. let q : term_kind e ≡ word_var = sym kind_is ∙ h in
          omega (arith, number_is, var_number (length I) (length Γ) its_leaf q S.term.in_range, S.in_force.count)),
      S.in_force.deep,
    )

    leaf_place_holds : Names T m (leaf_place (get_or ks 0 0) n s) (type_of I Γ e)
    leaf_place_holds =
        subst (λ (k : ℕ). Names T m (leaf_place k n s) (type_of I Γ e)) (sym kind_is)
        (leaf_names T m s I Γ S.in_force P.some P.number n its_leaf S.term.in_range number_is)

    pub leaf_small : (p : ℕ) → p ≡ leaf_place (get_or ks 0 0) n s → p < 65536
    leaf_small p h = omega (arith, leaf_place_holds.0, P.room.few)

    pub leaf_row : (p : ℕ) (r : Result Typed Refusal) (E : List ℕ) → p ≡ leaf_place (get_or ks 0 0) n s → r ≡ type_found p 1 m → E ≡ with_type C row (type_found p 1 m)
        → TermFound T m C T E row I Γ e (m + 2 * length (term_rows e)) (check I Γ e (row + 1)) r
    leaf_row p r E h f g =
        let there : Names T m p (type_of I Γ e) = subst (λ (x : ℕ). Names T m x (type_of I Γ e)) (sym h) leaf_place_holds in
        let within : TypeWithin (type_of I Γ e) = subst TypeWithin there.1 (P.room.sound.each p there.0).within in
        noted_row T m C T m C T row I Γ e (m + 2 * length (term_rows e)) m (typed (type_at T p)) (grown_same P.room.sound) (omega arith)
        (leaf_checked I Γ (row + 1) its_leaf within ∙ ap typed (sym there.1))
        (record { size = refl; before = λ i l. refl; behind = λ i l. refl }) row_inside
        (λ q j G N. noted_none T j I Γ (drop row (set C row q)) e N no_operand)
        (type_found p 1 m) r E 1 (sym (rows_of_none e no_operand))
        (found_type T m m 1 (typed (type_at T p)) p P.room.sound there.0 (omega arith) refl) f g

  -- ---- the first operand
  module _ (big : is_leaf (get_or ks 0 0) ≡ false) where
    has_operand : 1 ≤ operand_count e
    has_operand = some_operand e (ap is_leaf (sym kind_is) ∙ big)

    pub operand_stands : Stands (part 1 ks) (part 1 ns) T m s I Γ (first_operand e)
    operand_stands = record { term = first_stands ks ns (length I) (length Γ) e S.term has_operand; in_force = S.in_force }

    -- its answer
    module _ (U D : List ℕ) (r : Result Typed Refusal)
        (F : (I Γ : List DataType) (e : Term) → Stands (part 1 ks) (part 1 ns) T m s I Γ e
        → TermFound T m C U D (row + 1) I Γ e (m + 2 * length (term_rows e)) (check I Γ e (row + 1 + 1)) r) where
      pub operand_no : (q : Refusal) → r ≡ Err q → check I Γ e (row + 1) ≡ refused q
      operand_no q h =
          first_refused I Γ e (row + 1) q has_operand
          (at_line I Γ (first_operand e) (refused q) (row + 1 + 1) (suc (row + 1)) (omega arith)
          (term_was_no T m C U D (row + 1) I Γ (first_operand e) _ _ r q h (F I Γ (first_operand e) operand_stands)))

      module _ (p a l : ℕ) (h : r ≡ type_found p a l) where
        found : Found T m U (m + 2 * length (term_rows (first_operand e))) (length (term_rows (first_operand e))) (check I Γ (first_operand e) (row + 1 + 1)) (type_found p a l)
            × Noted U l I Γ (first_operand e) (drop (row + 1) D) × Kept C D (row + 1) (length (term_rows (first_operand e)))
        found = term_was T m C U D (row + 1) I Γ (first_operand e) _ _ r p a l h (F I Γ (first_operand e) operand_stands)

        pub operand_rows : a ≡ length (term_rows (first_operand e))
        operand_rows = found.0.1

        pub operand_place : p < l
        operand_place = found.0.2

        grown : Grown T m U l
        grown = found.0.4

        few_types : l ≤ m + 2 * a
        few_types = omega (arith, found.0.3, operand_rows)

        pub operand_within : 1 + a ≤ length ks
        operand_within =
            omega (arith, operand_rows, row_there, part_length 1 ks, rows_within (part 1 ks) (part 1 ns) (length I) (length Γ) (first_operand e) operand_stands.term)

        pub column_kept : length D ≡ length C
        column_kept = found.2.size

        checked : check I Γ (first_operand e) (suc (row + 1)) ≡ typed (type_at U p)
        checked = at_line I Γ (first_operand e) (typed (type_at U p)) (row + 1 + 1) (suc (row + 1)) (omega arith) found.0.0

        -- a row of one operand
        module _ (one : has_one_operand (get_or ks 0 0) ≡ true) (n : ℕ) (read : n ≡ as_natural (get_or ns 0 (pos 0))) where
          one_more : operand_count e ≡ 1
          one_more = one_operand e (ap has_one_operand (sym kind_is) ∙ one)

          its_own : n ≡ term_number e
          its_own = read ∙ its_number ks ns (length I) (length Γ) e S.term

          pub unary_ready : Room U l 2 × (p < l) × (get_or ks 0 0 ≡ word_split → (1 ≤ n) × (n ≤ 4096)) × (get_or ks 0 0 ≡ word_asvec → IsWidth n)
              × (type_at U 0 ≡ number)
          unary_ready =
              let b = group_number (length I) (length Γ) e one_more S.term.in_range in (
                room_grown (2 * length ks) 2 P.room grown (omega (arith, few_types, operand_within)),
                operand_place,
                λ k. let x = b.0 (sym kind_is ∙ k) in (omega (arith, its_own, x.0), omega (arith, its_own, x.1)),
                λ k. subst IsWidth (sym its_own) (b.1 (sym kind_is ∙ k)),
                grown.kept 0 P.some ∙ P.number,
              )

          pub unary_row : (X : List ℕ) (answer r' : Result Typed Refusal) (E : List ℕ)
              → Found U l X (l + 2) (1 + a) (unary_rule (get_or ks 0 0) n (row + 1) (type_at U p)) answer → r' ≡ answer → E ≡ with_type D row answer
              → TermFound T m C X E row I Γ e (m + 2 * length (term_rows e)) (check I Γ e (row + 1)) r'
          unary_row X answer r' E F' f g =
              let rows : 1 + a ≡ length (term_rows e) = omega (arith, operand_rows, rows_of_one e one_more) in
              noted_row T m C U l D X row I Γ e (m + 2 * length (term_rows e)) (l + 2) (unary_rule (get_or ks 0 0) n (row + 1) (type_at U p)) grown
              (omega (arith, few_types))
              (row_of_one I Γ e (row + 1) (type_at U p) checked one_more
              ∙ ap₂ (λ (k i : ℕ). unary_rule k i (row + 1) (type_at U p)) (sym kind_is) (sym its_own))
              (record { size = found.2.size; before = λ i k. found.2.before i (omega arith); behind = λ i k. found.2.behind i (omega (arith, operand_rows)) })
              row_inside
              (λ q j G N. noted_one X j I Γ (drop row (set D row q)) e N one_more
              (noted_moved G I Γ (first_operand e) (drop (row + 1) D) (drop 1 (drop row (set D row q))) (behind_set D row q) found.1))
              answer r' E (1 + a) rows F' f g

        -- a row of two operands or three
        module _ (more : has_one_operand (get_or ks 0 0) ≡ false) where
          two_more : 2 ≤ operand_count e
          two_more = two_operands e has_operand (ap has_one_operand (sym kind_is) ∙ more)

          pub still_stands : Stands ks ns U l s I Γ e
          still_stands = record { term = S.term; in_force = force_on grown S.in_force }

          pub first_typed : FirstTyped U l D row I Γ e p (1 + a)
          first_typed = record {
            two = two_more;
            start = omega (arith, operand_rows);
            place = operand_place;
            checked = at_line I Γ (first_operand e) (typed (type_at U p)) (suc (row + 1)) (row + 2) (omega arith) checked;
            noted = found.1;
          }

          pub second_place : Place ks U l D row (2 * (suc (length ks) - (1 + a)))
          second_place = place_on (2 * length ks) _ P grown column_kept (omega (arith, few_types, operand_within))

          pub second_row : (X E : List ℕ) (r' : Result Typed Refusal)
              → TermFound U l D X E row I Γ e (l + 2 * (suc (length (term_rows e)) - (1 + a))) (check I Γ e (row + 1)) r'
              → TermFound T m C X E row I Γ e (m + 2 * length (term_rows e)) (check I Γ e (row + 1)) r'
          second_row X E r' F' =
              let w = operands_within e two_more in
              term_on T m C U l D X E row I Γ e (m + 2 * length (term_rows e)) (l + 2 * (suc (length (term_rows e)) - (1 + a)))
              (row + 1) (length (term_rows (first_operand e))) (check I Γ e (row + 1)) r' grown found.2 (omega arith) (omega (arith, w))
              (omega (arith, few_types, operand_rows, w)) F'
