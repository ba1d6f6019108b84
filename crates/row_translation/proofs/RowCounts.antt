-- How many rows a term has, by the kinds of its rows: one law for each way out of `rows_of`. Assumes nothing.
use mathlib.Core.Path.{◌≡◌, ap, sym, ◌∙◌}
use mathlib.Core.Bool.{true, false}
use mathlib.Core.List.{List}
use Prim.Native.Nat.{ℕ, ◌+◌, ◌≤◌}
use native.Mathlib.Omega.{arith}
use lib.IntN.{ℤ}
use lib.ListN.{length, get_or}
use Rattle.words.specs.Kinds.{word_redseq}
use Rattle.meaning.specs.Terms.{Term}
use Rattle.meaning.specs.Rows.{term_rows}
use Rattle.syntax.specs.Standing.{TermStands, term_kind, operand_count, first_operand, second_operand, third_operand, second_opens}
use Rattle.syntax.proofs.Standing.{leaf_kind, some_operand, one_operand, two_operands, three_operands, its_kind, rows_within, some_row, first_stands}
use Rattle.syntax.proofs.Standing.{second_stands, third_stands, rows_of_none, rows_of_one, rows_of_two, rows_of_three}
use Rattle.syntax.proofs.Shapes.{two_at_most}
use Rattle.syntax.proofs.Front.{part, part_length}
use Rattle.words.specs.Groups.{is_leaf, has_one_operand}
use Rattle.row_translation.specs.WriteAndUse.{SomeRows, CountsRows}

module _ (ks : List ℕ) where
  -- one row
  pub leaf_counts : is_leaf (get_or ks 0 0) ≡ true → CountsRows ks 1
  leaf_counts h ns K v e S = sym (rows_of_none e (leaf_kind e (ap is_leaf (sym (its_kind ks ns K v e S)) ∙ h)))

  module _ (X : SomeRows ks) where
    here : get_or ks 0 0 ≡ term_kind X.term
    here = its_kind ks X.numbers X.inputs X.variables X.term X.stands

    pub rows_begin : 1 ≤ length ks
    rows_begin = some_row ks X.numbers X.inputs X.variables X.term X.stands

    module _ (l : is_leaf (get_or ks 0 0) ≡ false) where
      first_there : (ns : List ℤ) (K v : ℕ) (e : Term) → TermStands ks ns K v e → TermStands (part 1 ks) (part 1 ns) K v (first_operand e)
      first_there ns K v e S = first_stands ks ns K v e S (some_operand e (ap is_leaf (sym (its_kind ks ns K v e S)) ∙ l))

      -- some term stands behind the first row
      pub some_first : SomeRows (part 1 ks)
      some_first = record {
        numbers = part 1 X.numbers;
        inputs = X.inputs;
        variables = X.variables;
        term = first_operand X.term;
        stands = first_there X.numbers X.inputs X.variables X.term X.stands;
      }

      module _ (a : ℕ) (A : CountsRows (part 1 ks) a) where
        first_rows : (ns : List ℤ) (K v : ℕ) (e : Term) → TermStands ks ns K v e → a ≡ length (term_rows (first_operand e))
        first_rows ns K v e S = A (part 1 ns) K v (first_operand e) (first_there ns K v e S)

        pub first_within : 1 + a ≤ length ks
        first_within =
            omega (
              arith,
              rows_begin,
              first_rows X.numbers X.inputs X.variables X.term X.stands,
              rows_within (part 1 ks) (part 1 X.numbers) X.inputs X.variables (first_operand X.term)
                  (first_there X.numbers X.inputs X.variables X.term X.stands),
              part_length 1 ks,
            )

        pub one_counts : has_one_operand (get_or ks 0 0) ≡ true → CountsRows ks (1 + a)
        one_counts h ns K v e S =
            let c : operand_count e ≡ 1 = one_operand e (ap has_one_operand (sym (its_kind ks ns K v e S)) ∙ h) in
            omega (arith, first_rows ns K v e S, rows_of_one e c)

        module _ (h : has_one_operand (get_or ks 0 0) ≡ false) where
          two_there : (ns : List ℤ) (K v : ℕ) (e : Term) → TermStands ks ns K v e → 2 ≤ operand_count e
          two_there ns K v e S =
              let k = sym (its_kind ks ns K v e S) in
              two_operands e (some_operand e (ap is_leaf k ∙ l)) (ap has_one_operand k ∙ h)

          second_there : (ns : List ℤ) (K v : ℕ) (e : Term) → TermStands ks ns K v e
              → TermStands (part (1 + a) ks) (part (1 + a) ns) K (v + second_opens e) (second_operand e)
          second_there ns K v e S = second_stands ks ns K v e S (two_there ns K v e S) a (first_rows ns K v e S)

          -- and another behind the first operand
          pub some_second : SomeRows (part (1 + a) ks)
          some_second = record {
            numbers = part (1 + a) X.numbers;
            inputs = X.inputs;
            variables = X.variables + second_opens X.term;
            term = second_operand X.term;
            stands = second_there X.numbers X.inputs X.variables X.term X.stands;
          }

          module _ (b : ℕ) (B : CountsRows (part (1 + a) ks) b) where
            second_rows : (ns : List ℤ) (K v : ℕ) (e : Term) → TermStands ks ns K v e → b ≡ length (term_rows (second_operand e))
            second_rows ns K v e S = B (part (1 + a) ns) K (v + second_opens e) (second_operand e) (second_there ns K v e S)

            pub second_within : 1 + a + b ≤ length ks
            second_within =
                omega (
                  arith,
                  first_within,
                  second_rows X.numbers X.inputs X.variables X.term
                      X.stands,
                  rows_within (part (1 + a) ks) (part (1 + a) X.numbers) X.inputs
                      (X.variables + second_opens X.term) (second_operand X.term) (second_there X.numbers
                      X.inputs X.variables X.term X.stands),
                  part_length (1 + a) ks,
                )

            pub two_counts : (get_or ks 0 0 ≡ word_redseq → ⊥) → CountsRows ks (1 + a + b)
            two_counts x ns K v e S =
                let c : operand_count e ≡ 2 = omega (arith, two_at_most e (λ q. x (its_kind ks ns K v e S ∙ q)), two_there ns K v e S) in
                omega (arith, first_rows ns K v e S, second_rows ns K v e S, rows_of_two e c)

            module _ (q : get_or ks 0 0 ≡ word_redseq) where
              three_there : (ns : List ℤ) (K v : ℕ) (e : Term) → TermStands ks ns K v e → 3 ≤ operand_count e
              three_there ns K v e S = three_operands e (sym (its_kind ks ns K v e S) ∙ q)

              third_there : (ns : List ℤ) (K v : ℕ) (e : Term) → TermStands ks ns K v e
                  → TermStands (part (1 + a + b) ks) (part (1 + a + b) ns) K (v + 2) (third_operand e)
              third_there ns K v e S =
                  third_stands ks ns K v e S (three_there ns K v e S) a b (first_rows ns K v e S) (second_rows ns K v e S)

              -- and the body of a reduction behind both
              pub some_third : SomeRows (part (1 + a + b) ks)
              some_third = record {
                numbers = part (1 + a + b) X.numbers;
                inputs = X.inputs;
                variables = X.variables + 2;
                term = third_operand X.term;
                stands = third_there X.numbers X.inputs X.variables X.term X.stands;
              }

              module _ (d : ℕ) (D : CountsRows (part (1 + a + b) ks) d) where
                third_rows : (ns : List ℤ) (K v : ℕ) (e : Term) → TermStands ks ns K v e → d ≡ length (term_rows (third_operand e))
                third_rows ns K v e S = D (part (1 + a + b) ns) K (v + 2) (third_operand e) (third_there ns K v e S)

                pub third_within : 1 + a + b + d ≤ length ks
                third_within =
                    omega (
                      arith,
                      second_within,
                      third_rows X.numbers X.inputs X.variables X.term
                          X.stands,
                      rows_within (part (1 + a + b) ks) (part (1 + a + b) X.numbers) X.inputs
                          (X.variables + 2) (third_operand X.term) (third_there X.numbers X.inputs
                          X.variables X.term X.stands),
                      part_length (1 + a + b) ks,
                    )

                pub three_counts : CountsRows ks (1 + a + b + d)
                three_counts ns K v e S =
                    omega (arith, first_rows ns K v e S, second_rows ns K v e S, third_rows ns K v e S, rows_of_three e (three_there ns K v e S))
