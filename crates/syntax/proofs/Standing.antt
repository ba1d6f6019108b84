-- A term whose rows stand in front: its first row, and where its operands stand. Assumes nothing.
use Rattle.std.specs.Prelude.{Some}
use mathlib.Core.Path.{◌≡◌, refl, ap, sym, ◌∙◌}
use mathlib.Core.Bool.{true, false}
use mathlib.Core.List.{List, ◌∷◌, ◌++◌, append_assoc}
use Prim.Native.Nat.{ℕ, suc, ◌+◌, ◌≤◌}
use native.Mathlib.Nat.{add-zero}
use native.Mathlib.Omega.{arith}
use borrow.Author.Tests.{eqb-true, eqb-false, ne_eqb}
use lib.Dec.{eqb}
use lib.IntN.{ℤ, pos}
use lib.ListN.{length, get_or, drop, length-append}
use lib.Seq.{drop_at, drop-drop}
use Rattle.arithmetic.specs.Arithmetic.{Operation}
use Rattle.words.specs.Kinds.{Row, word_lit, word_redseq}
use Rattle.words.specs.Words.{table, operands_of}
use Rattle.words.specs.Groups.{counted, is_leaf, has_one_operand}
use Rattle.words.specs.declared.Sort.TheVariants as sort
use Rattle.words.proofs.Laws.{rows_length}
use Rattle.meaning.specs.Types.{Series}
use Rattle.meaning.specs.Terms.{LoopKind, Term}
use Rattle.meaning.specs.Rows.{operation_word, map_word, split_word, join_word, index_word, term_rows}
use Rattle.syntax.specs.Ranges.{as_natural}
use Rattle.syntax.specs.InRange.{TermInRange}
use Rattle.syntax.specs.Standing.{TermStands, Shape, none, one, two, three, view_of, count_in, first_in, second_in, opens_in}
use Rattle.syntax.specs.Standing.{term_kind, term_number, operand_count, first_operand, second_operand, third_operand, second_opens}
use Rattle.syntax.proofs.WalkSteps.{rows_part}
use Rattle.syntax.proofs.Front.{part, part_length, head_row}
use Rattle.syntax.proofs.Shapes.{Reduction, as_reduction}
use Rattle.syntax.proofs.TermRows.{rows_in, term_head, behind_first, first_rows, behind_second, second_rows, third_rows, none_behind, one_behind, two_behind}

-- ---- how many operands a term has: as many as the table lists for its first row's word

operation_listed : (o : Operation) → operands_of (operation_word o) sort.Term ≡ Some 2
unfolding operands_of table
operation_listed Operation.addition = refl
operation_listed Operation.subtraction = refl
operation_listed Operation.multiplication = refl
operation_listed Operation.division = refl
operation_listed Operation.minimum = refl
operation_listed Operation.maximum = refl

map_listed : (kind : LoopKind) → operands_of (map_word kind) sort.Term ≡ Some 2
unfolding operands_of table
map_listed LoopKind.parallel = refl
map_listed LoopKind.sequential = refl
map_listed LoopKind.lanes = refl

split_listed : (series : Series) → operands_of (split_word series) sort.Term ≡ Some 1
unfolding operands_of table
split_listed Series.arrays = refl
split_listed Series.vectors = refl

join_listed : (series : Series) → operands_of (join_word series) sort.Term ≡ Some 1
unfolding operands_of table
join_listed Series.arrays = refl
join_listed Series.vectors = refl

index_listed : (series : Series) → operands_of (index_word series) sort.Term ≡ Some 1
unfolding operands_of table
index_listed Series.arrays = refl
index_listed Series.vectors = refl

pub operands_listed : (e : Term) → operands_of (term_kind e) sort.Term ≡ Some (operand_count e)
unfolding operands_of table
operands_listed (Term.input k) = refl
operands_listed (Term.variable d) = refl
operands_listed (Term.literal v) = refl
operands_listed (Term.negate e) = refl
operands_listed (Term.operation o e f) = operation_listed o
operands_listed (Term.map kind a b) = map_listed kind
operands_listed (Term.reduce z a b) = refl
operands_listed (Term.zip a b) = refl
operands_listed (Term.pair a b) = refl
operands_listed (Term.split series n e) = split_listed series
operands_listed (Term.join series e) = join_listed series
operands_listed (Term.first e) = refl
operands_listed (Term.second e) = refl
operands_listed (Term.index series k e) = index_listed series

-- what the tests of its word tell
module _ (e : Term) where
  its_count : (n : ℕ) → counted n (operands_of (term_kind e) sort.Term) ≡ eqb (operand_count e) n
  its_count n = ap (counted n) (operands_listed e)

  pub leaf_kind : is_leaf (term_kind e) ≡ true → operand_count e ≡ 0
  leaf_kind h = eqb-true (operand_count e) 0 (sym (its_count 0) ∙ h)

  pub no_leaf : 1 ≤ operand_count e → is_leaf (term_kind e) ≡ false
  no_leaf h = its_count 0 ∙ ne_eqb (operand_count e) 0 (λ q. omega arith)

  pub no_literal : 1 ≤ operand_count e → term_kind e ≡ word_lit → ⊥
  unfolding operands_of table
  no_literal h q =
      let c : Some (operand_count e) ≡ Some 0 = sym (operands_listed e) ∙ ap (λ (k : ℕ). operands_of k sort.Term) q in
      let n : operand_count e ≡ 0 = cc in
      omega arith

  pub some_operand : is_leaf (term_kind e) ≡ false → 1 ≤ operand_count e
  some_operand h = let f = eqb-false (operand_count e) 0 (sym (its_count 0) ∙ h) in omega arith

  pub one_operand : has_one_operand (term_kind e) ≡ true → operand_count e ≡ 1
  one_operand h = eqb-true (operand_count e) 1 (sym (its_count 1) ∙ h)

  pub two_operands : 1 ≤ operand_count e → has_one_operand (term_kind e) ≡ false → 2 ≤ operand_count e
  two_operands h g = let f = eqb-false (operand_count e) 1 (sym (its_count 1) ∙ g) in omega arith

  pub three_operands : term_kind e ≡ word_redseq → 3 ≤ operand_count e
  unfolding operands_of table
  three_operands h =
      let q : Some (operand_count e) ≡ Some 3 = sym (operands_listed e) ∙ ap (λ (k : ℕ). operands_of k sort.Term) h in
      let n : operand_count e ≡ 3 = cc in
      omega arith

-- ---- numbers in range

abbrev OperandsInRange : ℕ → ℕ → Shape → Type 0
OperandsInRange K w none = Unit {0}
OperandsInRange K w (one a) = TermInRange K w a
OperandsInRange K w (two a m b) = TermInRange K w a × TermInRange K (w + m) b
OperandsInRange K w (three a b m c) = TermInRange K w a × TermInRange K w b × TermInRange K (w + m) c

operands_in_range : (K w : ℕ) (e : Term) → TermInRange K w e → OperandsInRange K w (view_of e).shape
operands_in_range K w (Term.input k) r = tt
operands_in_range K w (Term.variable d) r = tt
operands_in_range K w (Term.literal v) r = tt
operands_in_range K w (Term.negate e) r = r
operands_in_range K w (Term.operation o e f) r = (r.0, rw (add-zero w) r.1)
operands_in_range K w (Term.map kind a b) r = (r.1, r.2)
operands_in_range K w (Term.reduce z a b) r = (r.1, r.2, r.3)
operands_in_range K w (Term.zip a b) r = (r.0, rw (add-zero w) r.1)
operands_in_range K w (Term.pair a b) r = (r.0, rw (add-zero w) r.1)
operands_in_range K w (Term.split series n e) r = r.1
operands_in_range K w (Term.join series e) r = r
operands_in_range K w (Term.first e) r = r
operands_in_range K w (Term.second e) r = r
operands_in_range K w (Term.index series k e) r = r.1

module _ (K w : ℕ) (e : Term) where
  first_range : (s : Shape) → 1 ≤ count_in s → OperandsInRange K w s → TermInRange K w (first_in e s)
  first_range none h r = absurd (omega arith)
  first_range (one a) h r = r
  first_range (two a m b) h r = r.0
  first_range (three a b m c) h r = r.0

  second_range : (s : Shape) → 2 ≤ count_in s → OperandsInRange K w s → TermInRange K (w + opens_in s) (second_in e s)
  second_range none h r = absurd (omega arith)
  second_range (one a) h r = absurd (omega arith)
  second_range (two a m b) h r = r.1
  second_range (three a b m c) h r = rw (add-zero w) r.1

third_range : (K w : ℕ) {e : Term} → Reduction e → TermInRange K w e → TermInRange K (w + 2) (third_operand e)
third_range K w (Reduction.of z a b) r = r.3

-- ---- what stands in front

module _ (ks : List ℕ) (ns : List ℤ) (K v : ℕ) (e : Term) (S : TermStands ks ns K v e) where
  heads : (get_or ks 0 0 ≡ term_kind e) × (get_or ns 0 (pos 0) ≡ (view_of e).number)
  heads = head_row ks ns _ _ (S.rows ∙ ap (λ (R : List Row). R ++ S.rest) (term_head e))

  pub its_kind : get_or ks 0 0 ≡ term_kind e
  its_kind = heads.0

  pub its_number : as_natural (get_or ns 0 (pos 0)) ≡ term_number e
  its_number = ap as_natural heads.1

  pub rows_within : length (term_rows e) ≤ length ks
  rows_within =
      omega (arith, rows_length ks ns, S.sizes, ap length S.rows, length-append (term_rows e) S.rest)

  pub some_row : 1 ≤ length ks
  some_row = omega (arith, rows_within, ap length (term_head e))

  -- the rows from a row of the term on
  rows_on : (a : ℕ) (f : Term) (R : List Row) → drop a (term_rows e ++ S.rest) ≡ term_rows f ++ R
      → (w : ℕ) → TermInRange K w f → TermStands (part a ks) (part a ns) K w f
  rows_on a f R q w r = record {
    sizes = omega (arith, part_length a ks, part_length a ns, S.sizes);
    rest = R;
    rows = rows_part a ks ns ∙ ap (drop a) S.rows ∙ q;
    in_range = r;
  }

  -- behind the first row
  behind_head : term_rows e ++ S.rest ≡ (term_kind e, (view_of e).number) ∷ (rows_in (view_of e).shape ++ S.rest)
  behind_head = ap (λ (R : List Row). R ++ S.rest) (term_head e)

  module _ (h : 1 ≤ operand_count e) where
    behind_first_holds : rows_in (view_of e).shape ++ S.rest ≡ term_rows (first_operand e) ++ (behind_first e ++ S.rest)
    behind_first_holds =
        ap (λ (R : List Row). R ++ S.rest) (first_rows e h)
        ∙ append_assoc (term_rows (first_operand e)) (behind_first e) S.rest

    pub first_stands : TermStands (part 1 ks) (part 1 ns) K v (first_operand e)
    first_stands =
        rows_on 1 (first_operand e) (behind_first e ++ S.rest) (ap (drop 1) behind_head ∙ behind_first_holds) v (first_range K v e (view_of e).shape h (operands_in_range K v e S.in_range))

  module _ (h : 2 ≤ operand_count e) (a : ℕ) (ea : a ≡ length (term_rows (first_operand e))) where
    past_first : drop (1 + a) (term_rows e ++ S.rest) ≡ term_rows (second_operand e) ++ (behind_second e ++ S.rest)
    past_first =
        let q : 1 + a ≡ suc a = omega arith in
        ap (λ (i : ℕ). drop i (term_rows e ++ S.rest)) q
        ∙ ap (drop (suc a)) behind_head
        ∙ ap (drop a) (behind_first_holds (omega arith))
        ∙ drop_at (term_rows (first_operand e)) (behind_first e ++ S.rest) a (sym ea)
        ∙ ap (λ (R : List Row). R ++ S.rest) (second_rows e h)
        ∙ append_assoc (term_rows (second_operand e)) (behind_second e) S.rest

    pub second_stands : TermStands (part (1 + a) ks) (part (1 + a) ns) K (v + second_opens e) (second_operand e)
    second_stands = rows_on (1 + a) (second_operand e) (behind_second e ++ S.rest) past_first (v + second_opens e) (second_range K v e (view_of e).shape h (operands_in_range K v e S.in_range))

  module _ (h : 3 ≤ operand_count e) (a b : ℕ) (ea : a ≡ length (term_rows (first_operand e))) (eb : b ≡ length (term_rows (second_operand e))) where
    pub third_stands : TermStands (part (1 + a + b) ks) (part (1 + a + b) ns) K (v + 2) (third_operand e)
    third_stands =
        rows_on (1 + a + b) (third_operand e) S.rest
        (sym (drop-drop b (1 + a) (term_rows e ++ S.rest))
        ∙ ap (drop b) (past_first (omega arith) a ea)
        ∙ drop_at (term_rows (second_operand e)) (behind_second e ++ S.rest) b (sym eb)
        ∙ ap (λ (R : List Row). R ++ S.rest) (third_rows e h))
        (v + 2) (third_range K v (as_reduction e h) S.in_range)

-- ---- how many rows there are

module _ (e : Term) where
  pub rows_of_none : operand_count e ≡ 0 → length (term_rows e) ≡ 1
  rows_of_none h = ap length (term_head e) ∙ ap (λ (R : List Row). suc (length R)) (none_behind e h)

  rows_of_first : 1 ≤ operand_count e → length (term_rows e) ≡ 1 + length (term_rows (first_operand e)) + length (behind_first e)
  rows_of_first h =
      omega (arith, ap length (term_head e), ap length (first_rows e h), length-append (term_rows (first_operand e)) (behind_first e))

  pub rows_of_one : operand_count e ≡ 1 → length (term_rows e) ≡ 1 + length (term_rows (first_operand e))
  rows_of_one h = omega (arith, rows_of_first (omega arith), ap length (one_behind e h))

  pub rows_of_two : operand_count e ≡ 2 → length (term_rows e) ≡ 1 + length (term_rows (first_operand e)) + length (term_rows (second_operand e))
  rows_of_two h =
      omega (arith, rows_of_first (omega arith), ap length (second_rows e (omega arith)), length-append (term_rows (second_operand e)) (behind_second e), ap length (two_behind e h))

  pub rows_of_three : 3 ≤ operand_count e
      → length (term_rows e) ≡ 1 + length (term_rows (first_operand e)) + length (term_rows (second_operand e)) + length (term_rows (third_operand e))
  rows_of_three h =
      omega (arith, rows_of_first (omega arith), ap length (second_rows e (omega arith)), length-append (term_rows (second_operand e)) (behind_second e), ap length (third_rows e h))
