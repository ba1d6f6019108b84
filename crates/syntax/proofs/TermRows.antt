-- A term's rows: the first of them, and behind it those of its operands. Assumes nothing.
use mathlib.Core.Path.{◌≡◌, refl, sym}
use mathlib.Core.List.{List, [], ◌∷◌, ◌++◌, append-nil}
use Prim.Native.Nat.{◌≤◌}
use native.Mathlib.Omega.{arith}
use Rattle.words.specs.Kinds.{Row}
use Rattle.meaning.specs.Terms.{Term}
use Rattle.meaning.specs.Rows.{term_rows}
use Rattle.syntax.specs.Standing.{Shape, none, one, two, three, view_of, count_in, first_in, second_in, third_in}
use Rattle.syntax.specs.Standing.{term_kind, operand_count, first_operand, second_operand, third_operand}

-- the rows of operands
unfoldable pub rows_in : Shape → List Row
rows_in none = []
rows_in (one a) = term_rows a
rows_in (two a m b) = term_rows a ++ term_rows b
rows_in (three a b m c) = term_rows a ++ (term_rows b ++ term_rows c)

pub term_head : (e : Term) → term_rows e ≡ (term_kind e, (view_of e).number) ∷ rows_in (view_of e).shape
unfolding term_rows rows_in
term_head (Term.input k) = refl
term_head (Term.variable d) = refl
term_head (Term.literal v) = refl
term_head (Term.negate e) = refl
term_head (Term.operation o e f) = refl
term_head (Term.map kind a b) = refl
term_head (Term.reduce z a b) = refl
term_head (Term.zip a b) = refl
term_head (Term.pair a b) = refl
term_head (Term.split series n e) = refl
term_head (Term.join series e) = refl
term_head (Term.first e) = refl
term_head (Term.second e) = refl
term_head (Term.index series k e) = refl

-- those behind the first operand, and behind the second
abbrev pub behind_one_in : Shape → List Row
behind_one_in none = []
behind_one_in (one a) = []
behind_one_in (two a m b) = term_rows b
behind_one_in (three a b m c) = term_rows b ++ term_rows c

abbrev pub behind_first : Term → List Row
behind_first e = behind_one_in (view_of e).shape

abbrev pub behind_two_in : Shape → List Row
behind_two_in none = []
behind_two_in (one a) = []
behind_two_in (two a m b) = []
behind_two_in (three a b m c) = term_rows c

abbrev pub behind_second : Term → List Row
behind_second e = behind_two_in (view_of e).shape

module _ (e : Term) where
  first_of : (s : Shape) → 1 ≤ count_in s → rows_in s ≡ term_rows (first_in e s) ++ behind_one_in s
  unfolding rows_in
  first_of none h = absurd (omega arith)
  first_of (one a) h = sym (append-nil (term_rows a))
  first_of (two a m b) h = refl
  first_of (three a b m c) h = refl

  second_of_holds : (s : Shape) → 2 ≤ count_in s → behind_one_in s ≡ term_rows (second_in e s) ++ behind_two_in s
  second_of_holds none h = absurd (omega arith)
  second_of_holds (one a) h = absurd (omega arith)
  second_of_holds (two a m b) h = sym (append-nil (term_rows b))
  second_of_holds (three a b m c) h = refl

  third_of : (s : Shape) → 3 ≤ count_in s → behind_two_in s ≡ term_rows (third_in e s)
  third_of none h = absurd (omega arith)
  third_of (one a) h = absurd (omega arith)
  third_of (two a m b) h = absurd (omega arith)
  third_of (three a b m c) h = refl

none_left : (s : Shape) → count_in s ≡ 0 → rows_in s ≡ []
unfolding rows_in
none_left none h = refl
none_left (one a) h = absurd (omega arith)
none_left (two a m b) h = absurd (omega arith)
none_left (three a b m c) h = absurd (omega arith)

one_left : (s : Shape) → count_in s ≡ 1 → behind_one_in s ≡ []
one_left none h = refl
one_left (one a) h = refl
one_left (two a m b) h = absurd (omega arith)
one_left (three a b m c) h = absurd (omega arith)

two_left : (s : Shape) → count_in s ≡ 2 → behind_two_in s ≡ []
two_left none h = refl
two_left (one a) h = refl
two_left (two a m b) h = refl
two_left (three a b m c) h = absurd (omega arith)

module _ (e : Term) where
  pub first_rows : 1 ≤ operand_count e → rows_in (view_of e).shape ≡ term_rows (first_operand e) ++ behind_first e
  first_rows h = first_of e (view_of e).shape h

  pub second_rows : 2 ≤ operand_count e → behind_first e ≡ term_rows (second_operand e) ++ behind_second e
  second_rows h = second_of_holds e (view_of e).shape h

  pub third_rows : 3 ≤ operand_count e → behind_second e ≡ term_rows (third_operand e)
  third_rows h = third_of e (view_of e).shape h

  -- nothing behind the last operand
  pub none_behind : operand_count e ≡ 0 → rows_in (view_of e).shape ≡ []
  none_behind h = none_left (view_of e).shape h

  pub one_behind : operand_count e ≡ 1 → behind_first e ≡ []
  one_behind h = one_left (view_of e).shape h

  pub two_behind : operand_count e ≡ 2 → behind_second e ≡ []
  two_behind h = two_left (view_of e).shape h
