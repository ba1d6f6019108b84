-- What it is that rows stand at the front of kinds and numbers; a term's first row and its operands. Definitions only;
-- assumes nothing.
use Rattle.std.specs.Prelude.{◌≡◌, List, ◌++◌, ℕ, ℤ, pos, length}
use Rattle.words.specs.Kinds.{Row, rows_of, word_kind_in, word_var, word_lit, word_neg, word_redseq, word_zip, word_pair, word_fst, word_snd}
use Rattle.meaning.specs.Terms.{Term}
use Rattle.meaning.specs.Rows.{operation_word, map_word, split_word, join_word, index_word, term_rows}
use Rattle.syntax.specs.Ranges.{as_natural}
use Rattle.syntax.specs.InRange.{TermInRange}

-- these rows stand at the front of a table
pub record Begins (kinds : List ℕ) (numbers : List ℤ) (rows : List Row) : Type 0 where
  pub behind : List Row
  pub front : rows_of kinds numbers ≡ rows ++ behind

-- the rows of the term e stand in front, with numbers in range where so many inputs and variables are in force
pub record TermStands (ks : List ℕ) (ns : List ℤ) (inputs variables : ℕ) (e : Term) : Type 0 where
  pub sizes : length ks ≡ length ns
  pub rest : List Row
  pub rows : rows_of ks ns ≡ term_rows e ++ rest
  pub in_range : TermInRange inputs variables e

-- ---- a term by its first row and its operands

-- Its operands, in the order of their rows [1.7], and how many variables more are in force in the last of two or three.
pub data Shape : Type 0 where
  none : Shape
  one : Term → Shape
  two : Term → ℕ → Term → Shape
  three : Term → Term → ℕ → Term → Shape

-- Its first row's kind and number, and its operands.
pub record View : Type 0 where
  pub kind : ℕ
  pub number : ℤ
  pub shape : Shape

abbrev row : ℕ → ℤ → Shape → View
row k n s = record { kind = k; number = n; shape = s }

-- [3.9] A map's body has one variable of its own, [3.10] that of a reduction two.
abbrev pub view_of : Term → View
view_of (Term.input k) = row word_kind_in (pos k) none
view_of (Term.variable d) = row word_var (pos d) none
view_of (Term.literal v) = row word_lit v none
view_of (Term.negate e) = row word_neg (pos 0) (one e)
view_of (Term.operation o e f) = row (operation_word o) (pos 0) (two e 0 f)
view_of (Term.map kind a b) = row (map_word kind) (pos 0) (two a 1 b)
view_of (Term.reduce z a b) = row word_redseq (pos 0) (three z a 2 b)
view_of (Term.zip a b) = row word_zip (pos 0) (two a 0 b)
view_of (Term.pair a b) = row word_pair (pos 0) (two a 0 b)
view_of (Term.split series n e) = row (split_word series) (pos n) (one e)
view_of (Term.join series e) = row (join_word series) (pos 0) (one e)
view_of (Term.first e) = row word_fst (pos 0) (one e)
view_of (Term.second e) = row word_snd (pos 0) (one e)
view_of (Term.index series k e) = row (index_word series) (pos k) (one e)

abbrev pub term_kind : Term → ℕ
term_kind e = (view_of e).kind

abbrev pub term_number : Term → ℕ
term_number e = as_natural (view_of e).number

abbrev pub count_in : Shape → ℕ
count_in none = 0
count_in (one a) = 1
count_in (two a m b) = 2
count_in (three a b m c) = 3

abbrev pub operand_count : Term → ℕ
operand_count e = count_in (view_of e).shape

-- its operands; of a term that has no such operand, the term itself
abbrev pub first_in : Term → Shape → Term
first_in e none = e
first_in e (one a) = a
first_in e (two a m b) = a
first_in e (three a b m c) = a

abbrev pub first_operand : Term → Term
first_operand e = first_in e (view_of e).shape

abbrev pub second_in : Term → Shape → Term
second_in e none = e
second_in e (one a) = e
second_in e (two a m b) = b
second_in e (three a b m c) = b

abbrev pub second_operand : Term → Term
second_operand e = second_in e (view_of e).shape

abbrev pub third_in : Term → Shape → Term
third_in e none = e
third_in e (one a) = e
third_in e (two a m b) = e
third_in e (three a b m c) = c

abbrev pub third_operand : Term → Term
third_operand e = third_in e (view_of e).shape

-- how many variables more are in force in the second operand
abbrev pub opens_in : Shape → ℕ
opens_in none = 0
opens_in (one a) = 0
opens_in (two a m b) = m
opens_in (three a b m c) = 0

abbrev pub second_opens : Term → ℕ
second_opens e = opens_in (view_of e).shape
