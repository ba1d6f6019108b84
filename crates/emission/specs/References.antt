-- What the nodes of a table of references stand for: the expressions and acceptors (Figure 3 of the paper) that the translation reads
-- and writes ([6.2]). Every node of every table stands for something: one whose operands do not stand before it for nothing to speak
-- of. Definitions only; assumes nothing.
use Rattle.std.specs.Prelude.{cond, List, [], ◌∷◌, ◌++◌, ℕ, zero, suc, eqb, ltb, ℤ, pos, get_or}
use Rattle.arithmetic.specs.Arithmetic.{Operation}
use Rattle.words.specs.Kinds.{word_kind_in, word_lit, word_neg, word_add, word_sub, word_mul, word_div, word_min, word_out, word_loc}
use Rattle.words.specs.Groups.{is_operation}
use Rattle.meaning.specs.Types.{number}
use Rattle.meaning.specs.Loops.{Offset}
use Rattle.meaning.specs.Expressions.{Expression, Acceptor}
use Rattle.meaning.specs.Translation.{no_expression}
use Rattle.type_table.specs.Table.{type_at}
use Rattle.emission.specs.Nodes.{kind_in, type_in, number_in, left_in, right_in}
use Rattle.emission.specs.Changes.{change_of}
use Rattle.emission.specs.declared.paths.Change.{Change}
use Rattle.emission.specs.declared.paths.Change.TheVariants.{Zip, Pair, Ungrouped, Grouped, First, Second, AtLiteral, AtCounter, ZipFirst, ZipSecond, Unchanged}
use Rattle.emission.specs.declared.references.Class.{Class}
use Rattle.emission.specs.declared.references.Class.TheVariants.{Literal, Input, Region, Output, Negation, Operation as Operated, Rearranged}

-- Nodes over nodes before them: `make` says what a node is over what its two operands are.
module _ {A : Type 0} (nothing : A) (make : ℕ → A → A → A) where
  -- node i, over those before it
  abbrev pub node_over : List A → ℕ → ℕ → A
  node_over before w i =
      cond (ltb (left_in w) i)
      (cond (ltb (right_in w) i) (make w (get_or before (left_in w) nothing) (get_or before (right_in w) nothing)) nothing)
      nothing

  -- the first n nodes of a table
  unfoldable pub first_nodes : List ℕ → ℕ → List A
  first_nodes T zero = []
  first_nodes T (suc n) = first_nodes T n ++ (node_over (first_nodes T n) (get_or T n 0) n ∷ [])

  unfoldable pub node_at : List ℕ → ℕ → A
  node_at T i = node_over (first_nodes T i) (get_or T i 0) i

abbrev pub class_of : ℕ → Class
class_of k =
    cond (eqb k word_lit) Literal
    (cond (eqb k word_kind_in) Input
    (cond (eqb k word_loc) Region
    (cond (eqb k word_out) Output
    (cond (eqb k word_neg) Negation
    (cond (is_operation k) Operated
    Rearranged)))))

abbrev pub operation_of : ℕ → Operation
operation_of k =
    cond (eqb k word_add) Operation.addition
    (cond (eqb k word_sub) Operation.subtraction
    (cond (eqb k word_mul) Operation.multiplication
    (cond (eqb k word_div) Operation.division
    (cond (eqb k word_min) Operation.minimum
    Operation.maximum))))

-- Expressions, read: what can only be written stands for no expression. Y is the table of types, N the plan's numbers.
abbrev pub rearranged : Change → ℕ → Expression → Expression → Expression
rearranged Zip n E F = Expression.zip E F
rearranged Pair n E F = Expression.pair E F
rearranged Ungrouped n E F = Expression.split n E
rearranged Grouped n E F = Expression.join n E
rearranged First n E F = Expression.first E
rearranged Second n E F = Expression.second E
rearranged AtLiteral n E F = Expression.index E (Offset.literal n)
rearranged AtCounter n E F = Expression.index E (Offset.counter n)
rearranged ZipFirst n E F = no_expression
rearranged ZipSecond n E F = no_expression
rearranged Unchanged n E F = no_expression

abbrev pub expression_by : Class → List ℕ → List ℤ → ℕ → Expression → Expression → Expression
expression_by Literal Y N w E F = Expression.literal (get_or N (number_in w) (pos 0))
expression_by Input Y N w E F = Expression.input (number_in w) (type_at Y (type_in w))
expression_by Region Y N w E F = Expression.region (number_in w) (type_at Y (type_in w))
expression_by Output Y N w E F = no_expression
expression_by Negation Y N w E F = Expression.negate E
expression_by Operated Y N w E F = Expression.operation (operation_of (kind_in w)) E F
expression_by Rearranged Y N w E F = rearranged (change_of (kind_in w)) (number_in w) E F

abbrev pub expression_over : List ℕ → List ℤ → ℕ → Expression → Expression → Expression
expression_over Y N w E F = expression_by (class_of (kind_in w)) Y N w E F

abbrev pub expression_at : List ℕ → List ℤ → List ℕ → ℕ → Expression
expression_at Y N T i = node_at no_expression (expression_over Y N) T i

-- Acceptors, written: what can only be read stands for no acceptor. [6.22] A `split` is written through a `join`, and the other way.
-- [14.6] A region stands for both: it is written through its acceptor and read through its expression.
abbrev pub no_acceptor : Acceptor
no_acceptor = Acceptor.output number

abbrev pub written : Change → ℕ → Acceptor → Acceptor
written Zip n P = no_acceptor
written Pair n P = no_acceptor
written Ungrouped n P = Acceptor.join n P
written Grouped n P = Acceptor.split n P
written First n P = Acceptor.first P
written Second n P = Acceptor.second P
written AtLiteral n P = Acceptor.index P (Offset.literal n)
written AtCounter n P = Acceptor.index P (Offset.counter n)
written ZipFirst n P = Acceptor.zip_first P
written ZipSecond n P = Acceptor.zip_second P
written Unchanged n P = no_acceptor

abbrev pub acceptor_by : Class → List ℕ → ℕ → Acceptor → Acceptor
acceptor_by Literal Y w P = no_acceptor
acceptor_by Input Y w P = no_acceptor
acceptor_by Region Y w P = Acceptor.region (number_in w) (type_at Y (type_in w))
acceptor_by Output Y w P = Acceptor.output (type_at Y (type_in w))
acceptor_by Negation Y w P = no_acceptor
acceptor_by Operated Y w P = no_acceptor
acceptor_by Rearranged Y w P = written (change_of (kind_in w)) (number_in w) P

abbrev pub acceptor_over : List ℕ → ℕ → Acceptor → Acceptor → Acceptor
acceptor_over Y w P Q = acceptor_by (class_of (kind_in w)) Y w P

abbrev pub acceptor_at : List ℕ → List ℕ → ℕ → Acceptor
acceptor_at Y T i = node_at no_acceptor (acceptor_over Y) T i
