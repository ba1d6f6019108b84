-- The literals of terms, of what is read, and of commands. Assumes nothing.
use mathlib.Core.List.{List, [], ◌∷◌, ◌++◌}
use Rattle.std.specs.Prelude.{ℕ, suc, ℤ}
use Rattle.words.specs.Kinds.{Row}
use Rattle.lines.specs.Printing.{Each}
use Rattle.meaning.specs.Types.{DataType, number, array, vector}
use Rattle.meaning.specs.Terms.{Term, Plan}
use Rattle.meaning.specs.Paths.{Path, index, first, second, by_part, tail}
use Rattle.meaning.specs.Loops.{Offset, Value, Command, seq, loop, new}
use Rattle.meaning.specs.Expressions.{Expression, Acceptor}
use Rattle.meaning.specs.Offsets.{read_at, value_from_innermost, ungrouped, grouped, unzipped}
use Rattle.meaning.specs.Rows.{term_rows, all_type_rows, plan_rows}
use Rattle.meaning.specs.Translation.{assign_number, assign}

module _ (P : ℤ → Type 0) where
  -- P holds of every literal
  abbrev pub TermLiterals : Term → Type 0
  TermLiterals (Term.input k) = Unit {0}
  TermLiterals (Term.variable d) = Unit {0}
  TermLiterals (Term.literal v) = P v
  TermLiterals (Term.negate e) = TermLiterals e
  TermLiterals (Term.operation o e f) = TermLiterals e × TermLiterals f
  TermLiterals (Term.map kind a b) = TermLiterals a × TermLiterals b
  TermLiterals (Term.reduce z a b) = TermLiterals z × TermLiterals a × TermLiterals b
  TermLiterals (Term.zip a b) = TermLiterals a × TermLiterals b
  TermLiterals (Term.pair a b) = TermLiterals a × TermLiterals b
  TermLiterals (Term.split series n e) = TermLiterals e
  TermLiterals (Term.join series e) = TermLiterals e
  TermLiterals (Term.first e) = TermLiterals e
  TermLiterals (Term.second e) = TermLiterals e
  TermLiterals (Term.index series k e) = TermLiterals e

  abbrev pub ExpressionLiterals : Expression → Type 0
  ExpressionLiterals (Expression.input k t) = Unit {0}
  ExpressionLiterals (Expression.region l t) = Unit {0}
  ExpressionLiterals (Expression.literal v) = P v
  ExpressionLiterals (Expression.negate E) = ExpressionLiterals E
  ExpressionLiterals (Expression.operation o E F) = ExpressionLiterals E × ExpressionLiterals F
  ExpressionLiterals (Expression.zip E F) = ExpressionLiterals E × ExpressionLiterals F
  ExpressionLiterals (Expression.pair E F) = ExpressionLiterals E × ExpressionLiterals F
  ExpressionLiterals (Expression.split n E) = ExpressionLiterals E
  ExpressionLiterals (Expression.join n E) = ExpressionLiterals E
  ExpressionLiterals (Expression.first E) = ExpressionLiterals E
  ExpressionLiterals (Expression.second E) = ExpressionLiterals E
  ExpressionLiterals (Expression.index E i) = ExpressionLiterals E

  abbrev pub ValueLiterals : Value → Type 0
  ValueLiterals (Value.input k o) = Unit {0}
  ValueLiterals (Value.region d o) = Unit {0}
  ValueLiterals (Value.literal v) = P v
  ValueLiterals (Value.negate v) = ValueLiterals v
  ValueLiterals (Value.operation o v w) = ValueLiterals v × ValueLiterals w

  abbrev pub CommandLiterals : Command → Type 0
  CommandLiterals (Command.assignment p v) = ValueLiterals v
  CommandLiterals (seq c d) = CommandLiterals c × CommandLiterals d
  CommandLiterals (loop kind n b) = CommandLiterals b
  CommandLiterals (new n b) = CommandLiterals b

  -- ---- the literals of a term stand in its rows

  each_append : (a b : List Row) → Each (λ (r : Row). P r.1) (a ++ b) → Each (λ (r : Row). P r.1) a × Each (λ (r : Row). P r.1) b
  unfolding Each
  each_append [] b h = (tt, h)
  each_append (r ∷ a) b h = let g = each_append a b h.1 in ((h.0, g.0), g.1)

  pub row_literals : (e : Term) → Each (λ (r : Row). P r.1) (term_rows e) → TermLiterals e
  unfolding Each term_rows
  row_literals (Term.input k) h = tt
  row_literals (Term.variable d) h = tt
  row_literals (Term.literal v) h = h.0
  row_literals (Term.negate e) h = row_literals e h.1
  row_literals (Term.operation o e f) h =
      let g = each_append (term_rows e) (term_rows f) h.1 in (row_literals e g.0, row_literals f g.1)
  row_literals (Term.map kind a b) h =
      let g = each_append (term_rows a) (term_rows b) h.1 in (row_literals a g.0, row_literals b g.1)
  row_literals (Term.reduce z a b) h =
      let g = each_append (term_rows z) (term_rows a ++ term_rows b) h.1 in
      let k = each_append (term_rows a) (term_rows b) g.1 in
      (row_literals z g.0, row_literals a k.0, row_literals b k.1)
  row_literals (Term.zip a b) h =
      let g = each_append (term_rows a) (term_rows b) h.1 in (row_literals a g.0, row_literals b g.1)
  row_literals (Term.pair a b) h =
      let g = each_append (term_rows a) (term_rows b) h.1 in (row_literals a g.0, row_literals b g.1)
  row_literals (Term.split series n e) h = row_literals e h.1
  row_literals (Term.join series e) h = row_literals e h.1
  row_literals (Term.first e) h = row_literals e h.1
  row_literals (Term.second e) h = row_literals e h.1
  row_literals (Term.index series k e) h = row_literals e h.1

  pub plan_literals : (Q : Plan) → Each (λ (r : Row). P r.1) (plan_rows Q) → TermLiterals Q.term
  unfolding Each plan_rows
  plan_literals Q h = row_literals Q.term (each_append (all_type_rows Q.inputs) (term_rows Q.term) h.1).1

  -- ---- what is read

  by_part_holds : (p : Path Offset) (v w : Value) → ValueLiterals v → ValueLiterals w → ValueLiterals (by_part p v w)
  by_part_holds [] v w h k = h
  by_part_holds (index i ∷ p) v w h k = h
  by_part_holds (first ∷ p) v w h k = h
  by_part_holds (second ∷ p) v w h k = k

  read_literals : (E : Expression) (p : Path Offset) → ExpressionLiterals E → ValueLiterals (read_at E p)
  read_literals (Expression.input k t) p h = tt
  read_literals (Expression.region l t) p h = tt
  read_literals (Expression.literal v) p h = h
  read_literals (Expression.negate E) p h = read_literals E p h
  read_literals (Expression.operation o E F) p h = (read_literals E p h.0, read_literals F p h.1)
  read_literals (Expression.zip E F) p h =
      by_part_holds (tail p) (read_at E (unzipped p)) (read_at F (unzipped p)) (read_literals E (unzipped p) h.0) (read_literals F (unzipped p) h.1)
  read_literals (Expression.pair E F) p h =
      by_part_holds p (read_at E (tail p)) (read_at F (tail p)) (read_literals E (tail p) h.0) (read_literals F (tail p) h.1)
  read_literals (Expression.split n E) p h = read_literals E (ungrouped n p) h
  read_literals (Expression.join n E) p h = read_literals E (grouped n p) h
  read_literals (Expression.first E) p h = read_literals E (first ∷ p) h
  read_literals (Expression.second E) p h = read_literals E (second ∷ p) h
  read_literals (Expression.index E i) p h = read_literals E (index i ∷ p) h

  innermost_literals : (c r : ℕ) (v : Value) → ValueLiterals v → ValueLiterals (value_from_innermost c r v)
  innermost_literals c r (Value.input k o) h = tt
  innermost_literals c r (Value.region d o) h = tt
  innermost_literals c r (Value.literal v) h = h
  innermost_literals c r (Value.negate v) h = innermost_literals c r v h
  innermost_literals c r (Value.operation o v w) h = (innermost_literals c r v h.0, innermost_literals c r w h.1)

  number_literals : (E : Expression) (A : Acceptor) (c r : ℕ) → ExpressionLiterals E → CommandLiterals (assign_number E A c r)
  number_literals E A c r h = innermost_literals c r (read_at E []) (read_literals E [] h)

  pub assign_literals : (t : DataType) (E : Expression) (A : Acceptor) (c r : ℕ) → ExpressionLiterals E → CommandLiterals (assign t E A c r)
  unfolding assign
  assign_literals number E A c r h = number_literals E A c r h
  assign_literals (array n t) E A c r h =
      assign_literals t (Expression.index E (Offset.counter c)) (Acceptor.index A (Offset.counter c)) (suc c) r h
  assign_literals (DataType.pair s t) E A c r h =
      (assign_literals s (Expression.first E) (Acceptor.first A) c r h, assign_literals t (Expression.second E) (Acceptor.second A) c r h)
  assign_literals (vector w) E A c r h =
      number_literals (Expression.index E (Offset.counter c)) (Acceptor.index A (Offset.counter c)) (suc c) r h
