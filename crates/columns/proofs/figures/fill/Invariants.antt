-- `columns::figures::fill` meets its contract: turn by turn, the column and the first "no".
use Prim.Native.Nat.{ℕ}
use lib.ListN.{length, get_or}
use Rattle.syntax.specs.Ranges.{cell_numbers}
use Rattle.columns.specs.Figures.{figure_at, Column}
use Rattle.columns.proofs.Columns as columns
use Rattle.columns.proofs.figures.fill.Given as goal

abbrev pub invariant-loop-q : goal.invariant-loop-q
invariant-loop-q l = record {
  before : columns.Before l.initial.figures l.figures l.q;
  rule : Column (length l.rows.kinds.now) l.rows.ends.now l.figures (λ (p x y : ℕ). figure_at l.rows.kinds.now l.rows.numbers.now (get_or l.initial.figures p 0) p x y) l.q;
  told : columns.NoFrom l.rows.kinds.now l.rows.numbers.now l.initial.figures (cell_numbers l.inputs) l.output l.figures l.q l.answer;
}
