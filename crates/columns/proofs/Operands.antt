-- What is in force at the operands of a row; and every part of loops has a row. Assumes nothing.
use mathlib.Core.Bool.{Bool, false}
use mathlib.Core.Path.{◌≡◌, sym, ap, ◌∙◌}
use mathlib.Core.List.{List, ◌∷◌, ◌++◌}
use Prim.Native.Nat.{ℕ, suc, ◌+◌, ◌≤◌}
use native.Mathlib.Omega.{arith}
use lib.IntN.{ℤ}
use lib.ListN.{length, get_or, length-append}
use Rattle.words.specs.Kinds.{Row}
use Rattle.meaning.specs.Loops.{Offset, Place, Value, Command, plus, times, over, rest, seq, loop, new}
use Rattle.meaning.specs.Rows.{offset_rows, value_rows, place_rows, command_rows}
use Rattle.columns.specs.Table.{Stand}
use Rattle.columns.specs.Ends.{Ends}
use Rattle.columns.specs.Names.{opens_by, push_if, in_force}
use Rattle.columns.proofs.Tables as table
use Rattle.columns.proofs.EndTrees.{inside}
use Rattle.columns.proofs.Force.{force_first, force_second}

pub offset_rows_holds : (o : Offset) → 1 ≤ length (offset_rows o)
unfolding offset_rows
offset_rows_holds (Offset.literal v) = omega arith
offset_rows_holds (Offset.counter d) = omega arith
offset_rows_holds (plus x y) = omega arith
offset_rows_holds (times n x) = omega arith
offset_rows_holds (over n x) = omega arith
offset_rows_holds (rest n x) = omega arith

pub value_rows_holds : (v : Value) → 1 ≤ length (value_rows v)
unfolding value_rows
value_rows_holds (Value.input k o) = omega arith
value_rows_holds (Value.region d o) = omega arith
value_rows_holds (Value.literal v) = omega arith
value_rows_holds (Value.negate v) = omega arith
value_rows_holds (Value.operation o v w) = omega arith

pub place_rows_holds : (p : Place) → 1 ≤ length (place_rows p)
unfolding place_rows
place_rows_holds (Place.output o) = omega arith
place_rows_holds (Place.region d o) = omega arith

pub command_rows_holds : (x : Command) → 1 ≤ length (command_rows x)
unfolding command_rows
command_rows_holds (Command.assignment p v) = omega arith
command_rows_holds (seq c d) = omega arith
command_rows_holds (loop kind n x) = omega arith
command_rows_holds (new n x) = omega arith

module _ (ks : List ℕ) (ns : List ℤ) (es : List ℕ) (E : Ends ks es) where
  -- what is in force at the operands of a row with one, and with two
  pub one_first : (ws : List ℕ) (at : ℕ) (k : ℕ) (z : ℤ) (rs : List Row) (o : Bool) → Stand ks ns at ((k, z) ∷ rs) → 1 ≤ k → opens_by ws k ≡ o → 1 ≤ length rs
      → get_or es at 0 ≡ at + suc (length rs) → in_force ws ks es (at + 1) ≡ push_if o at (in_force ws ks es at)
  one_first ws at k z rs o s h e l f =
      force_first ks es E ws at o (ap (opens_by ws) (table.kind s) ∙ e) (inside ks at k (table.kind s) h) (omega (arith, f, l))

  pub two_second : (ws : List ℕ) (at : ℕ) (k : ℕ) (z : ℤ) (xs ys : List Row) (i : ℕ) → Stand ks ns at ((k, z) ∷ (xs ++ ys)) → 1 ≤ k → opens_by ws k ≡ false
      → 1 ≤ length ys → get_or es at 0 ≡ at + suc (length (xs ++ ys)) → get_or es (at + 1) 0 ≡ at + 1 + length xs → i ≡ at + 1 + length xs
      → in_force ws ks es i ≡ in_force ws ks es at
  two_second ws at k z xs ys i s h e l f g j =
      force_second ks es E ws at i (ap (opens_by ws) (table.kind s) ∙ e) (inside ks at k (table.kind s) h) (j ∙ sym g)
      (omega (arith, f, j, l, length-append xs ys)) (length xs) (omega (arith, j))
