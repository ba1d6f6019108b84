-- Question 9 put to loops: [10.9]. Definitions only; assumes nothing.
use Rattle.std.specs.Prelude.{Bool, cond, ◌&&◌, List, [], ◌∷◌, ℕ, ◌+◌, leb, ltb, length}
use Rattle.std.proofs.Math.Option.{Option, none, some}
use Rattle.refusals.specs.declared.Refusal.{Refusal}
use Rattle.refusals.specs.declared.Refusal.TheVariants.{OffsetBound}
use Rattle.meaning.specs.Loops.{Offset, Place, Value, Command, Loops, plus, times, over, rest, seq, loop, new}
use Rattle.meaning.specs.Runs.{entry}
use Rattle.meaning.specs.Rows.{place_rows, value_rows, command_rows}
use Rattle.meaning.specs.Limits.{bound, counter_bound}

-- [10.9], [13.12] Is the bound of every row of an offset at most 65,535, also below a row that brings it down again? `bound` of
-- `meaning` has the bounds ([10.20]); c are the counters'.
unfoldable pub every_row_bounded : (ℕ → ℕ) → Offset → Bool
every_row_bounded c (Offset.literal v) = leb v 65535
every_row_bounded c (Offset.counter d) = leb (c d) 65535
every_row_bounded c (plus x y) = every_row_bounded c x && every_row_bounded c y && leb (bound c (plus x y)) 65535
every_row_bounded c (times n x) = every_row_bounded c x && leb (bound c (times n x)) 65535
every_row_bounded c (over n x) = every_row_bounded c x && leb (bound c (over n x)) 65535
every_row_bounded c (rest n x) = every_row_bounded c x && leb (bound c (rest n x)) 65535

-- [10.9] And is that of the whole offset below the cells of what it goes into? The line is that of the `out`, `loc` or `in` row. None
-- where the answer is "yes".
unfoldable pub ask_offset : (ℕ → ℕ) → ℕ → ℕ → Offset → Option Refusal
ask_offset c cells line o = cond (every_row_bounded c o && ltb (bound c o) cells) none (some (OffsetBound line))

-- [10.17] The first "no" is told, and no other.
abbrev pub first_no : Option Refusal → Option Refusal → Option Refusal
first_no none then = then
first_no (some q) then = some q

-- [10.9] Each reading of a value whose first row stands on this line: the inputs' cells, the counters' bounds and the regions' cells.
unfoldable pub ask_value : List ℕ → (ℕ → ℕ) → (ℕ → ℕ) → ℕ → Value → Option Refusal
ask_value ins c m line (Value.input k o) = ask_offset c (entry ins k) line o
ask_value ins c m line (Value.region d o) = ask_offset c (m d) line o
ask_value ins c m line (Value.literal z) = none
ask_value ins c m line (Value.negate v) = ask_value ins c m (line + 1) v
ask_value ins c m line (Value.operation o v w) =
    first_no (ask_value ins c m (line + 1) v) (ask_value ins c m (line + (1 + length (value_rows v))) w)

-- [10.9] A place, of the output with so many cells or of a region.
unfoldable pub ask_place : ℕ → (ℕ → ℕ) → (ℕ → ℕ) → ℕ → Place → Option Refusal
ask_place out c m line (Place.output o) = ask_offset c out line o
ask_place out c m line (Place.region d o) = ask_offset c (m d) line o

-- [10.9], [3.13] A `set`'s place and then its value, the place's row on this line; loops of ns rounds around and regions of rs cells
-- in force, innermost first ([3.16]).
unfoldable pub ask_set : List ℕ → ℕ → List ℕ → List ℕ → ℕ → Place → Value → Option Refusal
ask_set ins out ns rs line p v =
    first_no (ask_place out (counter_bound ns) (entry rs) line p) (ask_value ins (counter_bound ns) (entry rs) (line + length (place_rows p)) v)

-- A command whose first row stands on this line.
unfoldable pub ask_command : List ℕ → ℕ → List ℕ → List ℕ → ℕ → Command → Option Refusal
ask_command ins out ns rs line (Command.assignment p v) = ask_set ins out ns rs (line + 1) p v
ask_command ins out ns rs line (seq c d) =
    first_no (ask_command ins out ns rs (line + 1) c) (ask_command ins out ns rs (line + (1 + length (command_rows c))) d)
ask_command ins out ns rs line (loop kind n b) = ask_command ins out (n ∷ ns) rs (line + 1) b
ask_command ins out ns rs line (new n b) = ask_command ins out ns (n ∷ rs) (line + 1) b

-- [3.12] Whole loops: the command stands behind the first row, the `cells` rows of the inputs and that of the output.
unfoldable pub ask_bounds : Loops → Option Refusal
ask_bounds L = ask_command L.inputs L.output [] [] (3 + length L.inputs) L.command
