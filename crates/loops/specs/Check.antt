-- The check of loops: [10.1] to [10.6], [18.15], [10.9] and [10.11], in this order ([10.16]); 18 is asked right after 6 on its row.
-- Definitions only; assumes nothing.
use Rattle.std.specs.Prelude.{cond, List, ℕ, leb, length, Err, Ok}
use Rattle.loops.specs.Checked.{Checked, passing}
use Rattle.refusals.specs.Answers.{Answer}
use Rattle.std.proofs.Math.Option.{Option, none, some}
use Rattle.refusals.specs.declared.Refusal.{Refusal}
use Rattle.refusals.specs.declared.Refusal.TheVariants.{LineCount, WriteCount}
use Rattle.words.specs.Kinds.{Row}
use Rattle.words.specs.declared.Sort.TheVariants as sort
use Rattle.texts.specs.Texts.{lines_of}
use Rattle.lines.specs.Reading.{rows_in, reading, head_of, loops_limits}
use Rattle.lines.specs.declared.Heads.TheVariants.{Words}
use Rattle.meaning.specs.Loops.{Loops}
use Rattle.meaning.specs.Layout.{need}
use Rattle.meaning.specs.Counts.{command_writes}
use Rattle.syntax.specs.Walk.{listed_from, walk_table}
use Rattle.syntax.specs.Reading.{loops_of}
use Rattle.bounds.specs.Bounds.{ask_bounds}

-- ---- loops as a tree

-- [10.11], [13.15] The answer for loops that pass is their writes ([7.1]) and their need ([7.4]).
abbrev pub ask_writes : Loops → Checked
ask_writes L = cond (leb (command_writes L.command) 16777216) (passing (command_writes L.command) (need L)) (Err WriteCount)

-- on with the next question, unless there was a "no"
abbrev pub unless : Option Refusal → Checked → Checked
unless none next = next
unless (some q) next = Err q

-- Questions 9 and 11.
unfoldable pub check_loops : Loops → Checked
check_loops L = unless (ask_bounds L) (ask_writes L)

-- [7.1] The writes of loops that pass,
abbrev pub writes_of : Checked → Answer
writes_of (Ok p) = Ok p.writes
writes_of (Err q) = Err q

-- [7.4] and their need
abbrev pub need_of : Checked → Answer
need_of (Ok p) = Ok p.need
need_of (Err q) = Err q

-- ---- loops as rows

-- on with the check, unless there was a "no"
abbrev pub after_answer : Answer → Checked → Checked
after_answer (Ok n) next = next
after_answer (Err q) next = Err q

-- [10.2] (of the kinds), and [10.4] to [10.6] and [18.15] by the walk of `syntax`; then [10.9] and [10.11] of the loops whose rows these
-- are ([10.18]).
unfoldable pub check_loops_rows : List Row → Checked
check_loops_rows R = after_answer (walk_table sort.Loops R) (check_loops (loops_of R))

-- ---- loops as a table that was not read from a text

-- [10.16] A lent table is asked 2, of its kinds; then 3, of its rows ([13.5]); then what its rows are asked.
unfoldable pub check_table : List Row → Checked
check_table R =
    after_answer (listed_from 0 R (Ok (length R))) (cond (leb (length R) 4096) (check_loops_rows R) (Err LineCount))

-- ---- loops as a text

-- [10.1] to [10.3] by the reading of `lines`; then the rows. ws is the table of words.
unfoldable pub check_loops_text : List (List ℕ) → List ℕ → Checked
check_loops_text ws t = after_answer (reading (head_of ws Words) loops_limits t) (check_loops_rows (rows_in (head_of ws Words) (lines_of t)))
