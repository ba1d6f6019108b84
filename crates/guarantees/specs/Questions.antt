-- The questions of each entry, in the order of [10.16]. Those of lines, rows and types stand in `typing`, 10, 18 and 11 of a plan in
-- `translate`; here are those of a words text, of loops, of what is lent, of a run and of values. None of them speaks of a check. ws is
-- the table of words. Definitions only; assumes nothing.
use Rattle.std.specs.Prelude.{cond, ◌&&◌, List, [], ◌∷◌, ◌++◌, ℕ, ◌+◌, eqb, leb, ltb, length}
use Rattle.refusals.specs.declared.Refusal.TheVariants.{LineCount, OffsetBound, LentSize, UnknownOrder, StoreSize, ValueLines, WordsForm, WordTwice}
use Rattle.words.specs.Kinds.{Row}
use Rattle.words.specs.Good.{distinct}
use Rattle.own_words.specs.OwnWords.{is_words_text, own_words}
use Rattle.words.specs.declared.Sort.{Sort}
use Rattle.words.specs.declared.Sort.TheVariants as sort
use Rattle.lines.specs.Lent.{text_rows}
use Rattle.lines.specs.Reading.{cell_head, head_of, plan_limits, loops_limits, values_limits, kinds_of}
use Rattle.lines.specs.declared.Heads.TheVariants.{Words}
use Rattle.lines.specs.declared.Limits.{Limits}
use Rattle.meaning.specs.Loops.{Offset, Place, Value, Command, Loops, seq, loop, new}
use Rattle.meaning.specs.Layout.{all_cells, need}
use Rattle.meaning.specs.Runs.{entry}
use Rattle.meaning.specs.Rows.{place_rows, value_rows as rowsOfValue, command_rows}
use Rattle.meaning.specs.Counts.{command_writes}
use Rattle.meaning.specs.Limits.{bound, counter_bound}
use Rattle.syntax.specs.Names.{no_names}
use Rattle.syntax.specs.Operands.{due}
use Rattle.bounds.specs.Bounds.{every_row_bounded}
use Rattle.translate.specs.Questions.{few_writes}
use Rattle.typing.specs.Questions.{Question, question}
use Rattle.typing.specs.EntryQuestions.{form_questions, read_questions, kind_questions, walk_questions}
use Rattle.values.specs.Values.{one_line_each, value_lines}

-- ---- 16 and 17: a words text

-- [16.6] Before all others, where an entry is given a words text: [16.4], is it one, and then [16.5], are its own words apart?
abbrev pub words_questions : List ℕ → List Question
words_questions w = question (is_words_text w) WordsForm ∷ question (distinct (own_words w)) WordTwice ∷ []

-- ---- 1 to 6 and 18: a plan's text, a loops' text, a table

-- [10.4] to [10.6], and [18.15], from the top; a plan's rows are never refused by 18 (`typing/Theorems: plan_never_18`)
abbrev pub rows_door : Sort → List Row → List Question
rows_door s R = walk_questions 0 (due s no_names ∷ []) R

abbrev pub text_door : List (List ℕ) → Sort → Limits → List ℕ → List Question
text_door ws s limits t = read_questions (head_of ws Words) limits t ++ rows_door s (text_rows ws t)

abbrev pub plan_door : List (List ℕ) → List ℕ → List Question
plan_door ws t = text_door ws sort.Plan plan_limits t

abbrev pub loops_door : List (List ℕ) → List ℕ → List Question
loops_door ws t = text_door ws sort.Loops loops_limits t

-- a table that was not read from a text: [10.2] of its kinds, [10.3] of its rows
abbrev pub table_door : List Row → List Question
table_door R = kind_questions 0 R ++ (question (leb (length R) loops_limits.lines) LineCount ∷ rows_door sort.Loops R)

-- ---- 9 and 11: loops

-- [10.9] The offset of a place or a reading on this line, which goes into so many cells; c are the counters' bounds.
abbrev pub offset_question : (ℕ → ℕ) → ℕ → ℕ → Offset → Question
offset_question c cells line o = question (every_row_bounded c o && ltb (bound c o) cells) (OffsetBound line)

-- [10.9] In the order of lines: the readings of a value whose first row stands on this line, where the inputs have the cells `ins` and the
-- regions in force m.
unfoldable pub value_questions : List ℕ → (ℕ → ℕ) → (ℕ → ℕ) → ℕ → Value → List Question
value_questions ins c m line (Value.input k o) = offset_question c (entry ins k) line o ∷ []
value_questions ins c m line (Value.region d o) = offset_question c (m d) line o ∷ []
value_questions ins c m line (Value.literal z) = []
value_questions ins c m line (Value.negate v) = value_questions ins c m (line + 1) v
value_questions ins c m line (Value.operation o v w) =
    value_questions ins c m (line + 1) v ++ value_questions ins c m (line + (1 + length (rowsOfValue v))) w

abbrev pub place_question : ℕ → (ℕ → ℕ) → (ℕ → ℕ) → ℕ → Place → Question
place_question out c m line (Place.output o) = offset_question c out line o
place_question out c m line (Place.region d o) = offset_question c (m d) line o

-- a command whose first row stands on this line, under loops of ns rounds and regions of rs cells, innermost first
unfoldable pub command_questions : List ℕ → ℕ → List ℕ → List ℕ → ℕ → Command → List Question
command_questions ins out ns rs line (Command.assignment p v) =
    place_question out (counter_bound ns) (entry rs) (line + 1) p
    ∷ value_questions ins (counter_bound ns) (entry rs) (line + 1 + length (place_rows p)) v
command_questions ins out ns rs line (seq c d) =
    command_questions ins out ns rs (line + 1) c ++ command_questions ins out ns rs (line + (1 + length (command_rows c))) d
command_questions ins out ns rs line (loop kind n b) = command_questions ins out (n ∷ ns) rs (line + 1) b
command_questions ins out ns rs line (new n b) = command_questions ins out ns (n ∷ rs) (line + 1) b

-- The command stands behind the first row and the `cells` rows of inputs and output. Behind its offsets come the writes: [10.11], [13.15].
unfoldable pub loops_questions : Loops → List Question
loops_questions L =
    command_questions L.inputs L.output [] [] (3 + length L.inputs) L.command
    ++ (few_writes (command_writes L.command) ∷ [])

-- ---- 12: what is lent

-- [10.12] A lent table of kinds and numbers, and a lent text: is it long enough?
abbrev pub table_room : ℕ → ℕ → ℕ → List Question
table_room rows kinds numbers = question (leb rows kinds && leb rows numbers) LentSize ∷ []

abbrev pub text_room : List ℕ → ℕ → List Question
text_room text bytes = question (leb (length text) bytes) LentSize ∷ []

-- ---- 13 and 14: a run; 14 and 15: values

-- [10.13] the order, and [10.14] the store
abbrev pub run_questions : ℕ → ℕ → Loops → List Question
run_questions order cells L = question (leb order 2) UnknownOrder ∷ question (leb (need L) cells) StoreSize ∷ []

-- [10.14] alone
abbrev pub store_room : ℕ → Loops → List Question
store_room cells L = question (leb (need L) cells) StoreSize ∷ []

-- [10.16] The text of values, [10.1] with the limit of [13.3], and [10.2]; [10.14] of a store that is to hold n input cells; and [10.15].
abbrev pub fill_questions : List ℕ → ℕ → ℕ → List Question
fill_questions t n cells =
    form_questions cell_head values_limits.bytes t
    ++ (question (leb n cells) StoreSize ∷ question (one_line_each n (kinds_of (value_lines t))) ValueLines ∷ [])

-- ---- the runner

-- [11.5] Loops without inputs need no values.
abbrev pub values_questions : List ℕ → ℕ → Loops → List Question
values_questions v cells L = cond (eqb (all_cells L.inputs) 0) [] (fill_questions v (all_cells L.inputs) cells)

-- [11.9] 12, first of all: is there room for the longest output [13.17]?
abbrev pub output_room : ℕ → List Question
output_room bytes = question (leb 69648 bytes) LentSize ∷ []
