-- The rows of plans and of loops, so that a tree is a table's meaning: the words of [3.1] and [3.6] to [3.15], [1.7] in prefix order.
-- [1.6] A number that a word has no use for is 0. Definitions only; assumes nothing.
use Rattle.std.specs.Prelude.{List, [], ◌∷◌, ◌++◌, ℕ, length, pos}
use Rattle.arithmetic.specs.Arithmetic.{Operation}
use Rattle.words.specs.Kinds.{Row, word_plan, word_num, word_arr, word_two, word_kind_in, word_var, word_lit, word_neg}
use Rattle.words.specs.Kinds.{word_add, word_sub, word_mul, word_div, word_min, word_max, word_mappar, word_mapseq}
use Rattle.words.specs.Kinds.{word_redseq, word_zip, word_pair, word_split, word_join, word_fst, word_snd, word_idx}
use Rattle.words.specs.Kinds.{word_loops, word_cells, word_set, word_seq, word_for, word_par, word_new, word_out}
use Rattle.words.specs.Kinds.{word_vec, word_asvec, word_asscal, word_mapvec, word_kind_at, word_lanes}
use Rattle.words.specs.Kinds.{word_loc, word_ctr, word_plus, word_times, word_over, word_rest}
use Rattle.meaning.specs.Types.{DataType, Series, number, array, vector}
use Rattle.meaning.specs.Terms.{LoopKind, Term, Plan}
use Rattle.meaning.specs.Loops.{Offset, Place, Value, Command, Loops, plus, times, over, rest, seq, loop, new}

-- Words

abbrev pub operation_word : Operation → ℕ
operation_word Operation.addition = word_add
operation_word Operation.subtraction = word_sub
operation_word Operation.multiplication = word_mul
operation_word Operation.division = word_div
operation_word Operation.minimum = word_min
operation_word Operation.maximum = word_max

abbrev pub map_word : LoopKind → ℕ
map_word LoopKind.parallel = word_mappar
map_word LoopKind.sequential = word_mapseq
map_word LoopKind.lanes = word_mapvec

abbrev pub loop_word : LoopKind → ℕ
loop_word LoopKind.parallel = word_par
loop_word LoopKind.sequential = word_for
loop_word LoopKind.lanes = word_lanes

abbrev pub split_word : Series → ℕ
split_word Series.arrays = word_split
split_word Series.vectors = word_asvec

abbrev pub join_word : Series → ℕ
join_word Series.arrays = word_join
join_word Series.vectors = word_asscal

abbrev pub index_word : Series → ℕ
index_word Series.arrays = word_idx
index_word Series.vectors = word_kind_at

-- Plans

unfoldable pub type_rows : DataType → List Row
type_rows number = (word_num, pos 0) ∷ []
type_rows (array n t) = (word_arr, pos n) ∷ type_rows t
type_rows (DataType.pair s t) = (word_two, pos 0) ∷ (type_rows s ++ type_rows t)
type_rows (vector w) = (word_vec, pos w) ∷ []

unfoldable pub term_rows : Term → List Row
term_rows (Term.input k) = (word_kind_in, pos k) ∷ []
term_rows (Term.variable d) = (word_var, pos d) ∷ []
term_rows (Term.literal v) = (word_lit, v) ∷ []
term_rows (Term.negate e) = (word_neg, pos 0) ∷ term_rows e
term_rows (Term.operation o e f) = (operation_word o, pos 0) ∷ (term_rows e ++ term_rows f)
term_rows (Term.map kind a b) = (map_word kind, pos 0) ∷ (term_rows a ++ term_rows b)
term_rows (Term.reduce z a b) = (word_redseq, pos 0) ∷ (term_rows z ++ (term_rows a ++ term_rows b))
term_rows (Term.zip a b) = (word_zip, pos 0) ∷ (term_rows a ++ term_rows b)
term_rows (Term.pair a b) = (word_pair, pos 0) ∷ (term_rows a ++ term_rows b)
term_rows (Term.split series n e) = (split_word series, pos n) ∷ term_rows e
term_rows (Term.join series e) = (join_word series, pos 0) ∷ term_rows e
term_rows (Term.first e) = (word_fst, pos 0) ∷ term_rows e
term_rows (Term.second e) = (word_snd, pos 0) ∷ term_rows e
term_rows (Term.index series k e) = (index_word series, pos k) ∷ term_rows e

unfoldable pub all_type_rows : List DataType → List Row
all_type_rows [] = []
all_type_rows (t ∷ I) = type_rows t ++ all_type_rows I

unfoldable pub plan_rows : Plan → List Row
plan_rows P = (word_plan, pos (length P.inputs)) ∷ (all_type_rows P.inputs ++ term_rows P.term)

-- Loops

unfoldable pub offset_rows : Offset → List Row
offset_rows (Offset.literal v) = (word_lit, pos v) ∷ []
offset_rows (Offset.counter d) = (word_ctr, pos d) ∷ []
offset_rows (plus x y) = (word_plus, pos 0) ∷ (offset_rows x ++ offset_rows y)
offset_rows (times n x) = (word_times, pos n) ∷ offset_rows x
offset_rows (over n x) = (word_over, pos n) ∷ offset_rows x
offset_rows (rest n x) = (word_rest, pos n) ∷ offset_rows x

unfoldable pub value_rows : Value → List Row
value_rows (Value.input k o) = (word_kind_in, pos k) ∷ offset_rows o
value_rows (Value.region d o) = (word_loc, pos d) ∷ offset_rows o
value_rows (Value.literal v) = (word_lit, v) ∷ []
value_rows (Value.negate v) = (word_neg, pos 0) ∷ value_rows v
value_rows (Value.operation o v w) = (operation_word o, pos 0) ∷ (value_rows v ++ value_rows w)

unfoldable pub place_rows : Place → List Row
place_rows (Place.output o) = (word_out, pos 0) ∷ offset_rows o
place_rows (Place.region d o) = (word_loc, pos d) ∷ offset_rows o

unfoldable pub command_rows : Command → List Row
command_rows (Command.assignment p v) = (word_set, pos 0) ∷ (place_rows p ++ value_rows v)
command_rows (seq c d) = (word_seq, pos 0) ∷ (command_rows c ++ command_rows d)
command_rows (loop kind n b) = (loop_word kind, pos n) ∷ command_rows b
command_rows (new c b) = (word_new, pos c) ∷ command_rows b

unfoldable pub all_cells_rows : List ℕ → List Row
all_cells_rows [] = []
all_cells_rows (c ∷ cs) = (word_cells, pos c) ∷ all_cells_rows cs

unfoldable pub loops_rows : Loops → List Row
loops_rows L =
    (word_loops, pos (length L.inputs))
    ∷ (all_cells_rows L.inputs ++ ((word_cells, pos L.output) ∷ command_rows L.command))
