-- Computed tests of [18.15] and of `lanes` in the check of loops: rows, and the answer. Assumes nothing.
use Rattle.std.specs.Prelude.{◌≡◌, refl, List, [], ◌∷◌, ◌++◌, map, ℕ, replicate, Err}
use Rattle.loops.specs.Checked.{Checked, passing}
use Rattle.refusals.specs.declared.Refusal.TheVariants.{NumberRange, NameCount, OffsetBound, LanesInside}
use Rattle.words.specs.Kinds.{word_num, word_loops, word_cells, word_set, word_seq, word_for, word_par, word_new, word_out, word_lit, word_ctr, word_lanes}
use Rattle.words.specs.Groups.{one_of}
use Rattle.words.specs.Words.{operands_of, words, table}
use Rattle.meaning.specs.Layout.{room, need}
use Rattle.meaning.specs.Rows.{offset_rows, value_rows, place_rows, command_rows}
use Rattle.meaning.proofs.Laws.Computed.{rows}
use Rattle.syntax.specs.Ranges.{in_range}
use Rattle.syntax.specs.Names.{opened_by}
use Rattle.syntax.specs.Operands.{operand_of, operands_due}
use Rattle.syntax.specs.Walk.{ask_row, walk_from, listed_from, walk_table}
use Rattle.syntax.specs.Reading.{operands_among, read_rows, choose, loops_of}
use Rattle.bounds.specs.Bounds.{every_row_bounded, ask_offset, ask_value, ask_place, ask_set, ask_command, ask_bounds}
use Rattle.loops.specs.Check.{check_loops, check_loops_rows}

-- loops without inputs: so many output cells, and a command
abbrev checked : ℕ → List (ℕ × ℕ) → Checked
checked n l = check_loops_rows (rows ((word_loops, 0) ∷ (word_cells, n) ∷ l))

-- 0 into the output's cell at the counter, or at 0
abbrev at_counter : List (ℕ × ℕ)
at_counter = (word_set, 0) ∷ (word_out, 0) ∷ (word_ctr, 0) ∷ (word_lit, 0) ∷ []

abbrev at_start : List (ℕ × ℕ)
at_start = (word_set, 0) ∷ (word_out, 0) ∷ (word_lit, 0) ∷ (word_lit, 0) ∷ []

-- so many loops of one round, around one another
abbrev onces : ℕ → List (ℕ × ℕ)
onces n = replicate n (word_for, 1)

-- At any depth, whatever stands between; on the inner row's line. Side by side they pass.
inside : checked 4 ((word_lanes, 2) ∷ (word_par, 2) ∷ (word_new, 1) ∷ (word_lanes, 2) ∷ at_start) ≡ Err (LanesInside 6)
unfolding check_loops_rows rows walk_table listed_from walk_from ask_row operands_of words table operands_due operand_of opened_by in_range one_of
inside = refl

beside : checked 4 ((word_seq, 0) ∷ (word_lanes, 2) ∷ at_counter ++ ((word_lanes, 2) ∷ at_counter)) ≡ passing 4 4
unfolding check_loops_rows rows walk_table listed_from walk_from ask_row operands_of words table operands_due operand_of opened_by in_range one_of
    check_loops loops_of read_rows operands_among choose ask_bounds ask_command ask_set ask_place ask_value ask_offset every_row_bounded
    command_rows place_rows value_rows offset_rows need room
beside = refl

-- Right after question 6 on the row: before 4 to 6 of later rows and before 9, and after 5 and 6 of its own.
in-turn : map (checked 4)
    (((word_lanes, 2) ∷ (word_lanes, 2) ∷ (word_num, 0) ∷ [])
    ∷ ((word_lanes, 2) ∷ (word_lanes, 3) ∷ [])
    ∷ ((word_lanes, 2) ∷ onces 31 ++ ((word_lanes, 2) ∷ []))
    ∷ [])
    ≡ Err (LanesInside 4) ∷ Err (NumberRange 4) ∷ Err (NameCount 35) ∷ []
unfolding check_loops_rows rows walk_table listed_from walk_from ask_row operands_of words table operands_due operand_of opened_by in_range one_of
in-turn = refl

before_bounds : checked 1
    ((word_seq, 0) ∷ (word_set, 0) ∷ (word_out, 0) ∷ (word_lit, 1) ∷ (word_lit, 0) ∷ (word_lanes, 2) ∷ (word_lanes, 2) ∷ at_start)
    ≡ Err (LanesInside 9)
unfolding check_loops_rows rows walk_table listed_from walk_from ask_row operands_of words table operands_due operand_of opened_by in_range one_of
before_bounds = refl

-- A `lanes` opens a counter: it is one of the 32, and its bound is the width less one. It needs room for each lane, as a `par` does.
counted : checked 4 (onces 31 ++ ((word_lanes, 4) ∷ at_counter)) ≡ passing 4 4
unfolding check_loops_rows rows walk_table listed_from walk_from ask_row operands_of words table operands_due operand_of opened_by in_range one_of
    check_loops loops_of read_rows operands_among choose ask_bounds ask_command ask_set ask_place ask_value ask_offset every_row_bounded
    command_rows place_rows value_rows offset_rows need room
counted = refl

too_many : checked 4 (onces 32 ++ ((word_lanes, 4) ∷ at_counter)) ≡ Err (NameCount 35)
unfolding check_loops_rows rows walk_table listed_from walk_from ask_row operands_of words table operands_due operand_of opened_by in_range one_of
too_many = refl

too_far : checked 3 ((word_lanes, 4) ∷ at_counter) ≡ Err (OffsetBound 5)
unfolding check_loops_rows rows walk_table listed_from walk_from ask_row operands_of words table operands_due operand_of opened_by in_range one_of
    check_loops loops_of read_rows operands_among choose ask_bounds ask_command ask_set ask_place ask_value ask_offset every_row_bounded
    command_rows place_rows value_rows offset_rows need room
too_far = refl

needed : checked 1 ((word_lanes, 4) ∷ (word_new, 3) ∷ at_start) ≡ passing 4 13
unfolding check_loops_rows rows walk_table listed_from walk_from ask_row operands_of words table operands_due operand_of opened_by in_range one_of
    check_loops loops_of read_rows operands_among choose ask_bounds ask_command ask_set ask_place ask_value ask_offset every_row_bounded
    command_rows place_rows value_rows offset_rows need room
needed = refl
