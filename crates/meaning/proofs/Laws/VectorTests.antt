-- Computed tests of vectors and of the loop over lanes: types, the rows that are made, writes, needs, values, runs, question 18. Assumes
-- nothing.
use Rattle.std.specs.Prelude.{◌≡◌, refl, true, false, [], ◌∷◌, map, ℕ, pos}
use Rattle.std.proofs.Math.Decide.{dec_lt, ℕ_discrete}
use Rattle.arithmetic.specs.Arithmetic.{Operation, operate, sum, clamp}
use Rattle.words.specs.Kinds.{word_cells, word_ctr, word_for, word_kind_in, word_lanes, word_lit, word_loc, word_loops, word_neg}
use Rattle.words.specs.Kinds.{word_new, word_out, word_over, word_par, word_plus, word_rest, word_seq, word_set, word_times}
use Rattle.meaning.specs.Types.{DataType, Series, cells, levels, number, array, vector}
use Rattle.meaning.specs.Terms.{LoopKind, Term, Plan}
use Rattle.meaning.specs.Numbers.{clamped32}
use Rattle.meaning.specs.Values.{flatten, value}
use Rattle.meaning.specs.Loops.{Offset, Place, Value, Command, Loops, seq, loop, new}
use Rattle.meaning.specs.Layout.{room, first_room, second_room, round_room, region_room, body_room, need}
use Rattle.meaning.specs.Runs.{run, run_loops}
use Rattle.meaning.specs.NamedOrders.{evens, odds, evens_then_odds, always}
use Rattle.meaning.specs.Translation.{assign, write_map, use_reduce, use_written, write_term, use_term, translation}
use Rattle.meaning.specs.Counts.{plan_writes}
use Rattle.meaning.specs.Rows.{offset_rows, value_rows, place_rows, command_rows, all_cells_rows, loops_rows}
use Rattle.meaning.specs.Demand3.{datum_at, input_data, plan_value}
use Rattle.meaning.proofs.Laws.Inference.{well_typed?, infer}
use Rattle.meaning.specs.Limits.{lanes_apart}
use Rattle.meaning.proofs.Laws.Computed.{plan, is_some, typed, command_of, rows}

-- loops without inputs, with so many output cells
abbrev loops_of : ℕ → Command → Loops
loops_of n c = record { inputs = []; output = n; command = c }

-- input 0; the body's variable, negated
abbrev in₀ : Term
in₀ = Term.input 0

abbrev negated : Term
negated = Term.negate (Term.variable 0)

-- Vectors stand wherever types do: in pairs, in arrays, in six arrays around one another; a width divides the length.
have_types : map typed
    (plan (DataType.pair (vector 2) (array 3 (vector 4)) ∷ []) (Term.second in₀)
    ∷ plan (array 1 (array 1 (array 1 (array 1 (array 1 (array 1 (vector 2)))))) ∷ []) in₀
    ∷ plan (array 2 number ∷ []) (Term.split Series.vectors 2 in₀) ∷ [])
    ≡ true ∷ true ∷ true ∷ []
unfolding typed infer well_typed? is_some dec_lt ℕ_discrete
have_types = refl

-- A vector is no array, and neither an array a vector: `idx`, `mappar` and `join` of vectors; `at`, `mapvec` of an array; a vector for an
-- array total; `add` of vectors.
have_none : map typed
    (plan (vector 2 ∷ []) (Term.index Series.arrays 0 in₀)
    ∷ plan (vector 2 ∷ []) (Term.map LoopKind.parallel in₀ (Term.first (Term.literal (pos 1))))
    ∷ plan (array 2 (vector 2) ∷ []) (Term.join Series.arrays in₀)
    ∷ plan (array 2 number ∷ []) (Term.index Series.vectors 0 in₀)
    ∷ plan (array 2 number ∷ []) (Term.map LoopKind.lanes in₀ (Term.first (Term.literal (pos 1))))
    ∷ plan (vector 2 ∷ array 1 number ∷ [])
    (Term.reduce in₀ (Term.input 1) (Term.map LoopKind.parallel (Term.input 1) (Term.variable 0)))
    ∷ plan (vector 2 ∷ []) (Term.operation Operation.addition in₀ in₀) ∷ [])
    ≡ false ∷ false ∷ false ∷ false ∷ false ∷ false ∷ false ∷ []
unfolding typed infer well_typed? is_some dec_lt ℕ_discrete
have_none = refl

-- `asvec` of pairs, and by a width that does not divide the length; `asscal` of one vector; `mapvec` with a body that is a pair, or a
-- vector; `at` of a lane that is not there.
have_none_either : map typed
    (plan (array 4 (DataType.pair number number) ∷ []) (Term.split Series.vectors 2 in₀)
    ∷ plan (array 6 number ∷ []) (Term.split Series.vectors 4 in₀)
    ∷ plan (vector 4 ∷ []) (Term.join Series.vectors in₀)
    ∷ plan (vector 2 ∷ []) (Term.map LoopKind.lanes in₀ (Term.pair (Term.variable 0) (Term.variable 0)))
    ∷ plan (vector 2 ∷ []) (Term.map LoopKind.lanes in₀ in₀)
    ∷ plan (vector 2 ∷ []) (Term.index Series.vectors 2 in₀) ∷ [])
    ≡ false ∷ false ∷ false ∷ false ∷ false ∷ false ∷ []
unfolding typed infer well_typed? is_some dec_lt ℕ_discrete
have_none_either = refl

-- levels and cells: two levels, so that seven arrays around a vector are one level too many
sizes : map {B = ℕ × ℕ} (λ (t : DataType). (levels t, cells t))
    (array 1 (array 1 (array 1 (array 1 (array 1 (array 1 (array 1 (vector 2))))))) ∷ array 257 (vector 16) ∷ [])
    ≡ (9, 2) ∷ (3, 4112) ∷ []
sizes = refl

-- The rows that are made

-- A vector is assigned by a `lanes`, with `times,1` for the lane; an array of vectors by a `par` around it.
assigned : command_of (plan (vector 4 ∷ []) in₀)
    ≡ rows ((word_lanes, 4) ∷ (word_set, 0) ∷ (word_out, 0) ∷ (word_times, 1) ∷ (word_ctr, 0) ∷ (word_kind_in, 0) ∷ (word_times, 1)
    ∷ (word_ctr, 0) ∷ [])
unfolding command_of rows command_rows place_rows value_rows offset_rows translation write_term use_term write_map use_reduce use_written assign
assigned = refl

assigned_inside : command_of (plan (array 3 (vector 2) ∷ []) in₀)
    ≡ rows ((word_par, 3) ∷ (word_lanes, 2) ∷ (word_set, 0) ∷ (word_out, 0) ∷ (word_plus, 0) ∷ (word_times, 2) ∷ (word_ctr, 1)
    ∷ (word_times, 1) ∷ (word_ctr, 0) ∷ (word_kind_in, 0) ∷ (word_plus, 0) ∷ (word_times, 2) ∷ (word_ctr, 1) ∷ (word_times, 1)
    ∷ (word_ctr, 0) ∷ [])
unfolding command_of rows command_rows place_rows value_rows offset_rows translation write_term use_term write_map use_reduce use_written assign
assigned_inside = refl

-- `asvec` and `asscal` written: the operand is, into the place regrouped; the width multiplies and divides.
as_vectors : command_of (plan (array 4 number ∷ []) (Term.split Series.vectors 2 in₀))
    ≡ rows ((word_par, 4) ∷ (word_set, 0) ∷ (word_out, 0) ∷ (word_plus, 0) ∷ (word_times, 2) ∷ (word_over, 2) ∷ (word_ctr, 0)
    ∷ (word_times, 1) ∷ (word_rest, 2) ∷ (word_ctr, 0) ∷ (word_kind_in, 0) ∷ (word_times, 1) ∷ (word_ctr, 0) ∷ [])
unfolding command_of rows command_rows place_rows value_rows offset_rows translation write_term use_term write_map use_reduce use_written assign
as_vectors = refl

as_scalars : command_of (plan (array 2 (vector 4) ∷ []) (Term.join Series.vectors in₀))
    ≡ rows ((word_par, 2) ∷ (word_lanes, 4) ∷ (word_set, 0) ∷ (word_out, 0) ∷ (word_times, 1) ∷ (word_plus, 0) ∷ (word_times, 4)
    ∷ (word_ctr, 1) ∷ (word_ctr, 0) ∷ (word_kind_in, 0) ∷ (word_plus, 0) ∷ (word_times, 4) ∷ (word_ctr, 1) ∷ (word_times, 1)
    ∷ (word_ctr, 0) ∷ [])
unfolding command_of rows command_rows place_rows value_rows offset_rows translation write_term use_term write_map use_reduce use_written assign
as_scalars = refl

-- And read.
of_vectors : command_of (plan (array 4 number ∷ []) (Term.index Series.arrays 1 (Term.split Series.vectors 2 in₀)))
    ≡ rows ((word_lanes, 2) ∷ (word_set, 0) ∷ (word_out, 0) ∷ (word_times, 1) ∷ (word_ctr, 0) ∷ (word_kind_in, 0) ∷ (word_times, 1)
    ∷ (word_plus, 0) ∷ (word_times, 2) ∷ (word_lit, 1) ∷ (word_ctr, 0) ∷ [])
unfolding command_of rows command_rows place_rows value_rows offset_rows translation write_term use_term write_map use_reduce use_written assign
of_vectors = refl

of_scalars : command_of (plan (array 2 (vector 4) ∷ []) (Term.index Series.arrays 5 (Term.join Series.vectors in₀)))
    ≡ rows ((word_set, 0) ∷ (word_out, 0) ∷ (word_lit, 0) ∷ (word_kind_in, 0) ∷ (word_plus, 0) ∷ (word_times, 4) ∷ (word_over, 4)
    ∷ (word_lit, 5) ∷ (word_times, 1) ∷ (word_rest, 4) ∷ (word_lit, 5) ∷ [])
unfolding command_of rows command_rows place_rows value_rows offset_rows translation write_term use_term write_map use_reduce use_written assign
of_scalars = refl

lane_of_group : command_of (plan (array 4 number ∷ []) (Term.index Series.vectors 1 (Term.index Series.arrays 0 (Term.split Series.vectors 2 in₀))))
    ≡ rows ((word_set, 0) ∷ (word_out, 0) ∷ (word_lit, 0) ∷ (word_kind_in, 0) ∷ (word_times, 1) ∷ (word_plus, 0) ∷ (word_times, 2)
    ∷ (word_lit, 0) ∷ (word_lit, 1) ∷ [])
unfolding command_of rows command_rows place_rows value_rows offset_rows translation write_term use_term write_map use_reduce use_written assign
lane_of_group = refl

-- A `mapvec` that is used has a region; a lane of it is read there.
lane_of_map : command_of (plan (vector 2 ∷ []) (Term.index Series.vectors 1 (Term.map LoopKind.lanes in₀ negated)))
    ≡ rows ((word_new, 2) ∷ (word_seq, 0) ∷ (word_lanes, 2) ∷ (word_set, 0) ∷ (word_loc, 0) ∷ (word_times, 1) ∷ (word_ctr, 0)
    ∷ (word_neg, 0) ∷ (word_kind_in, 0) ∷ (word_times, 1) ∷ (word_ctr, 0) ∷ (word_set, 0) ∷ (word_out, 0) ∷ (word_lit, 0)
    ∷ (word_loc, 0) ∷ (word_times, 1) ∷ (word_lit, 1) ∷ [])
unfolding command_of rows command_rows place_rows value_rows offset_rows translation write_term use_term write_map use_reduce use_written assign
lane_of_map = refl

-- A total that is a vector has a second region, as an array has.
vector_total : command_of (plan (array 1 (vector 2) ∷ []) (Term.reduce (Term.index Series.arrays 0 in₀) in₀ (Term.variable 0)))
    ≡ rows ((word_new, 2) ∷ (word_seq, 0) ∷ (word_lanes, 2) ∷ (word_set, 0) ∷ (word_loc, 0) ∷ (word_times, 1) ∷ (word_ctr, 0)
    ∷ (word_kind_in, 0) ∷ (word_plus, 0) ∷ (word_times, 2) ∷ (word_lit, 0) ∷ (word_times, 1) ∷ (word_ctr, 0) ∷ (word_seq, 0)
    ∷ (word_for, 1) ∷ (word_new, 2) ∷ (word_seq, 0) ∷ (word_lanes, 2) ∷ (word_set, 0) ∷ (word_loc, 0) ∷ (word_times, 1)
    ∷ (word_ctr, 0) ∷ (word_loc, 1) ∷ (word_times, 1) ∷ (word_ctr, 0) ∷ (word_lanes, 2) ∷ (word_set, 0) ∷ (word_loc, 1)
    ∷ (word_times, 1) ∷ (word_ctr, 0) ∷ (word_loc, 0) ∷ (word_times, 1) ∷ (word_ctr, 0) ∷ (word_lanes, 2) ∷ (word_set, 0)
    ∷ (word_out, 0) ∷ (word_times, 1) ∷ (word_ctr, 0) ∷ (word_loc, 0) ∷ (word_times, 1) ∷ (word_ctr, 0) ∷ [])
unfolding command_of rows command_rows place_rows value_rows offset_rows translation write_term use_term write_map use_reduce use_written assign
vector_total = refl

whole_loops : loops_rows (translation (plan (vector 8 ∷ []) (Term.index Series.vectors 7 in₀)))
    ≡ rows ((word_loops, 1) ∷ (word_cells, 8) ∷ (word_cells, 1) ∷ (word_set, 0) ∷ (word_out, 0) ∷ (word_lit, 0) ∷ (word_kind_in, 0)
    ∷ (word_times, 1) ∷ (word_lit, 7) ∷ [])
unfolding rows loops_rows all_cells_rows command_rows place_rows value_rows offset_rows translation write_term use_term write_map use_reduce
    use_written assign
whole_loops = refl

-- one write for each lane, and one for the lane that is taken
writes : plan_writes (plan (vector 4 ∷ []) (Term.index Series.vectors 1 (Term.map LoopKind.lanes in₀ negated))) ≡ 5
writes = refl

-- four rounds with three cells each, and the output
lanes_need : need (loops_of 1 (loop LoopKind.lanes 4 (new 3 (Command.assignment (Place.output (Offset.literal 0)) (Value.literal (pos 0))))))
    ≡ 13
unfolding need room
lanes_need = refl

-- A value in cells: each lane with the last lane of its vector added to it.
lanes_value : flatten
    (plan_value clamped32
    (plan (array 2 (vector 2) ∷ [])
    (Term.join Series.vectors
    (Term.map LoopKind.parallel in₀
    (Term.map LoopKind.lanes (Term.variable 0)
    (Term.operation Operation.addition (Term.variable 0) (Term.index Series.vectors 1 (Term.variable 1)))))))
    (map pos (1 ∷ 2 ∷ 3 ∷ 4 ∷ [])))
    ≡ map pos (3 ∷ 4 ∷ 7 ∷ 8 ∷ [])
unfolding plan_value input_data datum_at value operate sum clamp
lanes_value = refl

abbrev counted : Loops
counted =
    loops_of 4
    (new 1
    (loop LoopKind.lanes 4
    (seq (Command.assignment (Place.output (Offset.counter 0)) (Value.region 0 (Offset.literal 0)))
    (Command.assignment (Place.region 0 (Offset.literal 0))
    (Value.operation Operation.addition (Value.region 0 (Offset.literal 0)) (Value.literal (pos 1)))))))

-- [9.10] Lanes in the order named: each puts out how many came before it.
lanes_order : run_loops clamped32 counted (always evens_then_odds counted.command) (map pos (9 ∷ 9 ∷ 9 ∷ 9 ∷ 0 ∷ []))
    ≡ record { store = map pos (0 ∷ 2 ∷ 1 ∷ 3 ∷ 4 ∷ []); writes = 8 }
unfolding run_loops run always evens_then_odds evens odds operate sum clamp room first_room second_room round_room region_room body_room
lanes_order = refl

-- Question 18

abbrev lanes : Command → Command
lanes c = loop LoopKind.lanes 2 c

abbrev clear : Command
clear = Command.assignment (Place.output (Offset.literal 0)) (Value.literal (pos 0))

-- One inside another, whatever stands between; side by side they may stand.
apart_loops : map lanes_apart
    (lanes (loop LoopKind.parallel 2 (new 1 (lanes clear))) ∷ seq clear (lanes (lanes clear)) ∷ seq (lanes clear) (lanes clear) ∷ [])
    ≡ false ∷ false ∷ true ∷ []
apart_loops = refl

-- Of a plan it is about the rows made: a `mapvec` used in a `mapvec`, a vector total in one; but not one in the operand, nor a mere reading.
apart_plans : map (λ (P : Plan). lanes_apart (translation P).command)
    (plan (vector 2 ∷ []) (Term.map LoopKind.lanes in₀ (Term.index Series.vectors 0 (Term.map LoopKind.lanes in₀ (Term.variable 1))))
    ∷ plan (vector 2 ∷ array 1 number ∷ [])
    (Term.map LoopKind.lanes in₀ (Term.index Series.vectors 0 (Term.reduce in₀ (Term.input 1) (Term.variable 0))))
    ∷ plan (vector 2 ∷ []) (Term.index Series.vectors 0 (Term.map LoopKind.lanes (Term.map LoopKind.lanes in₀ negated) negated))
    ∷ plan (vector 2 ∷ []) (Term.map LoopKind.lanes in₀ (Term.index Series.vectors 1 in₀)) ∷ [])
    ≡ false ∷ false ∷ true ∷ true ∷ []
unfolding translation write_term use_term write_map use_reduce use_written assign
apart_plans = refl
