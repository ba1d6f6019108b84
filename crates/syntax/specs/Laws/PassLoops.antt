-- The rows of loops in range walk well. Assumes nothing.
use Rattle.std.specs.Prelude.{◌≡◌, ℕ, suc, ◌+◌, ◌≤◌, length}
use Rattle.std.proofs.Math.Path.{refl}
use mathlib.Core.List.{List, [], ◌∷◌, ◌++◌}
use Rattle.std.proofs.Common.{arith, lt-ltb, le-leb}
use Rattle.std.proofs.Math.IntN.{pos}
use Rattle.arithmetic.specs.Arithmetic.{Operation}
use Rattle.words.specs.Kinds.{Row, word_kind_in, word_lit, word_neg, word_add, word_sub, word_mul, word_div, word_min, word_max, word_loops}
use Rattle.words.specs.Kinds.{word_cells, word_set, word_seq, word_for, word_par, word_new, word_out, word_loc, word_ctr, word_plus}
use Rattle.words.specs.Kinds.{word_times, word_over, word_rest, word_lanes}
use Rattle.words.specs.Words.{operands_of, table}
use Rattle.words.specs.declared.Sort.TheVariants as sort
use Rattle.meaning.specs.Terms.{LoopKind}
use Rattle.meaning.specs.Loops.{Offset, Place, Value, Command, Loops, plus, times, over, rest, seq, loop, new}
use Rattle.meaning.specs.Limits.{IsCount, RoundsInRange}
use Rattle.meaning.proofs.Laws.Lanes.{lanes_around, LanesFit, lanes_fit}
use Rattle.meaning.specs.Rows.{operation_word, loop_word, offset_rows, value_rows, place_rows, command_rows, all_cells_rows, loops_rows}
use Rattle.syntax.specs.declared.names.Names.{Names}
use Rattle.syntax.specs.declared.operands.Due.{Due}
use Rattle.words.specs.Groups.{one_of}
use Rattle.syntax.specs.Ranges.{in_range}
use Rattle.syntax.specs.Names.{no_names, names, opened_by, Bounded}
use Rattle.syntax.specs.Operands.{due, operand_of, operands_due}
use Rattle.syntax.specs.InRange.{OffsetInRange, PlaceInRange, ValueInRange, CommandInRange, AllCounts, LoopsInRange}
use Rattle.syntax.specs.Laws.Each.{◌also◌}
use Rattle.syntax.specs.Laws.Heads.{copies, copies_more, operands_copies, each_operation}
use Rattle.syntax.specs.Laws.Pass.{Passes, none, both, row, count_in_holds, width_in, inputs_only, small}

-- ---- offsets, places and values

module _ (N : Names) (b : Bounded N) where
  abbrev O : Due
  O = due sort.Offset N

  abbrev W : Due
  W = due sort.Value N

  pub pass_offset : (o : Offset) → OffsetInRange N.counters o → Passes (O ∷ []) (offset_rows o)
  unfolding offset_rows operands_of table operands_due operand_of opened_by in_range one_of
  pass_offset (Offset.literal v) h = row O word_lit (pos v) 0 [] refl (le-leb v 4095 h) b none
  pass_offset (Offset.counter d) h = row O word_ctr (pos d) 0 [] refl (lt-ltb d N.counters h) b none
  pass_offset (plus x y) h = row O word_plus (pos 0) 2 (offset_rows x ++ offset_rows y) refl refl b (both O (O ∷ []) (offset_rows x) (offset_rows y) (pass_offset x h.0) (pass_offset y h.1))
  pass_offset (times n x) h = row O word_times (pos n) 1 (offset_rows x) refl (count_in_holds n h.0) b (pass_offset x h.1)
  pass_offset (over n x) h = row O word_over (pos n) 1 (offset_rows x) refl (count_in_holds n h.0) b (pass_offset x h.1)
  pass_offset (rest n x) h = row O word_rest (pos n) 1 (offset_rows x) refl (count_in_holds n h.0) b (pass_offset x h.1)

  pub pass_place : (p : Place) → PlaceInRange N.counters N.regions p → Passes (due sort.Place N ∷ []) (place_rows p)
  unfolding place_rows operands_of table operands_due operand_of opened_by in_range one_of
  pass_place (Place.output o) h = row (due sort.Place N) word_out (pos 0) 1 (offset_rows o) refl refl b (pass_offset o h)
  pass_place (Place.region d o) h = row (due sort.Place N) word_loc (pos d) 1 (offset_rows o) refl (lt-ltb d N.regions h.0) b (pass_offset o h.1)

  pass_value_operation : (a : List Row) → Passes (W ∷ W ∷ []) a → (o : Operation) → Passes (W ∷ []) ((operation_word o, pos 0) ∷ a)
  unfolding operands_of table operands_due operand_of opened_by in_range one_of
  pass_value_operation a f o =
      each_operation (λ w. Passes (W ∷ []) ((w, pos 0) ∷ a))
      (row W word_add (pos 0) 2 a refl refl b f
      also row W word_sub (pos 0) 2 a refl refl b f
      also row W word_mul (pos 0) 2 a refl refl b f
      also row W word_div (pos 0) 2 a refl refl b f
      also row W word_min (pos 0) 2 a refl refl b f
      also row W word_max (pos 0) 2 a refl refl b f
      also tt)
      o

  pub pass_value : (v : Value) → ValueInRange N.inputs N.counters N.regions v → Passes (W ∷ []) (value_rows v)
  unfolding value_rows operands_of table operands_due operand_of opened_by in_range one_of
  pass_value (Value.input k o) h = row W word_kind_in (pos k) 1 (offset_rows o) refl (lt-ltb k N.inputs h.0) b (pass_offset o h.1)
  pass_value (Value.region d o) h = row W word_loc (pos d) 1 (offset_rows o) refl (lt-ltb d N.regions h.0) b (pass_offset o h.1)
  pass_value (Value.literal z) h = row W word_lit z 0 [] refl refl b none
  pass_value (Value.negate v) h = row W word_neg (pos 0) 1 (value_rows v) refl refl b (pass_value v h)
  pass_value (Value.operation o v w) h =
      pass_value_operation (value_rows v ++ value_rows w) (both W (W ∷ []) (value_rows v) (value_rows w) (pass_value v h.0) (pass_value w h.1)) o

-- ---- commands

abbrev pub more_counters : Names → ℕ → Names
more_counters N l = names N.inputs N.variables (N.counters + 1) N.regions l

abbrev pub more_regions : Names → Names
more_regions N = names N.inputs N.variables N.counters (N.regions + 1) N.lanes

abbrev pub C : Names → Due
C N = due sort.Command N

-- a loop, whose command is due under its counter, and under one `lanes` more if it is one
module _ (N : Names) (n : ℕ) (a : List Row) where
  pass_loop : (kind : LoopKind) → RoundsInRange kind n → Bounded (more_counters N (lanes_around kind N.lanes))
      → Passes (C (more_counters N (lanes_around kind N.lanes)) ∷ []) a → Passes (C N ∷ []) ((loop_word kind, pos n) ∷ a)
  unfolding operands_of table operands_due operand_of opened_by in_range one_of
  pass_loop LoopKind.parallel h b f = row (C N) word_par (pos n) 1 a refl (count_in_holds n h) b f
  pass_loop LoopKind.sequential h b f = row (C N) word_for (pos n) 1 a refl (count_in_holds n h) b f
  pass_loop LoopKind.lanes h b f = row (C N) word_lanes (pos n) 1 a refl (width_in n h) b f

pub pass_command : (N : Names) → Bounded N → (c : Command) → CommandInRange N.inputs N.counters N.regions c → LanesFit N.lanes c
    → Passes (C N ∷ []) (command_rows c)
unfolding command_rows operands_of table operands_due operand_of opened_by in_range one_of
pass_command N b (Command.assignment p v) h f =
    row (C N) word_set (pos 0) 2 (place_rows p ++ value_rows v) refl refl b
    (both (due sort.Place N) (due sort.Value N ∷ []) (place_rows p) (value_rows v) (pass_place N b p h.0) (pass_value N b v h.1))
pass_command N b (seq c d) h f =
    row (C N) word_seq (pos 0) 2 (command_rows c ++ command_rows d) refl refl b
    (both (C N) (C N ∷ []) (command_rows c) (command_rows d) (pass_command N b c h.0 f.0) (pass_command N b d h.1 f.1))
pass_command N b (loop kind n c) h f =
    let l : ℕ = lanes_around kind N.lanes in
    let M = more_counters N l in
    let e : Bounded M = record { variables_fit = b.variables_fit; counters_fit = h.1; regions_fit = b.regions_fit; lanes_fit = around_fit kind N.lanes b.lanes_fit f } in
    pass_loop N n (command_rows c) kind h.0 e (pass_command M e c h.2 (inside kind f))
  where
    inside : (kind : LoopKind) → LanesFit N.lanes (loop kind n c) → LanesFit (lanes_around kind N.lanes) c
    inside LoopKind.parallel f = f
    inside LoopKind.sequential f = f
    inside LoopKind.lanes f = f.1

    around_fit : (kind : LoopKind) (l : ℕ) → l ≤ 1 → LanesFit l (loop kind n c) → lanes_around kind l ≤ 1
    around_fit LoopKind.parallel l h f = h
    around_fit LoopKind.sequential l h f = h
    around_fit LoopKind.lanes l h f = f.0
pass_command N b (new n c) h f =
    let M = more_regions N in
    let e : Bounded M = record { variables_fit = b.variables_fit; counters_fit = b.counters_fit; regions_fit = h.1; lanes_fit = b.lanes_fit } in
    row (C N) word_new (pos n) 1 (command_rows c) refl (count_in_holds n h.0) e (pass_command M e c h.2 f)

-- ---- loops

pass_one_cells : (N : Names) → Bounded N → (n : ℕ) → IsCount n → Passes (due sort.Cells N ∷ []) ((word_cells, pos n) ∷ [])
unfolding operands_of table operands_due operand_of opened_by in_range one_of
pass_one_cells N b n h = row (due sort.Cells N) word_cells (pos n) 0 [] refl (count_in_holds n h) b none

pass_cells : (N : Names) → Bounded N → (os : List Due) (b : List Row) → Passes os b → (ns : List ℕ) → AllCounts ns
    → Passes (copies (length ns) (due sort.Cells N) ++ os) (all_cells_rows ns ++ b)
unfolding copies all_cells_rows
pass_cells N β os b f [] h = f
pass_cells N β os b f (n ∷ ns) h =
    both (due sort.Cells N) (copies (length ns) (due sort.Cells N) ++ os) ((word_cells, pos n) ∷ []) (all_cells_rows ns ++ b) (pass_one_cells N β n h.0) (pass_cells N β os b f ns h.1)

pub pass_loops : (L : Loops) → LoopsInRange L → Passes (due sort.Loops no_names ∷ []) (loops_rows L)
unfolding loops_rows operands_of table opened_by in_range one_of operand_of
pass_loops L h =
    let K = length L.inputs in
    let D = due sort.Cells no_names in
    let e : K + 2 ≡ suc (suc K) = omega arith in
    row (due sort.Loops no_names) word_loops (pos K) 2 (all_cells_rows L.inputs ++ ((word_cells, pos L.output) ∷ command_rows L.command)) refl (le-leb K 8 h.inputs_few) (small K)
    (rw (e, operands_copies (due sort.Loops no_names) word_loops K (suc K), copies_more K D (C (inputs_only K) ∷ []))
    (pass_cells no_names (small 0) (D ∷ C (inputs_only K) ∷ []) ((word_cells, pos L.output) ∷ command_rows L.command)
    (both D (C (inputs_only K) ∷ []) ((word_cells, pos L.output) ∷ []) (command_rows L.command) (pass_one_cells
    no_names (small 0) L.output h.output_cells) (pass_command (inputs_only K) (small K) L.command
    h.command (lanes_fit L.command h.apart)))
    L.inputs h.input_cells))
