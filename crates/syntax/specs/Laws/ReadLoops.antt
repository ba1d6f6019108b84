-- The rows of loops are read back as those loops. Assumes nothing.
use Rattle.std.specs.Prelude.{◌≡◌, refl, List, [], ◌∷◌, ◌++◌, map, ℕ, suc, ◌+◌, pos, length, get_or, take}
use Rattle.std.proofs.Common.{sym, ap, ap₂, ◌∙◌, append-nil, arith, get_or-append-add}
use Rattle.arithmetic.specs.Arithmetic.{Operation}
use Rattle.words.specs.Kinds.{word_kind_in, word_lit, word_neg, word_add, word_sub, word_mul, word_div, word_min, word_max, word_cells, word_set}
use Rattle.words.specs.Kinds.{word_seq, word_for, word_par, word_new, word_out, word_loc, word_ctr, word_plus, word_times, word_over}
use Rattle.words.specs.Kinds.{word_rest, word_lanes}
use Rattle.words.specs.Words.{operands_of, table}
use Rattle.words.specs.declared.Sort.{Sort}
use Rattle.words.specs.declared.Sort.TheVariants as sort
use Rattle.meaning.specs.Terms.{LoopKind}
use Rattle.meaning.specs.Loops.{Offset, Place, Value, Command, Loops, plus, times, over, rest, seq, loop, new}
use Rattle.meaning.specs.Rows.{offset_rows, value_rows, place_rows, command_rows, all_cells_rows, loops_rows}
use Rattle.syntax.specs.Reading.{operands_among, read_rows, choose, LoopsPart, empty_loops, loops_part, loops_parts, loops_of}
use Rattle.syntax.specs.Laws.Read.{Comes, both, row, Has, none, one, two, inputs_front, behind_inputs}

-- ---- loops

abbrev loops_sorts : List Sort
loops_sorts = sort.Cells ∷ sort.Command ∷ sort.Place ∷ sort.Value ∷ sort.Offset ∷ []

abbrev offset_in : LoopsPart → Offset
offset_in x = x.offset

abbrev value_in : LoopsPart → Value
value_in x = x.value

abbrev command_in : LoopsPart → Command
command_in x = x.command

abbrev place_in : LoopsPart → Place
place_in x = x.place

abbrev OffsetHas : Offset → Type 0
OffsetHas o = Has loops_sorts loops_part offset_rows offset_in o

abbrev ValueHas : Value → Type 0
ValueHas v = Has loops_sorts loops_part value_rows value_in v

abbrev CommandHas : Command → Type 0
CommandHas c = Has loops_sorts loops_part command_rows command_in c

read_offset_holds : (o : Offset) → OffsetHas o
unfolding offset_rows operands_among operands_of table choose
read_offset_holds (Offset.literal v) = none loops_sorts loops_part offset_rows offset_in word_lit (pos v) (Offset.literal v) refl refl (λ S. refl) refl
read_offset_holds (Offset.counter d) = none loops_sorts loops_part offset_rows offset_in word_ctr (pos d) (Offset.counter d) refl refl (λ S. refl) refl
read_offset_holds (plus x y) =
    two loops_sorts loops_part offset_rows offset_in offset_rows offset_in offset_rows offset_in word_plus (pos 0) plus x y refl refl (λ a b S. refl)
    (λ a b. refl) (read_offset_holds x) (read_offset_holds y)
read_offset_holds (times n x) = one loops_sorts loops_part offset_rows offset_in offset_rows offset_in word_times (pos n) (times n) x refl refl (λ a S. refl) (λ a. refl) (read_offset_holds x)
read_offset_holds (over n x) = one loops_sorts loops_part offset_rows offset_in offset_rows offset_in word_over (pos n) (over n) x refl refl (λ a S. refl) (λ a. refl) (read_offset_holds x)
read_offset_holds (rest n x) = one loops_sorts loops_part offset_rows offset_in offset_rows offset_in word_rest (pos n) (rest n) x refl refl (λ a S. refl) (λ a. refl) (read_offset_holds x)

read_place : (p : Place) → Has loops_sorts loops_part place_rows place_in p
unfolding place_rows operands_among operands_of table choose
read_place (Place.output o) = one loops_sorts loops_part offset_rows offset_in place_rows place_in word_out (pos 0) Place.output o refl refl (λ a S. refl) (λ a. refl) (read_offset_holds o)
read_place (Place.region d o) = one loops_sorts loops_part offset_rows offset_in place_rows place_in word_loc (pos d) (Place.region d) o refl refl (λ a S. refl) (λ a. refl) (read_offset_holds o)

abbrev two_values : (k : ℕ) (f : Value → Value → Value) (v w : Value) → value_rows (f v w) ≡ (k, pos 0) ∷ (value_rows v ++ value_rows w) → operands_among loops_sorts k ≡ 2
    → ((a b : LoopsPart) (S : List LoopsPart) → loops_part k (pos 0) (a ∷ b ∷ S) ≡ loops_part k (pos 0) (a ∷ b ∷ []))
    → ((a b : LoopsPart) → (loops_part k (pos 0) (a ∷ b ∷ [])).value ≡ f a.value b.value) → ValueHas v → ValueHas w
    → ValueHas (f v w)
two_values k f v w r o m t h g = two loops_sorts loops_part value_rows value_in value_rows value_in value_rows value_in k (pos 0) f v w r o m t h g

read_value_operation : (o : Operation) (v w : Value) → ValueHas v → ValueHas w → ValueHas (Value.operation o v w)
unfolding value_rows operands_among operands_of table choose
read_value_operation Operation.addition v w h g = two_values word_add (Value.operation Operation.addition) v w refl refl (λ a b S. refl) (λ a b. refl) h g
read_value_operation Operation.subtraction v w h g = two_values word_sub (Value.operation Operation.subtraction) v w refl refl (λ a b S. refl) (λ a b. refl) h g
read_value_operation Operation.multiplication v w h g = two_values word_mul (Value.operation Operation.multiplication) v w refl refl (λ a b S. refl) (λ a b. refl) h g
read_value_operation Operation.division v w h g = two_values word_div (Value.operation Operation.division) v w refl refl (λ a b S. refl) (λ a b. refl) h g
read_value_operation Operation.minimum v w h g = two_values word_min (Value.operation Operation.minimum) v w refl refl (λ a b S. refl) (λ a b. refl) h g
read_value_operation Operation.maximum v w h g = two_values word_max (Value.operation Operation.maximum) v w refl refl (λ a b S. refl) (λ a b. refl) h g

read_value : (v : Value) → ValueHas v
unfolding value_rows operands_among operands_of table choose
read_value (Value.input k o) = one loops_sorts loops_part offset_rows offset_in value_rows value_in word_kind_in (pos k) (Value.input k) o refl refl (λ a S. refl) (λ a. refl) (read_offset_holds o)
read_value (Value.region d o) = one loops_sorts loops_part offset_rows offset_in value_rows value_in word_loc (pos d) (Value.region d) o refl refl (λ a S. refl) (λ a. refl) (read_offset_holds o)
read_value (Value.literal z) = none loops_sorts loops_part value_rows value_in word_lit z (Value.literal z) refl refl (λ S. refl) refl
read_value (Value.negate v) = one loops_sorts loops_part value_rows value_in value_rows value_in word_neg (pos 0) Value.negate v refl refl (λ a S. refl) (λ a. refl) (read_value v)
read_value (Value.operation o v w) = read_value_operation o v w (read_value v) (read_value w)

read_loop : (kind : LoopKind) (n : ℕ) (c : Command) → CommandHas c → CommandHas (loop kind n c)
unfolding command_rows operands_among operands_of table choose
read_loop LoopKind.parallel n c h = one loops_sorts loops_part command_rows command_in command_rows command_in word_par (pos n) (loop LoopKind.parallel n) c refl refl (λ a S. refl) (λ a. refl) h
read_loop LoopKind.sequential n c h = one loops_sorts loops_part command_rows command_in command_rows command_in word_for (pos n) (loop LoopKind.sequential n) c refl refl (λ a S. refl) (λ a. refl) h
read_loop LoopKind.lanes n c h = one loops_sorts loops_part command_rows command_in command_rows command_in word_lanes (pos n) (loop LoopKind.lanes n) c refl refl (λ a S. refl) (λ a. refl) h

read_command : (c : Command) → CommandHas c
unfolding command_rows operands_among operands_of table choose
read_command (Command.assignment p v) =
    two loops_sorts loops_part place_rows place_in value_rows value_in command_rows command_in word_set (pos 0) Command.assignment p v refl refl
    (λ a b S. refl) (λ a b. refl) (read_place p) (read_value v)
read_command (seq c d) =
    two loops_sorts loops_part command_rows command_in command_rows command_in command_rows command_in word_seq (pos 0) seq c d refl refl (λ a b S. refl)
    (λ a b. refl) (read_command c) (read_command d)
read_command (loop kind n c) = read_loop kind n c (read_command c)
read_command (new n c) = one loops_sorts loops_part command_rows command_in command_rows command_in word_new (pos n) (new n) c refl refl (λ a S. refl) (λ a. refl) (read_command c)

-- a `cells` row
cells_row : (n : ℕ) → Comes loops_sorts loops_part ((word_cells, pos n) ∷ []) (loops_part word_cells (pos n) [] ∷ [])
unfolding operands_among operands_of table choose
cells_row n = row loops_sorts loops_part word_cells (pos n) [] [] refl (λ S. refl) (λ R. refl)

read_cells : (ns : List ℕ) → (ys : List LoopsPart) × (map (λ (x : LoopsPart). x.cells) ys ≡ ns) × (length ys ≡ length ns) × Comes loops_sorts loops_part (all_cells_rows ns) ys
unfolding all_cells_rows
read_cells [] = ([], refl, refl, λ R. refl)
read_cells (n ∷ ns) =
    let r = read_cells ns in (
      loops_part word_cells (pos n) [] ∷ r.0,
      ap (λ (l : List ℕ). n ∷ l) r.1,
      ap suc r.2,
      both loops_sorts
          loops_part ((word_cells, pos n) ∷ []) (all_cells_rows ns) (loops_part word_cells (pos n) []) r.0
          (cells_row n) r.3,
    )

pub loops_back : (L : Loops) → loops_of (loops_rows L) ≡ L
unfolding loops_of loops_rows read_rows choose
loops_back L =
    let K = length L.inputs in
    let r = read_cells L.inputs in
    let h = read_command L.command in
    let o = loops_part word_cells (pos L.output) [] in
    let S : loops_parts (all_cells_rows L.inputs ++ ((word_cells, pos L.output) ∷ command_rows L.command)) ≡ r.0 ++ (o ∷ h.0 ∷ []) =
    r.3 ((word_cells, pos L.output) ∷ command_rows L.command)
    ∙ ap (λ (l : List LoopsPart). r.0 ++ l) (cells_row L.output (command_rows L.command)
    ∙ ap (λ (l : List LoopsPart). o ∷ l) (ap loops_parts (sym (append-nil (command_rows L.command))) ∙ h.2 [])) in
    let e : length r.0 + 1 ≡ suc K = omega (arith, r.2) in
    let i = ap (λ (l : List LoopsPart). map (λ (x : LoopsPart). x.cells) (take K l)) S ∙ ap (map (λ (x : LoopsPart). x.cells)) (inputs_front r.0 o (h.0 ∷ []) K r.2) ∙ r.1 in
    let out = ap (λ (l : List LoopsPart). (get_or l K empty_loops).cells) S ∙ ap (λ (x : LoopsPart). x.cells) (behind_inputs r.0 o (h.0 ∷ []) K r.2 empty_loops) in
    let c = ap (λ (l : List LoopsPart). (get_or l (suc K) empty_loops).command) S ∙ ap (λ (n : ℕ). (get_or (r.0 ++ (o ∷ h.0 ∷ [])) n empty_loops).command) (sym e)
    ∙ ap (λ (x : LoopsPart). x.command) (get_or-append-add r.0 (o ∷ h.0 ∷ []) 1 empty_loops) ∙ h.1 in
    ap₂ (λ (is : List ℕ) (oc : ℕ × Command). record { inputs = is; output = oc.0; command = oc.1 }) i (ap₂ (λ (n : ℕ) (d : Command). (n, d)) out c)
