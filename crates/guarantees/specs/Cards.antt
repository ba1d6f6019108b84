-- The cards P1 to P10, [15.1] and [15.2], and plans with vectors: lists from the plans' texts, and one proof.
--
-- It is computed from the definitions that the contracts of the entries name:
--   typing      check_plan_text: `check_text` of `plans`
--   translate   make_text, plan_in, rows_made; text_of of `lines`: `translate_text`
--   loops       check_loops_text: `check_text`
--   run         run_text: `run_text`
--   refusals    refusal_number, refusal_line: the number and the line of a refusal
-- Where arrays differ in length only, the fact is shown for every length: `split_any_length` (P3), `index_any_length` (P4) and
-- `cells_any_length` (P9) of `typing`, Theorems.
use Rattle.std.specs.Prelude.{◌≡◌, refl, cond, List, [], ◌∷◌, ◌++◌, map, ℕ, eqb, ℤ, pos, negsuc, take, drop, Ok, Err}
use Rattle.loops.specs.Checked.{Checked, passing}
use Rattle.refusals.specs.Answers.{Answer}
use Prim.Native.String.{String, ◌++◌ as append}
use Rattle.arithmetic.specs.Arithmetic.{clamp, sum, difference, product, negation, nearest, quotient, lesser, greater, operate}
use Rattle.refusals.specs.Refusals.{refusal_number, refusal_line}
use Rattle.words.specs.Words.{bytes, table, words, same_letters, look_from, operands_of}
use Rattle.numerals.specs.Numerals.{all_digits, value, leading_zero, unsigned, not_below_zero, below_zero, numeral_of as numeral_of, last_digits, digits, decimal}
use Rattle.texts.specs.Texts.{lines_of, place_of}
use Rattle.lines.specs.Reading.{line_of as row_of, rows_in, formed, reading}
use Rattle.lines.specs.Lent.{text_rows}
use Rattle.lines.specs.Printing.{written, text_of}
use Rattle.meaning.specs.Loops.{Loops}
use Rattle.meaning.specs.Layout.{all_cells, room, first_room, second_room, round_room, region_room, body_room, need}
use Rattle.meaning.specs.Runs.{run as runCommand, run_loops}
use Rattle.meaning.specs.NamedOrders.{evens, odds, forward, backward, evens_then_odds, always}
use Rattle.meaning.specs.Rows.{type_rows, term_rows, all_type_rows, plan_rows, offset_rows, value_rows, place_rows, command_rows, all_cells_rows, loops_rows}
use Rattle.meaning.specs.Translation.{assign, write_map, use_reduce, use_written, write_term, use_term, translation}
use Rattle.words.specs.Groups.{one_of}
use Rattle.syntax.specs.Ranges.{in_range}
use Rattle.syntax.specs.Names.{opened_by}
use Rattle.syntax.specs.Operands.{operand_of, operands_due}
use Rattle.syntax.specs.Walk.{ask_row, walk_from, listed_from, walk_table}
use Rattle.syntax.specs.Reading.{operands_among, read_rows, choose, plan_of, loops_of}
use Rattle.typing.specs.Check.{check, check_type, check_types, check_plan}
use Rattle.typing.specs.Entry.{check_plan_rows, check_plan_text}
use Rattle.bounds.specs.Bounds.{every_row_bounded, ask_offset, ask_value, ask_place, ask_set, ask_command, ask_bounds}
use Rattle.loops.specs.Check.{check_loops, check_loops_rows as check_loops_rows, check_loops_text as check_loops_text}
use Rattle.translate.specs.Entry.{make_plan, make_text, rows_made}
use Rattle.run.specs.Run.{Ran, asked_run, run_text}
use Rattle.interpreter.specs.Orders.{run_of}

-- ---- what is asked and what is answered

-- the loops whose rows a text's lines are
abbrev loops_in : List ℕ → Loops
loops_in u = loops_of (text_rows words u)

-- a text's lines, written with blanks between them
abbrev text : String → List ℕ
text s = map (λ (b : ℕ). cond (eqb b 32) 10 b) (bytes s) ++ (10 ∷ [])

-- What is put to the entries, beginning from a plan's text.
pub data Asked : Type 0 where
  -- its check
  checked : String → Asked
  -- its translation, and the check of the loops made
  translated : String → Asked
  -- the run of the loops made, in an order, on a store
  run : String → ℕ → List ℤ → Asked

-- What is answered.
pub data Answered : Type 0 where
  -- a refusal's number and line
  refused : ℕ → ℕ → Answered
  -- the plan passes
  passes : Answered
  -- the loops' text, its lines, their writes and their need
  made : List ℕ → ℕ → ℕ → ℕ → Answered
  -- the writes and the output cells
  finished : ℕ → List ℤ → Answered

-- the loops' text that is made from a plan's
abbrev made_from : String → List ℕ
made_from s = text_of words (rows_made words (text s))

abbrev of_plan : Answer → Answered
of_plan (Ok n) = passes
of_plan (Err q) = refused (refusal_number q) (refusal_line q)

abbrev of_loops : List ℕ → ℕ → Checked → Answered
of_loops u lines (Ok p) = made u lines p.writes p.need
of_loops u lines (Err q) = refused (refusal_number q) (refusal_line q)

abbrev of_translation : List ℕ → Answer → Answered
of_translation u (Ok n) = of_loops u n (check_loops_text words u)
of_translation u (Err q) = refused (refusal_number q) (refusal_line q)

-- [7.5] the output cells, which lie behind the inputs
abbrev output_cells : Loops → List ℤ → List ℤ
output_cells L s = take L.output (drop (all_cells L.inputs) s)

abbrev of_run : Loops → Answer → List ℤ → Answered
of_run L (Ok w) s = finished w (output_cells L s)
of_run L (Err q) s = refused (refusal_number q) (refusal_line q)

abbrev after_run : Loops → Ran → Answered
after_run L o = of_run L o.answer o.store

abbrev answered : Asked → Answered
answered (checked s) = of_plan (check_plan_text words (text s))
answered (translated s) = of_translation (made_from s) (make_text words (text s))
answered (run s order store) = after_run (loops_in (made_from s)) (run_text words (made_from s) order store)

-- ---- the cards

-- a card's name, what is asked and what is to be answered
abbrev pub Card : Type 0
Card = String × Asked × Answered

-- in each of the orders 0, 1 and 2
abbrev each_order : String → String → List ℤ → Answered → List Card
each_order name s store a = (name, run s 0 store, a) ∷ (name, run s 1 store, a) ∷ (name, run s 2 store, a) ∷ []

abbrev numbers : List ℕ → List ℤ
numbers l = map pos l

-- [15.1] P1: its plan, and the loops made of it
abbrev example : String
example = "plan,1 arr,2 num,0 redseq,0 lit,0 in,0 add,0 var,0 var,1"

abbrev example_loops : String
example_loops =
    append "loops,1 cells,2 cells,1 new,1 seq,0 set,0 loc,0 lit,0 lit,0 seq,0 for,2 set,0 loc,0 lit,0 add,0 loc,0 lit,0 in,0 "
    "times,1 ctr,0 set,0 out,0 lit,0 loc,0 lit,0"

abbrev groups : String
groups = "plan,1 arr,6 num,0 mappar,0 split,2 in,0 redseq,0 lit,0 var,0 add,0 var,0 var,1"

abbrev exchange : String
exchange = "plan,1 arr,1 num,0 redseq,0 pair,0 lit,1 lit,2 in,0 pair,0 snd,0 var,0 fst,0 var,0"

abbrev pub cards : List Card
cards =
    -- [15.1] 25 lines, 4 writes and a need of 4 cells; and of 4 and 5 comes 9
    ("P1", translated example, made (text example_loops) 25 4 4)
    ∷ each_order "P1" example (numbers (4 ∷ 5 ∷ 0 ∷ 0 ∷ [])) (finished 4 (numbers (9 ∷ [])))
    -- [15.2] P2 to P10
    ++ each_order "P2" groups (numbers (10 ∷ 11 ∷ 12 ∷ 13 ∷ 14 ∷ 15 ∷ 0 ∷ 0 ∷ 0 ∷ 0 ∷ 0 ∷ 0 ∷ []))
    (finished 12 (numbers (21 ∷ 25 ∷ 29 ∷ [])))
    ++ ("P3", checked "plan,1 arr,7 num,0 split,3 in,0", refused 7 4)
    ∷ ("P4", checked "plan,1 arr,2 num,0 idx,1 in,0", passes)
    ∷ ("P4", checked "plan,1 arr,2 num,0 idx,2 in,0", refused 7 4)
    -- `negsuc n` is −(n + 1)
    ∷ each_order "P5" "plan,0 div,0 lit,-7 lit,2" (numbers (0 ∷ [])) (finished 1 (negsuc 3 ∷ []))
    ++ each_order "P5" "plan,0 div,0 lit,7 lit,0" (numbers (0 ∷ [])) (finished 1 (numbers (0 ∷ [])))
    ++ each_order "P6" "plan,0 div,0 lit,-2147483648 lit,-1" (numbers (0 ∷ [])) (finished 1 (numbers (2147483647 ∷ [])))
    ++ each_order "P7" exchange (numbers (0 ∷ 0 ∷ 0 ∷ 0 ∷ 0 ∷ 0 ∷ 0 ∷ [])) (finished 8 (numbers (2 ∷ 1 ∷ [])))
    ++ each_order "P8" example (numbers (4 ∷ 5 ∷ 1 ∷ 2 ∷ [])) (finished 4 (numbers (9 ∷ [])))
    ++ each_order "P8" example (numbers (4 ∷ 5 ∷ 0 ∷ [])) (refused 14 0)
    ++ ("P9", checked "plan,1 arr,64 arr,64 num,0 in,0", passes)
    ∷ ("P9", checked "plan,1 arr,65 arr,64 num,0 in,0", refused 8 2)
    ∷ ("P10", checked "plan,0 lit,-0", refused 2 2)
    ∷ []

-- [18.12] Plans with vectors: one lane; a map of lanes over the elements of an array; a vector total in a `mapvec` makes a `lanes` inside another,
-- a `mapvec` that is used in front of one makes none.
abbrev pub vectors : List Card
vectors =
    ("lane", translated "plan,1 vec,8 at,7 in,0", made (text "loops,1 cells,8 cells,1 set,0 out,0 lit,0 in,0 times,1 lit,7") 9 1 9)
    ∷ each_order "lanes" "plan,1 arr,2 vec,2 asscal,0 mappar,0 in,0 mapvec,0 var,0 add,0 var,0 at,1 var,1"
    (numbers (1 ∷ 2 ∷ 3 ∷ 4 ∷ 0 ∷ 0 ∷ 0 ∷ 0 ∷ [])) (finished 4 (numbers (3 ∷ 4 ∷ 7 ∷ 8 ∷ [])))
    ++ ("inside", translated "plan,2 vec,2 arr,1 num,0 mapvec,0 in,0 at,0 redseq,0 in,0 in,1 var,0", refused 18 0)
    ∷ each_order "before" "plan,1 vec,2 at,0 mapvec,0 mapvec,0 in,0 neg,0 var,0 neg,0 var,0"
    (numbers (5 ∷ 6 ∷ 0 ∷ 0 ∷ 0 ∷ 0 ∷ 0 ∷ [])) (finished 5 (numbers (5 ∷ [])))

pub cards_answered : map (λ (c : Card). answered c.1) (cards ++ vectors) ≡ map (λ (c : Card). c.2) (cards ++ vectors)
unfolding
    clamp sum difference product negation nearest quotient lesser greater operate
    words table same_letters look_from operands_of
    all_digits value leading_zero unsigned not_below_zero below_zero numeral_of last_digits digits decimal
    lines_of place_of row_of rows_in formed reading written text_of
    room first_room second_room round_room region_room body_room need
    runCommand run_loops evens odds forward backward evens_then_odds always
    type_rows term_rows all_type_rows plan_rows offset_rows value_rows place_rows command_rows all_cells_rows loops_rows
    assign write_map use_reduce use_written write_term use_term translation
    one_of in_range opened_by operand_of operands_due ask_row walk_from listed_from walk_table operands_among read_rows choose plan_of loops_of
    check check_type check_types check_plan check_plan_rows check_plan_text
    every_row_bounded ask_offset ask_value ask_place ask_set ask_command ask_bounds check_loops check_loops_rows check_loops_text
    make_plan make_text run_of asked_run run_text
cards_answered = refl
