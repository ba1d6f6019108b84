-- Computed tests of the definitions of `meaning`: the card P1 row by row, P2 and P7 run in all three orders, each clause of the
-- translation, and the cards on types, need and limits [15.1], [15.2]. Rows are compared as text, so that they stand here as a user
-- sees them.
use Rattle.std.specs.Prelude.{◌≡◌, refl, List, [], ◌∷◌, ◌++◌, map, ℕ, ◌≤◌, length, take, drop, ℤ, pos, cond, eqb}
use Rattle.std.proofs.Math.Option.{none, some}
use Prim.Native.String.{String, ◌++◌ as append}
use Rattle.std.proofs.Common.{arith}
use Rattle.arithmetic.specs.Arithmetic.{Operation, operate, sum, difference, clamp}
use Rattle.words.specs.Kinds.{Row}
use Rattle.words.specs.Words.{bytes, words, table}
use Rattle.numerals.specs.Numerals.{decimal, digits, last_digits}
use Rattle.lines.specs.Printing.{written, text_of}
use Rattle.meaning.specs.Types.{DataType, Series, number, array}
use Rattle.meaning.specs.Terms.{LoopKind, Term, Plan}
use Rattle.meaning.specs.Numbers.{clamped32}
use Rattle.meaning.specs.Values.{Datum, array_of, flatten, value}
use Rattle.meaning.specs.Layout.{room, first_room, second_room, round_room, region_room, body_room, need}
use Rattle.meaning.specs.Runs.{Order, run, run_loops}
use Rattle.meaning.specs.NamedOrders.{evens, odds, forward, backward, evens_then_odds, always}
use Rattle.meaning.specs.Translation.{assign, write_map, use_reduce, use_written, write_term, use_term, translation}
use Rattle.meaning.specs.Counts.{plan_writes}
use Rattle.meaning.specs.Rows.{type_rows, term_rows, all_type_rows, plan_rows, offset_rows, value_rows, place_rows, command_rows, all_cells_rows, loops_rows}
use Rattle.meaning.specs.Limits.{CellsWithin, TypeWithin}
use Rattle.meaning.proofs.Laws.Inference.{well_typed?, infer}

-- Rows as text

infixr 50 ◌⌢◌
-- two texts, a blank between them
◌⌢◌ : String → String → String
s ⌢ t = append s (append " " t)

-- a text in which a blank stands for the end of a line
lined : String → List ℕ
lined s = map (λ (b : ℕ). cond (eqb b 32) 10 b) (bytes s) ++ (10 ∷ [])

infix 40 ◌prints◌
◌prints◌ : List Row → String → Type 0
rs prints s = text_of words rs ≡ lined s

-- Plans, and numbers as values and as cells

abbrev plan : List DataType → Term → Plan
plan I e = record { inputs = I; term = e }

abbrev numbers : List ℕ → List ℤ
numbers l = map pos l

abbrev list_of : List ℕ → Datum ℤ
list_of l = array_of (map (λ n. Datum.number (pos n)) l)

abbrev total : Term
total = Term.operation Operation.addition (Term.variable 0) (Term.variable 1)

-- [15.1] P1

abbrev P1 : Plan
P1 = plan (array 2 number ∷ []) (Term.reduce (Term.literal (pos 0)) (Term.input 0) total)

p1_plan : plan_rows P1 prints "plan,1 arr,2 num,0 redseq,0 lit,0 in,0 add,0 var,0 var,1"
unfolding ◌prints◌ lined ◌⌢◌ words table text_of written decimal digits last_digits plan_rows all_type_rows type_rows term_rows
p1_plan = refl

p1_loops : loops_rows (translation P1)
    prints "loops,1 cells,2 cells,1 new,1 seq,0 set,0 loc,0 lit,0 lit,0 seq,0 for,2 set,0 loc,0 lit,0 add,0 loc,0 lit,0"
    ⌢ "in,0 times,1 ctr,0 set,0 out,0 lit,0 loc,0 lit,0"
unfolding ◌prints◌ lined ◌⌢◌ words table text_of written decimal digits last_digits
    loops_rows all_cells_rows command_rows place_rows value_rows offset_rows
    translation write_term use_term write_map use_reduce assign use_written
p1_loops = refl

-- [15.1] its lines, writes and need
p1_counts : (length (loops_rows (translation P1)) ≡ 25) × (plan_writes P1 ≡ 4) × (need (translation P1) ≡ 4)
unfolding need room loops_rows all_cells_rows command_rows place_rows value_rows offset_rows
    translation write_term use_term write_map use_reduce assign use_written
p1_counts = (refl, refl, refl)

p1_value : value clamped32 (list_of (4 ∷ 5 ∷ []) ∷ []) P1.term [] ≡ Datum.number (pos 9)
unfolding value operate sum clamp
p1_value = refl

p1_run : run_loops clamped32 (translation P1) (always forward (translation P1).command)
    (numbers (4 ∷ 5 ∷ 0 ∷ 0 ∷ []))
    ≡ record { store = numbers (4 ∷ 5 ∷ 9 ∷ 9 ∷ []); writes = 4 }
unfolding run_loops run always forward operate sum clamp room first_room second_room round_room region_room body_room
    translation write_term use_term write_map use_reduce assign use_written
p1_run = refl

-- [15.2] P2: the sums of 10 to 15 in groups of 2, in every order that can be named

abbrev P2 : Plan
P2 =
    plan (array 6 number ∷ [])
    (Term.map LoopKind.parallel (Term.split Series.arrays 2 (Term.input 0))
    (Term.reduce (Term.literal (pos 0)) (Term.variable 0) total))

-- [7.4] 6 cells of the input, 3 of the output, and one for the total of each of the 3 rounds
p2_need : need (translation P2) ≡ 12
unfolding need room translation write_term use_term write_map use_reduce assign use_written
p2_need = refl

p2_value : flatten (value clamped32 (list_of (10 ∷ 11 ∷ 12 ∷ 13 ∷ 14 ∷ 15 ∷ []) ∷ []) P2.term [])
    ≡ numbers (21 ∷ 25 ∷ 29 ∷ [])
unfolding value operate sum clamp
p2_value = refl

p2_output : ((n : ℕ) → Order LoopKind.parallel n) → List ℤ
p2_output order =
    take 3
    (drop 6
    (run_loops clamped32 (translation P2) (always order (translation P2).command)
    (numbers (10 ∷ 11 ∷ 12 ∷ 13 ∷ 14 ∷ 15 ∷ 0 ∷ 0 ∷ 0 ∷ 0 ∷ 0 ∷ 0 ∷ 0 ∷ 0 ∷ 0 ∷ []))).store)

p2_runs : map p2_output (forward ∷ backward ∷ evens_then_odds ∷ [])
    ≡ numbers (21 ∷ 25 ∷ 29 ∷ []) ∷ numbers (21 ∷ 25 ∷ 29 ∷ []) ∷ numbers (21 ∷ 25 ∷ 29 ∷ []) ∷ []
unfolding p2_output run_loops run always forward backward evens_then_odds evens odds operate sum clamp
    room first_room second_room round_room region_room body_room
    translation write_term use_term write_map use_reduce assign use_written
p2_runs = refl

-- [15.2] P7: the total (1, 2) and its parts exchanged, one round

abbrev P7 : Plan
P7 =
    plan (array 1 number ∷ [])
    (Term.reduce (Term.pair (Term.literal (pos 1)) (Term.literal (pos 2))) (Term.input 0)
    (Term.pair (Term.second (Term.variable 0)) (Term.first (Term.variable 0))))

p7_value : value clamped32 (list_of (0 ∷ []) ∷ []) P7.term []
    ≡ Datum.pair (Datum.number (pos 2)) (Datum.number (pos 1))
unfolding value
p7_value = refl

p7_run : take 2
    (drop 1
    (run_loops clamped32 (translation P7) (always forward (translation P7).command)
    (numbers (0 ∷ 0 ∷ 0 ∷ 0 ∷ 0 ∷ 0 ∷ 0 ∷ []))).store)
    ≡ numbers (2 ∷ 1 ∷ [])
unfolding run_loops run always forward room first_room second_room round_room region_room body_room
    translation write_term use_term write_map use_reduce assign use_written
p7_run = refl

-- Every clause of the translation: plans, and the rows of their commands

clauses : List (Plan × String)
clauses =
    -- [6.16] `seq` follows the clauses: a pair in a pair's first part, and a pair total
    (
      plan [] (Term.pair (Term.pair (Term.literal (pos 1)) (Term.literal (pos 2))) (Term.literal (pos 3))),
      "seq,0 seq,0 set,0 out,0 lit,0 lit,1 set,0 out,0 lit,1 lit,2 set,0 out,0 lit,2 lit,3",
    )
    ∷ (
      plan (array 1 number ∷ [])
          (Term.reduce (Term.pair (Term.literal (pos 1)) (Term.literal (pos 2))) (Term.input 0) (Term.variable 0)),
      "new,2 seq,0 seq,0 set,0 loc,0 lit,0 lit,1 set,0 loc,0 lit,1 lit,2 seq,0 for,1 new,2 seq,0 seq,0"
          ⌢ "set,0 loc,0 lit,0 loc,1 lit,0 set,0 loc,0 lit,1 loc,1 lit,1 seq,0 set,0 loc,1 lit,0 loc,0 lit,0"
          ⌢ "set,0 loc,1 lit,1 loc,0 lit,1 seq,0 set,0 out,0 lit,0 loc,0 lit,0 set,0 out,0 lit,1 loc,0 lit,1",
    )
    -- [6.20] `plus`: the sum so far, then the next summand
    ∷ (
      plan (array 2 (array 2 (array 2 number)) ∷ []) (Term.index Series.arrays 1 (Term.index Series.arrays 0 (Term.index Series.arrays 1 (Term.input 0)))),
      "set,0 out,0 lit,0 in,0 plus,0 plus,0 times,4 lit,1 times,2 lit,0 times,1 lit,1",
    )
    -- [6.21] nothing is simplified: groups of one
    ∷ (
      plan (array 2 number ∷ []) (Term.index Series.arrays 0 (Term.split Series.arrays 1 (Term.input 0))),
      "par,1 set,0 out,0 times,1 ctr,0 in,0 times,1 plus,0 times,1 lit,0 ctr,0",
    )
    ∷ (
      plan (array 2 number ∷ []) (Term.split Series.arrays 1 (Term.input 0)),
      "par,2 set,0 out,0 plus,0 times,1 over,1 ctr,0 times,1 rest,1 ctr,0 in,0 times,1 ctr,0",
    )
    -- [6.20] a sum of nothing is `lit,0`; [6.18] a first part adds nothing, a second part `lit,f`
    ∷ (
      plan (DataType.pair (DataType.pair number number) number ∷ []) (Term.first (Term.first (Term.input 0))),
      "set,0 out,0 lit,0 in,0 lit,0",
    )
    ∷ (
      plan (DataType.pair (array 2 number) number ∷ []) (Term.first (Term.input 0)),
      "par,2 set,0 out,0 times,1 ctr,0 in,0 times,1 ctr,0",
    )
    ∷ (
      plan (DataType.pair number (DataType.pair number number) ∷ []) (Term.second (Term.second (Term.input 0))),
      "set,0 out,0 lit,0 in,0 plus,0 lit,1 lit,1",
    )
    -- [6.18] the outermost step first
    ∷ (
      plan (array 2 (DataType.pair number (array 3 number)) ∷ [])
          (Term.index Series.arrays 2 (Term.second (Term.index Series.arrays 1 (Term.input 0)))),
      "set,0 out,0 lit,0 in,0 plus,0 plus,0 times,4 lit,1 lit,1 times,1 lit,2",
    )
    -- [6.19] c and f are those of what is stored: a `zip` written, and a `zip` read
    ∷ (
      plan (array 2 number ∷ array 2 (array 3 number) ∷ []) (Term.zip (Term.input 0) (Term.input 1)),
      "seq,0 par,2 set,0 out,0 times,4 ctr,0 in,0 times,1 ctr,0 par,2 par,3 set,0 out,0 plus,0 plus,0"
          ⌢ "times,4 ctr,1 lit,1 times,1 ctr,0 in,1 plus,0 times,3 ctr,1 times,1 ctr,0",
    )
    ∷ (
      plan (array 2 number ∷ array 2 number ∷ [])
          (Term.second (Term.index Series.arrays 1 (Term.zip (Term.input 0) (Term.input 1)))),
      "set,0 out,0 lit,0 in,1 times,1 lit,1",
    )
    -- [6.22] the regrouped index goes inside one `times,c`: groups read, and a flattened one read
    ∷ (
      plan (array 4 (array 3 number) ∷ []) (Term.index Series.arrays 1 (Term.index Series.arrays 1 (Term.split Series.arrays 2 (Term.input 0)))),
      "par,3 set,0 out,0 times,1 ctr,0 in,0 plus,0 times,3 plus,0 times,2 lit,1 lit,1 times,1 ctr,0",
    )
    ∷ (
      plan (array 2 (array 2 (array 3 number)) ∷ []) (Term.index Series.arrays 3 (Term.join Series.arrays (Term.input 0))),
      "par,3 set,0 out,0 times,1 ctr,0 in,0 plus,0 plus,0 times,6 over,2 lit,3 times,3 rest,2 lit,3"
          ⌢ "times,1 ctr,0",
    )
    -- [6.22] n is the length of a group: `join` read at an index, `join` written, `split` written
    ∷ (
      plan (array 2 (array 3 number) ∷ []) (Term.index Series.arrays 4 (Term.join Series.arrays (Term.input 0))),
      "set,0 out,0 lit,0 in,0 plus,0 times,3 over,3 lit,4 times,1 rest,3 lit,4",
    )
    ∷ (
      plan (array 2 (array 3 number) ∷ []) (Term.join Series.arrays (Term.input 0)),
      "par,2 par,3 set,0 out,0 times,1 plus,0 times,3 ctr,1 ctr,0 in,0 plus,0 times,3 ctr,1 times,1"
          ⌢ "ctr,0",
    )
    ∷ (
      plan (array 6 number ∷ []) (Term.split Series.arrays 2 (Term.input 0)),
      "par,6 set,0 out,0 plus,0 times,2 over,2 ctr,0 times,1 rest,2 ctr,0 in,0 times,1 ctr,0",
    )
    -- [6.10] `split` writes its operand; [6.11] `fst` uses its operand and assigns the part
    ∷ (
      plan (array 1 (array 4 number) ∷ []) (Term.split Series.arrays 2 (Term.index Series.arrays 0 (Term.input 0))),
      "par,4 set,0 out,0 plus,0 times,2 over,2 ctr,0 times,1 rest,2 ctr,0 in,0 plus,0 times,4 lit,0"
          ⌢ "times,1 ctr,0",
    )
    ∷ (
      plan (array 4 number ∷ []) (Term.first (Term.pair (Term.split Series.arrays 2 (Term.input 0)) (Term.literal (pos 9)))),
      "par,2 par,2 set,0 out,0 plus,0 times,2 ctr,1 times,1 ctr,0 in,0 times,1 plus,0 times,2 ctr,1"
          ⌢ "ctr,0",
    )
    -- [6.3] an array of pairs is assigned; [6.9] a `zip` is two writes
    ∷ (
      plan (array 2 (DataType.pair number number) ∷ []) (Term.input 0),
      "par,2 seq,0 set,0 out,0 times,2 ctr,0 in,0 times,2 ctr,0 set,0 out,0 plus,0 times,2 ctr,0 lit,1"
          ⌢ "in,0 plus,0 times,2 ctr,0 lit,1",
    )
    ∷ (
      plan (array 2 number ∷ array 2 number ∷ []) (Term.zip (Term.input 0) (Term.input 1)),
      "seq,0 par,2 set,0 out,0 times,2 ctr,0 in,0 times,1 ctr,0 par,2 set,0 out,0 plus,0 times,2 ctr,0"
          ⌢ "lit,1 in,1 times,1 ctr,0",
    )
    -- [6.3] an array is assigned by `par`, also in a `mapseq`
    ∷ (
      plan (array 1 (array 2 number) ∷ []) (Term.map LoopKind.sequential (Term.input 0) (Term.variable 0)),
      "for,1 par,2 set,0 out,0 plus,0 times,2 ctr,1 times,1 ctr,0 in,0 plus,0 times,2 ctr,1 times,1"
          ⌢ "ctr,0",
    )
    -- [6.14] a reduction uses the array, then the start
    ∷ (
      plan (array 1 number ∷ [])
          (Term.reduce (Term.reduce (Term.literal (pos 3)) (Term.input 0) (Term.variable 0))
          (Term.map LoopKind.parallel (Term.input 0) (Term.literal (pos 6))) (Term.variable 0)),
      "new,1 seq,0 par,1 set,0 loc,0 times,1 ctr,0 lit,6 new,1 seq,0 set,0 loc,0 lit,0 lit,3 seq,0"
          ⌢ "for,1 set,0 loc,0 lit,0 loc,0 lit,0 new,1 seq,0 set,0 loc,0 lit,0 loc,1 lit,0 seq,0 for,1 set,0"
          ⌢ "loc,0 lit,0 loc,0 lit,0 set,0 out,0 lit,0 loc,0 lit,0",
    )
    -- [6.14] the body of a number total may open regions, the total being one further out
    ∷ (
      plan (array 1 number ∷ [])
          (Term.reduce (Term.literal (pos 0)) (Term.input 0)
          (Term.index Series.arrays 0 (Term.map LoopKind.parallel (Term.input 0) (Term.variable 1)))),
      "new,1 seq,0 set,0 loc,0 lit,0 lit,0 seq,0 for,1 new,1 seq,0 par,1 set,0 loc,0 times,1 ctr,0 loc,1 lit,0"
          ⌢ "set,0 loc,1 lit,0 loc,0 times,1 lit,0 set,0 out,0 lit,0 loc,0 lit,0",
    )
    -- [6.13] a map used: its `new` first, the array's own regions inside
    ∷ (
      plan (array 1 number ∷ [])
          (Term.index Series.arrays 0
          (Term.map LoopKind.parallel (Term.map LoopKind.sequential (Term.input 0) (Term.literal (pos 1)))
          (Term.literal (pos 2)))),
      "new,1 seq,0 new,1 seq,0 for,1 set,0 loc,0 times,1 ctr,0 lit,1 par,1 set,0 loc,1 times,1 ctr,0"
          ⌢ "lit,2 set,0 out,0 lit,0 loc,0 times,1 lit,0",
    )
    -- [6.12] variables are expressions and no copies; [6.6] operations grow inline
    ∷ (
      plan (array 1 number ∷ [])
          (Term.map LoopKind.parallel (Term.input 0)
          (Term.operation Operation.multiplication
          (Term.operation Operation.addition (Term.variable 0) (Term.literal (pos 1)))
          (Term.negate (Term.variable 0)))),
      "par,1 set,0 out,0 times,1 ctr,0 mul,0 add,0 in,0 times,1 ctr,0 lit,1 neg,0 in,0 times,1 ctr,0",
    )
    -- [6.15] `fst` of a `pair` with a map in it: what is not read is used all the same
    ∷ (
      plan (array 1 number ∷ [])
          (Term.first
          (Term.pair (Term.literal (pos 1))
          (Term.index Series.arrays 0 (Term.map LoopKind.parallel (Term.input 0) (Term.literal (pos 2)))))),
      "new,1 seq,0 par,1 set,0 loc,0 times,1 ctr,0 lit,2 set,0 out,0 lit,0 lit,1",
    )
    -- [6.21] `idx,k` used and written; [6.6] `neg`
    ∷ (
      plan (array 3 number ∷ []) (Term.negate (Term.index Series.arrays 2 (Term.input 0))),
      "set,0 out,0 lit,0 neg,0 in,0 times,1 lit,2",
    )
    -- [6.9] `pair` written: first part, then second
    ∷ (
      plan (number ∷ array 2 number ∷ []) (Term.pair (Term.input 0) (Term.input 1)),
      "seq,0 set,0 out,0 lit,0 in,0 lit,0 par,2 set,0 out,0 plus,0 lit,1 times,1 ctr,0 in,1 times,1"
          ⌢ "ctr,0",
    )
    -- [6.22] a flattened one read in a map
    ∷ (
      plan (array 3 (array 2 number) ∷ [])
          (Term.map LoopKind.sequential (Term.join Series.arrays (Term.input 0)) (Term.negate (Term.variable 0))),
      "for,6 set,0 out,0 times,1 ctr,0 neg,0 in,0 plus,0 times,2 over,2 ctr,0 times,1 rest,2 ctr,0",
    )
    -- [6.14] array totals, one of a single number too: by next
    ∷ (
      plan (array 1 number ∷ []) (Term.reduce (Term.input 0) (Term.input 0) (Term.variable 0)),
      "new,1 seq,0 par,1 set,0 loc,0 times,1 ctr,0 in,0 times,1 ctr,0 seq,0 for,1 new,1 seq,0 par,1 set,0"
          ⌢ "loc,0 times,1 ctr,0 loc,1 times,1 ctr,0 par,1 set,0 loc,1 times,1 ctr,0 loc,0 times,1 ctr,0"
          ⌢ "par,1 set,0 out,0 times,1 ctr,0 loc,0 times,1 ctr,0",
    )
    ∷ (
      plan (array 2 (array 3 number) ∷ [])
          (Term.reduce (Term.index Series.arrays 0 (Term.input 0)) (Term.input 0) (Term.variable 1)),
      "new,3 seq,0 par,3 set,0 loc,0 times,1 ctr,0 in,0 plus,0 times,3 lit,0 times,1 ctr,0 seq,0 for,2"
          ⌢ "new,3 seq,0 par,3 set,0 loc,0 times,1 ctr,0 in,0 plus,0 times,3 ctr,1 times,1 ctr,0 par,3 set,0"
          ⌢ "loc,1 times,1 ctr,0 loc,0 times,1 ctr,0 par,3 set,0 out,0 times,1 ctr,0 loc,0 times,1 ctr,0",
    )
    ∷ []

clauses_translated : map (λ c. text_of words (command_rows (translation c.0).command)) clauses
    ≡ map (λ c. lined c.1) clauses
unfolding clauses ◌prints◌ lined ◌⌢◌ words table text_of written decimal digits last_digits
    command_rows place_rows value_rows offset_rows translation write_term use_term write_map use_reduce assign use_written
clauses_translated = refl

-- [6.1] the head: `cells` of each input, also of one never read, then of the output
head_translated : loops_rows (translation (plan (array 2 number ∷ DataType.pair number number ∷ []) (Term.literal (pos 7))))
    prints "loops,2 cells,2 cells,2 cells,1 set,0 out,0 lit,0 lit,7"
unfolding ◌prints◌ lined ◌⌢◌ words table text_of written decimal digits last_digits
    loops_rows all_cells_rows command_rows place_rows value_rows offset_rows translation write_term assign
head_translated = refl

-- [6.14] the start is used and then assigned: a start that is a map costs a region and a copy
abbrev map_start : Plan
map_start =
    plan (array 3 number ∷ [])
    (Term.reduce (Term.map LoopKind.parallel (Term.input 0) (Term.literal (pos 5))) (Term.input 0) (Term.variable 0))

map_start_counts : (length (loops_rows (translation map_start)) ≡ 49)
    × (plan_writes map_start ≡ 27)
    × (need (translation map_start) ≡ 15)
unfolding need room loops_rows all_cells_rows command_rows place_rows value_rows offset_rows
    translation write_term use_term write_map use_reduce assign use_written
map_start_counts = (refl, refl, refl)

-- [3.10] variable 0 is the total so far, 1 the element
total_first : value clamped32 (list_of (5 ∷ 7 ∷ []) ∷ [])
    (Term.reduce (Term.literal (pos 100)) (Term.input 0)
    (Term.operation Operation.subtraction (Term.variable 0) (Term.variable 1))) []
    ≡ Datum.number (pos 88)
unfolding value operate difference clamp
total_first = refl

-- [15.2] Types: P3, `split,3` of 7; P4, `idx,1` and `idx,2` of two; `zip` of 3 and 4

types_checked : (infer (array 2 number ∷ []) [] P1.term ≡ some number)
    × (infer (array 7 number ∷ []) [] (Term.split Series.arrays 3 (Term.input 0)) ≡ none)
    × (infer (array 2 number ∷ []) [] (Term.index Series.arrays 1 (Term.input 0)) ≡ some number)
    × (infer (array 2 number ∷ []) [] (Term.index Series.arrays 2 (Term.input 0)) ≡ none)
    × (infer (array 3 number ∷ array 4 number ∷ []) [] (Term.zip (Term.input 0) (Term.input 1)) ≡ none)
unfolding infer well_typed? native.Mathlib.Decide.dec_lt native.Mathlib.Decide.ℕ_discrete
types_checked = (refl, refl, refl, refl, refl)

-- [15.2] Limits: P9, 64 × 64 cells pass and 65 × 64 do not; nine levels do not

limits_checked : CellsWithin (array 64 (array 64 number))
    × (CellsWithin (array 65 (array 64 number)) → ⊥)
    × (TypeWithin (array 1 (array 1 (array 1 (array 1 (array 1 (array 1 (array 1 (array 1 number)))))))) → ⊥)
limits_checked = (
  (omega arith, omega arith, (omega arith, omega arith, tt)),
  λ h. let l = h.1 in omega arith,
  λ h. let l : 9 ≤ 8 = h.1 in omega arith,
)
