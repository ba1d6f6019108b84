-- The tree of rows [1.7]: the rows are read from the last to the first, each over the trees that stand behind it. What this gives is
-- said by `Theorems`. Definitions only; assumes nothing.
use Rattle.std.specs.Prelude.{cond, List, [], ◌∷◌, map, ℕ, suc, eqb, ℤ, pos, get_or, take, drop, Option, Some, None}
use Rattle.arithmetic.specs.Arithmetic.{Operation}
use Rattle.words.specs.Kinds.{Row, word_num, word_arr, word_two, word_kind_in, word_var, word_lit, word_neg, word_add, word_sub, word_mul}
use Rattle.words.specs.Kinds.{word_div, word_min, word_max, word_mappar, word_mapseq, word_redseq, word_zip, word_pair, word_split}
use Rattle.words.specs.Kinds.{word_join, word_fst, word_snd, word_idx, word_set, word_seq, word_for, word_par, word_new, word_out, word_loc}
use Rattle.words.specs.Kinds.{word_ctr, word_plus, word_times, word_over, word_rest, word_vec, word_asvec, word_asscal, word_mapvec, word_kind_at}
use Rattle.words.specs.Kinds.{word_lanes}
use Rattle.words.specs.Words.{operands_of}
use Rattle.words.specs.declared.Sort.{Sort}
use Rattle.words.specs.declared.Sort.TheVariants as sort
use Rattle.meaning.specs.Types.{DataType, Series, number, array, vector}
use Rattle.meaning.specs.Terms.{LoopKind, Term, Plan}
use Rattle.meaning.specs.Loops.{Offset, Place, Value, Command, Loops, plus, times, over, rest, seq, loop, new}
use Rattle.syntax.specs.Ranges.{as_natural}

-- the operands of a word as a row of the first of these sorts that it makes
abbrev count_or : Option ℕ → ℕ → ℕ
count_or (Some m) n = m
count_or None n = n

unfoldable pub operands_among : List Sort → ℕ → ℕ
operands_among [] k = 0
operands_among (s ∷ ss) k = count_or (operands_of k s) (operands_among ss k)

-- what rows of these sorts come to, where a row makes one of its kind, its number and what stands behind it
unfoldable pub read_rows : {A : Type 0} → List Sort → (ℕ → ℤ → List A → A) → List Row → List A
read_rows ss make [] = []
read_rows ss make (r ∷ rs) = make r.0 r.1 (read_rows ss make rs) ∷ drop (operands_among ss r.0) (read_rows ss make rs)

-- what a word makes
unfoldable pub choose : {A : Type 0} → ℕ → A → List (ℕ × A) → A
choose k other [] = other
choose k other (c ∷ cs) = cond (eqb k c.0) c.1 (choose k other cs)

-- ---- plans

-- a row of a plan as a type and as a term
pub record PlanPart : Type 0 where
  pub type : DataType
  pub term : Term

abbrev pub empty_part : PlanPart
empty_part = record { type = number; term = Term.literal (pos 0) }

abbrev type_behind : List PlanPart → ℕ → DataType
type_behind S i = (get_or S i empty_part).type

abbrev term_behind : List PlanPart → ℕ → Term
term_behind S i = (get_or S i empty_part).term

abbrev pub plan_part : ℕ → ℤ → List PlanPart → PlanPart
plan_part k z S = record {
  type =
      choose k number
      ((word_num, number)
      ∷ (word_arr, array (as_natural z) (type_behind S 0))
      ∷ (word_two, DataType.pair (type_behind S 0) (type_behind S 1))
      ∷ (word_vec, vector (as_natural z))
      ∷ []);
  term =
      choose k (Term.literal (pos 0))
      ((word_kind_in, Term.input (as_natural z))
      ∷ (word_var, Term.variable (as_natural z))
      ∷ (word_lit, Term.literal z)
      ∷ (word_neg, Term.negate (term_behind S 0))
      ∷ (word_add, Term.operation Operation.addition (term_behind S 0) (term_behind S 1))
      ∷ (word_sub, Term.operation Operation.subtraction (term_behind S 0) (term_behind S 1))
      ∷ (word_mul, Term.operation Operation.multiplication (term_behind S 0) (term_behind S 1))
      ∷ (word_div, Term.operation Operation.division (term_behind S 0) (term_behind S 1))
      ∷ (word_min, Term.operation Operation.minimum (term_behind S 0) (term_behind S 1))
      ∷ (word_max, Term.operation Operation.maximum (term_behind S 0) (term_behind S 1))
      ∷ (word_mappar, Term.map LoopKind.parallel (term_behind S 0) (term_behind S 1))
      ∷ (word_mapseq, Term.map LoopKind.sequential (term_behind S 0) (term_behind S 1))
      ∷ (word_redseq, Term.reduce (term_behind S 0) (term_behind S 1) (term_behind S 2))
      ∷ (word_zip, Term.zip (term_behind S 0) (term_behind S 1))
      ∷ (word_pair, Term.pair (term_behind S 0) (term_behind S 1))
      ∷ (word_split, Term.split Series.arrays (as_natural z) (term_behind S 0))
      ∷ (word_join, Term.join Series.arrays (term_behind S 0))
      ∷ (word_fst, Term.first (term_behind S 0))
      ∷ (word_snd, Term.second (term_behind S 0))
      ∷ (word_idx, Term.index Series.arrays (as_natural z) (term_behind S 0))
      ∷ (word_asvec, Term.split Series.vectors (as_natural z) (term_behind S 0))
      ∷ (word_asscal, Term.join Series.vectors (term_behind S 0))
      ∷ (word_mapvec, Term.map LoopKind.lanes (term_behind S 0) (term_behind S 1))
      ∷ (word_kind_at, Term.index Series.vectors (as_natural z) (term_behind S 0))
      ∷ []);
}

abbrev pub plan_parts : List Row → List PlanPart
plan_parts rs = read_rows (sort.DataType ∷ sort.Term ∷ []) plan_part rs

-- K types and a term behind the first row
abbrev plan_behind : ℕ → List PlanPart → Plan
plan_behind K S = record { inputs = map (λ (x : PlanPart). x.type) (take K S); term = term_behind S K }

unfoldable pub plan_of : List Row → Plan
plan_of [] = plan_behind 0 []
plan_of (r ∷ rs) = plan_behind (as_natural r.1) (plan_parts rs)

-- ---- loops

-- a row of loops as a `cells` row and as each of the others
pub record LoopsPart : Type 0 where
  pub cells : ℕ
  pub offset : Offset
  pub place : Place
  pub value : Value
  pub command : Command

abbrev nowhere : Offset
nowhere = Offset.literal 0

abbrev pub empty_loops : LoopsPart
empty_loops = record {
  cells = 0;
  offset = nowhere;
  place = Place.output nowhere;
  value = Value.literal (pos 0);
  command = Command.assignment (Place.output nowhere) (Value.literal (pos 0));
}

abbrev part : List LoopsPart → ℕ → LoopsPart
part S i = get_or S i empty_loops

abbrev pub loops_part : ℕ → ℤ → List LoopsPart → LoopsPart
loops_part k z S = record {
  cells = as_natural z;
  offset =
      choose k nowhere
      ((word_lit, Offset.literal (as_natural z))
      ∷ (word_ctr, Offset.counter (as_natural z))
      ∷ (word_plus, plus (part S 0).offset (part S 1).offset)
      ∷ (word_times, times (as_natural z) (part S 0).offset)
      ∷ (word_over, over (as_natural z) (part S 0).offset)
      ∷ (word_rest, rest (as_natural z) (part S 0).offset)
      ∷ []);
  place =
      choose k empty_loops.place
      ((word_out, Place.output (part S 0).offset)
      ∷ (word_loc, Place.region (as_natural z) (part S 0).offset)
      ∷ []);
  value =
      choose k empty_loops.value
      ((word_kind_in, Value.input (as_natural z) (part S 0).offset)
      ∷ (word_loc, Value.region (as_natural z) (part S 0).offset)
      ∷ (word_lit, Value.literal z)
      ∷ (word_neg, Value.negate (part S 0).value)
      ∷ (word_add, Value.operation Operation.addition (part S 0).value (part S 1).value)
      ∷ (word_sub, Value.operation Operation.subtraction (part S 0).value (part S 1).value)
      ∷ (word_mul, Value.operation Operation.multiplication (part S 0).value (part S 1).value)
      ∷ (word_div, Value.operation Operation.division (part S 0).value (part S 1).value)
      ∷ (word_min, Value.operation Operation.minimum (part S 0).value (part S 1).value)
      ∷ (word_max, Value.operation Operation.maximum (part S 0).value (part S 1).value)
      ∷ []);
  command =
      choose k empty_loops.command
      ((word_set, Command.assignment (part S 0).place (part S 1).value)
      ∷ (word_seq, seq (part S 0).command (part S 1).command)
      ∷ (word_for, loop LoopKind.sequential (as_natural z) (part S 0).command)
      ∷ (word_par, loop LoopKind.parallel (as_natural z) (part S 0).command)
      ∷ (word_new, new (as_natural z) (part S 0).command)
      ∷ (word_lanes, loop LoopKind.lanes (as_natural z) (part S 0).command)
      ∷ []);
}

abbrev pub loops_parts : List Row → List LoopsPart
loops_parts rs = read_rows (sort.Cells ∷ sort.Command ∷ sort.Place ∷ sort.Value ∷ sort.Offset ∷ []) loops_part rs

-- the inputs' cells, the output's, and a command behind the first row
abbrev loops_behind : ℕ → List LoopsPart → Loops
loops_behind K S = record { inputs = map (λ (x : LoopsPart). x.cells) (take K S); output = (part S K).cells; command = (part S (suc K)).command }

unfoldable pub loops_of : List Row → Loops
loops_of [] = loops_behind 0 []
loops_of (r ∷ rs) = loops_behind (as_natural r.1) (loops_parts rs)
