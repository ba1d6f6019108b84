-- The rows of a plan in range walk well. Assumes nothing.
use Rattle.std.proofs.Math.Path.{refl}
use mathlib.Core.List.{List, [], ◌∷◌, ◌++◌, append_assoc}
use Rattle.std.specs.Prelude.{ℕ, ◌+◌, ◌≤◌, pos, length}
use Rattle.std.proofs.Common.{add-one, lt-ltb, le-leb}
use Rattle.arithmetic.specs.Arithmetic.{Operation}
use Rattle.words.specs.Kinds.{Row, word_plan, word_num, word_arr, word_two, word_kind_in, word_var, word_lit, word_neg, word_add, word_sub}
use Rattle.words.specs.Kinds.{word_mul, word_div, word_min, word_max, word_mappar, word_mapseq, word_redseq, word_zip, word_pair}
use Rattle.words.specs.Kinds.{word_split, word_join, word_fst, word_snd, word_idx, word_vec, word_asvec, word_asscal, word_mapvec, word_kind_at}
use Rattle.words.specs.Words.{operands_of, table}
use Rattle.words.specs.declared.Sort.TheVariants as sort
use Rattle.meaning.specs.Types.{DataType, Series, number, array, vector}
use Rattle.meaning.specs.Terms.{LoopKind, Term, Plan}
use Rattle.meaning.specs.Rows.{operation_word, map_word, split_word, join_word, index_word, type_rows, term_rows, all_type_rows, plan_rows}
use Rattle.syntax.specs.declared.names.Names.{Names}
use Rattle.syntax.specs.declared.operands.Due.{Due}
use Rattle.words.specs.Groups.{one_of}
use Rattle.syntax.specs.Ranges.{in_range}
use Rattle.syntax.specs.Names.{no_names, names, opened_by, Bounded}
use Rattle.syntax.specs.Operands.{due, operand_of, operands_due}
use Rattle.syntax.specs.InRange.{TypeInRange, AllTypesInRange, GroupInRange, last_element, TermInRange, PlanInRange}
use Rattle.syntax.specs.Laws.Each.{◌also◌}
use Rattle.syntax.specs.Laws.Heads.{copies, operands_copies, each_operation}
use Rattle.syntax.specs.Laws.Pass.{Passes, none, both, row, count_in_holds, width_in, inputs_only, small}

-- ---- types

module _ (N : Names) (b : Bounded N) where
  abbrev Y : Due
  Y = due sort.DataType N

  pub pass_type : (t : DataType) → TypeInRange t → Passes (Y ∷ []) (type_rows t)
  unfolding type_rows operands_of table operands_due operand_of opened_by in_range one_of
  pass_type number h = row Y word_num (pos 0) 0 [] refl refl b none
  pass_type (array n t) h = row Y word_arr (pos n) 1 (type_rows t) refl (count_in_holds n h.0) b (pass_type t h.1)
  pass_type (DataType.pair s t) h = row Y word_two (pos 0) 2 (type_rows s ++ type_rows t) refl refl b (both Y (Y ∷ []) (type_rows s) (type_rows t) (pass_type s h.0) (pass_type t h.1))
  pass_type (vector w) h = row Y word_vec (pos w) 0 [] refl (width_in w h) b none

-- ---- terms

abbrev more_variables : Names → ℕ → Names
more_variables N v = names N.inputs (N.variables + v) N.counters N.regions N.lanes

more_bounded : (N : Names) (v : ℕ) → Bounded N → N.variables + v ≤ 16 → Bounded (more_variables N v)
more_bounded N v b h = record { variables_fit = h; counters_fit = b.counters_fit; regions_fit = b.regions_fit; lanes_fit = b.lanes_fit }

abbrev T : Names → Due
T N = due sort.Term N

pass_operation : (N : Names) (b : Bounded N) (a : List Row) → Passes (T N ∷ T N ∷ []) a → (o : Operation) → Passes (T N ∷ []) ((operation_word o, pos 0) ∷ a)
unfolding operands_of table operands_due operand_of opened_by in_range one_of
pass_operation N b a f o =
    each_operation (λ w. Passes (T N ∷ []) ((w, pos 0) ∷ a))
    (row (T N) word_add (pos 0) 2 a refl refl b f
    also row (T N) word_sub (pos 0) 2 a refl refl b f
    also row (T N) word_mul (pos 0) 2 a refl refl b f
    also row (T N) word_div (pos 0) 2 a refl refl b f
    also row (T N) word_min (pos 0) 2 a refl refl b f
    also row (T N) word_max (pos 0) 2 a refl refl b f
    also tt)
    o

pass_map : (N : Names) (b : Bounded (more_variables N 1)) (a : List Row) → Passes (T N ∷ T (more_variables N 1) ∷ []) a → (kind : LoopKind) → Passes (T N ∷ []) ((map_word kind, pos 0) ∷ a)
unfolding operands_of table operands_due operand_of opened_by in_range one_of
pass_map N b a f LoopKind.parallel = row (T N) word_mappar (pos 0) 2 a refl refl b f
pass_map N b a f LoopKind.sequential = row (T N) word_mapseq (pos 0) 2 a refl refl b f
pass_map N b a f LoopKind.lanes = row (T N) word_mapvec (pos 0) 2 a refl refl b f

-- a regrouping, and an element, of arrays or of vectors
module _ (N : Names) (b : Bounded N) (a : List Row) (f : Passes (T N ∷ []) a) where
  pass_split : (series : Series) (n : ℕ) → GroupInRange series n → Passes (T N ∷ []) ((split_word series, pos n) ∷ a)
  unfolding operands_of table operands_due operand_of opened_by in_range one_of
  pass_split Series.arrays n h = row (T N) word_split (pos n) 1 a refl (count_in_holds n h) b f
  pass_split Series.vectors n h = row (T N) word_asvec (pos n) 1 a refl (width_in n h) b f

  pass_join : (series : Series) → Passes (T N ∷ []) ((join_word series, pos 0) ∷ a)
  unfolding operands_of table operands_due operand_of opened_by in_range one_of
  pass_join Series.arrays = row (T N) word_join (pos 0) 1 a refl refl b f
  pass_join Series.vectors = row (T N) word_asscal (pos 0) 1 a refl refl b f

  pass_index : (series : Series) (k : ℕ) → k ≤ last_element series → Passes (T N ∷ []) ((index_word series, pos k) ∷ a)
  unfolding operands_of table operands_due operand_of opened_by in_range one_of
  pass_index Series.arrays k h = row (T N) word_idx (pos k) 1 a refl (le-leb k 4095 h) b f
  pass_index Series.vectors k h = row (T N) word_kind_at (pos k) 1 a refl (le-leb k 15 h) b f

pub pass_term : (N : Names) → Bounded N → (e : Term) → TermInRange N.inputs N.variables e → Passes (T N ∷ []) (term_rows e)
unfolding term_rows operands_of table operands_due operand_of opened_by in_range one_of
pass_term N b (Term.input k) h = row (T N) word_kind_in (pos k) 0 [] refl (lt-ltb k N.inputs h) b none
pass_term N b (Term.variable d) h = row (T N) word_var (pos d) 0 [] refl (lt-ltb d N.variables h) b none
pass_term N b (Term.literal z) h = row (T N) word_lit z 0 [] refl refl b none
pass_term N b (Term.negate e) h = row (T N) word_neg (pos 0) 1 (term_rows e) refl refl b (pass_term N b e h)
pass_term N b (Term.operation o e f) h =
    pass_operation N b (term_rows e ++ term_rows f) (both (T N) (T N ∷ []) (term_rows e) (term_rows f) (pass_term N b e h.0) (pass_term N b f h.1)) o
pass_term N b (Term.map kind e f) h =
    let M = more_variables N 1 in
    let c : Bounded M = more_bounded N 1 b h.0 in
    pass_map N c (term_rows e ++ term_rows f) (both (T N) (T M ∷ []) (term_rows e) (term_rows f) (pass_term N b e h.1) (pass_term M c f h.2)) kind
pass_term N b (Term.reduce z e f) h =
    let M = more_variables N 2 in
    let c : Bounded M = more_bounded N 2 b h.0 in
    row (T N) word_redseq (pos 0) 3 (term_rows z ++ (term_rows e ++ term_rows f)) refl refl c
    (both (T N) (T N ∷ T M ∷ []) (term_rows z) (term_rows e ++ term_rows f) (pass_term N b z h.1)
    (both (T N) (T M ∷ []) (term_rows e) (term_rows f) (pass_term N b e h.2) (pass_term M c f h.3)))
pass_term N b (Term.zip e f) h =
    row (T N) word_zip (pos 0) 2 (term_rows e ++ term_rows f) refl refl b (both (T N) (T N ∷ []) (term_rows e) (term_rows f) (pass_term N b e h.0) (pass_term N b f h.1))
pass_term N b (Term.pair e f) h =
    row (T N) word_pair (pos 0) 2 (term_rows e ++ term_rows f) refl refl b (both (T N) (T N ∷ []) (term_rows e) (term_rows f) (pass_term N b e h.0) (pass_term N b f h.1))
pass_term N b (Term.split series n e) h = pass_split N b (term_rows e) (pass_term N b e h.1) series n h.0
pass_term N b (Term.join series e) h = pass_join N b (term_rows e) (pass_term N b e h) series
pass_term N b (Term.first e) h = row (T N) word_fst (pos 0) 1 (term_rows e) refl refl b (pass_term N b e h)
pass_term N b (Term.second e) h = row (T N) word_snd (pos 0) 1 (term_rows e) refl refl b (pass_term N b e h)
pass_term N b (Term.index series k e) h = pass_index N b (term_rows e) (pass_term N b e h.1) series k h.0

-- ---- a plan

pass_types : (N : Names) → Bounded N → (os : List Due) (b : List Row) → Passes os b → (ts : List DataType) → AllTypesInRange ts
    → Passes (copies (length ts) (due sort.DataType N) ++ os) (all_type_rows ts ++ b)
unfolding copies all_type_rows
pass_types N β os b f [] h = f
pass_types N β os b f (t ∷ ts) h =
    rw (append_assoc (type_rows t) (all_type_rows ts) b)
    (both (due sort.DataType N) (copies (length ts) (due sort.DataType N) ++ os) (type_rows t) (all_type_rows ts ++ b) (pass_type N β t h.0) (pass_types N β os b f ts h.1))

pub pass_plan : (P : Plan) → PlanInRange P → Passes (due sort.Plan no_names ∷ []) (plan_rows P)
unfolding plan_rows operands_of table opened_by in_range one_of operand_of
pass_plan P h =
    let K = length P.inputs in
    row (due sort.Plan no_names) word_plan (pos K) 1 (all_type_rows P.inputs ++ term_rows P.term) refl (le-leb K 8 h.inputs_few) (small K)
    (rw (add-one K, operands_copies (due sort.Plan no_names) word_plan K K)
    (pass_types no_names (small 0) (T (inputs_only K) ∷ []) (term_rows P.term) (pass_term (inputs_only K) (small K) P.term h.term) P.inputs h.types))
