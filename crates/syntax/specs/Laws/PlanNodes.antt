-- What each word of a plan makes of the trees behind it. Assumes nothing.
use Rattle.std.specs.Prelude.{◌≡◌, true, List, [], ◌∷◌, ◌++◌, ℕ, zero, suc, ◌+◌, ◌≤◌, leb, ℤ, pos, length}
use Rattle.std.proofs.Math.Path.{refl}
use Rattle.std.proofs.Common.{sym, ap, ◌∙◌, subst, append_assoc, add-one, arith}
use Rattle.arithmetic.specs.Arithmetic.{Operation}
use Rattle.words.specs.Kinds.{Row, word_plan, word_num, word_arr, word_two, word_kind_in, word_var, word_lit, word_neg, word_add, word_sub}
use Rattle.words.specs.Kinds.{word_mul, word_div, word_min, word_max, word_mappar, word_mapseq, word_redseq, word_zip, word_pair}
use Rattle.words.specs.Kinds.{word_split, word_join, word_fst, word_snd, word_idx, word_vec, word_asvec, word_asscal, word_mapvec, word_kind_at}
use Rattle.words.specs.Words.{table}
use Rattle.words.specs.declared.Sort.TheVariants as sort
use Rattle.meaning.specs.Types.{DataType, Series, number, array, vector}
use Rattle.meaning.specs.Terms.{LoopKind, Term, Plan}
use Rattle.meaning.specs.Rows.{type_rows, term_rows, all_type_rows, plan_rows}
use Rattle.syntax.specs.declared.names.Names.{Names}
use Rattle.syntax.specs.declared.operands.Due.{Due}
use Rattle.words.specs.Groups.{one_of}
use Rattle.syntax.specs.Ranges.{as_natural, in_range}
use Rattle.syntax.specs.Names.{no_names, names, opened_by}
use Rattle.syntax.specs.Operands.{due, operand_of, operands_due}
use Rattle.syntax.specs.InRange.{AllTypesInRange, TermInRange, PlanInRange}
use Rattle.syntax.specs.Laws.Each.{◌also◌}
use Rattle.syntax.specs.Laws.Words.{EachWord}
use Rattle.syntax.specs.Laws.Heads.{copies, operands_copies}
use Rattle.syntax.specs.Laws.Pass.{inputs_only}
use Rattle.syntax.specs.Laws.Forest.{position, most, nought, counted, widened, IsTree, Forest, one, headed, joined, Node}

module _ (N : Names) (few : N.inputs ≤ 8) where
  abbrev Y : Due
  Y = due sort.DataType N

  abbrev E : Due
  E = due sort.Term N

  pub type_nodes : EachWord sort.DataType (Node Y) 0 table
  unfolding EachWord table type_rows operands_due operand_of opened_by in_range one_of
  type_nodes =
      (λ z a r f p. (number, tt, headed word_num (nought z r) p))
      also (λ z a r f p. let n = counted z r in let t = one Y a p in (array (as_natural z) t.0, (n.1, t.1), headed word_arr n.0 t.2))
      also (λ z a r f p.
      let t = p.3 in
      let u = one Y p.1 p.4 in
      (DataType.pair t.0 u.0, (t.1, u.1), headed word_two (nought z r) (joined p.2 t.2 u.2)))
      also (λ z a r f p. let n = widened z r in (vector (as_natural z), n.1, headed word_vec n.0 p))
      also tt

  -- one operand, two operands
  term_of : (k : ℕ) (z y : ℤ) (a : List Row) (make : Term → Term) → ((e : Term) → term_rows (make e) ≡ (k, y) ∷ term_rows e)
      → ((e : Term) → TermInRange N.inputs N.variables e → TermInRange N.inputs N.variables (make e)) → z ≡ y → Forest (E ∷ []) a → IsTree sort.Term N ((k, z) ∷ a)
  term_of k z y a make rows fits e p = let t = one E a p in (make t.0, fits t.0 t.1, headed k e t.2 ∙ sym (rows t.0))

  term_of_two : (M : Names) (k : ℕ) (z : ℤ) (a : List Row) (make : Term → Term → Term) → ((e f : Term) → term_rows (make e f) ≡ (k, pos 0) ∷ (term_rows e ++ term_rows f))
      → ((e f : Term) → TermInRange N.inputs N.variables e → TermInRange M.inputs M.variables f → TermInRange N.inputs N.variables (make e f))
      → z ≡ pos 0 → Forest (E ∷ due sort.Term M ∷ []) a → IsTree sort.Term N ((k, z) ∷ a)
  term_of_two M k z a make rows fits e p =
      let t = p.3 in
      let u = one (due sort.Term M) p.1 p.4 in
      (make t.0 u.0, fits t.0 u.0 t.1 u.1, headed k e (joined p.2 t.2 u.2) ∙ sym (rows t.0 u.0))

  pub term_nodes : EachWord sort.Term (Node E) 0 table
  unfolding EachWord table term_rows operands_due operand_of opened_by in_range one_of
  term_nodes =
      (λ z a r f p. let n = position z N.inputs (omega arith) r in (Term.input (as_natural z), n.1, headed word_kind_in n.0 p))
      also (λ z a r f p.
      let n = position z N.variables (omega (arith, f.variables_fit)) r in
      (Term.variable (as_natural z), n.1, headed word_var n.0 p))
      also (λ z a r f p. (Term.literal z, tt, headed word_lit refl p))
      also (λ z a r f p. term_of word_neg z (pos 0) a Term.negate (λ e. refl) (λ e h. h) (nought z r) p)
      also (λ z a r f p. term_of_two N word_add z a (Term.operation Operation.addition) (λ e f. refl) (λ e f h g. (h, g)) (nought z r) p)
      also (λ z a r f p. term_of_two N word_sub z a (Term.operation Operation.subtraction) (λ e f. refl) (λ e f h g. (h, g)) (nought z r) p)
      also (λ z a r f p. term_of_two N word_mul z a (Term.operation Operation.multiplication) (λ e f. refl) (λ e f h g. (h, g)) (nought z r) p)
      also (λ z a r f p. term_of_two N word_div z a (Term.operation Operation.division) (λ e f. refl) (λ e f h g. (h, g)) (nought z r) p)
      also (λ z a r f p. term_of_two N word_min z a (Term.operation Operation.minimum) (λ e f. refl) (λ e f h g. (h, g)) (nought z r) p)
      also (λ z a r f p. term_of_two N word_max z a (Term.operation Operation.maximum) (λ e f. refl) (λ e f h g. (h, g)) (nought z r) p)
      also (λ z a r f p.
      let M = names N.inputs (N.variables + 1) N.counters N.regions N.lanes in
      term_of_two M word_mappar z a (Term.map LoopKind.parallel) (λ e f. refl) (λ e g h i. (f.variables_fit, h, i)) (nought z r) p)
      also (λ z a r f p.
      let M = names N.inputs (N.variables + 1) N.counters N.regions N.lanes in
      term_of_two M word_mapseq z a (Term.map LoopKind.sequential) (λ e f. refl) (λ e g h i. (f.variables_fit, h, i)) (nought z r) p)
      also (λ z a r f p.
      let M = names N.inputs (N.variables + 2) N.counters N.regions N.lanes in
      let s = p.3 in
      let q = p.4 in
      let t = q.3 in
      let u = one (due sort.Term M) q.1 q.4 in
      (Term.reduce s.0 t.0 u.0, (f.variables_fit, s.1, t.1, u.1), headed word_redseq (nought z r) (joined p.2 s.2 (joined q.2 t.2 u.2))))
      also (λ z a r f p. term_of_two N word_zip z a Term.zip (λ e f. refl) (λ e f h g. (h, g)) (nought z r) p)
      also (λ z a r f p. term_of_two N word_pair z a Term.pair (λ e f. refl) (λ e f h g. (h, g)) (nought z r) p)
      also (λ z a r f p.
      let n = counted z r in
      term_of word_split z (pos (as_natural z)) a (Term.split Series.arrays (as_natural z)) (λ e. refl) (λ e h. (n.1, h)) n.0 p)
      also (λ z a r f p. term_of word_join z (pos 0) a (Term.join Series.arrays) (λ e. refl) (λ e h. h) (nought z r) p)
      also (λ z a r f p. term_of word_fst z (pos 0) a Term.first (λ e. refl) (λ e h. h) (nought z r) p)
      also (λ z a r f p. term_of word_snd z (pos 0) a Term.second (λ e. refl) (λ e h. h) (nought z r) p)
      also (λ z a r f p.
      let n = most z 4095 (omega arith) r in
      term_of word_idx z (pos (as_natural z)) a (Term.index Series.arrays (as_natural z)) (λ e. refl) (λ e h. (n.1, h)) n.0 p)
      also (λ z a r f p.
      let n = widened z r in
      term_of word_asvec z (pos (as_natural z)) a (Term.split Series.vectors (as_natural z)) (λ e. refl) (λ e h. (n.1, h)) n.0 p)
      also (λ z a r f p. term_of word_asscal z (pos 0) a (Term.join Series.vectors) (λ e. refl) (λ e h. h) (nought z r) p)
      also (λ z a r f p.
      let M = names N.inputs (N.variables + 1) N.counters N.regions N.lanes in
      term_of_two M word_mapvec z a (Term.map LoopKind.lanes) (λ e f. refl) (λ e g h i. (f.variables_fit, h, i)) (nought z r) p)
      also (λ z a r f p.
      let n = most z 15 (omega arith) r in
      term_of word_kind_at z (pos (as_natural z)) a (Term.index Series.vectors (as_natural z)) (λ e. refl) (λ e h. (n.1, h)) n.0 p)
      also tt

-- ---- the first row

types_first : (N : Names) (os : List Due) (K : ℕ) (a : List Row) → Forest (copies K (due sort.DataType N) ++ os) a
    → (ts : List DataType) × (b : List Row) × (length ts ≡ K) × AllTypesInRange ts × (a ≡ all_type_rows ts ++ b) × Forest os b
unfolding copies all_type_rows
types_first N os zero a f = ([], a, refl, tt, refl, f)
types_first N os (suc K) a f =
    let r = types_first N os K f.1 f.4 in
    let t = f.3 in
    (t.0 ∷ r.0, r.1, ap suc r.2, (t.1, r.3), joined f.2 t.2 r.4 ∙ sym (append_assoc (type_rows t.0) (all_type_rows r.0) r.1), r.5)

plan_node : (z : ℤ) (a : List Row) → leb (as_natural z) 8 ≡ true
    → Forest (operands_due (due sort.Plan no_names) word_plan (as_natural z) (as_natural z + 1)) a
    → (P : Plan) × PlanInRange P × ((word_plan, z) ∷ a ≡ plan_rows P)
unfolding plan_rows operand_of opened_by one_of
plan_node z a r p =
    let K = as_natural z in
    let n = most z 8 (omega arith) r in
    let o : operands_due (due sort.Plan no_names) word_plan K (K + 1) ≡ copies K (due sort.DataType no_names) ++ (due sort.Term (inputs_only K) ∷ []) =
    ap (operands_due (due sort.Plan no_names) word_plan K) (add-one K) ∙ operands_copies (due sort.Plan no_names) word_plan K K in
    let t = types_first no_names (due sort.Term (inputs_only K) ∷ []) K a (subst (λ (ds : List Due). Forest ds a) o p) in
    let e = one (due sort.Term (inputs_only K)) t.1 t.5 in (
      record { inputs = t.0; term = e.0 },
      record { inputs_few = omega (arith, t.2, n.1); types = t.3; term = subst (λ (i : ℕ). TermInRange i 0 e.0) (sym t.2) e.1 },
      headed word_plan (n.0 ∙ ap pos (sym t.2)) (t.4 ∙ ap (λ (l : List Row). all_type_rows t.0 ++ l) e.2),
    )

pub plan_nodes : (N : Names) → EachWord sort.Plan (Node (due sort.Plan N)) 0 table
unfolding EachWord table in_range one_of
plan_nodes N = ((λ z a r f p e. plan_node z a r (subst (λ (M : Names). Forest (operands_due (due sort.Plan M) word_plan (as_natural z) (as_natural z + 1)) a) e p)), tt)
