-- What each word of loops makes of the trees behind it. Assumes nothing.
use Rattle.std.specs.Prelude.{◌≡◌, true, ◌&&◌, List, [], ◌∷◌, ◌++◌, ℕ, zero, suc, ◌+◌, ◌≤◌, eqb, leb, ℤ, pos, length}
use Rattle.std.proofs.Math.Path.{refl}
use Rattle.std.proofs.Common.{sym, ap, ◌∙◌, subst, arith}
use Rattle.arithmetic.specs.Arithmetic.{Operation}
use Rattle.words.specs.Kinds.{Row, word_kind_in, word_lit, word_neg, word_add, word_sub, word_mul, word_div, word_min, word_max, word_loops}
use Rattle.words.specs.Kinds.{word_cells, word_set, word_seq, word_for, word_par, word_new, word_out, word_loc, word_ctr, word_plus}
use Rattle.words.specs.Kinds.{word_times, word_over, word_rest, word_lanes}
use Rattle.words.specs.Words.{table}
use Rattle.words.specs.declared.Sort.TheVariants as sort
use Rattle.meaning.specs.Terms.{LoopKind}
use Rattle.meaning.specs.Loops.{Offset, Place, Value, Command, Loops, plus, times, over, rest, seq, loop, new}
use Rattle.meaning.specs.Limits.{IsCount, RoundsInRange}
use Rattle.meaning.proofs.Laws.Lanes.{lanes_around, LanesFit, lanes_apart_holds}
use Rattle.meaning.specs.Rows.{offset_rows, value_rows, place_rows, command_rows, all_cells_rows, loops_rows}
use Rattle.syntax.specs.declared.names.Names.{Names}
use Rattle.syntax.specs.declared.operands.Due.{Due}
use Rattle.words.specs.Groups.{one_of}
use Rattle.syntax.specs.Ranges.{as_natural, in_range}
use Rattle.syntax.specs.Names.{no_names, names, opened_by, Bounded}
use Rattle.syntax.specs.Operands.{due, operand_of, operands_due}
use Rattle.syntax.specs.InRange.{OffsetInRange, CommandInRange, AllCounts, LoopsInRange}
use Rattle.syntax.specs.Laws.Each.{◌also◌}
use Rattle.syntax.specs.Laws.Words.{EachWord}
use Rattle.syntax.specs.Laws.Heads.{copies, copies_more, operands_copies}
use Rattle.syntax.specs.Laws.Pass.{inputs_only}
use Rattle.syntax.specs.Laws.Forest.{position, most, nought, counted, widened, IsTree, Forest, one, headed, joined, Node}

module _ (N : Names) (few : N.inputs ≤ 8) where
  abbrev O : Due
  O = due sort.Offset N

  abbrev W : Due
  W = due sort.Value N

  abbrev C : Due
  C = due sort.Command N

  offset_of_holds : (k : ℕ) (z : ℤ) (a : List Row) (make : ℕ → Offset → Offset) → ((n : ℕ) (o : Offset) → offset_rows (make n o) ≡ (k, pos n) ∷ offset_rows o)
      → ((n : ℕ) (o : Offset) → IsCount n → OffsetInRange N.counters o → OffsetInRange N.counters (make n o))
      → leb 1 (as_natural z) && leb (as_natural z) 4096 ≡ true → Forest (O ∷ []) a → IsTree sort.Offset N ((k, z) ∷ a)
  offset_of_holds k z a make rows fits r p =
      let n = counted z r in
      let t = one O a p in
      (make (as_natural z) t.0, fits (as_natural z) t.0 n.1 t.1, headed k n.0 t.2 ∙ sym (rows (as_natural z) t.0))

  pub offset_nodes : EachWord sort.Offset (Node O) 0 table
  unfolding EachWord table offset_rows operands_due operand_of opened_by in_range one_of
  offset_nodes =
      (λ z a r f p. let n = most z 4095 (omega arith) r in (Offset.literal (as_natural z), n.1, headed word_lit n.0 p))
      also (λ z a r f p.
      let n = position z N.counters (omega (arith, f.counters_fit)) r in
      (Offset.counter (as_natural z), n.1, headed word_ctr n.0 p))
      also (λ z a r f p.
      let t = p.3 in
      let u = one O p.1 p.4 in
      (plus t.0 u.0, (t.1, u.1), headed word_plus (nought z r) (joined p.2 t.2 u.2)))
      also (λ z a r f p. offset_of_holds word_times z a times (λ n o. refl) (λ n o h g. (h, g)) r p)
      also (λ z a r f p. offset_of_holds word_over z a over (λ n o. refl) (λ n o h g. (h, g)) r p)
      also (λ z a r f p. offset_of_holds word_rest z a rest (λ n o. refl) (λ n o h g. (h, g)) r p)
      also tt

  pub place_nodes : EachWord sort.Place (Node (due sort.Place N)) 0 table
  unfolding EachWord table place_rows operands_due operand_of opened_by in_range one_of
  place_nodes =
      (λ z a r f p. let t = one O a p in (Place.output t.0, t.1, headed word_out (nought z r) t.2))
      also (λ z a r f p.
      let n = position z N.regions (omega (arith, f.regions_fit)) r in
      let t = one O a p in
      (Place.region (as_natural z) t.0, (n.1, t.1), headed word_loc n.0 t.2))
      also tt

  value_operation : (o : Operation) (k : ℕ) (z : ℤ) (a : List Row) → ((v w : Value) → value_rows (Value.operation o v w) ≡ (k, pos 0) ∷ (value_rows v ++ value_rows w))
      → eqb (as_natural z) 0 ≡ true → Forest (W ∷ W ∷ []) a → IsTree sort.Value N ((k, z) ∷ a)
  value_operation o k z a rows r p =
      let t = p.3 in
      let u = one W p.1 p.4 in
      (Value.operation o t.0 u.0, (t.1, u.1), headed k (nought z r) (joined p.2 t.2 u.2) ∙ sym (rows t.0 u.0))

  pub value_nodes : EachWord sort.Value (Node W) 0 table
  unfolding EachWord table value_rows operands_due operand_of opened_by in_range one_of
  value_nodes =
      (λ z a r f p.
      let n = position z N.inputs (omega arith) r in
      let t = one O a p in
      (Value.input (as_natural z) t.0, (n.1, t.1), headed word_kind_in n.0 t.2))
      also (λ z a r f p. (Value.literal z, tt, headed word_lit refl p))
      also (λ z a r f p. let t = one W a p in (Value.negate t.0, t.1, headed word_neg (nought z r) t.2))
      also (λ z a r f p. value_operation Operation.addition word_add z a (λ v w. refl) r p)
      also (λ z a r f p. value_operation Operation.subtraction word_sub z a (λ v w. refl) r p)
      also (λ z a r f p. value_operation Operation.multiplication word_mul z a (λ v w. refl) r p)
      also (λ z a r f p. value_operation Operation.division word_div z a (λ v w. refl) r p)
      also (λ z a r f p. value_operation Operation.minimum word_min z a (λ v w. refl) r p)
      also (λ z a r f p. value_operation Operation.maximum word_max z a (λ v w. refl) r p)
      also (λ z a r f p.
      let n = position z N.regions (omega (arith, f.regions_fit)) r in
      let t = one O a p in
      (Value.region (as_natural z) t.0, (n.1, t.1), headed word_loc n.0 t.2))
      also tt

  -- a loop, whose command is due under its counter, and under one `lanes` more if it is one
  command_loop : (kind : LoopKind) (k : ℕ) (z : ℤ) (a : List Row) → ((n : ℕ) (c : Command) → command_rows (loop kind n c) ≡ (k, pos n) ∷ command_rows c)
      → (z ≡ pos (as_natural z)) × RoundsInRange kind (as_natural z)
      → Bounded (names N.inputs N.variables (N.counters + 1) N.regions (lanes_around kind N.lanes))
      → Forest (due sort.Command (names N.inputs N.variables (N.counters + 1) N.regions (lanes_around kind N.lanes)) ∷ []) a
      → IsTree sort.Command N ((k, z) ∷ a)
  command_loop kind k z a rows n f p =
      let M = names N.inputs N.variables (N.counters + 1) N.regions (lanes_around kind N.lanes) in
      let t = one (due sort.Command M) a p in
      (loop kind (as_natural z) t.0, ((n.1, f.counters_fit, t.1.0), around kind t.0 f.lanes_fit t.1.1), headed k n.0 t.2 ∙ sym (rows (as_natural z) t.0))
    where
      around : (kind : LoopKind) (b : Command) → lanes_around kind N.lanes ≤ 1 → LanesFit (lanes_around kind N.lanes) b
          → LanesFit N.lanes (loop kind (as_natural z) b)
      around LoopKind.parallel b l h = h
      around LoopKind.sequential b l h = h
      around LoopKind.lanes b l h = (l, h)

  pub command_nodes : EachWord sort.Command (Node C) 0 table
  unfolding EachWord table command_rows operands_due operand_of opened_by in_range one_of
  command_nodes =
      (λ z a r f p.
      let t = p.3 in
      let u = one W p.1 p.4 in
      (Command.assignment t.0 u.0, ((t.1, u.1), tt), headed word_set (nought z r) (joined p.2 t.2 u.2)))
      also (λ z a r f p.
      let t = p.3 in
      let u = one C p.1 p.4 in
      (seq t.0 u.0, ((t.1.0, u.1.0), (t.1.1, u.1.1)), headed word_seq (nought z r) (joined p.2 t.2 u.2)))
      also (λ z a r f p. command_loop LoopKind.sequential word_for z a (λ n c. refl) (counted z r) f p)
      also (λ z a r f p. command_loop LoopKind.parallel word_par z a (λ n c. refl) (counted z r) f p)
      also (λ z a r f p.
      let M = names N.inputs N.variables N.counters (N.regions + 1) N.lanes in
      let n = counted z r in
      let t = one (due sort.Command M) a p in
      (new (as_natural z) t.0, ((n.1, f.regions_fit, t.1.0), t.1.1), headed word_new n.0 t.2))
      also (λ z a r f p. command_loop LoopKind.lanes word_lanes z a (λ n c. refl) (widened z r) f p)
      also tt

  pub cells_nodes : EachWord sort.Cells (Node (due sort.Cells N)) 0 table
  unfolding EachWord table operands_due operand_of opened_by in_range one_of
  cells_nodes = ((λ z a r f p. let n = counted z r in (as_natural z, n.1, headed word_cells n.0 p)), tt)

-- ---- the first row

cells_first : (N : Names) (os : List Due) (K : ℕ) (a : List Row) → Forest (copies K (due sort.Cells N) ++ os) a
    → (ns : List ℕ) × (b : List Row) × (length ns ≡ K) × AllCounts ns × (a ≡ all_cells_rows ns ++ b) × Forest os b
unfolding copies all_cells_rows
cells_first N os zero a f = ([], a, refl, tt, refl, f)
cells_first N os (suc K) a f =
    let r = cells_first N os K f.1 f.4 in
    let n = f.3 in
    (n.0 ∷ r.0, r.1, ap suc r.2, (n.1, r.3), joined f.2 n.2 r.4, r.5)

loops_node : (z : ℤ) (a : List Row) → leb (as_natural z) 8 ≡ true
    → Forest (operands_due (due sort.Loops no_names) word_loops (as_natural z) (as_natural z + 2)) a
    → (L : Loops) × LoopsInRange L × ((word_loops, z) ∷ a ≡ loops_rows L)
unfolding loops_rows operand_of opened_by one_of
loops_node z a r p =
    let K = as_natural z in
    let D = due sort.Cells no_names in
    let n = most z 8 (omega arith) r in
    let s : K + 2 ≡ suc (suc K) = omega arith in
    let o : operands_due (due sort.Loops no_names) word_loops K (K + 2) ≡ copies K D ++ (D ∷ due sort.Command (inputs_only K) ∷ []) =
    ap (operands_due (due sort.Loops no_names) word_loops K) s ∙ operands_copies (due sort.Loops no_names) word_loops K (suc K) ∙ copies_more K D (due sort.Command (inputs_only K) ∷ []) in
    let t = cells_first no_names (D ∷ due sort.Command (inputs_only K) ∷ []) K a (subst (λ (ds : List Due). Forest ds a) o p) in
    let q = t.5 in
    let u = q.3 in
    let c = one (due sort.Command (inputs_only K)) q.1 q.4 in (
      record { inputs = t.0; output = u.0; command = c.0 },
      record {
        inputs_few = omega (arith, t.2, n.1);
        input_cells = t.3;
        output_cells = u.1;
        command = subst (λ (i : ℕ). CommandInRange i 0 0 c.0) (sym t.2) c.1.0;
        apart = lanes_apart_holds c.0 c.1.1;
      },
      headed word_loops (n.0 ∙ ap pos (sym t.2)) (t.4 ∙ ap (λ (l : List Row). all_cells_rows t.0 ++ l) (joined {y = command_rows c.0} q.2 u.2 c.2)),
    )

pub loops_nodes : (N : Names) → EachWord sort.Loops (Node (due sort.Loops N)) 0 table
unfolding EachWord table in_range one_of
loops_nodes N = ((λ z a r f p e. loops_node z a r (subst (λ (M : Names). Forest (operands_due (due sort.Loops M) word_loops (as_natural z) (as_natural z + 2)) a) e p)), tt)
