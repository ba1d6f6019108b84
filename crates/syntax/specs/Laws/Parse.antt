-- Rows that walk well are those of trees in range. Assumes nothing.
use Rattle.std.specs.Prelude.{◌≡◌, refl, Bool, true, false, cond, List, [], ◌∷◌, ◌++◌, ℕ, zero, suc, ◌+◌, ◌≤◌, eqb, ℤ, Ok}
use Rattle.std.proofs.Common.{ap, subst, arith, leb-true, eqb-true}
use Rattle.words.specs.Kinds.{Row, word_plan, word_redseq, word_loops, word_new}
use Rattle.words.specs.Words.{table}
use Rattle.words.specs.declared.Sort.{Sort}
use Rattle.words.specs.declared.Sort.TheVariants as sort
use Rattle.meaning.specs.Terms.{Plan}
use Rattle.meaning.specs.Loops.{Loops}
use Rattle.meaning.specs.Rows.{plan_rows, loops_rows}
use Rattle.syntax.specs.declared.names.Names.{Names}
use Rattle.syntax.specs.declared.operands.Due.{Due}
use Rattle.words.specs.Groups.{one_of, is_map, is_loop}
use Rattle.syntax.specs.Ranges.{as_natural, in_range}
use Rattle.syntax.specs.Names.{no_names, names, lanes_with, opened_by}
use Rattle.syntax.specs.Operands.{due, operand_of, operands_due}
use Rattle.syntax.specs.Walk.{walk_from}
use Rattle.syntax.specs.InRange.{PlanInRange, LoopsInRange}
use Rattle.syntax.specs.Laws.Ask.{Asked, asked, asked_bounded, walked}
use Rattle.syntax.specs.Laws.Words.{EachWord, each_word}
use Rattle.syntax.specs.Laws.Forest.{IsTree, Forest, parted, one, Node}
use Rattle.syntax.specs.Laws.PlanNodes.{plan_nodes, type_nodes, term_nodes}
use Rattle.syntax.specs.Laws.LoopsNodes.{loops_nodes, cells_nodes, command_nodes, place_nodes, value_nodes, offset_nodes}

nodes : (s : Sort) (N : Names) → N.inputs ≤ 8 → EachWord s (Node (due s N)) 0 table
nodes sort.Plan N h = plan_nodes N
nodes sort.DataType N h = type_nodes N h
nodes sort.Term N h = term_nodes N h
nodes sort.Loops N h = loops_nodes N
nodes sort.Cells N h = cells_nodes N h
nodes sort.Command N h = command_nodes N h
nodes sort.Place N h = place_nodes N h
nodes sort.Value N h = value_nodes N h
nodes sort.Offset N h = offset_nodes N h

-- ---- at most eight inputs are in force wherever a row is due

abbrev Few : List Due → Type 0
Few [] = Unit {0}
Few (d ∷ ds) = (d.names.inputs ≤ 8) × Few ds

-- K is in range where it is opened
head_few : (s : Sort) (N : Names) (k n : ℕ) → one_of k (word_plan ∷ word_loops ∷ []) ≡ true → in_range s N k n ≡ true → n ≤ 8
unfolding in_range one_of
head_few s N k n h r = go (eqb k word_plan) refl (eqb k word_loops) refl h
  where
    go : (a : Bool) → eqb k word_plan ≡ a → (b : Bool) → eqb k word_loops ≡ b → cond a true (cond b true false) ≡ true → n ≤ 8
    go true p b q h = leb-true n 8 (subst (λ (i : ℕ). in_range s N i n ≡ true) (eqb-true k word_plan p) r)
    go false p true q h = leb-true n 8 (subst (λ (i : ℕ). in_range s N i n ≡ true) (eqb-true k word_loops q) r)
    go false p false q h = absurd (let y : ◌≡◌ {A = ℕ} 0 1 = cc in omega arith)

opened_few : (s : Sort) (N : Names) (k n : ℕ) → N.inputs ≤ 8 → in_range s N k n ≡ true → (opened_by k n N).inputs ≤ 8
unfolding opened_by
opened_few s N k n h r = go (one_of k (word_plan ∷ word_loops ∷ [])) refl (is_map k) (is_loop k) (eqb k word_redseq) (eqb k word_new)
  where
    go : (a : Bool) → one_of k (word_plan ∷ word_loops ∷ []) ≡ a → (b c d e : Bool)
        → (cond b (names N.inputs (N.variables + 1) N.counters N.regions N.lanes)
        (cond c (names N.inputs N.variables (N.counters + 1) N.regions (lanes_with k N.lanes))
        (cond a (names n N.variables N.counters N.regions N.lanes)
        (cond d (names N.inputs (N.variables + 2) N.counters N.regions N.lanes)
        (cond e (names N.inputs N.variables N.counters (N.regions + 1) N.lanes) N))))).inputs ≤ 8
    go a p true c d e = h
    go a p false true d e = h
    go true p false false d e = head_few s N k n p r
    go false p false false true e = h
    go false p false false false true = h
    go false p false false false false = h

operand_few : (d : Due) (k n : ℕ) (last : Bool) → d.names.inputs ≤ 8 → in_range d.sort d.names k n ≡ true → (operand_of d k n last).names.inputs ≤ 8
unfolding operand_of
operand_few d k n true h r = opened_few d.sort d.names k n h r
operand_few d k n false h r = h

operands_few : (d : Due) (k n m : ℕ) (ds : List Due) → d.names.inputs ≤ 8 → in_range d.sort d.names k n ≡ true → Few ds → Few (operands_due d k n m ++ ds)
unfolding operands_due
operands_few d k n zero ds h r f = f
operands_few d k n (suc m) ds h r f = (operand_few d k n (eqb (suc m) 1) h r, operands_few d k n m ds h r f)

-- ---- the walk

node : (d : Due) (k : ℕ) (z : ℤ) (m : ℕ) (a : List Row) → d.names.inputs ≤ 8 → Asked d k (as_natural z) m → Forest (operands_due d k (as_natural z) m) a → IsTree d.sort d.names ((k, z) ∷ a)
node d k z m a h q f =
    each_word d.sort (Node d) (nodes d.sort d.names h) k q.count q.of z a q.ranged (asked_bounded d k (as_natural z) m q)
    (subst (λ (i : ℕ). Forest (operands_due d k (as_natural z) i) a) q.operands f)

pub parse : (R : List Row) (p m : ℕ) (ds : List Due) → Few ds → walk_from p ds R ≡ Ok m → Forest ds R
unfolding walk_from
parse [] p m [] h e = refl
parse [] p m (d ∷ ds) h e = absurd (let y : ◌≡◌ {A = ℕ} 0 1 = cc in omega arith)
parse (r ∷ rs) p m [] h e = absurd (let y : ◌≡◌ {A = ℕ} 0 1 = cc in omega arith)
parse (r ∷ rs) p m (d ∷ ds) h e =
    let w = walked p m d ds r rs e in
    let q = asked d r.0 (as_natural r.1) (suc p) w.0 w.1 in
    let f = parse rs (suc p) m (operands_due d r.0 (as_natural r.1) w.0 ++ ds) (operands_few d r.0 (as_natural r.1) w.0 ds h.0 q.ranged h.1) w.2 in
    let s = parted (operands_due d r.0 (as_natural r.1) w.0) ds rs f in
    (r ∷ s.0, s.1, ap (λ (l : List Row). r ∷ l) s.2, node d r.0 r.1 w.0 s.0 h.0 q s.3, s.4)

pub plan_parsed : (R : List Row) (m : ℕ) → walk_from 0 (due sort.Plan no_names ∷ []) R ≡ Ok m → (P : Plan) × PlanInRange P × (R ≡ plan_rows P)
plan_parsed R m e = one (due sort.Plan no_names) R (parse R 0 m (due sort.Plan no_names ∷ []) (omega arith, tt) e) refl

pub loops_parsed : (R : List Row) (m : ℕ) → walk_from 0 (due sort.Loops no_names ∷ []) R ≡ Ok m → (L : Loops) × LoopsInRange L × (R ≡ loops_rows L)
loops_parsed R m e = one (due sort.Loops no_names) R (parse R 0 m (due sort.Loops no_names ∷ []) (omega arith, tt) e) refl
