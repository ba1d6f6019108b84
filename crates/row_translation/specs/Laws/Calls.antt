-- What the code is given for its calls, one after the other: the operand stands, with the variables as they are then; and there is
-- room. Assumes nothing.
use Rattle.std.specs.Prelude.{◌≡◌, true, false, List, ◌++◌, ℕ, ◌+◌, ◌≤◌, ℤ, length, get_or}
use Rattle.std.proofs.Common.{ap, sym, ◌∙◌, arith, length-append}
use Rattle.words.specs.Kinds.{word_redseq}
use Rattle.meaning.specs.Types.{DataType}
use Rattle.meaning.specs.Terms.{Term}
use Rattle.meaning.specs.Expressions.{Expression, Acceptor}
use Rattle.meaning.specs.Rows.{term_rows}
use Rattle.meaning.proofs.Laws.UseRows.{regions_opened}
use Rattle.syntax.specs.Standing.{term_kind, operand_count, first_operand, second_operand}
use Rattle.syntax.proofs.Standing.{its_kind}
use Rattle.syntax.proofs.Front.{part}
use Rattle.emission.specs.Table.{Table}
use Rattle.emission.specs.Growth.{Grown}
use Rattle.emission.specs.Laws.Growth.{grown_more}
use Rattle.row_translation.specs.WriteAndUse.{Variables, Stands, Room, Used, Written}
use Rattle.words.specs.Groups.{is_leaf, is_map, has_one_operand}
use Rattle.clauses.specs.Clauses.{is_paired, is_regrouped, RegionOpened, AfterUse, IntoPart}
use Rattle.row_translation.specs.Laws.Kinds.{TwoOperands, two_operands, PairedTerm, paired_term, regrouped_term, ReduceTerm, reduce_term}
use Rattle.row_translation.specs.Laws.Variables.{variables_kept}
use Rattle.row_translation.specs.Laws.Operands.{stands_first, stands_second, stands_array}
use Rattle.clauses.specs.declared.State.{State}
use Rattle.clauses.specs.declared.Translated.{Translated}

-- a use opens at most one region a row
pub regions_few_holds : (e : Term) → regions_opened e ≤ length (term_rows e)
unfolding term_rows
regions_few_holds (Term.input k) = omega arith
regions_few_holds (Term.variable d) = omega arith
regions_few_holds (Term.literal v) = omega arith
regions_few_holds (Term.negate e) = omega (arith, regions_few_holds e)
regions_few_holds (Term.operation o e f) = omega (arith, regions_few_holds e, regions_few_holds f, length-append (term_rows e) (term_rows f))
regions_few_holds (Term.map m a b) = omega arith
regions_few_holds (Term.reduce z a b) =
    omega (arith, regions_few_holds z, regions_few_holds a, length-append (term_rows z) (term_rows a ++ term_rows b), length-append (term_rows a) (term_rows b))
regions_few_holds (Term.zip a b) = omega (arith, regions_few_holds a, regions_few_holds b, length-append (term_rows a) (term_rows b))
regions_few_holds (Term.pair a b) = omega (arith, regions_few_holds a, regions_few_holds b, length-append (term_rows a) (term_rows b))
regions_few_holds (Term.split series n e) = omega (arith, regions_few_holds e)
regions_few_holds (Term.join series e) = omega (arith, regions_few_holds e)
regions_few_holds (Term.first e) = omega (arith, regions_few_holds e)
regions_few_holds (Term.second e) = omega (arith, regions_few_holds e)
regions_few_holds (Term.index series k e) = omega (arith, regions_few_holds e)

-- room for m nodes more in a later state
pub room_on : (n m : ℕ) (Y : List ℕ) (N : List ℤ) (T U : List ℕ) (s s' : State) → Room n Y N T s → Grown T U s.len → s.len ≤ s'.len
    → s'.len + m ≤ s.len + n → s'.counters + m ≤ s.counters + n → s'.regions + m ≤ s.regions + n → Room m Y N U s'
room_on n m Y N T U s s' R g h a b c = record {
  types = R.types;
  some = omega (arith, R.some);
  nodes = omega (arith, R.nodes);
  size = g.size;
  counters = omega (arith, R.counters);
  regions = omega (arith, R.regions);
  plan = R.plan;
}

module _ (ks : List ℕ) (ns : List ℤ) (C Y : List ℕ) (N : List ℤ) (T : List ℕ) (s : State) (I Γ : List DataType) (Δ : List Expression) (e : Term)
    (S : Stands ks ns C Y N T s I Γ Δ e) where
  -- the same rows in a later state
  pub stands_kept : (U : List ℕ) (s' : State) → Variables Y N U s' Δ → Stands ks ns C Y N U s' I Γ Δ e
  stands_kept U s' v = record {
    rows = S.rows;
    noted = S.noted;
    named = S.named;
    variables = v;
    literals = S.literals;
    column = S.column;
    inputs = S.inputs;
  }

  -- a map where its region is opened
  pub stands_region : (U : List ℕ) (p : ℕ) (s' : State) → RegionOpened T U p s s' → Stands ks ns C Y N U s' I Γ Δ e
  stands_region U p s' R = stands_kept U s' (variables_kept Y N T U s s' Δ S.variables R.node.grown (omega (arith, R.len)) R.variables)

  module _ (k : ℕ) (ek : k ≡ get_or ks 0 0) where
    kind : k ≡ term_kind e
    kind = ek ∙ its_kind ks ns (length I) (length Γ) e S.rows

    -- the first operand behind nothing
    pub stands_under : 1 ≤ operand_count e → Stands (part 1 ks) (part 1 ns) (part 1 C) Y N T s I Γ Δ (first_operand e)
    stands_under h = stands_first ks ns C Y N T s I Γ Δ e S h T s S.variables

    -- the second of two that are used
    pub stands_after_use : is_leaf k ≡ false → is_map k ≡ false → (k ≡ word_redseq → ⊥) → has_one_operand k ≡ false
        → (U : List ℕ) (o o' : Table) (one : Translated) (s' : State) → Used Y N I Γ Δ (first_operand e) s T U o o' one → AfterUse s one s'
        → Stands (part (1 + one.rows) ks) (part (1 + one.rows) ns) (part (1 + one.rows) C) Y N U s' I Γ Δ (second_operand e)
    stands_after_use hk hm hr hb U o o' one s' A G =
        let q : TwoOperands I e = two_operands I e (ap is_leaf (sym kind) ∙ hk) (ap is_map (sym kind) ∙ hm) (λ x. hr (kind ∙ x)) (ap has_one_operand (sym kind) ∙ hb) in
        stands_second ks ns C Y N T s I Γ Δ e S q.count one.rows A.passed q.opens U s'
        (variables_kept Y N T U s s' Δ S.variables A.grown (omega (arith, A.more, G.len)) G.variables)

    -- the array of a reduction, behind the a rows of its start; and the start, once the array is used
    module _ (hk : k ≡ word_redseq) where
      reduction : ReduceTerm I e
      reduction = reduce_term I e (sym kind ∙ hk)

      pub stands_reduced : (a : ℕ) → a ≡ length (term_rows (first_operand e)) → Stands (part (1 + a) ks) (part (1 + a) ns) (part (1 + a) C) Y N T s I Γ Δ (second_operand e)
      stands_reduced a ea = stands_array ks ns C Y N T s I Γ Δ e S reduction.count a ea reduction.opens T s S.variables

      pub stands_start : (U : List ℕ) (o o' : Table) (array : Translated) (s' : State) → Used Y N I Γ Δ (second_operand e) s T U o o' array → AfterUse s array s'
          → Stands (part 1 ks) (part 1 ns) (part 1 C) Y N U s' I Γ Δ (first_operand e)
      stands_start U o o' array s' A G =
          stands_first ks ns C Y N T s I Γ Δ e S (omega (arith, reduction.count)) U s'
          (variables_kept Y N T U s s' Δ S.variables A.grown (omega (arith, A.more, G.len)) G.variables)

    -- an operand that is written into a part
    pub stands_in_part : 1 ≤ operand_count e → (U : List ℕ) (j n P : ℕ) (s' : State) → IntoPart T U j n P s.len s s'
        → Stands (part 1 ks) (part 1 ns) (part 1 C) Y N U s' I Γ Δ (first_operand e)
    stands_in_part h U j n P s' F =
        stands_first ks ns C Y N T s I Γ Δ e S h U s'
        (variables_kept Y N T U s s' Δ S.variables F.node.grown (omega (arith, F.len)) F.variables)

    -- the second of two that are written
    pub stands_in_second : is_paired k ≡ true → (U W X : List ℕ) (i n j m P : ℕ) (s₁ : State) (o o' : Table) (one : Translated) (s₂ : State) (Q : Acceptor)
        → IntoPart T U i n P s.len s s₁ → Written Y N I Γ Δ (first_operand e) Q s₁ U W o o' one → IntoPart W X j m P one.len s s₂
        → Stands (part (1 + one.rows) ks) (part (1 + one.rows) ns) (part (1 + one.rows) C) Y N X s₂ I Γ Δ (second_operand e)
    stands_in_second h U W X i n j m P s₁ o o' one s₂ Q F A G =
        let q : PairedTerm I e = paired_term I e (ap is_paired (sym kind) ∙ h) in
        let g : Grown T W s.len = grown_more T U W s.len s₁.len (omega (arith, F.len)) F.node.grown A.grown in
        stands_second ks ns C Y N T s I Γ Δ e S q.count one.rows A.passed q.opens X s₂
        (variables_kept Y N T X s s₂ Δ S.variables (grown_more T W X s.len one.len (omega (arith, F.len, A.more)) g G.node.grown)
        (omega (arith, F.len, A.more, G.len)) G.variables)

    pub paired_count : is_paired k ≡ true → operand_count e ≡ 2
    paired_count h = (paired_term I e (ap is_paired (sym kind) ∙ h)).count

    pub regrouped_count : is_regrouped k ≡ true → operand_count e ≡ 1
    regrouped_count h = (regrouped_term I e (ap is_regrouped (sym kind) ∙ h)).count
