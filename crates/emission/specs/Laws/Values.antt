-- The rows of the value of a node, as the code puts them: by the node's class, from what its operands' values are. Assumes nothing.
use Rattle.std.specs.Prelude.{◌≡◌, ◌⊎◌, refl, List, Bool, true, false, cond, eqb, ℤ, get_or, length, set, take}
use Rattle.std.proofs.Math.Path.{ap, sym}
use Rattle.std.proofs.Common.{◌∙◌, subst, arith, add-one, take-take, get_or-take, get_or-set_same, inl, inr}
use Prim.Native.Nat.{ℕ, zero, suc, ◌+◌, ◌-◌, ◌<◌, ◌≤◌}
use Rattle.std.proofs.Math.IntN.{pos}
use Rattle.std.proofs.lemmas.List.{take-set-le}
use Rattle.words.specs.Kinds.{Row, word_kind_in, word_lit, word_neg, word_out, word_loc}
use Rattle.words.specs.Groups.{operations, is_operation}
use Rattle.words.proofs.Laws.{at_member}
use Rattle.meaning.specs.Loops.{Offset}
use Rattle.meaning.specs.Paths.{Path}
use Rattle.meaning.specs.Expressions.{Expression}
use Rattle.meaning.specs.Offsets.{read_at, offset_of, value_from_innermost}
use Rattle.meaning.specs.Translation.{no_expression}
use Rattle.meaning.specs.Rows.{value_rows, operation_word}
use Rattle.type_table.specs.Table.{type_at}
use Rattle.emission.specs.Nodes.{kind_in, type_in, number_in, left_in, right_in}
use Rattle.emission.specs.Table.{Table, put_row, put_rows}
use Rattle.emission.specs.Changes.{change_of, through, path_of}
use Rattle.emission.specs.References.{class_of, operation_of, expression_by, expression_over, expression_at}
use Rattle.emission.specs.Laws.Table.{put_append}
use Rattle.emission.specs.Laws.Nodes.{node_made, nothing_left, nothing_right, nothing_first}
use Rattle.emission.specs.Laws.Indices.{rows_under}
use Rattle.emission.specs.Laws.Operands.{operand_read, read_on}
use Rattle.emission.specs.declared.references.Class.{Class}
use Rattle.emission.specs.declared.references.Class.TheVariants.{Literal, Input, Region, Output, Negation, Operation, Rearranged}

-- stacks of changes that agree below a depth make the same path there
pub path_agree : (C D : List ℕ) (d : ℕ) → take d C ≡ take d D → path_of C d ≡ path_of D d
unfolding path_of
path_agree C D zero e = refl
path_agree C D (suc d) e =
    let h : get_or C d 0 ≡ get_or D d 0
    = sym (get_or-take (suc d) C d 0 (omega arith)) ∙ ap (λ (l : List ℕ). get_or l d 0) e ∙ get_or-take (suc d) D d 0 (omega arith) in
    let i : take d C ≡ take d D = sym (take-take d (suc d) C (omega arith)) ∙ ap (take d) e ∙ take-take d (suc d) D (omega arith) in
    ap (λ (y : ℕ). through (change_of (kind_in y)) (number_in y) (path_of C d)) h
    ∙ ap (through (change_of (kind_in (get_or D d 0))) (number_in (get_or D d 0))) (path_agree C D d i)

push_suc : (C : List ℕ) (d w : ℕ) → d < length C → path_of (set C d w) (suc d) ≡ through (change_of (kind_in w)) (number_in w) (path_of C d)
unfolding path_of
push_suc C d w h =
    ap (λ (y : ℕ). through (change_of (kind_in y)) (number_in y) (path_of (set C d w) d)) (get_or-set_same C d w 0 h)
    ∙ ap (through (change_of (kind_in w)) (number_in w)) (path_agree (set C d w) C d (take-set-le d C d w (omega arith)))

-- one more change
pub path_push : (C : List ℕ) (d w : ℕ) → d < length C → path_of (set C d w) (d + 1) ≡ through (change_of (kind_in w)) (number_in w) (path_of C d)
path_push C d w h = ap (path_of (set C d w)) (add-one d) ∙ push_suc C d w h

-- what a call leaves below the depth of the change pushed for it
pub below_push : (C D : List ℕ) (d w : ℕ) → take (d + 1) D ≡ take (d + 1) (set C d w) → take d D ≡ take d C
below_push C D d w e =
    sym (take-take d (d + 1) D (omega arith)) ∙ ap (take d) e ∙ take-take d (d + 1) (set C d w) (omega arith) ∙ take-set-le d C d w (omega arith)

-- a node of the class of operations has an operation's word
abbrev operated : Class → ℕ
operated Literal = 0
operated Input = 0
operated Region = 0
operated Output = 0
operated Negation = 0
operated Operation = 1
operated Rearranged = 0

its_test : (a b c d e f : Bool)
    → cond a Literal (cond b Input (cond c Region (cond d Output (cond e Negation (cond f Operation Rearranged))))) ≡ Operation → f ≡ true
its_test true b c d e f h = absurd (let z : 0 ≡ 1 = ap operated h in omega arith)
its_test false true c d e f h = absurd (let z : 0 ≡ 1 = ap operated h in omega arith)
its_test false false true d e f h = absurd (let z : 0 ≡ 1 = ap operated h in omega arith)
its_test false false false true e f h = absurd (let z : 0 ≡ 1 = ap operated h in omega arith)
its_test false false false false true f h = absurd (let z : 0 ≡ 1 = ap operated h in omega arith)
its_test false false false false false true h = refl
its_test false false false false false false h = absurd (let z : 0 ≡ 1 = ap operated h in omega arith)

operation_word_holds : (k : ℕ) → class_of k ≡ Operation → operation_word (operation_of k) ≡ k
operation_word_holds k h =
    at_member (λ w. operation_word (operation_of w) ≡ w) k operations
    (its_test (eqb k word_lit) (eqb k word_kind_in) (eqb k word_loc) (eqb k word_out) (eqb k word_neg) (is_operation k) h)
    (refl, (refl, (refl, (refl, (refl, (refl, tt))))))

-- the value of an expression at a path, as rows
abbrev pub value_at : ℕ → ℕ → Expression → Path Offset → List Row
value_at c r E p = value_rows (value_from_innermost c r (read_at E p))

-- node v by its class and operands
module _ (Y : List ℕ) (N : List ℤ) (c r : ℕ) (T : List ℕ) (v a b : ℕ) (ha : a ≡ left_in (get_or T v 0)) (hb : b ≡ right_in (get_or T v 0))
    (p : Path Offset) (o o' : Table) where
  value_as : (E : Expression) → expression_at Y N T v ≡ E → o' ≡ put_rows (value_at c r E p) o → o' ≡ put_rows (value_at c r (expression_at Y N T v) p) o
  value_as E e h = h ∙ sym (ap (λ (F : Expression). put_rows (value_at c r F p) o) e)

  pub value_left : v ≤ a → o' ≡ put_row o (word_lit, pos 0) → o' ≡ put_rows (value_at c r (expression_at Y N T v) p) o
  unfolding put_rows value_rows
  value_left l h = value_as no_expression (nothing_left no_expression (expression_over Y N) T v (omega (arith, l, ha))) h

  pub value_right : v ≤ b → o' ≡ put_row o (word_lit, pos 0) → o' ≡ put_rows (value_at c r (expression_at Y N T v) p) o
  unfolding put_rows value_rows
  value_right l h = value_as no_expression (nothing_right no_expression (expression_over Y N) T v (omega (arith, l, hb))) h

  pub value_of_nothing : (v ≤ a) ⊎ ((a < v) × (v ≤ b)) → o' ≡ put_row o (word_lit, pos 0) → o' ≡ put_rows (value_at c r (expression_at Y N T v) p) o
  value_of_nothing (inl l) h = value_left l h
  value_of_nothing (inr l) h = value_right l.1 h

  module _ (la : a < v) (lb : b < v) (g cl : Class) (k : ℕ) (hc : cl ≡ class_of k) (hk : k ≡ kind_in (get_or T v 0)) (hg : cl ≡ g) where
    class_is : class_of (kind_in (get_or T v 0)) ≡ g
    class_is = sym (hc ∙ ap class_of hk) ∙ hg

    made : expression_at Y N T v ≡ expression_by g Y N (get_or T v 0) (expression_at Y N T a) (expression_at Y N T b)
    made =
        node_made no_expression (expression_over Y N) T v (get_or T v 0) refl (subst (λ (y : ℕ). y < v) ha la) (subst (λ (y : ℕ). y < v) hb lb)
        ∙ ap (λ (y : Class). expression_by y Y N (get_or T v 0) (expression_at Y N T (left_in (get_or T v 0))) (expression_at Y N T (right_in (get_or T v 0)))) class_is
        ∙ ap (λ (y : ℕ). expression_by g Y N (get_or T v 0) (expression_at Y N T y) (expression_at Y N T (right_in (get_or T v 0)))) (sym ha)
        ∙ ap (λ (y : ℕ). expression_by g Y N (get_or T v 0) (expression_at Y N T a) (expression_at Y N T y)) (sym hb)

    made_as : (f : Class) → g ≡ f → expression_at Y N T v ≡ expression_by f Y N (get_or T v 0) (expression_at Y N T a) (expression_at Y N T b)
    made_as f e = made ∙ ap (λ (y : Class). expression_by y Y N (get_or T v 0) (expression_at Y N T a) (expression_at Y N T b)) e

    pub value_literal : g ≡ Literal → (n : ℕ) → n ≡ number_in (get_or T v 0) → o' ≡ put_row o (word_lit, get_or N n (pos 0))
        → o' ≡ put_rows (value_at c r (expression_at Y N T v) p) o
    unfolding put_rows value_rows
    value_literal e n en h = value_as (Expression.literal (get_or N n (pos 0))) (made_as Literal e ∙ ap (λ (i : ℕ). Expression.literal (get_or N i (pos 0))) (sym en)) h

    pub value_input : g ≡ Input → (n t : ℕ) (o₁ : Table) → n ≡ number_in (get_or T v 0) → t ≡ type_in (get_or T v 0) → o₁ ≡ put_row o (word_kind_in, pos n)
        → o' ≡ put_rows (rows_under c (offset_of (type_at Y t) p)) o₁ → o' ≡ put_rows (value_at c r (expression_at Y N T v) p) o
    unfolding put_rows value_rows
    value_input e n t o₁ en et h l =
        value_as (Expression.input n (type_at Y t))
        (made_as Input e ∙ ap (λ (i : ℕ). Expression.input i (type_at Y (type_in (get_or T v 0)))) (sym en) ∙ ap (λ (i : ℕ). Expression.input n (type_at Y i)) (sym et))
        (l ∙ ap (put_rows (rows_under c (offset_of (type_at Y t) p))) h)

    pub value_region : g ≡ Region → (n m t : ℕ) (o₁ : Table) → n ≡ number_in (get_or T v 0) → m ≡ r - suc n → t ≡ type_in (get_or T v 0)
        → o₁ ≡ put_row o (word_loc, pos m) → o' ≡ put_rows (rows_under c (offset_of (type_at Y t) p)) o₁ → o' ≡ put_rows (value_at c r (expression_at Y N T v) p) o
    unfolding put_rows value_rows
    value_region e n m t o₁ en em et h l =
        value_as (Expression.region n (type_at Y t))
        (made_as Region e ∙ ap (λ (i : ℕ). Expression.region i (type_at Y (type_in (get_or T v 0)))) (sym en) ∙ ap (λ (i : ℕ). Expression.region n (type_at Y i)) (sym et))
        (l ∙ ap (put_rows (rows_under c (offset_of (type_at Y t) p))) (h ∙ ap (λ (i : ℕ). put_row o (word_loc, pos i)) em))

    pub value_output : g ≡ Output → o' ≡ put_row o (word_lit, pos 0) → o' ≡ put_rows (value_at c r (expression_at Y N T v) p) o
    unfolding put_rows value_rows
    value_output e h = value_as no_expression (made_as Output e) h

    pub value_negation : g ≡ Negation → (o₁ : Table) → o₁ ≡ put_row o (word_neg, pos 0) → o' ≡ put_rows (value_at c r (expression_at Y N T a) p) o₁
        → o' ≡ put_rows (value_at c r (expression_at Y N T v) p) o
    unfolding put_rows value_rows
    value_negation e o₁ h l =
        value_as (Expression.negate (expression_at Y N T a)) (made_as Negation e) (l ∙ ap (put_rows (value_at c r (expression_at Y N T a) p)) h)

    pub value_operation : g ≡ Operation → (k' : ℕ) (o₁ o₂ : Table) (q : Path Offset) → k' ≡ kind_in (get_or T v 0) → q ≡ p → o₁ ≡ put_row o (k', pos 0)
        → o₂ ≡ put_rows (value_at c r (expression_at Y N T a) p) o₁ → o' ≡ put_rows (value_at c r (expression_at Y N T b) q) o₂
        → o' ≡ put_rows (value_at c r (expression_at Y N T v) p) o
    unfolding put_rows value_rows
    value_operation e k' o₁ o₂ q ek eq h l m =
        let E : Expression = expression_at Y N T a in
        let F : Expression = expression_at Y N T b in
        let w : ℕ = kind_in (get_or T v 0) in
        value_as (Expression.operation (operation_of w) E F) (made_as Operation e)
        (m ∙ ap (λ (y : Path Offset). put_rows (value_at c r F y) o₂) eq
        ∙ ap (put_rows (value_at c r F p)) (l ∙ ap (put_rows (value_at c r E p)) (h ∙ ap (λ (y : ℕ). put_row o (y, pos 0)) (ek ∙ sym (operation_word_holds w (class_is ∙ e)))))
        ∙ sym (put_append (value_at c r E p) (value_at c r F p) (put_row o (operation_word (operation_of w), pos 0))))

    pub value_rearranged : g ≡ Rearranged → (n : ℕ) (q : Path Offset) → q ≡ through (change_of (kind_in (get_or T v 0))) (number_in (get_or T v 0)) p
        → n ≡ operand_read (change_of (kind_in (get_or T v 0))) p (left_in (get_or T v 0)) (right_in (get_or T v 0))
        → o' ≡ put_rows (value_at c r (expression_at Y N T n) q) o → o' ≡ put_rows (value_at c r (expression_at Y N T v) p) o
    value_rearranged e n q eq en h =
        let w : ℕ = get_or T v 0 in
        let f = change_of (kind_in w) in
        let m : n ≡ operand_read f p a b = en ∙ ap (λ (y : ℕ). operand_read f p y (right_in w)) (sym ha) ∙ ap (operand_read f p a) (sym hb) in
        h
        ∙ ap (λ (y : Path Offset). put_rows (value_at c r (expression_at Y N T n) y) o) eq
        ∙ ap (λ (y : ℕ). put_rows (value_at c r (expression_at Y N T y) (through f (number_in w) p)) o) m
        ∙ ap (λ y. put_rows (value_rows (value_from_innermost c r y)) o)
        (sym (read_on (λ (i : ℕ). expression_at Y N T i) f (number_in w) p a b (nothing_first no_expression (expression_over Y N) T)))
        ∙ sym (ap (λ (F : Expression). put_rows (value_at c r F p) o) (made_as Rearranged e))
