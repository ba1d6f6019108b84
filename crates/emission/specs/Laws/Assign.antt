-- The rows of an assignment by type, as the code puts them. Assumes nothing.
use Rattle.std.specs.Prelude.{◌≡◌, ℕ, suc, ◌+◌, ◌<◌, ◌≤◌, max, ℤ}
use Rattle.std.proofs.Math.Path.{refl, ap, ap₂, sym}
use Rattle.std.proofs.Common.{◌∙◌, arith, add-one}
use mathlib.Core.List.{List, []}
use Rattle.std.proofs.Math.IntN.{pos}
use Rattle.words.specs.Kinds.{Row, word_set, word_seq, word_ctr, word_fst, word_snd}
use Rattle.words.specs.Groups.{one_of}
use Rattle.meaning.specs.Types.{DataType, number, levels}
use Rattle.meaning.specs.Loops.{Offset}
use Rattle.meaning.specs.Paths.{Path}
use Rattle.meaning.specs.Expressions.{Expression, Acceptor}
use Rattle.meaning.specs.Translation.{assign}
use Rattle.meaning.specs.Rows.{command_rows}
use Rattle.type_table.specs.Table.{type_at}
use Rattle.emission.specs.Elements.{HasElements}
use Rattle.emission.specs.Laws.Elements.{its_assignment}
use Rattle.emission.specs.Table.{Table, put_row, put_rows}
use Rattle.emission.specs.Changes.{change_of, path_of}
use Rattle.emission.specs.References.{class_of, rearranged, expression_at, written, acceptor_at}
use Rattle.emission.specs.Laws.Table.{put_append}
use Rattle.emission.specs.Growth.{Grown, BothPushed}
use Rattle.emission.specs.Laws.Growth.{grown_more}
use Rattle.emission.specs.Laws.Readings.{read_by, write_by, pushed_reads, pushed_writes, reads_on, writes_on}
use Rattle.emission.specs.Laws.Values.{value_at}
use Rattle.emission.specs.Laws.Places.{place_at}
use Rattle.emission.specs.declared.references.Class.{Class}
use Rattle.emission.specs.declared.references.Class.TheVariants.{Rearranged}

module _ (T U : List ℕ) (len k n v q : ℕ) (B : BothPushed T U len k n v q) where
  pub both_grown : Grown T U len
  both_grown = grown_more T B.between U len (len + 1) (omega arith) B.over_value.grown B.over_target.grown

  module _ (hl : len + 1 < 1024) (hn : n < 65536) (hv : v < len) (hq : q < len) where
    -- a step from what is read, and from where it is written
    pub step_read : (Y : List ℕ) (N : List ℤ) → class_of k ≡ Rearranged
        → expression_at Y N U len ≡ rearranged (change_of k) n (expression_at Y N T v) (expression_at Y N T 0)
    step_read Y N e =
        reads_on B.between U (len + 1) len (omega arith) B.over_target.grown Y N
        ∙ pushed_reads T B.between len k 0 n v 0 B.over_value (omega arith) (omega arith) hn hv (omega arith) Y N
        ∙ ap (λ (y : Class). read_by y Y N k 0 n (expression_at Y N T v) (expression_at Y N T 0)) e

    pub step_written : (Y : List ℕ) → class_of k ≡ Rearranged → acceptor_at Y U (len + 1) ≡ written (change_of k) n (acceptor_at Y T q)
    step_written Y e =
        pushed_writes B.between U (len + 1) k 0 n q 0 B.over_target hl (omega arith) hn (omega arith) (omega arith) Y
        ∙ ap (λ (y : Class). write_by y Y k 0 n (acceptor_at Y B.between q)) e
        ∙ ap (written (change_of k) n) (writes_on T B.between len q hq B.over_value.grown Y)

-- no change makes no path
pub no_changes : (C : List ℕ) → path_of C 0 ≡ []
unfolding path_of
no_changes C = refl

-- an assignment as rows
abbrev pub assign_rows : DataType → Expression → Acceptor → ℕ → ℕ → List Row
assign_rows t E P c r = command_rows (assign t E P c r)

-- one `set`
pub set_rows : (E : Expression) (P : Acceptor) (c r : ℕ) (p p' : Path Offset) (o o₁ o₂ o₃ : Table) → p ≡ [] → p' ≡ []
    → o₁ ≡ put_row o (word_set, pos 0) → o₂ ≡ put_rows (place_at c r P p) o₁ → o₃ ≡ put_rows (value_at c r E p') o₂ → o₃ ≡ put_rows (assign_rows number E P c r) o
unfolding put_rows assign command_rows
set_rows E P c r p p' o o₁ o₂ o₃ e e' h l m =
    m ∙ ap (λ (y : Path Offset). put_rows (value_at c r E y) o₂) e'
    ∙ ap (put_rows (value_at c r E [])) (l ∙ ap (λ (y : Path Offset). put_rows (place_at c r P y) o₁) e ∙ ap (put_rows (place_at c r P [])) h)
    ∙ sym (put_append (place_at c r P []) (value_at c r E []) (put_row o (word_set, pos 0)))

-- the levels of what has parts
pub pair_levels : (t s u : DataType) → t ≡ DataType.pair s u → (suc (levels s) ≤ levels t) × (suc (levels u) ≤ levels t)
pair_levels t s u e =
    let h : levels t ≡ suc (max (levels s) (levels u)) = ap levels e in
    (omega arith, omega arith)

-- by the type
module _ (Y : List ℕ) (N : List ℤ) (T : List ℕ) (t v q c r : ℕ) (o o' : Table) where
  pub assign_number_holds : type_at Y t ≡ number → o' ≡ put_rows (assign_rows number (expression_at Y N T v) (acceptor_at Y T q) c r) o
      → o' ≡ put_rows (assign_rows (type_at Y t) (expression_at Y N T v) (acceptor_at Y T q) c r) o
  assign_number_holds e h = h ∙ sym (ap (λ (s : DataType). put_rows (assign_rows s (expression_at Y N T v) (acceptor_at Y T q) c r) o) e)

  module _ (len : ℕ) (hl : len + 1 < 1024) (hv : v < len) (hq : q < len) where
    pub assign_elements : (U : List ℕ) (n e k : ℕ) (o₁ : Table) → c < 65536 → HasElements (type_at Y t) n (type_at Y e) k → o₁ ≡ put_row o (k, pos n)
        → BothPushed T U len word_ctr c v q
        → o' ≡ put_rows (assign_rows (type_at Y e) (expression_at Y N U len) (acceptor_at Y U (len + 1)) (c + 1) r) o₁
        → o' ≡ put_rows (assign_rows (type_at Y t) (expression_at Y N T v) (acceptor_at Y T q) c r) o
    unfolding put_rows one_of
    assign_elements U n e k o₁ hc is p B h =
        let s : DataType = type_at Y e in
        h
        ∙ ap₂ (λ (E : Expression) (P : Acceptor). put_rows (assign_rows s E P (c + 1) r) o₁)
        (step_read T U len word_ctr c v q B hl hc hv hq Y N refl) (step_written T U len word_ctr c v q B hl hc hv hq Y refl)
        ∙ ap₂ (λ (d : ℕ) (y : Table). put_rows
        (assign_rows s (Expression.index (expression_at Y N T v) (Offset.counter c)) (Acceptor.index (acceptor_at Y T q) (Offset.counter c)) d r) y) (add-one c) p
        ∙ sym (ap (λ (l : List Row). put_rows l o) (its_assignment is (expression_at Y N T v) (acceptor_at Y T q) c r))

    pub assign_pair : (U W X : List ℕ) (a b : ℕ) (o₁ o₂ : Table) → type_at Y t ≡ DataType.pair (type_at Y a) (type_at Y b) → o₁ ≡ put_row o (word_seq, pos 0)
        → BothPushed T U len word_fst 0 v q
        → o₂ ≡ put_rows (assign_rows (type_at Y a) (expression_at Y N U len) (acceptor_at Y U (len + 1)) c r) o₁ → Grown U W (len + 2)
        → BothPushed W X len word_snd 0 v q
        → o' ≡ put_rows (assign_rows (type_at Y b) (expression_at Y N X len) (acceptor_at Y X (len + 1)) c r) o₂
        → o' ≡ put_rows (assign_rows (type_at Y t) (expression_at Y N T v) (acceptor_at Y T q) c r) o
    unfolding put_rows assign command_rows one_of
    assign_pair U W X a b o₁ o₂ is p B h g D m =
        let E : Expression = expression_at Y N T v in
        let P : Acceptor = acceptor_at Y T q in
        let G : Grown T W len = grown_more T U W len (len + 2) (omega arith) (both_grown T U len word_fst 0 v q B) g in
        let first : o₂ ≡ put_rows (assign_rows (type_at Y a) (Expression.first E) (Acceptor.first P) c r) (put_row o (word_seq, pos 0))
        = h
        ∙ ap₂ (λ (F : Expression) (Q : Acceptor). put_rows (assign_rows (type_at Y a) F Q c r) o₁)
        (step_read T U len word_fst 0 v q B hl (omega arith) hv hq Y N refl) (step_written T U len word_fst 0 v q B hl (omega arith) hv hq Y refl)
        ∙ ap (put_rows (assign_rows (type_at Y a) (Expression.first E) (Acceptor.first P) c r)) p in
        m
        ∙ ap₂ (λ (F : Expression) (Q : Acceptor). put_rows (assign_rows (type_at Y b) F Q c r) o₂)
        (step_read W X len word_snd 0 v q D hl (omega arith) hv hq Y N refl ∙ ap Expression.second (reads_on T W len v hv G Y N))
        (step_written W X len word_snd 0 v q D hl (omega arith) hv hq Y refl ∙ ap Acceptor.second (writes_on T W len q hq G Y))
        ∙ ap (put_rows (assign_rows (type_at Y b) (Expression.second E) (Acceptor.second P) c r)) first
        ∙ sym (put_append (assign_rows (type_at Y a) (Expression.first E) (Acceptor.first P) c r) (assign_rows (type_at Y b) (Expression.second E) (Acceptor.second P) c r)
        (put_row o (word_seq, pos 0)))
        ∙ sym (ap (λ (u : DataType). put_rows (assign_rows u E P c r) o) is)

-- the nodes below are as they were
pub pair_grown : (T U W X Z : List ℕ) (len v q : ℕ) → BothPushed T U len word_fst 0 v q → Grown U W (len + 2)
    → BothPushed W X len word_snd 0 v q → Grown X Z (len + 2) → Grown T Z len
pair_grown T U W X Z len v q B g D h =
    grown_more T X Z len (len + 2) (omega arith)
    (grown_more T W X len len (omega arith) (grown_more T U W len (len + 2) (omega arith) (both_grown T U len word_fst 0 v q B) g) (both_grown W X len word_snd 0 v q D))
    h
