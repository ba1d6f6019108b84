-- What the three nodes of a reduction stand for: its total, the element at a counter and where its body is written; and which region that is
-- at most. A reader need not believe any of it. Assumes nothing.
use Rattle.std.specs.Prelude.{◌≡◌, List, ℕ, ◌+◌, ◌≤◌, ◌<◌, ℤ}
use Rattle.std.proofs.Math.Path.{ap}
use Rattle.std.proofs.Common.{◌∙◌, arith}
use Rattle.words.specs.Kinds.{word_loc, word_ctr}
use Rattle.words.specs.Groups.{one_of}
use Rattle.meaning.specs.Types.{DataType, number, array, vector}
use Rattle.meaning.specs.Loops.{Offset}
use Rattle.meaning.specs.Expressions.{Expression, Acceptor}
use Rattle.type_table.specs.Table.{type_at}
use Rattle.emission.specs.References.{expression_at, acceptor_at}
use Rattle.emission.specs.Growth.{Grown}
use Rattle.emission.specs.Laws.Growth.{grown_more}
use Rattle.emission.specs.Laws.Readings.{pushed_reads, pushed_writes, reads_on, writes_on}
use Rattle.clauses.specs.Clauses.{body_region, ReductionPushed}

-- the region that the body is written into is the total or the one behind it
pub body_region_few : (t : DataType) (r : ℕ) → body_region t r ≤ r + 1
body_region_few number r = omega arith
body_region_few (array n t) r = omega arith
body_region_few (DataType.pair s t) r = omega arith
body_region_few (vector w) r = omega arith

module _ (T U : List ℕ) (p a c r g len : ℕ) (R : ReductionPushed T U p a c r g len) where
  between_grown : Grown R.one U (len + 1)
  between_grown = grown_more R.one R.two U (len + 1) (len + 2) (omega arith) R.elements.grown R.target.grown

  pub reduction_grown : Grown T U len
  reduction_grown = grown_more T R.one U len (len + 1) (omega arith) R.total.grown between_grown

  module _ (hl : len + 3 ≤ 1024) (h1 : 1 ≤ len) (hp : p < 65536) (ha : a < len) (hc : c < 65536) (hr : r < 65536) (Y : List ℕ) where
    pub total_reads : (N : List ℤ) → expression_at Y N U len ≡ Expression.region r (type_at Y p)
    total_reads N =
        reads_on R.one U (len + 1) len (omega arith) between_grown Y N
        ∙ pushed_reads T R.one len word_loc p r 0 0 R.total (omega arith) hp (omega arith) (omega arith) (omega arith) Y N

    pub total_writes : acceptor_at Y U len ≡ Acceptor.region r (type_at Y p)
    total_writes =
        writes_on R.one U (len + 1) len (omega arith) between_grown Y
        ∙ pushed_writes T R.one len word_loc p r 0 0 R.total (omega arith) hp (omega arith) (omega arith) (omega arith) Y

    pub element_reads : (N : List ℤ) → expression_at Y N U (len + 1) ≡ Expression.index (expression_at Y N T a) (Offset.counter c)
    unfolding one_of
    element_reads N =
        reads_on R.two U (len + 2) (len + 1) (omega arith) R.target.grown Y N
        ∙ pushed_reads R.one R.two (len + 1) word_ctr 0 c a 0 R.elements (omega arith) (omega arith) hc (omega arith) (omega arith) Y N
        ∙ ap (λ (E : Expression). Expression.index E (Offset.counter c)) (reads_on T R.one len a ha R.total.grown Y N)

    pub target_reads : g < 65536 → (N : List ℤ) → expression_at Y N U (len + 2) ≡ Expression.region g (type_at Y p)
    target_reads hg N = pushed_reads R.two U (len + 2) word_loc p g 0 0 R.target (omega arith) hp hg (omega arith) (omega arith) Y N

    pub target_writes : g < 65536 → acceptor_at Y U (len + 2) ≡ Acceptor.region g (type_at Y p)
    target_writes hg = pushed_writes R.two U (len + 2) word_loc p g 0 0 R.target (omega arith) hp hg (omega arith) (omega arith) Y
