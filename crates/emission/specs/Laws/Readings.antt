-- What a node that was put reads, and where it writes, by its fields. Assumes nothing.
use Rattle.std.specs.Prelude.{◌≡◌, refl, List, ℕ, ◌<◌, ℤ, pos, get_or}
use Rattle.std.proofs.Common.{ap, ap₂, ◌∙◌, arith}
use Rattle.meaning.specs.Expressions.{Expression, Acceptor}
use Rattle.meaning.specs.Translation.{no_expression}
use Rattle.type_table.specs.Table.{type_at}
use Rattle.emission.specs.Nodes.{node_of, kind_in, type_in, number_in, left_in, right_in}
use Rattle.emission.specs.Changes.{change_of}
use Rattle.emission.specs.References.{node_at, class_of, operation_of, rearranged, expression_by, expression_over, expression_at, no_acceptor, written, acceptor_by, acceptor_over, acceptor_at}
use Rattle.emission.specs.Growth.{Grown, Pushed}
use Rattle.emission.specs.Laws.Nodes.{kind_node, type_node, number_node, left_node, right_node}
use Rattle.emission.specs.Laws.Growth.{node_kept, node_pushed}
use Rattle.emission.specs.declared.references.Class.{Class}
use Rattle.emission.specs.declared.references.Class.TheVariants.{Literal, Input, Region, Output, Negation, Operation as Operated, Rearranged}

-- of kind k, with the type at place t and the number n, over E and F
abbrev pub read_by : Class → List ℕ → List ℤ → ℕ → ℕ → ℕ → Expression → Expression → Expression
read_by Literal Y N k t n E F = Expression.literal (get_or N n (pos 0))
read_by Input Y N k t n E F = Expression.input n (type_at Y t)
read_by Region Y N k t n E F = Expression.region n (type_at Y t)
read_by Output Y N k t n E F = no_expression
read_by Negation Y N k t n E F = Expression.negate E
read_by Operated Y N k t n E F = Expression.operation (operation_of k) E F
read_by Rearranged Y N k t n E F = rearranged (change_of k) n E F

read_by_holds : (y : Class) (Y : List ℕ) (N : List ℤ) (w : ℕ) (E F : Expression)
    → expression_by y Y N w E F ≡ read_by y Y N (kind_in w) (type_in w) (number_in w) E F
read_by_holds Literal Y N w E F = refl
read_by_holds Input Y N w E F = refl
read_by_holds Region Y N w E F = refl
read_by_holds Output Y N w E F = refl
read_by_holds Negation Y N w E F = refl
read_by_holds Operated Y N w E F = refl
read_by_holds Rearranged Y N w E F = refl

-- over the place P
abbrev pub write_by : Class → List ℕ → ℕ → ℕ → ℕ → Acceptor → Acceptor
write_by Literal Y k t n P = no_acceptor
write_by Input Y k t n P = no_acceptor
write_by Region Y k t n P = Acceptor.region n (type_at Y t)
write_by Output Y k t n P = Acceptor.output (type_at Y t)
write_by Negation Y k t n P = no_acceptor
write_by Operated Y k t n P = no_acceptor
write_by Rearranged Y k t n P = written (change_of k) n P

write_by_holds : (y : Class) (Y : List ℕ) (w : ℕ) (P : Acceptor)
    → acceptor_by y Y w P ≡ write_by y Y (kind_in w) (type_in w) (number_in w) P
write_by_holds Literal Y w P = refl
write_by_holds Input Y w P = refl
write_by_holds Region Y w P = refl
write_by_holds Output Y w P = refl
write_by_holds Negation Y w P = refl
write_by_holds Operated Y w P = refl
write_by_holds Rearranged Y w P = refl

module _ (T U : List ℕ) (len k t n a b : ℕ) (p : Pushed T U len (node_of k t n a b)) (hl : len < 1024) (ht : t < 65536) (hn : n < 65536) (ha : a < len) (hb : b < len) where
  node_over : {A : Type 0} (nothing : A) (make : ℕ → A → A → A)
      → node_at nothing make U len ≡ make (node_of k t n a b) (node_at nothing make T a) (node_at nothing make T b)
  node_over nothing make =
      let w : ℕ = node_of k t n a b in
      let el : left_in w ≡ a = left_node k t n a b ht hn (omega arith) (omega arith) in
      let er : right_in w ≡ b = right_node k t n a b ht hn (omega arith) (omega arith) in
      node_pushed nothing make T U len w p (omega (arith, el)) (omega (arith, er))
      ∙ ap₂ (λ (i j : ℕ). make w (node_at nothing make T i) (node_at nothing make T j)) el er

  pub pushed_reads : (Y : List ℕ) (N : List ℤ)
      → expression_at Y N U len ≡ read_by (class_of k) Y N k t n (expression_at Y N T a) (expression_at Y N T b)
  pushed_reads Y N =
      let w : ℕ = node_of k t n a b in
      let E : Expression = expression_at Y N T a in
      let F : Expression = expression_at Y N T b in
      let ek : kind_in w ≡ k = kind_node k t n a b ht hn (omega arith) (omega arith) in
      let et : type_in w ≡ t = type_node k t n a b ht hn (omega arith) (omega arith) in
      let en : number_in w ≡ n = number_node k t n a b ht hn (omega arith) (omega arith) in
      node_over no_expression (expression_over Y N)
      ∙ read_by_holds (class_of (kind_in w)) Y N w E F
      ∙ ap (λ (y : ℕ). read_by (class_of y) Y N y (type_in w) (number_in w) E F) ek
      ∙ ap₂ (λ (y z : ℕ). read_by (class_of k) Y N k y z E F) et en

  pub pushed_writes : (Y : List ℕ) → acceptor_at Y U len ≡ write_by (class_of k) Y k t n (acceptor_at Y T a)
  pushed_writes Y =
      let w : ℕ = node_of k t n a b in
      let P : Acceptor = acceptor_at Y T a in
      let ek : kind_in w ≡ k = kind_node k t n a b ht hn (omega arith) (omega arith) in
      let et : type_in w ≡ t = type_node k t n a b ht hn (omega arith) (omega arith) in
      let en : number_in w ≡ n = number_node k t n a b ht hn (omega arith) (omega arith) in
      node_over no_acceptor (acceptor_over Y)
      ∙ write_by_holds (class_of (kind_in w)) Y w P
      ∙ ap (λ (y : ℕ). write_by (class_of y) Y y (type_in w) (number_in w) P) ek
      ∙ ap₂ (λ (y z : ℕ). write_by (class_of k) Y k y z P) et en

-- what a node reads stays
module _ (T U : List ℕ) (len i : ℕ) (h : i < len) (g : Grown T U len) (Y : List ℕ) where
  pub reads_on : (N : List ℤ) → expression_at Y N U i ≡ expression_at Y N T i
  reads_on N = node_kept no_expression (expression_over Y N) T U len i h g

  pub writes_on : acceptor_at Y U i ≡ acceptor_at Y T i
  writes_on = node_kept no_acceptor (acceptor_over Y) T U len i h g
