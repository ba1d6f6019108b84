-- [6.2] To use a term in C, without a continuation: C comes last in every clause, so a use is rows put first, then C's own. The rows
-- put first, the expression that C gets, the regions left open; and that they are what `use_term` makes. The code that emits rows
-- goes by this.
use Rattle.std.specs.Prelude.{◌≡◌, get_or}
use Rattle.std.proofs.Math.Path.{refl, ap, sym}
use Rattle.std.proofs.Common.{◌∙◌, add_assoc, add-zero, add-one}
use mathlib.Core.List.{List, [], ◌∷◌, ◌++◌, append_assoc}
use Prim.Native.Nat.{ℕ, suc, ◌+◌}
use native.Mathlib.Omega.{arith}
use Rattle.std.proofs.Math.IntN.{pos}
use Rattle.words.specs.Kinds.{Row, word_new, word_seq}
use Rattle.meaning.specs.Types.{DataType, cells, array_length, element, number}
use Rattle.meaning.specs.Terms.{LoopKind, Term}
use Rattle.meaning.specs.Typing.{type_of}
use Rattle.meaning.specs.Loops.{Offset, Command, seq, loop, new}
use Rattle.meaning.specs.Expressions.{Expression, Acceptor}
use Rattle.meaning.specs.Translation.{assign, write_map, reduce_round, use_reduce, use_written}
use Rattle.meaning.specs.Translation.{no_expression, write_term, use_term}
use Rattle.meaning.specs.Rows.{loop_word, command_rows}

-- the regions that a use leaves open for C
abbrev pub regions_opened : Term → ℕ
regions_opened (Term.input k) = 0
regions_opened (Term.variable d) = 0
regions_opened (Term.literal v) = 0
regions_opened (Term.negate e) = regions_opened e
regions_opened (Term.operation o e f) = regions_opened e + regions_opened f
regions_opened (Term.map kind a b) = 1
regions_opened (Term.reduce z a b) = regions_opened a + regions_opened z + 1
regions_opened (Term.zip a b) = regions_opened a + regions_opened b
regions_opened (Term.pair a b) = regions_opened a + regions_opened b
regions_opened (Term.split series n e) = regions_opened e
regions_opened (Term.join series e) = regions_opened e
regions_opened (Term.first e) = regions_opened e
regions_opened (Term.second e) = regions_opened e
regions_opened (Term.index series k e) = regions_opened e

module _ (I : List DataType) where
  -- the expression that C gets
  unfoldable pub expression_of : Term → List DataType → List Expression → ℕ → Expression
  expression_of (Term.input k) Γ Δ r = Expression.input k (get_or I k number)
  expression_of (Term.variable d) Γ Δ r = get_or Δ d no_expression
  expression_of (Term.literal v) Γ Δ r = Expression.literal v
  expression_of (Term.negate e) Γ Δ r = Expression.negate (expression_of e Γ Δ r)
  expression_of (Term.operation o e f) Γ Δ r =
      Expression.operation o (expression_of e Γ Δ r) (expression_of f Γ Δ (r + regions_opened e))
  expression_of (Term.map kind a b) Γ Δ r = Expression.region r (type_of I Γ (Term.map kind a b))
  expression_of (Term.reduce z a b) Γ Δ r = Expression.region (r + regions_opened a + regions_opened z) (type_of I Γ z)
  expression_of (Term.zip a b) Γ Δ r =
      Expression.zip (expression_of a Γ Δ r) (expression_of b Γ Δ (r + regions_opened a))
  expression_of (Term.pair a b) Γ Δ r =
      Expression.pair (expression_of a Γ Δ r) (expression_of b Γ Δ (r + regions_opened a))
  expression_of (Term.split series n e) Γ Δ r = Expression.split n (expression_of e Γ Δ r)
  expression_of (Term.join series e) Γ Δ r =
      Expression.join (array_length (element (type_of I Γ e))) (expression_of e Γ Δ r)
  expression_of (Term.first e) Γ Δ r = Expression.first (expression_of e Γ Δ r)
  expression_of (Term.second e) Γ Δ r = Expression.second (expression_of e Γ Δ r)
  expression_of (Term.index series k e) Γ Δ r = Expression.index (expression_of e Γ Δ r) (Offset.literal k)

  -- the rounds of a reduction whose array is A and whose total is region r
  abbrev pub reduce_loop : Term → Term → Term → List DataType → List Expression → ℕ → ℕ → Expression → Command
  reduce_loop z a b Γ Δ c r A =
      loop LoopKind.sequential (array_length (type_of I Γ a))
      (reduce_round (element (type_of I Γ a)) (type_of I Γ z) (write_term I b) Γ Δ c r A)

  -- the rows of a reduction once its array A and its start Z are used
  unfoldable pub reduce_rows : Term → Term → Term → List DataType → List Expression → ℕ → ℕ → Expression → Expression
      → List Row
  reduce_rows z a b Γ Δ c r A Z =
      (word_new, pos (cells (type_of I Γ z)))
      ∷ (word_seq, pos 0)
      ∷ (command_rows (assign (type_of I Γ z) Z (Acceptor.region r (type_of I Γ z)) c (suc r))
      ++ ((word_seq, pos 0) ∷ command_rows (reduce_loop z a b Γ Δ c r A)))

  -- the rows put first
  unfoldable pub use_rows : Term → List DataType → List Expression → ℕ → ℕ → List Row
  use_rows (Term.input k) Γ Δ c r = []
  use_rows (Term.variable d) Γ Δ c r = []
  use_rows (Term.literal v) Γ Δ c r = []
  use_rows (Term.negate e) Γ Δ c r = use_rows e Γ Δ c r
  use_rows (Term.operation o e f) Γ Δ c r = use_rows e Γ Δ c r ++ use_rows f Γ Δ c (r + regions_opened e)
  use_rows (Term.map kind a b) Γ Δ c r =
      let t : DataType = type_of I Γ (Term.map kind a b) in
      (word_new, pos (cells t))
      ∷ (word_seq, pos 0)
      ∷ command_rows (write_term I (Term.map kind a b) Γ Δ c (suc r) (Acceptor.region r t))
  use_rows (Term.reduce z a b) Γ Δ c r =
      use_rows a Γ Δ c r
      ++ (use_rows z Γ Δ c (r + regions_opened a)
      ++ reduce_rows z a b Γ Δ c (r + regions_opened a + regions_opened z) (expression_of a Γ Δ r)
      (expression_of z Γ Δ (r + regions_opened a)))
  use_rows (Term.zip a b) Γ Δ c r = use_rows a Γ Δ c r ++ use_rows b Γ Δ c (r + regions_opened a)
  use_rows (Term.pair a b) Γ Δ c r = use_rows a Γ Δ c r ++ use_rows b Γ Δ c (r + regions_opened a)
  use_rows (Term.split series n e) Γ Δ c r = use_rows e Γ Δ c r
  use_rows (Term.join series e) Γ Δ c r = use_rows e Γ Δ c r
  use_rows (Term.first e) Γ Δ c r = use_rows e Γ Δ c r
  use_rows (Term.second e) Γ Δ c r = use_rows e Γ Δ c r
  use_rows (Term.index series k e) Γ Δ c r = use_rows e Γ Δ c r

  -- The rows of a use are the rows put first, and then C's: of term e, with these variables, counters and regions
  abbrev UseIsRows : Term → List DataType → List Expression → ℕ → ℕ → Type 0
  UseIsRows e Γ Δ c r =
      (C : Expression → ℕ → Command)
      → command_rows (use_term I e Γ Δ c r C)
      ≡ use_rows e Γ Δ c r ++ command_rows (C (expression_of e Γ Δ r) (r + regions_opened e))

  -- of two operands
  use_rows_of_two : (e f : Term) (Γ : List DataType) (Δ : List Expression) (c r : ℕ)
      → UseIsRows e Γ Δ c r → UseIsRows f Γ Δ c (r + regions_opened e)
      → (make : Expression → Expression → Expression) (C : Expression → ℕ → Command)
      → command_rows (use_term I e Γ Δ c r (λ E n. use_term I f Γ Δ c n (λ F m. C (make E F) m)))
      ≡ (use_rows e Γ Δ c r ++ use_rows f Γ Δ c (r + regions_opened e))
      ++ command_rows
      (C (make (expression_of e Γ Δ r) (expression_of f Γ Δ (r + regions_opened e)))
      (r + (regions_opened e + regions_opened f)))
  use_rows_of_two e f Γ Δ c r he hf make C =
      let E : Expression = expression_of e Γ Δ r in
      let F : Expression = expression_of f Γ Δ (r + regions_opened e) in
      let x : List Row = use_rows e Γ Δ c r in
      let y : List Row = use_rows f Γ Δ c (r + regions_opened e) in
      he (λ E n. use_term I f Γ Δ c n (λ F m. C (make E F) m))
      ∙ ap (λ (l : List Row). x ++ l) (hf (λ F m. C (make E F) m))
      ∙ sym (append_assoc x y (command_rows (C (make E F) (r + regions_opened e + regions_opened f))))
      ∙ ap (λ (n : ℕ). (x ++ y) ++ command_rows (C (make E F) n)) (add_assoc r (regions_opened e) (regions_opened f))

  -- of a reduction
  use_rows_of_reduce : (z a b : Term) (Γ : List DataType) (Δ : List Expression) (c r : ℕ)
      → UseIsRows a Γ Δ c r → UseIsRows z Γ Δ c (r + regions_opened a) → UseIsRows (Term.reduce z a b) Γ Δ c r
  unfolding use_term use_reduce use_rows expression_of reduce_rows command_rows
  use_rows_of_reduce z a b Γ Δ c r ha hz C =
      let t : DataType = type_of I Γ z in
      let n : ℕ = r + regions_opened a + regions_opened z in
      let A : Expression = expression_of a Γ Δ r in
      let Z : Expression = expression_of z Γ Δ (r + regions_opened a) in
      let x : List Row = use_rows a Γ Δ c r in
      let y : List Row = use_rows z Γ Δ c (r + regions_opened a) in
      let whole : Expression → Expression → ℕ → Command =
      λ A Z n.
      new (cells t)
      (seq (assign t Z (Acceptor.region n t) c (suc n))
      (seq (reduce_loop z a b Γ Δ c n A) (C (Expression.region n t) (suc n)))) in
      let e : suc n ≡ r + (regions_opened a + regions_opened z + 1) = omega arith in
      ha (λ A n. use_term I z Γ Δ c n (λ Z k. whole A Z k))
      ∙ ap (λ (l : List Row). x ++ l) (hz (λ Z k. whole A Z k))
      ∙ ap (λ (l : List Row). x ++ (y ++ (word_new, pos (cells t)) ∷ (word_seq, pos 0) ∷ l))
      (sym (append_assoc (command_rows (assign t Z (Acceptor.region n t) c (suc n))) _ _))
      ∙ ap (λ (l : List Row). x ++ l) (sym (append_assoc y (reduce_rows z a b Γ Δ c n A Z) _))
      ∙ sym (append_assoc x (y ++ reduce_rows z a b Γ Δ c n A Z) _)
      ∙ ap (λ (m : ℕ). use_rows (Term.reduce z a b) Γ Δ c r ++ command_rows (C (Expression.region n t) m)) e

  pub use_rows_holds : (e : Term) (Γ : List DataType) (Δ : List Expression) (c r : ℕ) (C : Expression → ℕ → Command)
      → command_rows (use_term I e Γ Δ c r C)
      ≡ use_rows e Γ Δ c r ++ command_rows (C (expression_of e Γ Δ r) (r + regions_opened e))
  unfolding use_term write_term use_written write_map use_rows expression_of command_rows
  use_rows_holds (Term.input k) Γ Δ c r C =
      ap (λ (n : ℕ). command_rows (C (Expression.input k (get_or I k number)) n)) (sym (add-zero r))
  use_rows_holds (Term.variable d) Γ Δ c r C =
      ap (λ (n : ℕ). command_rows (C (get_or Δ d no_expression) n)) (sym (add-zero r))
  use_rows_holds (Term.literal v) Γ Δ c r C = ap (λ (n : ℕ). command_rows (C (Expression.literal v) n)) (sym (add-zero r))
  use_rows_holds (Term.negate e) Γ Δ c r C = use_rows_holds e Γ Δ c r (λ E n. C (Expression.negate E) n)
  use_rows_holds (Term.operation o e f) Γ Δ c r C =
      use_rows_of_two e f Γ Δ c r (use_rows_holds e Γ Δ c r) (use_rows_holds f Γ Δ c (r + regions_opened e))
      (Expression.operation o) C
  use_rows_holds (Term.map kind a b) Γ Δ c r C =
      ap
      (λ (n : ℕ).
      use_rows (Term.map kind a b) Γ Δ c r ++ command_rows (C (Expression.region r (type_of I Γ (Term.map kind a b))) n))
      (sym (add-one r))
  use_rows_holds (Term.reduce z a b) Γ Δ c r C =
      use_rows_of_reduce z a b Γ Δ c r (use_rows_holds a Γ Δ c r) (use_rows_holds z Γ Δ c (r + regions_opened a)) C
  use_rows_holds (Term.zip a b) Γ Δ c r C =
      use_rows_of_two a b Γ Δ c r (use_rows_holds a Γ Δ c r) (use_rows_holds b Γ Δ c (r + regions_opened a)) Expression.zip C
  use_rows_holds (Term.pair a b) Γ Δ c r C =
      use_rows_of_two a b Γ Δ c r (use_rows_holds a Γ Δ c r) (use_rows_holds b Γ Δ c (r + regions_opened a)) Expression.pair C
  use_rows_holds (Term.split series n e) Γ Δ c r C = use_rows_holds e Γ Δ c r (λ E m. C (Expression.split n E) m)
  use_rows_holds (Term.join series e) Γ Δ c r C =
      use_rows_holds e Γ Δ c r (λ E n. C (Expression.join (array_length (element (type_of I Γ e))) E) n)
  use_rows_holds (Term.first e) Γ Δ c r C = use_rows_holds e Γ Δ c r (λ E n. C (Expression.first E) n)
  use_rows_holds (Term.second e) Γ Δ c r C = use_rows_holds e Γ Δ c r (λ E n. C (Expression.second E) n)
  use_rows_holds (Term.index series k e) Γ Δ c r C = use_rows_holds e Γ Δ c r (λ E n. C (Expression.index E (Offset.literal k)) n)

  -- Written terms

  -- those that are written by a use and an assignment
  abbrev pub IsAssigned : Term → Type 0
  IsAssigned (Term.input k) = Unit {0}
  IsAssigned (Term.variable d) = Unit {0}
  IsAssigned (Term.literal v) = Unit {0}
  IsAssigned (Term.negate e) = Unit {0}
  IsAssigned (Term.operation o e f) = Unit {0}
  IsAssigned (Term.map kind a b) = ⊥
  IsAssigned (Term.reduce z a b) = Unit {0}
  IsAssigned (Term.zip a b) = ⊥
  IsAssigned (Term.pair a b) = ⊥
  IsAssigned (Term.split series n e) = ⊥
  IsAssigned (Term.join series e) = ⊥
  IsAssigned (Term.first e) = Unit {0}
  IsAssigned (Term.second e) = Unit {0}
  IsAssigned (Term.index series k e) = Unit {0}

  -- what they are: a use, then an assignment by type
  write_is_use : (e : Term) → IsAssigned e → (Γ : List DataType) (Δ : List Expression) (c r : ℕ) (P : Acceptor)
      → write_term I e Γ Δ c r P ≡ use_term I e Γ Δ c r (λ E n. assign (type_of I Γ e) E P c n)
  unfolding write_term use_term
  write_is_use (Term.input k) i Γ Δ c r P = refl
  write_is_use (Term.variable d) i Γ Δ c r P = refl
  write_is_use (Term.literal v) i Γ Δ c r P = refl
  write_is_use (Term.negate e) i Γ Δ c r P = refl
  write_is_use (Term.operation o e f) i Γ Δ c r P = refl
  write_is_use (Term.map kind a b) i Γ Δ c r P = absurd i
  write_is_use (Term.reduce z a b) i Γ Δ c r P = refl
  write_is_use (Term.zip a b) i Γ Δ c r P = absurd i
  write_is_use (Term.pair a b) i Γ Δ c r P = absurd i
  write_is_use (Term.split series n e) i Γ Δ c r P = absurd i
  write_is_use (Term.join series e) i Γ Δ c r P = absurd i
  write_is_use (Term.first e) i Γ Δ c r P = refl
  write_is_use (Term.second e) i Γ Δ c r P = refl
  write_is_use (Term.index series k e) i Γ Δ c r P = refl

  pub write_rows_assigned : (e : Term) → IsAssigned e
      → (Γ : List DataType) (Δ : List Expression) (c r : ℕ) (P : Acceptor)
      → command_rows (write_term I e Γ Δ c r P)
      ≡ use_rows e Γ Δ c r ++ command_rows (assign (type_of I Γ e) (expression_of e Γ Δ r) P c (r + regions_opened e))
  write_rows_assigned e i Γ Δ c r P =
      ap command_rows (write_is_use e i Γ Δ c r P) ∙ use_rows_holds e Γ Δ c r (λ E n. assign (type_of I Γ e) E P c n)

  pub write_rows_map : (kind : LoopKind) (a b : Term) (Γ : List DataType) (Δ : List Expression) (c r : ℕ) (P : Acceptor)
      → command_rows (write_term I (Term.map kind a b) Γ Δ c r P)
      ≡ use_rows a Γ Δ c r
      ++ ((loop_word kind, pos (array_length (type_of I Γ a)))
      ∷ command_rows
      (write_term I b (element (type_of I Γ a) ∷ Γ) (Expression.index (expression_of a Γ Δ r) (Offset.counter c) ∷ Δ)
      (suc c)
      (r + regions_opened a) (Acceptor.index P (Offset.counter c))))
  unfolding write_term write_map command_rows
  write_rows_map kind a b Γ Δ c r P =
      use_rows_holds a Γ Δ c r
      (λ A n.
      loop kind (array_length (type_of I Γ a))
      (write_term I b (element (type_of I Γ a) ∷ Γ) (Expression.index A (Offset.counter c) ∷ Δ) (suc c) n
      (Acceptor.index P (Offset.counter c))))
