-- The literals of made loops are literals of their plan: what holds of every literal of a term, and of 0, holds of every literal of
-- its translation. Assumes nothing.
use Rattle.std.specs.Prelude.{Bool, true, false, cond, ℕ, zero, suc, ℤ, pos, get_or}
use mathlib.Core.List.{List, [], ◌∷◌}
use Rattle.meaning.specs.Types.{DataType, is_number, element, number}
use Rattle.meaning.specs.Terms.{LoopKind, Term, Plan}
use Rattle.meaning.specs.Loops.{Offset, Command}
use Rattle.meaning.specs.Expressions.{Expression, Acceptor}
use Rattle.meaning.specs.Translation.{Write, Use, write_map, body_into, round_by_next, use_reduce, use_written, no_expression, write_term, use_term, translation}
use Rattle.loops.specs.Laws.Literals.{TermLiterals, ExpressionLiterals, CommandLiterals, assign_literals}

module _ (P : ℤ → Type 0) (none : P (pos 0)) where
  abbrev Scope : List Expression → Type 0
  Scope Δ = (d : ℕ) → ExpressionLiterals P (get_or Δ d no_expression)

  empty : Scope []
  empty d = none

  more : (E : Expression) (Δ : List Expression) → ExpressionLiterals P E → Scope Δ → Scope (E ∷ Δ)
  more E Δ h g zero = h
  more E Δ h g (suc d) = g d

  abbrev Then : (Expression → ℕ → Command) → Type 0
  Then C = (E : Expression) (r : ℕ) → ExpressionLiterals P E → CommandLiterals P (C E r)

  abbrev Writes : Write → Type 0
  Writes W = (Γ : List DataType) (Δ : List Expression) (c r : ℕ) (A : Acceptor) → Scope Δ → CommandLiterals P (W Γ Δ c r A)

  abbrev Uses : Use → Type 0
  Uses U = (Γ : List DataType) (Δ : List Expression) (c r : ℕ) (C : Expression → ℕ → Command) → Scope Δ → Then C → CommandLiterals P (U Γ Δ c r C)

  map_literals : (kind : LoopKind) (t : DataType) (U : Use) (W : Write) → Uses U → Writes W → Writes (write_map kind t U W)
  unfolding write_map
  map_literals kind t U W u w Γ Δ c r A g =
      u Γ Δ c r _ g (λ E s h. w _ _ (suc c) s _ (more (Expression.index E (Offset.counter c)) Δ h g))

  written_literals : (t : DataType) (W : Write) → Writes W → Uses (use_written t W)
  unfolding use_written
  written_literals t W w Γ Δ c r C g k = (w Γ Δ c (suc r) _ g, k (Expression.region r t) (suc r) tt)

  module _ (e z : DataType) (W : Write) (w : Writes W) (Γ : List DataType) (Δ : List Expression) (c l : ℕ) (E : Expression) (g : Scope Δ)
      (h : ExpressionLiterals P E) where
    body_literals : (m : ℕ) → CommandLiterals P (body_into e z W Γ Δ c l E m)
    body_literals m =
        let elementRead : Expression = Expression.index E (Offset.counter c) in
        w _ _ (suc c) (suc m) _ (more (Expression.region l z) (elementRead ∷ Δ) tt (more elementRead Δ h g))

    round_literals : (direct : Bool) → CommandLiterals P (cond direct (body_into e z W Γ Δ c l E l) (round_by_next e z W Γ Δ c l E))
    round_literals true = body_literals l
    round_literals false = (body_literals (suc l), assign_literals P z (Expression.region (suc l) z) _ (suc c) (suc (suc l)) tt)

  reduce_literals : (t z : DataType) (U S : Use) (W : Write) → Uses U → Uses S → Writes W → Uses (use_reduce t z U S W)
  unfolding use_reduce
  reduce_literals t z U S W u v w Γ Δ c r C g k =
      u Γ Δ c r _ g (λ E s h.
      v Γ Δ c s _ g (λ Z l i. (
        assign_literals P z Z _ c (suc l) i,
        (round_literals (element t) z W w Γ Δ c l E g h (is_number z), k (Expression.region l z) (suc l) tt),
      )))

  module _ (I : List DataType) where
    record Keeps (e : Term) : Type 0 where
      written : Writes (λ Γ Δ c r A. write_term I e Γ Δ c r A)
      used : Uses (λ Γ Δ c r C. use_term I e Γ Δ c r C)

    keeps : (e : Term) → TermLiterals P e → Keeps e
    unfolding write_term use_term
    keeps (Term.input k) h = record {
      written = λ Γ Δ c r A g. assign_literals P (get_or I k number) (Expression.input k (get_or I k number)) A c r tt;
      used = λ Γ Δ c r C g f. f _ r tt;
    }
    keeps (Term.variable d) h = record {
      written = λ Γ Δ c r A g. assign_literals P (get_or Γ d number) (get_or Δ d no_expression) A c r (g d);
      used = λ Γ Δ c r C g f. f _ r (g d);
    }
    keeps (Term.literal v) h = record {
      written = λ Γ Δ c r A g. assign_literals P number (Expression.literal v) A c r h;
      used = λ Γ Δ c r C g f. f (Expression.literal v) r h;
    }
    keeps (Term.negate e) h =
        let k = keeps e h in
        record {
          written = λ Γ Δ c r A g. k.used Γ Δ c r _ g (λ E s i. assign_literals P number (Expression.negate E) A c s i);
          used = λ Γ Δ c r C g f. k.used Γ Δ c r _ g (λ E s i. f (Expression.negate E) s i);
        }
    keeps (Term.operation o e f) h =
        let k = keeps e h.0 in
        let l = keeps f h.1 in
        record {
          written = λ Γ Δ c r A g. k.used Γ Δ c r _ g (λ E s i. l.used Γ Δ c s _ g (λ F q j. assign_literals P number (Expression.operation o E F) A c q (i, j)));
          used = λ Γ Δ c r C g f. k.used Γ Δ c r _ g (λ E s i. l.used Γ Δ c s _ g (λ F q j. f (Expression.operation o E F) q (i, j)));
        }
    keeps (Term.map kind a b) h =
        let k = keeps a h.0 in
        let l = keeps b h.1 in
        record {
          written = λ Γ Δ c r A g. map_literals kind _ _ _ k.used l.written Γ Δ c r A g;
          used = λ Γ Δ c r C g f. written_literals _ _ (map_literals kind _ _ _ k.used l.written) Γ Δ c r C g f;
        }
    keeps (Term.reduce z a b) h =
        let i = keeps z h.0 in
        let k = keeps a h.1 in
        let l = keeps b h.2 in
        record {
          written = λ Γ Δ c r A g. reduce_literals _ _ _ _ _ k.used i.used l.written Γ Δ c r _ g (λ E s j. assign_literals P _ E A c s j);
          used = λ Γ Δ c r C g f. reduce_literals _ _ _ _ _ k.used i.used l.written Γ Δ c r C g f;
        }
    keeps (Term.zip a b) h =
        let k = keeps a h.0 in
        let l = keeps b h.1 in
        record {
          written = λ Γ Δ c r A g. (k.written Γ Δ c r _ g, l.written Γ Δ c r _ g);
          used = λ Γ Δ c r C g f. k.used Γ Δ c r _ g (λ E s i. l.used Γ Δ c s _ g (λ F q j. f (Expression.zip E F) q (i, j)));
        }
    keeps (Term.pair a b) h =
        let k = keeps a h.0 in
        let l = keeps b h.1 in
        record {
          written = λ Γ Δ c r A g. (k.written Γ Δ c r _ g, l.written Γ Δ c r _ g);
          used = λ Γ Δ c r C g f. k.used Γ Δ c r _ g (λ E s i. l.used Γ Δ c s _ g (λ F q j. f (Expression.pair E F) q (i, j)));
        }
    keeps (Term.split series n e) h =
        let k = keeps e h in
        record { written = λ Γ Δ c r A g. k.written Γ Δ c r _ g; used = λ Γ Δ c r C g f. k.used Γ Δ c r _ g (λ E s i. f (Expression.split n E) s i) }
    keeps (Term.join series e) h =
        let k = keeps e h in
        record { written = λ Γ Δ c r A g. k.written Γ Δ c r _ g; used = λ Γ Δ c r C g f. k.used Γ Δ c r _ g (λ E s i. f (Expression.join _ E) s i) }
    keeps (Term.first e) h =
        let k = keeps e h in
        record {
          written = λ Γ Δ c r A g. k.used Γ Δ c r _ g (λ E s i. assign_literals P _ (Expression.first E) A c s i);
          used = λ Γ Δ c r C g f. k.used Γ Δ c r _ g (λ E s i. f (Expression.first E) s i);
        }
    keeps (Term.second e) h =
        let k = keeps e h in
        record {
          written = λ Γ Δ c r A g. k.used Γ Δ c r _ g (λ E s i. assign_literals P _ (Expression.second E) A c s i);
          used = λ Γ Δ c r C g f. k.used Γ Δ c r _ g (λ E s i. f (Expression.second E) s i);
        }
    keeps (Term.index series n e) h =
        let k = keeps e h in
        record {
          written = λ Γ Δ c r A g. k.used Γ Δ c r _ g (λ E s i. assign_literals P _ (Expression.index E (Offset.literal n)) A c s i);
          used = λ Γ Δ c r C g f. k.used Γ Δ c r _ g (λ E s i. f (Expression.index E (Offset.literal n)) s i);
        }

  pub translation_literals : (Q : Plan) → TermLiterals P Q.term → CommandLiterals P (translation Q).command
  unfolding translation
  translation_literals Q h = (keeps Q.inputs Q.term h).written [] [] 0 0 _ empty
