-- Every well-typed term is used and written rightly: the long induction, a clause for each kind of term.
use Rattle.std.specs.Prelude.{◌≡◌, refl, length, ℤ}
use Rattle.std.proofs.Common.{sym, ◌∙◌, zero-add}
use Rattle.std.proofs.Math.Path.{ap, subst}
use mathlib.Core.List.{List, ◌∷◌}
use Prim.Native.Nat.{ℕ, ◌*◌, ◌/◌, ◌<◌}
use Rattle.std.proofs.Math.ListN.{get_or}
use Rattle.arithmetic.specs.Arithmetic.{Operation}
use Rattle.meaning.specs.Types.{DataType, Series, cells, array_length, element, first_type, second_type, number}
use Rattle.meaning.specs.Types.{array}
use Rattle.meaning.specs.Terms.{LoopKind, Term, series_in}
use Rattle.meaning.specs.Typing.{type_of}
use Rattle.meaning.specs.Loops.{Offset}
use Rattle.meaning.specs.Paths.{tail, by_part, index, first, second}
use Rattle.meaning.specs.Expressions.{Expression}
use Rattle.meaning.specs.Translation.{use_written, no_expression, write_term, use_term}
use Rattle.meaning.specs.Counts.{writes_into, writes_on_use}
use Rattle.meaning.proofs.Laws.Typing.{IsArray, IsPair, IsSeries, MayBeIn, WellTyped}
use Rattle.meaning.proofs.Laws.Paths.{SamePaths, same_sym, same_array, same_series, same_elements, flat_path}
use Rattle.meaning.proofs.Laws.Paths.{group_path, unzipped_path}
use Rattle.meaning.proofs.Laws.PathValues.{value_at}
use Rattle.meaning.proofs.Laws.Holds.{Setting, Contents, holds_literal, holds_negate, holds_operation}
use Rattle.meaning.proofs.Laws.Holds.{holds_index, holds_first, holds_second, holds_pair, holds_zip, holds_split}
use Rattle.meaning.proofs.Laws.Holds.{holds_join}
use Rattle.meaning.proofs.Laws.Claims.{UsesRightly, WritesRightly, after_nothing, use_one, use_two, uses_same}
use Rattle.meaning.proofs.Laws.Claims.{writes_same, assign_used}
use Rattle.meaning.proofs.Laws.Maps.{use_written_holds, write_map_rightly}
use Rattle.meaning.proofs.Laws.Parts.{write_pair, write_zip, write_split, write_join}
use Rattle.meaning.proofs.Laws.Reductions.{use-reduce}

module _ (W : Setting) where
  -- the inputs' types, and the value by paths of a term
  abbrev I : List DataType
  I = W.input_types

  abbrev at : List DataType → Term → List (Contents W) → Contents W
  at Γ e env = value_at W.domain I W.input_values Γ e env

  pub record Right (Γ : List DataType) (e : Term) : Type 1 where
    pub used : UsesRightly W (use_term I e) Γ (type_of I Γ e) (writes_on_use I Γ e) (at Γ e)
    pub written : WritesRightly W (write_term I e) Γ (type_of I Γ e) (writes_into I Γ e) (at Γ e)

  -- the same, of a type equal to the term's
  used_as : {Γ : List DataType} {e : Term} {t : DataType}
      → type_of I Γ e ≡ t → Right Γ e → UsesRightly W (use_term I e) Γ t (writes_on_use I Γ e) (at Γ e)
  used_as {Γ} {e} q R = subst (λ t. UsesRightly W (use_term I e) Γ t (writes_on_use I Γ e) (at Γ e)) q R.used

  written_as : {Γ : List DataType} {e : Term} {t : DataType}
      → type_of I Γ e ≡ t → Right Γ e → WritesRightly W (write_term I e) Γ t (writes_into I Γ e) (at Γ e)
  written_as {Γ} {e} q R = subst (λ t. WritesRightly W (write_term I e) Γ t (writes_into I Γ e) (at Γ e)) q R.written

  right_input : (Γ : List DataType) (k : ℕ) → k < length I → Right Γ (Term.input k)
  unfolding write_term use_term value_at
  right_input Γ k h =
      let t : DataType = get_or I k number in
      let U : UsesRightly W (use_term I (Term.input k)) Γ t 0 (at Γ (Term.input k)) =
      λ Δ env cs rs S a st C G Q K ch.
      K rs S a st (Expression.input k t) (after_nothing (G.inputs k h) G.free) ch in
      record {
        used = U;
        written =
            subst (λ m. WritesRightly W (write_term I (Term.input k)) Γ t m (at Γ (Term.input k))) (zero-add (cells t))
            (assign_used (use_term I (Term.input k)) t 0 (at Γ (Term.input k)) U);
      }

  right_variable : (Γ : List DataType) (d : ℕ) → d < length Γ → Right Γ (Term.variable d)
  unfolding write_term use_term value_at
  right_variable Γ d h =
      let t : DataType = get_or Γ d number in
      let U : UsesRightly W (use_term I (Term.variable d)) Γ t 0 (at Γ (Term.variable d)) =
      λ Δ env cs rs S a st C G Q K ch.
      K rs S a st (get_or Δ d no_expression) (after_nothing (G.variables d h) G.free) ch in
      record {
        used = U;
        written =
            subst (λ m. WritesRightly W (write_term I (Term.variable d)) Γ t m (at Γ (Term.variable d)))
            (zero-add (cells t))
            (assign_used (use_term I (Term.variable d)) t 0 (at Γ (Term.variable d)) U);
      }

  right_literal : (Γ : List DataType) (v : ℤ) → Right Γ (Term.literal v)
  unfolding write_term use_term value_at
  right_literal Γ v =
      let U : UsesRightly W (use_term I (Term.literal v)) Γ number 0 (at Γ (Term.literal v)) =
      λ Δ env cs rs S a st C G Q K ch.
      K rs S a st (Expression.literal v) (after_nothing (holds_literal v) G.free) ch in
      record { used = U; written = assign_used (use_term I (Term.literal v)) number 0 (at Γ (Term.literal v)) U }

  right_negate : (Γ : List DataType) (e : Term) → type_of I Γ e ≡ number → Right Γ e → Right Γ (Term.negate e)
  unfolding write_term use_term value_at
  right_negate Γ e q R =
      let U : UsesRightly W (use_term I (Term.negate e)) Γ number (writes_on_use I Γ e) (at Γ (Term.negate e)) =
      use_one (use_term I e) number number (writes_on_use I Γ e) (at Γ e) Expression.negate
      (λ f p. W.domain.negate (f p)) (λ cs rs s S E f h. holds_negate h) (used_as q R) in
      record {
        used = U;
        written = assign_used (use_term I (Term.negate e)) number (writes_on_use I Γ e) (at Γ (Term.negate e)) U;
      }

  right_operation : (Γ : List DataType) (o : Operation) (e f : Term)
      → type_of I Γ e ≡ number → type_of I Γ f ≡ number → Right Γ e → Right Γ f → Right Γ (Term.operation o e f)
  unfolding write_term use_term value_at
  right_operation Γ o e f q r R T =
      let both : Term = Term.operation o e f in
      let U : UsesRightly W (use_term I both) Γ number (writes_on_use I Γ both) (at Γ both) =
      use_two (use_term I e) (use_term I f) number number number (writes_on_use I Γ e) (writes_on_use I Γ f) (at Γ e) (at Γ f)
      (Expression.operation o) (λ x y p. W.domain.operate o (x p) (y p))
      (λ cs rs s S E F x y h k. holds_operation o h k) (used_as q R) (used_as r T) in
      record { used = U; written = assign_used (use_term I both) number (writes_on_use I Γ both) (at Γ both) U }

  right_map : (Γ : List DataType) (kind : LoopKind) (a b : Term)
      → IsSeries (series_in kind) (type_of I Γ a)
      → MayBeIn (series_in kind) (type_of I (element (type_of I Γ a) ∷ Γ) b)
      → Right Γ a → Right (element (type_of I Γ a) ∷ Γ) b → Right Γ (Term.map kind a b)
  unfolding write_term use_term value_at use_written
  right_map Γ kind a b isa fit R T =
      let whole : Term = Term.map kind a b in
      let n : ℕ = array_length (type_of I Γ a) in
      let Γ' : List DataType = element (type_of I Γ a) ∷ Γ in
      let H : WritesRightly W (write_term I whole) Γ (type_of I Γ whole) (writes_into I Γ whole) (at Γ whole) =
      writes_same (write_term I whole) (array n (type_of I Γ' b)) (type_of I Γ whole) (writes_into I Γ whole) (at Γ whole)
      (same_sym (same_series (series_in kind) n (type_of I Γ' b) fit))
      (write_map_rightly kind (use_term I a) (write_term I b) (type_of I Γ a) (type_of I Γ' b) (writes_on_use I Γ a)
      (writes_into I Γ' b) (at Γ a) (at Γ' b) (same_elements (series_in kind) (type_of I Γ a) isa) R.used
      T.written) in
      record {
        used = use_written_holds (write_term I whole) (type_of I Γ whole) (writes_into I Γ whole) (at Γ whole) H;
        written = H;
      }

  right_reduce : (Γ : List DataType) (z a b : Term)
      → IsArray (type_of I Γ a)
      → type_of I (type_of I Γ z ∷ element (type_of I Γ a) ∷ Γ) b ≡ type_of I Γ z
      → Right Γ z → Right Γ a → Right (type_of I Γ z ∷ element (type_of I Γ a) ∷ Γ) b
      → Right Γ (Term.reduce z a b)
  unfolding write_term use_term value_at
  right_reduce Γ z a b isa q RZ Ra RB =
      let whole : Term = Term.reduce z a b in
      let Γ' : List DataType = type_of I Γ z ∷ element (type_of I Γ a) ∷ Γ in
      let U : UsesRightly W (use_term I whole) Γ (type_of I Γ z) (writes_on_use I Γ whole) (at Γ whole) =
      use-reduce (use_term I a) (use_term I z) (write_term I b) (type_of I Γ a) (type_of I Γ z) (writes_on_use I Γ a)
      (writes_on_use I Γ z) (writes_into I Γ' b) (at Γ a) (at Γ z) (at Γ' b) isa Ra.used RZ.used (written_as q RB) in
      record { used = U; written = assign_used (use_term I whole) (type_of I Γ z) (writes_on_use I Γ whole) (at Γ whole) U }

  right_zip : (Γ : List DataType) (a b : Term)
      → IsArray (type_of I Γ a) → IsArray (type_of I Γ b) → array_length (type_of I Γ a) ≡ array_length (type_of I Γ b)
      → Right Γ a → Right Γ b → Right Γ (Term.zip a b)
  unfolding write_term use_term value_at
  right_zip Γ a b isa isb q R T =
      let n : ℕ = array_length (type_of I Γ a) in
      let s : DataType = element (type_of I Γ a) in
      let t : DataType = element (type_of I Γ b) in
      let isb' : type_of I Γ b ≡ array n t = isb ∙ ap (λ (l : ℕ). array l t) (sym q) in
      record {
        used =
            use_two (use_term I a) (use_term I b) (array n s) (array n t) (type_of I Γ (Term.zip a b)) (writes_on_use I Γ a)
            (writes_on_use I Γ b) (at Γ a) (at Γ b) Expression.zip
            (λ f g p. by_part (tail p) (f (unzipped_path p)) (g (unzipped_path p)))
            (λ cs rs s S E F f g h k. holds_zip h k) (used_as isa R) (used_as isb' T);
        written =
            write_zip (write_term I a) (write_term I b) n s t (writes_into I Γ a) (writes_into I Γ b) (at Γ a) (at Γ b)
            (written_as isa R) (written_as isb' T);
      }

  right_pair : (Γ : List DataType) (a b : Term) → Right Γ a → Right Γ b → Right Γ (Term.pair a b)
  unfolding write_term use_term value_at
  right_pair Γ a b R T = record {
    used =
        use_two (use_term I a) (use_term I b) (type_of I Γ a) (type_of I Γ b) (type_of I Γ (Term.pair a b))
        (writes_on_use I Γ a)
        (writes_on_use I Γ b) (at Γ a) (at Γ b) Expression.pair (λ f g p. by_part p (f (tail p)) (g (tail p)))
        (λ cs rs s S E F f g h k. holds_pair h k) R.used T.used;
    written =
        write_pair (write_term I a) (write_term I b) (type_of I Γ a) (type_of I Γ b) (writes_into I Γ a) (writes_into I Γ b)
        (at Γ a) (at Γ b) R.written T.written;
  }

  right_split : (Γ : List DataType) (series : Series) (n : ℕ) (e : Term)
      → IsArray (type_of I Γ e) → array_length (type_of I Γ e) / n * n ≡ array_length (type_of I Γ e)
      → MayBeIn series (element (type_of I Γ e))
      → Right Γ e → Right Γ (Term.split series n e)
  unfolding write_term use_term value_at
  right_split Γ series n e ise q fit R =
      let whole : Term = Term.split series n e in
      let m : ℕ = array_length (type_of I Γ e) / n in
      let t : DataType = element (type_of I Γ e) in
      let ise' : type_of I Γ e ≡ array (m * n) t = ise ∙ ap (λ (l : ℕ). array l t) (sym q) in
      let same : SamePaths (array m (array n t)) (type_of I Γ whole) =
      same_array m (same_sym (same_series series n t fit)) in
      record {
        used =
            uses_same (use_term I whole) (array m (array n t)) (type_of I Γ whole) (writes_on_use I Γ e) (at Γ whole) same
            (use_one (use_term I e) (array (m * n) t) (array m (array n t)) (writes_on_use I Γ e) (at Γ e)
            (Expression.split n) (λ f p. f (flat_path n p)) (λ cs rs s S E f h. holds_split m n h) (used_as ise' R));
        written =
            writes_same (write_term I whole) (array m (array n t)) (type_of I Γ whole) (writes_into I Γ e) (at Γ whole) same
            (write_split (write_term I e) m n t (writes_into I Γ e) (at Γ e) (written_as ise' R));
      }

  right_join : (Γ : List DataType) (series : Series) (e : Term)
      → IsArray (type_of I Γ e) → IsSeries series (element (type_of I Γ e)) → Right Γ e → Right Γ (Term.join series e)
  unfolding write_term use_term value_at
  right_join Γ series e ise isi R =
      let m : ℕ = array_length (type_of I Γ e) in
      let n : ℕ = array_length (element (type_of I Γ e)) in
      let t : DataType = element (element (type_of I Γ e)) in
      let inner : DataType = array m (element (type_of I Γ e)) in
      let same : SamePaths inner (array m (array n t)) =
      same_array m (same_elements series (element (type_of I Γ e)) isi) in
      record {
        used =
            use_one (use_term I e) (array m (array n t)) (type_of I Γ (Term.join series e)) (writes_on_use I Γ e) (at Γ e)
            (Expression.join n) (λ f p. f (group_path n p)) (λ cs rs s S E f h. holds_join m n h)
            (uses_same (use_term I e) inner (array m (array n t)) (writes_on_use I Γ e) (at Γ e) same (used_as ise R));
        written =
            write_join (write_term I e) m n t (writes_into I Γ e) (at Γ e)
            (writes_same (write_term I e) inner (array m (array n t)) (writes_into I Γ e) (at Γ e) same
            (written_as ise R));
      }

  right_first : (Γ : List DataType) (e : Term) → IsPair (type_of I Γ e) → Right Γ e → Right Γ (Term.first e)
  unfolding write_term use_term value_at
  right_first Γ e ise R =
      let t : DataType = first_type (type_of I Γ e) in
      let U : UsesRightly W (use_term I (Term.first e)) Γ t (writes_on_use I Γ e) (at Γ (Term.first e)) =
      use_one (use_term I e) (DataType.pair t (second_type (type_of I Γ e))) t (writes_on_use I Γ e)
      (at Γ e) Expression.first
      (λ f p. f (first ∷ p)) (λ cs rs s S E f h. holds_first h) (used_as ise R) in
      record {
        used = U;
        written = assign_used (use_term I (Term.first e)) t (writes_on_use I Γ e)
            (at Γ (Term.first e)) U;
      }

  right_second : (Γ : List DataType) (e : Term) → IsPair (type_of I Γ e) → Right Γ e → Right Γ (Term.second e)
  unfolding write_term use_term value_at
  right_second Γ e ise R =
      let t : DataType = second_type (type_of I Γ e) in
      let U : UsesRightly W (use_term I (Term.second e)) Γ t (writes_on_use I Γ e) (at Γ (Term.second e)) =
      use_one (use_term I e) (DataType.pair (first_type (type_of I Γ e)) t) t (writes_on_use I Γ e)
      (at Γ e) Expression.second
      (λ f p. f (second ∷ p)) (λ cs rs s S E f h. holds_second h) (used_as ise R) in
      record {
        used = U;
        written = assign_used (use_term I (Term.second e)) t (writes_on_use I Γ e)
            (at Γ (Term.second e)) U;
      }

  right_index : (Γ : List DataType) (series : Series) (k : ℕ) (e : Term)
      → IsSeries series (type_of I Γ e) → k < array_length (type_of I Γ e) → Right Γ e → Right Γ (Term.index series k e)
  unfolding write_term use_term value_at
  right_index Γ series k e ise l R =
      let n : ℕ = array_length (type_of I Γ e) in
      let t : DataType = element (type_of I Γ e) in
      let U : UsesRightly W (use_term I (Term.index series k e)) Γ t (writes_on_use I Γ e) (at Γ (Term.index series k e)) =
      use_one (use_term I e) (array n t) t (writes_on_use I Γ e) (at Γ e) (λ E. Expression.index E (Offset.literal k))
      (λ f p. f (index k ∷ p)) (λ cs rs s S E f h. holds_index (Offset.literal k) k h (λ cs' ec. refl) l)
      (uses_same (use_term I e) (type_of I Γ e) (array n t) (writes_on_use I Γ e) (at Γ e)
      (same_elements series (type_of I Γ e) ise) R.used) in
      record {
        used = U;
        written = assign_used (use_term I (Term.index series k e)) t (writes_on_use I Γ e)
            (at Γ (Term.index series k e)) U;
      }

  pub right : (Γ : List DataType) (e : Term) → WellTyped I Γ e → Right Γ e
  right Γ (Term.input k) h = right_input Γ k h
  right Γ (Term.variable d) h = right_variable Γ d h
  right Γ (Term.literal v) h = right_literal Γ v
  right Γ (Term.negate e) h = right_negate Γ e h.1 (right Γ e h.0)
  right Γ (Term.operation o e f) h = right_operation Γ o e f h.2 h.3 (right Γ e h.0) (right Γ f h.1)
  right Γ (Term.map kind a b) h =
      right_map Γ kind a b h.1 h.3 (right Γ a h.0) (right (element (type_of I Γ a) ∷ Γ) b h.2)
  right Γ (Term.reduce z a b) h =
      right_reduce Γ z a b h.2 h.4 (right Γ z h.0) (right Γ a h.1)
      (right (type_of I Γ z ∷ element (type_of I Γ a) ∷ Γ) b h.3)
  right Γ (Term.zip a b) h = right_zip Γ a b h.2 h.3 h.4 (right Γ a h.0) (right Γ b h.1)
  right Γ (Term.pair a b) h = right_pair Γ a b (right Γ a h.0) (right Γ b h.1)
  right Γ (Term.split series n e) h = right_split Γ series n e h.1 h.2 h.4 (right Γ e h.0)
  right Γ (Term.join series e) h = right_join Γ series e h.1 h.2 (right Γ e h.0)
  right Γ (Term.first e) h = right_first Γ e h.1 (right Γ e h.0)
  right Γ (Term.second e) h = right_second Γ e h.1 (right Γ e h.0)
  right Γ (Term.index series k e) h = right_index Γ series k e h.1 h.2 (right Γ e h.0)
