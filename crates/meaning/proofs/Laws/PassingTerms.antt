-- The translator's own loops pass: the induction over terms, a clause for each kind of term.
use Rattle.std.specs.Prelude.{◌≡◌, List, ◌∷◌, length, ℤ}
use Rattle.std.proofs.Common.{sym, ◌∙◌, subst}
use Rattle.std.proofs.Math.Path.{ap}
use Prim.Native.Nat.{ℕ, suc, ◌+◌, ◌*◌, ◌/◌, ◌≤◌, ◌<◌}
use native.Mathlib.Omega.{arith}
use Rattle.std.proofs.Math.ListN.{get_or}
use Rattle.arithmetic.specs.Arithmetic.{Operation}
use Rattle.meaning.specs.Types.{DataType, Series, array_length, element, first_type, second_type, number, array}
use Rattle.meaning.specs.Terms.{LoopKind, Term, series_in}
use Rattle.meaning.specs.Typing.{type_of}
use Rattle.meaning.specs.Loops.{Offset}
use Rattle.meaning.specs.Expressions.{Expression, Acceptor}
use Rattle.meaning.specs.Translation.{use_written, no_expression, write_term, use_term}
use Rattle.meaning.specs.Limits.{IsCount, CommandPasses, CellsWithin, TypeWithin, TermWithin}
use Rattle.meaning.proofs.Laws.Typing.{IsArray, IsPair, IsSeries, MayBeIn, WellTyped}
use Rattle.meaning.proofs.Laws.Levels.{extends_refl}
use Rattle.meaning.proofs.Laws.Bounds.{SameWithin, within_sym, within_groups, within_series, within_elements}
use Rattle.meaning.proofs.Laws.Bounds.{groups_within, length_is_count}
use Rattle.meaning.proofs.Laws.Passing.{reads_literal, reads_negate, reads_operation, reads_index, reads_first}
use Rattle.meaning.proofs.Laws.Passing.{reads_second, reads_pair, reads_zip, reads_split, reads_join}
use Rattle.meaning.proofs.Laws.Passing.{writes_first, writes_second, writes_zip_first, writes_zip_second}
use Rattle.meaning.proofs.Laws.Passing.{writes_split, writes_join}
use Rattle.meaning.proofs.Laws.PassingClaims.{Heading, scope_on, UsePasses, WritePasses, use_one_passes}
use Rattle.meaning.proofs.Laws.PassingClaims.{use_two_passes, assign_used_passes, use_written_passes}
use Rattle.meaning.proofs.Laws.PassingClaims.{use_same_passes, write_same_passes, write_map_passes, use_reduce_passes}

-- how many regions a term's loops may have in force at once
abbrev pub regions_around : Term → ℕ
regions_around (Term.input k) = 0
regions_around (Term.variable d) = 0
regions_around (Term.literal v) = 0
regions_around (Term.negate e) = regions_around e
regions_around (Term.operation o e f) = regions_around e + regions_around f
regions_around (Term.map kind a b) = suc (regions_around a + regions_around b)
regions_around (Term.reduce z a b) = suc (suc (regions_around a + regions_around z + regions_around b))
regions_around (Term.zip a b) = regions_around a + regions_around b
regions_around (Term.pair a b) = regions_around a + regions_around b
regions_around (Term.split series n e) = regions_around e
regions_around (Term.join series e) = regions_around e
regions_around (Term.first e) = regions_around e
regions_around (Term.second e) = regions_around e
regions_around (Term.index series k e) = regions_around e

-- every term within the limits has a type within the limits
pub type_within : (I Γ : List DataType) (e : Term) → TermWithin I Γ e → TypeWithin (type_of I Γ e)
type_within I Γ (Term.input k) h = h
type_within I Γ (Term.variable d) h = h
type_within I Γ (Term.literal v) h = (tt, omega arith)
type_within I Γ (Term.negate e) h = (tt, omega arith)
type_within I Γ (Term.operation o e f) h = (tt, omega arith)
type_within I Γ (Term.map kind a b) h = h.0
type_within I Γ (Term.reduce z a b) h = h.0
type_within I Γ (Term.zip a b) h = h.0
type_within I Γ (Term.pair a b) h = h.0
type_within I Γ (Term.split series n e) h = h.0
type_within I Γ (Term.join series e) h = h.0
type_within I Γ (Term.first e) h = h.0
type_within I Γ (Term.second e) h = h.0
type_within I Γ (Term.index series k e) h = h.0

module _ (H : Heading) where
  abbrev I : List DataType
  I = H.input_types

  pub record Passes (Γ : List DataType) (e : Term) : Type 0 where
    pub used : UsePasses H (use_term I e) Γ (type_of I Γ e) (regions_around e)
    pub written : WritePasses H (write_term I e) Γ (type_of I Γ e) (regions_around e)

  -- the same, of a type equal to the term's
  used_as : {Γ : List DataType} {e : Term} {t : DataType}
      → type_of I Γ e ≡ t → Passes Γ e → UsePasses H (use_term I e) Γ t (regions_around e)
  used_as {Γ} {e} q R = subst (λ t. UsePasses H (use_term I e) Γ t (regions_around e)) q R.used

  written_as : {Γ : List DataType} {e : Term} {t : DataType}
      → type_of I Γ e ≡ t → Passes Γ e → WritePasses H (write_term I e) Γ t (regions_around e)
  written_as {Γ} {e} q R = subst (λ t. WritePasses H (write_term I e) Γ t (regions_around e)) q R.written

  number_within : TypeWithin number
  number_within = (tt, omega arith)

  passes_input : (Γ : List DataType) (k : ℕ) → k < length I → TypeWithin (get_or I k number) → Passes Γ (Term.input k)
  unfolding write_term use_term
  passes_input Γ k h f =
      let t : DataType = get_or I k number in
      let U : UsePasses H (use_term I (Term.input k)) Γ t 0 =
      λ Δ ns rs C G K. K rs (Expression.input k t) (extends_refl rs) (omega arith) (G.inputs k h) in
      record { used = U; written = assign_used_passes (use_term I (Term.input k)) t 0 f U }

  passes_variable : (Γ : List DataType) (d : ℕ) → d < length Γ → TypeWithin (get_or Γ d number)
      → Passes Γ (Term.variable d)
  unfolding write_term use_term
  passes_variable Γ d h f =
      let t : DataType = get_or Γ d number in
      let U : UsePasses H (use_term I (Term.variable d)) Γ t 0 =
      λ Δ ns rs C G K. K rs (get_or Δ d no_expression) (extends_refl rs) (omega arith) (G.variables d h) in
      record { used = U; written = assign_used_passes (use_term I (Term.variable d)) t 0 f U }

  passes_literal : (Γ : List DataType) (v : ℤ) → Passes Γ (Term.literal v)
  unfolding write_term use_term
  passes_literal Γ v =
      let U : UsePasses H (use_term I (Term.literal v)) Γ number 0 =
      λ Δ ns rs C G K. K rs (Expression.literal v) (extends_refl rs) (omega arith) (reads_literal v) in
      record { used = U; written = assign_used_passes (use_term I (Term.literal v)) number 0 number_within U }

  passes_negate : (Γ : List DataType) (e : Term) → type_of I Γ e ≡ number → Passes Γ e → Passes Γ (Term.negate e)
  unfolding write_term use_term
  passes_negate Γ e q R =
      let U : UsePasses H (use_term I (Term.negate e)) Γ number (regions_around e) =
      use_one_passes (use_term I e) number number (regions_around e) Expression.negate (λ ns rs E h. reads_negate h)
      (used_as q R) in
      record {
        used = U;
        written = assign_used_passes (use_term I (Term.negate e)) number (regions_around e) number_within U;
      }

  passes_operation : (Γ : List DataType) (o : Operation) (e f : Term)
      → type_of I Γ e ≡ number → type_of I Γ f ≡ number → Passes Γ e → Passes Γ f → Passes Γ (Term.operation o e f)
  unfolding write_term use_term
  passes_operation Γ o e f q r R T =
      let both : Term = Term.operation o e f in
      let U : UsePasses H (use_term I both) Γ number (regions_around both) =
      use_two_passes (use_term I e) (use_term I f) number number number (regions_around e) (regions_around f)
      (Expression.operation o) (λ ns rs E F h k. reads_operation o h k) (used_as q R) (used_as r T) in
      record { used = U; written = assign_used_passes (use_term I both) number (regions_around both) number_within U }

  passes_map : (Γ : List DataType) (kind : LoopKind) (a b : Term)
      → IsSeries (series_in kind) (type_of I Γ a)
      → MayBeIn (series_in kind) (type_of I (element (type_of I Γ a) ∷ Γ) b)
      → CellsWithin (type_of I Γ a) → CellsWithin (type_of I Γ (Term.map kind a b))
      → suc (length Γ) ≤ 16
      → Passes Γ a → Passes (element (type_of I Γ a) ∷ Γ) b → Passes Γ (Term.map kind a b)
  unfolding write_term use_term use_written
  passes_map Γ kind a b isa fit fa fm few R T =
      let whole : Term = Term.map kind a b in
      let n : ℕ = array_length (type_of I Γ a) in
      let t : DataType = type_of I (element (type_of I Γ a) ∷ Γ) b in
      let L : WritePasses H (write_term I whole) Γ (type_of I Γ whole) (regions_around a + regions_around b) =
      write_same_passes (write_term I whole) (array n t) (type_of I Γ whole) (regions_around a + regions_around b)
      (within_sym (within_series (series_in kind) n t fit))
      (write_map_passes kind (use_term I a) (write_term I b) (type_of I Γ a) t (regions_around a) (regions_around b) isa fa
      few R.used T.written) in
      record {
        used = use_written_passes (write_term I whole) (type_of I Γ whole) (regions_around a + regions_around b) fm L;
        written = λ Δ ns rs P G k. L Δ ns rs P (scope_on G (extends_refl rs) (omega (arith, G.regions_few))) k;
      }

  passes_reduce : (Γ : List DataType) (z a b : Term)
      → IsArray (type_of I Γ a) → CellsWithin (type_of I Γ a) → TypeWithin (type_of I Γ z) → suc (suc (length Γ)) ≤ 16
      → type_of I (type_of I Γ z ∷ element (type_of I Γ a) ∷ Γ) b ≡ type_of I Γ z
      → Passes Γ z → Passes Γ a → Passes (type_of I Γ z ∷ element (type_of I Γ a) ∷ Γ) b
      → Passes Γ (Term.reduce z a b)
  unfolding write_term use_term
  passes_reduce Γ z a b isa fa fz few q RZ Ra RB =
      let whole : Term = Term.reduce z a b in
      let U : UsePasses H (use_term I whole) Γ (type_of I Γ z) (regions_around whole) =
      use_reduce_passes (use_term I a) (use_term I z) (write_term I b) (type_of I Γ a) (type_of I Γ z) (regions_around a)
      (regions_around z) (regions_around b) isa fa fz few Ra.used RZ.used (written_as q RB) in
      record { used = U; written = assign_used_passes (use_term I whole) (type_of I Γ z) (regions_around whole) fz U }

  passes_zip : (Γ : List DataType) (a b : Term)
      → IsArray (type_of I Γ a) → IsArray (type_of I Γ b) → array_length (type_of I Γ a) ≡ array_length (type_of I Γ b)
      → Passes Γ a → Passes Γ b → Passes Γ (Term.zip a b)
  unfolding write_term use_term CommandPasses
  passes_zip Γ a b isa isb q R T =
      let n : ℕ = array_length (type_of I Γ a) in
      let s : DataType = element (type_of I Γ a) in
      let t : DataType = element (type_of I Γ b) in
      let isb' : type_of I Γ b ≡ array n t = isb ∙ ap (λ (l : ℕ). array l t) (sym q) in
      record {
        used =
            use_two_passes (use_term I a) (use_term I b) (array n s) (array n t) (type_of I Γ (Term.zip a b))
            (regions_around a) (regions_around b) Expression.zip (λ ns rs E F h k. reads_zip h k) (used_as isa R)
            (used_as isb' T);
        written = λ Δ ns rs P G k. (
          written_as isa R Δ ns rs (Acceptor.zip_first P)
              (scope_on G (extends_refl rs) (omega (arith, G.regions_few))) (writes_zip_first k),
          written_as isb' T Δ ns rs (Acceptor.zip_second P)
              (scope_on G (extends_refl rs) (omega (arith, G.regions_few))) (writes_zip_second k),
        );
      }

  passes_pair : (Γ : List DataType) (a b : Term) → Passes Γ a → Passes Γ b → Passes Γ (Term.pair a b)
  unfolding write_term use_term CommandPasses
  passes_pair Γ a b R T = record {
    used =
        use_two_passes (use_term I a) (use_term I b) (type_of I Γ a) (type_of I Γ b) (type_of I Γ (Term.pair a b))
        (regions_around a) (regions_around b) Expression.pair (λ ns rs E F h k. reads_pair h k) R.used T.used;
    written = λ Δ ns rs P G k. (
      R.written Δ ns rs (Acceptor.first P) (scope_on G (extends_refl rs) (omega (arith, G.regions_few)))
          (writes_first k),
      T.written Δ ns rs (Acceptor.second P) (scope_on G (extends_refl rs) (omega (arith, G.regions_few)))
          (writes_second k),
    );
  }

  passes_split : (Γ : List DataType) (series : Series) (n : ℕ) (e : Term)
      → IsArray (type_of I Γ e) → array_length (type_of I Γ e) / n * n ≡ array_length (type_of I Γ e)
      → MayBeIn series (element (type_of I Γ e))
      → CellsWithin (type_of I Γ (Term.split series n e)) → Passes Γ e → Passes Γ (Term.split series n e)
  unfolding write_term use_term
  passes_split Γ series n e ise q fit f R =
      let whole : Term = Term.split series n e in
      let m : ℕ = array_length (type_of I Γ e) / n in
      let t : DataType = element (type_of I Γ e) in
      let ise' : type_of I Γ e ≡ array (m * n) t = ise ∙ ap (λ (l : ℕ). array l t) (sym q) in
      let g : IsCount n × (m * n ≤ 4096) = groups_within series m n t f in
      let same : SameWithin (array m (array n t)) (type_of I Γ whole) =
      within_groups m (within_sym (within_series series n t fit)) in
      record {
        used =
            use_same_passes (use_term I whole) (array m (array n t)) (type_of I Γ whole) (regions_around e) same
            (use_one_passes (use_term I e) (array (m * n) t) (array m (array n t)) (regions_around e)
            (Expression.split n) (λ ns rs E h. reads_split m n g.0 g.1 h) (used_as ise' R));
        written =
            write_same_passes (write_term I whole) (array m (array n t)) (type_of I Γ whole) (regions_around e) same
            (λ Δ ns rs P G k.
            written_as ise' R Δ ns rs (Acceptor.split n P) G (writes_split m n g.0 g.1 k));
      }

  passes_join : (Γ : List DataType) (series : Series) (e : Term)
      → IsArray (type_of I Γ e) → IsSeries series (element (type_of I Γ e)) → CellsWithin (type_of I Γ e)
      → Passes Γ e → Passes Γ (Term.join series e)
  unfolding write_term use_term
  passes_join Γ series e ise isi f R =
      let m : ℕ = array_length (type_of I Γ e) in
      let n : ℕ = array_length (element (type_of I Γ e)) in
      let t : DataType = element (element (type_of I Γ e)) in
      let inner : DataType = array m (element (type_of I Γ e)) in
      let g : IsCount n × (m * n ≤ 4096) =
      groups_within series m n t
      (subst (λ (x : DataType). CellsWithin x) (ise ∙ ap (λ (l : DataType). array m l) isi) f) in
      let same : SameWithin inner (array m (array n t)) =
      within_groups m (within_elements series (element (type_of I Γ e)) isi) in
      record {
        used =
            use_one_passes (use_term I e) (array m (array n t)) (type_of I Γ (Term.join series e)) (regions_around e)
            (Expression.join n) (λ ns rs E h. reads_join m n g.0 g.1 h)
            (use_same_passes (use_term I e) inner (array m (array n t)) (regions_around e) same (used_as ise R));
        written = λ Δ ns rs P G k.
            write_same_passes (write_term I e) inner (array m (array n t)) (regions_around e) same (written_as ise R) Δ ns
            rs
            (Acceptor.join n P) G (writes_join m n g.0 g.1 k);
      }

  passes_first : (Γ : List DataType) (e : Term)
      → IsPair (type_of I Γ e) → TypeWithin (type_of I Γ (Term.first e)) → Passes Γ e → Passes Γ (Term.first e)
  unfolding write_term use_term
  passes_first Γ e ise f R =
      let t : DataType = first_type (type_of I Γ e) in
      let U : UsePasses H (use_term I (Term.first e)) Γ t (regions_around e) =
      use_one_passes (use_term I e) (DataType.pair t (second_type (type_of I Γ e))) t (regions_around e) Expression.first
      (λ ns rs E h. reads_first h) (used_as ise R) in
      record { used = U; written = assign_used_passes (use_term I (Term.first e)) t (regions_around e) f U }

  passes_second : (Γ : List DataType) (e : Term)
      → IsPair (type_of I Γ e) → TypeWithin (type_of I Γ (Term.second e)) → Passes Γ e → Passes Γ (Term.second e)
  unfolding write_term use_term
  passes_second Γ e ise f R =
      let t : DataType = second_type (type_of I Γ e) in
      let U : UsePasses H (use_term I (Term.second e)) Γ t (regions_around e) =
      use_one_passes (use_term I e) (DataType.pair (first_type (type_of I Γ e)) t) t (regions_around e) Expression.second
      (λ ns rs E h. reads_second h) (used_as ise R) in
      record { used = U; written = assign_used_passes (use_term I (Term.second e)) t (regions_around e) f U }

  passes_index : (Γ : List DataType) (series : Series) (k : ℕ) (e : Term)
      → IsSeries series (type_of I Γ e) → k < array_length (type_of I Γ e) → CellsWithin (type_of I Γ e)
      → TypeWithin (type_of I Γ (Term.index series k e)) → Passes Γ e → Passes Γ (Term.index series k e)
  unfolding write_term use_term
  passes_index Γ series k e ise l fa f R =
      let n : ℕ = array_length (type_of I Γ e) in
      let t : DataType = element (type_of I Γ e) in
      let few = (length_is_count series (type_of I Γ e) ise fa).1 in
      let U : UsePasses H (use_term I (Term.index series k e)) Γ t (regions_around e) =
      use_one_passes (use_term I e) (array n t) t (regions_around e) (λ E. Expression.index E (Offset.literal k))
      (λ ns rs E h. reads_index (Offset.literal k) h (λ ns' x. (omega arith, l)))
      (use_same_passes (use_term I e) (type_of I Γ e) (array n t) (regions_around e)
      (within_elements series (type_of I Γ e) ise) R.used) in
      record { used = U; written = assign_used_passes (use_term I (Term.index series k e)) t (regions_around e) f U }

  pub passes : (Γ : List DataType) (e : Term) → WellTyped I Γ e → TermWithin I Γ e → Passes Γ e
  passes Γ (Term.input k) h l = passes_input Γ k h l
  passes Γ (Term.variable d) h l = passes_variable Γ d h l
  passes Γ (Term.literal v) h l = passes_literal Γ v
  passes Γ (Term.negate e) h l = passes_negate Γ e h.1 (passes Γ e h.0 l)
  passes Γ (Term.operation o e f) h l =
      passes_operation Γ o e f h.2 h.3 (passes Γ e h.0 l.0) (passes Γ f h.1 l.1)
  passes Γ (Term.map kind a b) h l =
      passes_map Γ kind a b h.1 h.3 (type_within I Γ a l.1).0 l.0.0 l.3 (passes Γ a h.0 l.1)
      (passes (element (type_of I Γ a) ∷ Γ) b h.2 l.2)
  passes Γ (Term.reduce z a b) h l =
      passes_reduce Γ z a b h.2 (type_within I Γ a l.2).0 l.0 l.4 h.4 (passes Γ z h.0 l.1)
      (passes Γ a h.1 l.2) (passes (type_of I Γ z ∷ element (type_of I Γ a) ∷ Γ) b h.3 l.3)
  passes Γ (Term.zip a b) h l =
      passes_zip Γ a b h.2 h.3 h.4 (passes Γ a h.0 l.1) (passes Γ b h.1 l.2)
  passes Γ (Term.pair a b) h l = passes_pair Γ a b (passes Γ a h.0 l.1) (passes Γ b h.1 l.2)
  passes Γ (Term.split series n e) h l = passes_split Γ series n e h.1 h.2 h.4 l.0.0 (passes Γ e h.0 l.1)
  passes Γ (Term.join series e) h l =
      passes_join Γ series e h.1 h.2 (type_within I Γ e l.1).0 (passes Γ e h.0 l.1)
  passes Γ (Term.first e) h l = passes_first Γ e h.1 l.0 (passes Γ e h.0 l.1)
  passes Γ (Term.second e) h l = passes_second Γ e h.1 l.0 (passes Γ e h.0 l.1)
  passes Γ (Term.index series k e) h l =
      passes_index Γ series k e h.1 h.2 (type_within I Γ e l.1).0 l.0 (passes Γ e h.0 l.1)
