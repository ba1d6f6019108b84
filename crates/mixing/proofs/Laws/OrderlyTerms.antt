-- Translated loops have no races: the induction over terms, a clause for each kind of term, and whole plans.
use Rattle.std.specs.Prelude.{◌≡◌, refl, get_or}
use Rattle.std.proofs.Common.{sym, ◌∙◌, subst, not-suc-le-zero, arith}
use Rattle.std.proofs.Math.Path.{ap}
use mathlib.Core.List.{List, [], ◌∷◌, map}
use Prim.Native.Nat.{ℕ, ◌+◌, ◌*◌, ◌/◌, ◌<◌}
use Rattle.std.proofs.Math.Nat.{le_refl}
use Rattle.std.proofs.Math.ListN.{length-map}
use Rattle.meaning.specs.Types.{DataType, cells, array_length, element, first_type, second_type, number, array}
use Rattle.meaning.specs.Terms.{Term, Plan, series_in}
use Rattle.meaning.specs.Typing.{type_of}
use Rattle.meaning.specs.Numbers.{clamped32}
use Rattle.meaning.specs.Values.{no_number}
use Rattle.meaning.specs.Loops.{Offset}
use Rattle.meaning.specs.Layout.{room, all_cells, bases_from, regions_from, need}
use Rattle.meaning.specs.Runs.{start_of}
use Rattle.meaning.specs.Expressions.{Expression, Acceptor}
use Rattle.meaning.specs.Translation.{assign, use_written, no_expression, write_term, use_term, plan_type, translation}
use Rattle.meaning.proofs.Laws.Typing.{WellTyped}
use Rattle.meaning.proofs.Laws.Layout.{Outside, base_fits, entry_cells}
use Rattle.meaning.proofs.Laws.Paths.{SamePaths, same_sym, same_array, same_series, same_elements, cell_of}
use Rattle.meaning.proofs.Laws.Paths.{cell_of_below}
use Rattle.meaning.proofs.Laws.Holds.{Setting}
use Rattle.meaning.proofs.Laws.Into.{into_output}
use Rattle.mixing.specs.Races.{WithoutRaces}
use Rattle.mixing.proofs.Laws.ReadsOnly.{reads_literal, reads_negate, reads_operation, reads_index}
use Rattle.mixing.proofs.Laws.ReadsOnly.{reads_first, reads_second, reads_pair, reads_zip, reads_split}
use Rattle.mixing.proofs.Laws.ReadsOnly.{reads_join, reads_input}
use Rattle.mixing.proofs.Laws.OrderlyClaims.{UsesOrderly, WritesOrderly, handed_nothing, use_one_orderly}
use Rattle.mixing.proofs.Laws.OrderlyClaims.{use_two_orderly, uses_same_orderly, writes_same_orderly, assign_used_orderly}
use Rattle.mixing.proofs.Laws.OrderlyClaims.{use_written_orderly}
use Rattle.mixing.proofs.Laws.OrderlyParts.{write_pair_orderly, write_zip_orderly, write_split_orderly}
use Rattle.mixing.proofs.Laws.OrderlyParts.{write_join_orderly}
use Rattle.mixing.proofs.Laws.OrderlyMaps.{write_map_orderly}
use Rattle.mixing.proofs.Laws.OrderlyReductions.{use_reduce_orderly}

module _ (W : Setting) (L : ℕ) where
  abbrev I : List DataType
  I = W.input_types

  record OrderlyTerm (Γ : List DataType) (e : Term) : Type 1 where
    pub used : UsesOrderly W L (use_term I e) Γ (type_of I Γ e)
    pub written : WritesOrderly W L (write_term I e) Γ (type_of I Γ e)

  -- the same, of a type equal to the term's
  used_as : {Γ : List DataType} {e : Term} {t : DataType}
      → type_of I Γ e ≡ t → OrderlyTerm Γ e → UsesOrderly W L (use_term I e) Γ t
  used_as {Γ} {e} q R = subst (λ t. UsesOrderly W L (use_term I e) Γ t) q R.used

  written_as : {Γ : List DataType} {e : Term} {t : DataType}
      → type_of I Γ e ≡ t → OrderlyTerm Γ e → WritesOrderly W L (write_term I e) Γ t
  written_as {Γ} {e} q R = subst (λ t. WritesOrderly W L (write_term I e) Γ t) q R.written

  -- terms that are written by a use and an assignment
  assigned : (Γ : List DataType) (e : Term)
      → UsesOrderly W L (use_term I e) Γ (type_of I Γ e)
      → (WritesOrderly W L (λ G D c r P. use_term I e G D c r (λ E r'. assign (type_of I Γ e) E P c r')) Γ (type_of I Γ e)
      → WritesOrderly W L (write_term I e) Γ (type_of I Γ e))
      → OrderlyTerm Γ e
  assigned Γ e U same = record { used = U; written = same (assign_used_orderly (use_term I e) (type_of I Γ e) U) }

  orderly : (Γ : List DataType) (e : Term) → WellTyped I Γ e → OrderlyTerm Γ e
  unfolding write_term use_term use_written
  orderly Γ (Term.input k) h =
      assigned Γ (Term.input k)
      (λ Δ cs rs S a C Z R G A K. K rs S a (Expression.input k (get_or I k number)) (handed_nothing (G.inputs k h) G.free))
      (λ w. w)
  orderly Γ (Term.variable d) h =
      assigned Γ (Term.variable d)
      (λ Δ cs rs S a C Z R G A K. K rs S a (get_or Δ d no_expression) (handed_nothing (G.variables d h) G.free))
      (λ w. w)
  orderly Γ (Term.literal v) h =
      assigned Γ (Term.literal v)
      (λ Δ cs rs S a C Z R G A K. K rs S a (Expression.literal v) (handed_nothing (reads_literal v) G.free))
      (λ w. w)
  orderly Γ (Term.negate e) h =
      assigned Γ (Term.negate e)
      (use_one_orderly (use_term I e) number number Expression.negate (λ cs rs S E q. reads_negate q)
      (used_as h.1 (orderly Γ e h.0)))
      (λ w. w)
  orderly Γ (Term.operation o e f) h =
      assigned Γ (Term.operation o e f)
      (use_two_orderly (use_term I e) (use_term I f) number number number (Expression.operation o)
      (λ cs rs S E F q r. reads_operation o q r) (used_as h.2 (orderly Γ e h.0)) (used_as h.3 (orderly Γ f h.1)))
      (λ w. w)
  orderly Γ (Term.map kind a b) h =
      let whole : Term = Term.map kind a b in
      let n : ℕ = array_length (type_of I Γ a) in
      let Γ' : List DataType = element (type_of I Γ a) ∷ Γ in
      let M : WritesOrderly W L (write_term I whole) Γ (type_of I Γ whole) =
      writes_same_orderly (write_term I whole) (array n (type_of I Γ' b)) (type_of I Γ whole)
      (same_sym (same_series (series_in kind) n (type_of I Γ' b) h.3))
      (write_map_orderly kind (use_term I a) (write_term I b) (type_of I Γ a) (type_of I Γ' b)
      (same_elements (series_in kind) (type_of I Γ a) h.1) (orderly Γ a h.0).used (orderly Γ' b h.2).written) in
      record { used = use_written_orderly (write_term I whole) (type_of I Γ whole) M; written = M }
  orderly Γ (Term.reduce z a b) h =
      assigned Γ (Term.reduce z a b)
      (use_reduce_orderly (use_term I a) (use_term I z) (write_term I b) (type_of I Γ a) (type_of I Γ z) h.2
      (orderly Γ a h.1).used (orderly Γ z h.0).used
      (written_as h.4 (orderly (type_of I Γ z ∷ element (type_of I Γ a) ∷ Γ) b h.3)))
      (λ w. w)
  orderly Γ (Term.zip a b) h =
      let n : ℕ = array_length (type_of I Γ a) in
      let s : DataType = element (type_of I Γ a) in
      let t : DataType = element (type_of I Γ b) in
      let isb : type_of I Γ b ≡ array n t = h.3 ∙ ap (λ (l : ℕ). array l t) (sym h.4) in
      let OA = orderly Γ a h.0 in
      let OB = orderly Γ b h.1 in
      record {
        used =
            use_two_orderly (use_term I a) (use_term I b) (array n s) (array n t) (type_of I Γ (Term.zip a b))
            Expression.zip (λ cs rs S E F q r. reads_zip q r) (used_as h.2 OA) (used_as isb OB);
        written = write_zip_orderly (write_term I a) (write_term I b) n s t (written_as h.2 OA) (written_as isb OB);
      }
  orderly Γ (Term.pair a b) h =
      let OA = orderly Γ a h.0 in
      let OB = orderly Γ b h.1 in
      record {
        used =
            use_two_orderly (use_term I a) (use_term I b) (type_of I Γ a) (type_of I Γ b) (type_of I Γ (Term.pair a b))
            Expression.pair (λ cs rs S E F q r. reads_pair q r) OA.used OB.used;
        written =
            write_pair_orderly (write_term I a) (write_term I b) (type_of I Γ a) (type_of I Γ b) OA.written
            OB.written;
      }
  orderly Γ (Term.split series n e) h =
      let whole : Term = Term.split series n e in
      let m : ℕ = array_length (type_of I Γ e) / n in
      let t : DataType = element (type_of I Γ e) in
      let ise : type_of I Γ e ≡ array (m * n) t = h.1 ∙ ap (λ (l : ℕ). array l t) (sym h.2) in
      let same : SamePaths (array m (array n t)) (type_of I Γ whole) =
      same_array m (same_sym (same_series series n t h.4)) in
      let O = orderly Γ e h.0 in
      record {
        used =
            uses_same_orderly (use_term I whole) (array m (array n t)) (type_of I Γ whole) same
            (use_one_orderly (use_term I e) (array (m * n) t) (array m (array n t)) (Expression.split n)
            (λ cs rs S E q. reads_split m n q) (used_as ise O));
        written =
            writes_same_orderly (write_term I whole) (array m (array n t)) (type_of I Γ whole) same
            (write_split_orderly (write_term I e) m n t (written_as ise O));
      }
  orderly Γ (Term.join series e) h =
      let m : ℕ = array_length (type_of I Γ e) in
      let n : ℕ = array_length (element (type_of I Γ e)) in
      let t : DataType = element (element (type_of I Γ e)) in
      let inner : DataType = array m (element (type_of I Γ e)) in
      let same : SamePaths inner (array m (array n t)) =
      same_array m (same_elements series (element (type_of I Γ e)) h.2) in
      let O = orderly Γ e h.0 in
      record {
        used =
            use_one_orderly (use_term I e) (array m (array n t)) (type_of I Γ (Term.join series e)) (Expression.join n)
            (λ cs rs S E q. reads_join m n q)
            (uses_same_orderly (use_term I e) inner (array m (array n t)) same (used_as h.1 O));
        written =
            write_join_orderly (write_term I e) m n t
            (writes_same_orderly (write_term I e) inner (array m (array n t)) same (written_as h.1 O));
      }
  orderly Γ (Term.first e) h =
      let t : DataType = first_type (type_of I Γ e) in
      assigned Γ (Term.first e)
      (use_one_orderly (use_term I e) (DataType.pair t (second_type (type_of I Γ e))) t Expression.first
      (λ cs rs S E q. reads_first q) (used_as h.1 (orderly Γ e h.0)))
      (λ w. w)
  orderly Γ (Term.second e) h =
      let t : DataType = second_type (type_of I Γ e) in
      assigned Γ (Term.second e)
      (use_one_orderly (use_term I e) (DataType.pair (first_type (type_of I Γ e)) t) t Expression.second
      (λ cs rs S E q. reads_second q) (used_as h.1 (orderly Γ e h.0)))
      (λ w. w)
  orderly Γ (Term.index series k e) h =
      let n : ℕ = array_length (type_of I Γ e) in
      let t : DataType = element (type_of I Γ e) in
      assigned Γ (Term.index series k e)
      (use_one_orderly (use_term I e) (array n t) t (λ E. Expression.index E (Offset.literal k))
      (λ cs rs S E q. reads_index (Offset.literal k) k q (λ cs' ec. refl) h.2)
      (uses_same_orderly (use_term I e) (type_of I Γ e) (array n t) (same_elements series (type_of I Γ e) h.1)
      (orderly Γ e h.0).used))
      (λ w. w)

-- A whole plan

module _ (P : Plan) where
  -- the cells of the inputs; what the store holds plays no part
  abbrev inputs_end : ℕ
  inputs_end = all_cells (map cells P.inputs)

  abbrev setting : Setting
  setting = record {
    domain = clamped32;
    bases = bases_from 0 (map cells P.inputs);
    out = inputs_end;
    input_types = P.inputs;
    input_values = λ k p. no_number clamped32;
  }

  pub plan_without_races : WellTyped P.inputs [] P.term
      → WithoutRaces (translation P).command (start_of (translation P)) (regions_from (translation P))
  unfolding translation need
  plan_without_races wt =
      let T : DataType = plan_type P in
      let n : ℕ = room (translation P).command in
      ((orderly setting (inputs_end + cells T + n) [] P.term wt).written [] [] [] (λ x. x < inputs_end) (inputs_end + cells T)
      (Acceptor.output T) (λ p. inputs_end + cell_of T p) (λ x. Unit {0}) (λ x. Unit {0})
      (record {
        inputs = λ k h.
            reads_input {W = setting} k
            (λ p ok.
            let a = cell_of_below (get_or P.inputs k number) p ok in
            let b = base_fits (map cells P.inputs) 0 k (omega (arith, length-map P.inputs cells)) in
            omega (arith, entry_cells P.inputs k h));
        variables = λ d h. absurd (not-suc-le-zero h);
        free = λ x h. Outside.before (omega arith);
        fits = le_refl (inputs_end + cells T + n);
      })
      (into_output {W = setting} T (omega arith) (λ x h. Outside.before h))
      (λ p ok. Outside.before (let h = cell_of_below T p ok in omega arith))
      (record { room_written = λ x h. tt; room_read = λ x h. tt; relied = λ x h. tt })
      (λ p ok. tt)
      ).without_races
