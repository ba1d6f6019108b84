-- The types of a plan's inputs, one after another.
use mathlib.Core.Path.{◌≡◌, refl, ap, sym, subst, ◌∙◌}
use mathlib.Core.Bool.{Bool, true, false}
use mathlib.Core.List.{List, [], ◌∷◌, ◌++◌, append_assoc, append-nil}
use Prim.Native.Nat.{ℕ, zero, suc, ◌+◌, ◌≤◌, ◌<◌}
use native.Mathlib.Omega.{arith}
use native.Mathlib.Nat.{zero-add}
use borrow.Author.Tests.{eqb-true, eqb-false, ltb-true, ltb-false}
use lib.Dec.{eqb, ltb}
use lib.IntN.{ℤ, pos}
use lib.ListN.{length, get_or, set, take, drop, length-append, length-set}
use lib.Seq.{get_or-set_same, get_or-set_other, drop-append-add}
use Rattle.refusals.specs.declared.Refusal.{Refusal}
use Rattle.words.specs.Kinds.{Row, rows_of, word_plan}
use Rattle.words.proofs.Laws.{rows_length}
use Rattle.meaning.specs.Types.{DataType, number}
use Rattle.meaning.specs.Terms.{Plan}
use Rattle.meaning.specs.Rows.{type_rows, all_type_rows, term_rows, plan_rows}
use Rattle.syntax.specs.Ranges.{as_natural}
use Rattle.syntax.specs.InRange.{TypeInRange, AllTypesInRange}
use Rattle.syntax.proofs.WalkSteps.{rows_part}
use Rattle.syntax.proofs.Front.{part, part_length, head_row}
use Rattle.type_table.specs.Table.{type_at, Put}
use Rattle.type_table.specs.Laws.{sound_below}
use Rattle.type_table.specs.Columns.{Names}
use Rattle.typing.specs.Check.{Verdict, typed, refused, after_operand, behind_type, check_type, check_types}
use Rattle.type_rules.specs.Rules.{Found, Grown, Room}
use Rattle.row_typing.specs.Terms.{TypeStands}
use Rattle.row_typing.specs.Typed.{PlanStands, InputsTyped, InputsFound}
use Rattle.std.specs.Prelude.{Result, Ok, Err}
use Rattle.type_rules.specs.declared.Typed.{Typed}
use Rattle.row_typing.specs.declared.inputs.TypedInputs.{TypedInputs}
use Rattle.type_rules.specs.Rules.{type_found}
use Rattle.type_rules.proofs.Found.{was_typed, was_refused}
use Rattle.row_typing.proofs.TypeLaws.{spelt}
use Rattle.row_typing.proofs.NotedLaws.{names_on}

-- ---- a list of types up to one of them

-- the rows of the types from the i-th on, and what is behind them
pub rows_from : (J : List DataType) (i : ℕ) (R : List Row) → drop (length (all_type_rows (take i J))) (all_type_rows J ++ R) ≡ all_type_rows (drop i J) ++ R
unfolding all_type_rows
rows_from [] zero R = refl
rows_from [] (suc i) R = refl
rows_from (t ∷ J) zero R = refl
rows_from (t ∷ J) (suc i) R =
    ap (λ (x : List Row). drop (length (type_rows t ++ all_type_rows (take i J))) x) (append_assoc (type_rows t) (all_type_rows J) R)
    ∙ ap (λ (x : ℕ). drop x (type_rows t ++ (all_type_rows J ++ R))) (length-append (type_rows t) (all_type_rows (take i J)))
    ∙ drop-append-add (type_rows t) (all_type_rows J ++ R) (length (all_type_rows (take i J)))
    ∙ rows_from J i R

-- those of the i-th are in front
rows_at : (J : List DataType) (i : ℕ) (R : List Row) → i < length J
    → all_type_rows (drop i J) ++ R ≡ type_rows (get_or J i number) ++ (all_type_rows (drop (suc i) J) ++ R)
unfolding all_type_rows
rows_at [] i R h = absurd (omega arith)
rows_at (t ∷ J) zero R h = append_assoc (type_rows t) (all_type_rows J) R
rows_at (t ∷ J) (suc i) R h = rows_at J i R (omega arith)

-- one type more
rows_more : (J : List DataType) (i : ℕ) → i < length J
    → length (all_type_rows (take (suc i) J)) ≡ length (all_type_rows (take i J)) + length (type_rows (get_or J i number))
unfolding all_type_rows
rows_more [] i h = absurd (omega arith)
rows_more (t ∷ J) zero h = ap length (append-nil (type_rows t)) ∙ sym (zero-add (length (type_rows t)))
rows_more (t ∷ J) (suc i) h =
    omega
    (arith, rows_more J i (omega arith), length-append (type_rows t) (all_type_rows (take (suc i) J)), length-append (type_rows t) (all_type_rows (take i J)))

rows_upto : (J : List DataType) (i : ℕ) → length (all_type_rows (take i J)) ≤ length (all_type_rows J)
unfolding all_type_rows
rows_upto [] zero = omega arith
rows_upto [] (suc i) = omega arith
rows_upto (t ∷ J) zero = omega arith
rows_upto (t ∷ J) (suc i) =
    omega (arith, rows_upto J i, length-append (type_rows t) (all_type_rows (take i J)), length-append (type_rows t) (all_type_rows J))

pub rows_all : (J : List DataType) → length (all_type_rows (take (length J) J)) ≡ length (all_type_rows J)
unfolding all_type_rows
rows_all [] = refl
rows_all (t ∷ J) =
    omega (arith, rows_all J, length-append (type_rows t) (all_type_rows (take (length J) J)), length-append (type_rows t) (all_type_rows J))

range_at : (J : List DataType) (i : ℕ) → i < length J → AllTypesInRange J → TypeInRange (get_or J i number)
range_at [] i h r = absurd (omega arith)
range_at (t ∷ J) zero h r = r.0
range_at (t ∷ J) (suc i) h r = range_at J i (omega arith) r.1

-- the check from the i-th type on
check_at : (J : List DataType) (i line : ℕ) (v : Verdict) → i < length J
    → check_types (drop i J) line v ≡ after_operand (check_type (get_or J i number) line) (λ u. check_types (drop (suc i) J) (behind_type (get_or J i number) line) v)
unfolding check_types
check_at [] i line v h = absurd (omega arith)
check_at (t ∷ J) zero line v h = refl
check_at (t ∷ J) (suc i) line v h = check_at J i line v (omega arith)

check_end : (J : List DataType) (line : ℕ) (v : Verdict) → check_types (drop (length J) J) line v ≡ v
unfolding check_types
check_end [] line v = refl
check_end (t ∷ J) line v = check_end J line v

-- ---- the steps of the loop

apart : (k i : ℕ) → (k ≡ i → ⊥) → k < i + 1 → k < i
apart k i f h = go (ltb k i) refl
  where
    go : (b : Bool) → ltb k i ≡ b → k < i
    go true e = ltb-true k i e
    go false e = absurd (f (omega (arith, ltb-false k i e)))

-- i of the inputs have their types found, and the check goes on behind their rows
pub record InputsDone (T U D : List ℕ) (J : List DataType) (i row len : ℕ) : Type 0 where
  pub typed : InputsTyped T U D J i row len
  pub count : i ≤ length J
  pub goes : (v : Verdict) → check_types J 2 v ≡ check_types (drop i J) (row + 1) v

pub inputs_start : (T U D : List ℕ) (J : List DataType) → Put T U 0 number → length D ≡ 8 → InputsDone U U D J 0 1 1
unfolding all_type_rows
inputs_start T U D J A size = record {
  typed = record {
    sound = sound_below A.sound (omega arith);
    some = omega arith;
    first = A.put;
    few = omega arith;
    ends = refl;
    named = λ k h. absurd (omega arith);
    size = refl;
    places = size;
  };
  count = omega arith;
  goes = λ v. refl;
}

-- an answer said of the table before the type of numbers was put in it
pub inputs_found : (T U X : List ℕ) (P : Plan) (r : Result TypedInputs Refusal) → length U ≡ length T → InputsFound U X P r → InputsFound T X P r
inputs_found T U X P (Ok f) e F = (
  record {
    sound = F.0.sound;
    some = F.0.some;
    first = F.0.first;
    few = F.0.few;
    ends = F.0.ends;
    named = F.0.named;
    size = F.0.size ∙ e;
    places = F.0.places;
  },
  F.1,
)
inputs_found T U X P (Err q) e F = F

module _ (ks : List ℕ) (ns : List ℤ) (sizes : length ks ≡ length ns) (few : length ks ≤ 256) (P : Plan) (S : PlanStands ks ns P) where
  head : (get_or ks 0 0 ≡ word_plan) × (get_or ns 0 (pos 0) ≡ pos (length P.inputs))
  unfolding plan_rows
  head = head_row ks ns (word_plan, pos (length P.inputs)) (all_type_rows P.inputs ++ term_rows P.term) S.0

  pub input_count_holds : (n : ℕ) → n ≡ as_natural (get_or ns 0 (pos 0)) → n ≡ length P.inputs
  input_count_holds n h = h ∙ ap as_natural head.1

  pub rows_count : length ks ≡ suc (length (all_type_rows P.inputs) + length (term_rows P.term))
  unfolding plan_rows
  rows_count = omega (arith, rows_length ks ns, ap length S.0, length-append (all_type_rows P.inputs) (term_rows P.term), sizes)

  pub some_rows : 1 ≤ length ks
  some_rows = omega (arith, rows_count)

  -- the rows from a row on
  pub rows_behind : (i row : ℕ) → row ≡ 1 + length (all_type_rows (take i P.inputs))
      → rows_of (part row ks) (part row ns) ≡ all_type_rows (drop i P.inputs) ++ term_rows P.term
  unfolding plan_rows
  rows_behind i row h =
      let k : row ≡ suc (length (all_type_rows (take i P.inputs))) = omega arith in
      rows_part row ks ns ∙ ap (drop row) S.0
      ∙ ap (λ (x : ℕ). drop x ((word_plan, pos (length P.inputs)) ∷ (all_type_rows P.inputs ++ term_rows P.term))) k
      ∙ rows_from P.inputs i (term_rows P.term)

  module _ (T U D : List ℕ) (i row len : ℕ) (R : InputsDone T U D P.inputs i row len) where
    pub row_within : (1 ≤ row) × (row ≤ length ks)
    row_within = (omega (arith, R.typed.ends), omega (arith, R.typed.ends, rows_count, rows_upto P.inputs i))

    pub input_room : 512 ≤ length T → Room U len (length (part row ks))
    input_room room = record {
      sound = R.typed.sound;
      places = omega (arith, R.typed.size, R.typed.few, part_length row ks);
      few = omega (arith, R.typed.few, part_length row ks);
    }

    pub inputs_end : length P.inputs ≤ i → InputsFound T U P (Ok (record { places = D; row = row; len = len }))
    inputs_end h =
        let k : i ≡ length P.inputs = omega (arith, R.count) in (
          subst (λ (n : ℕ). InputsTyped T U D P.inputs n row len) k R.typed,
          λ v. R.goes v ∙ ap (λ (n : ℕ). check_types (drop n P.inputs) (row + 1) v) k ∙ check_end P.inputs (row + 1) v,
        )

    -- the next input
    module _ (more : i < length P.inputs) where
      pub input_stands : TypeStands (part row ks) (part row ns) (get_or P.inputs i number)
      input_stands = record {
        sizes = omega (arith, part_length row ks, part_length row ns);
        rest = all_type_rows (drop (suc i) P.inputs) ++ term_rows P.term;
        rows = rows_behind i row R.typed.ends ∙ rows_at P.inputs i (term_rows P.term) more;
        in_range = range_at P.inputs i more S.1.types;
      }

      next : (v w : Verdict) → check_type (get_or P.inputs i number) (row + 1) ≡ w
          → check_types P.inputs 2 v ≡ after_operand w (λ u. check_types (drop (suc i) P.inputs) (behind_type (get_or P.inputs i number) (row + 1)) v)
      next v w h =
          R.goes v ∙ check_at P.inputs i (row + 1) v more
          ∙ ap (λ (x : Verdict). after_operand x (λ u. check_types (drop (suc i) P.inputs) (behind_type (get_or P.inputs i number) (row + 1)) v)) h

      module _ (X : List ℕ) (r : Result Typed Refusal) (F : (t : DataType) → TypeStands (part row ks) (part row ns) t
          → Found U len X (len + length (type_rows t)) (length (type_rows t)) (check_type t (row + 1)) r) where
        pub input_no : (q : Refusal) → r ≡ Err q → (v : Verdict) → check_types P.inputs 2 v ≡ refused q
        input_no q h = λ v. next v (refused q) (was_refused U len X _ _ _ h (F (get_or P.inputs i number) input_stands))

        module _ (p a l : ℕ) (h : r ≡ type_found p a l) where
          found : (check_type (get_or P.inputs i number) (row + 1) ≡ typed (type_at X p)) × (a ≡ length (type_rows (get_or P.inputs i number))) × (p < l)
              × (l ≤ len + length (type_rows (get_or P.inputs i number))) × Grown U len X l
          found = was_typed U len X _ _ _ h (F (get_or P.inputs i number) input_stands)

          pub input_small : (p < 65536) × (i < 8)
          input_small = (omega (arith, found.2, found.4.sound.few), omega (arith, S.1.inputs_few))

          named : (k : ℕ) → k < i + 1 → Names X l (get_or (set D i p) k 0) (get_or P.inputs k number)
          named k below = go (eqb k i) refl
            where
              go : (b : Bool) → eqb k i ≡ b → Names X l (get_or (set D i p) k 0) (get_or P.inputs k number)
              go true e =
                  subst (λ (x : ℕ). Names X l (get_or (set D i p) x 0) (get_or P.inputs x number)) (sym (eqb-true k i e))
                  (subst (λ (x : ℕ). Names X l x (get_or P.inputs i number)) (sym (get_or-set_same D i p 0 (omega (arith, R.typed.places, S.1.inputs_few))))
                  (found.2, sym (spelt (get_or P.inputs i number) (row + 1) (type_at X p) found.0)))
              go false e =
                  let other = eqb-false k i e in
                  names_on found.4 (get_or-set_other D i k p 0 other) (R.typed.named k (apart k i other below))

          pub input_done : InputsDone T X (set D i p) P.inputs (i + 1) (row + a) l
          input_done =
              let k : suc i ≡ i + 1 = omega arith in
              record {
                typed = record {
                  sound = found.4.sound;
                  some = omega (arith, R.typed.some, found.4.more);
                  first = found.4.kept 0 R.typed.some ∙ R.typed.first;
                  few = omega (arith, R.typed.few, found.1, found.3);
                  ends =
                      subst (λ (n : ℕ). row + a ≡ 1 + length (all_type_rows (take n P.inputs))) k
                      (omega (arith, R.typed.ends, rows_more P.inputs i more, found.1));
                  named = named;
                  size = found.4.size ∙ R.typed.size;
                  places = length-set D i p ∙ R.typed.places;
                };
                count = omega arith;
                goes = λ v.
                    let line : behind_type (get_or P.inputs i number) (row + 1) ≡ row + a + 1 = omega (arith, found.1) in
                    next v (typed (type_at X p)) found.0
                    ∙ ap (λ (x : ℕ). check_types (drop (suc i) P.inputs) x v) line
                    ∙ ap (λ (n : ℕ). check_types (drop n P.inputs) (row + a + 1) v) k;
              }
