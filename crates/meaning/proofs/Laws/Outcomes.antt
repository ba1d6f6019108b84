-- A whole plan: its loops, run on a store at least as long as the need, in any order, come to the outcome of [9.8].
use Rattle.std.specs.Prelude.{refl, length, get_or, take, drop}
use Rattle.std.proofs.Math.Path.{sym, ap}
use Rattle.std.proofs.Common.{◌∙◌, not-suc-le-zero, arith, length-drop}
use mathlib.Core.List.{List, [], map}
use Prim.Native.Nat.{ℕ, ◌+◌, ◌-◌, ◌≤◌, ◌<◌}
use Rattle.std.proofs.Math.Nat.{zero-add}
use Rattle.std.proofs.Math.ListN.{length-map}
use Rattle.std.proofs.Math.Seq.{get_or-take, get_or-drop, length-take-le, ext_get_or}
use Rattle.meaning.specs.Types.{DataType, cells, number}
use Rattle.meaning.specs.Terms.{Plan}
use Rattle.meaning.specs.Numbers.{NumberDomain}
use Rattle.meaning.specs.Values.{no_number}
use Rattle.meaning.specs.Layout.{room, all_cells, bases_from, need}
use Rattle.meaning.specs.Runs.{Orders, entry, Store, cell, beginning, run_loops}
use Rattle.meaning.specs.Expressions.{Acceptor}
use Rattle.meaning.specs.Translation.{plan_type, translation}
use Rattle.meaning.specs.Counts.{plan_writes}
use Rattle.meaning.specs.Demand3.{input_data, plan_value, Outcome}
use Rattle.meaning.proofs.Laws.Typing.{WellTyped}
use Rattle.meaning.proofs.Laws.Layout.{Outside, base_fits, entry_cells}
use Rattle.meaning.proofs.Laws.Paths.{cell_of, cell_of_below}
use Rattle.meaning.proofs.Laws.PathValues.{value_at}
use Rattle.meaning.proofs.Laws.Agreement.{value_represented}
use Rattle.meaning.proofs.Laws.Cells.{inputs_represented, flat_value}
use Rattle.meaning.proofs.Laws.Holds.{Setting, holds_input}
use Rattle.meaning.proofs.Laws.Into.{into_output}
use Rattle.meaning.proofs.Laws.Wrote.{Wrote}
use Rattle.meaning.proofs.Laws.Claims.{Precondition}
use Rattle.meaning.proofs.Laws.Terms.{right}

module _ (𝓝 : NumberDomain) (P : Plan) (wt : WellTyped P.inputs [] P.term) (s : Store 𝓝)
    (enough : need (translation P) ≤ length s) where
  abbrev I : List DataType
  I = P.inputs

  -- the cells of the inputs
  abbrev K : ℕ
  K = all_cells (map cells I)

  abbrev T : DataType
  T = plan_type P

  abbrev setting : Setting
  setting = record {
    domain = 𝓝;
    bases = bases_from 0 (map cells I);
    out = K;
    input_types = I;
    input_values = λ k p. cell 𝓝 s (entry (bases_from 0 (map cells I)) k + cell_of (get_or I k number) p);
  }

  start_precondition :
      Precondition setting [] [] s (λ x. x < K) [] [] [] (K + cells T) (room (translation P).command)
  unfolding need translation
  start_precondition = record {
    inputs = λ k h.
        holds_input {W = setting} k (λ p ok. refl)
        (λ p ok.
        let a = cell_of_below (get_or I k number) p ok in
        let b = base_fits (map cells I) 0 k (omega (arith, length-map I cells)) in
        omega (arith, entry_cells I k h));
    variables = λ d h. absurd (not-suc-le-zero h);
    free = λ x h. Outside.before (omega arith);
    fits = enough;
  }

  wrote : (ch : Orders (translation P).command)
      → Wrote setting (λ p. K + cell_of T p) T (value_at 𝓝 I setting.input_values [] P.term []) (K + cells T)
      (room (translation P).command) (plan_writes P) (beginning 𝓝 s)
      (run_loops 𝓝 (translation P) ch s)
  unfolding run_loops translation need
  wrote ch =
      (right setting [] P.term wt).written [] [] [] [] (λ x. x < K) (K + cells T) (beginning 𝓝 s)
      (Acceptor.output T) (λ p. K + cell_of T p) start_precondition
      (into_output {W = setting} T (omega arith) (λ x h. Outside.before h))
      (λ p ok. Outside.before (let h = cell_of_below T p ok in omega arith))
      ch

  pub plan_outcome : (ch : Orders (translation P).command) → Outcome 𝓝 P s (run_loops 𝓝 (translation P) ch s)
  unfolding plan_value need translation
  plan_outcome ch =
      let H = wrote ch in
      let r : Store 𝓝 = (run_loops 𝓝 (translation P) ch s).store in
      let N : ℕ = need (translation P) in
      record {
        output_holds =
            flat_value 𝓝 T (value_at 𝓝 I setting.input_values [] P.term []) (plan_value 𝓝 P s) r K
            (value_represented 𝓝 I setting.input_values (input_data 𝓝 0 I s) (inputs_represented 𝓝 I 0 s) []
            P.term wt
            [] [] (λ d h. absurd (not-suc-le-zero h)))
            H.written (omega (arith, H.same_length));
        inputs_kept =
            ext_get_or (no_number 𝓝) (take K r) (take K s)
            (length-take-le K r (omega (arith, H.same_length)) ∙ sym (length-take-le K s (omega arith)))
            (λ i h.
            let l : i < K = omega (arith, length-take-le K r (omega (arith, H.same_length))) in
            get_or-take K r i (no_number 𝓝) l
            ∙ H.kept i (λ p ok q. omega arith) (Outside.before (omega arith))
            ∙ sym (get_or-take K s i (no_number 𝓝) l));
        beyond_kept =
            ext_get_or (no_number 𝓝) (drop N r) (drop N s)
            (length-drop N r ∙ ap (λ (n : ℕ). n - N) H.same_length ∙ sym (length-drop N s))
            (λ i h.
            get_or-drop N r i (no_number 𝓝)
            ∙ H.kept (N + i) (λ p ok q. let a = cell_of_below T p ok in omega arith) (Outside.after (omega arith))
            ∙ sym (get_or-drop N s i (no_number 𝓝)));
        length_kept = H.same_length;
        writes_counted = H.counted ∙ zero-add (plan_writes P);
      }
