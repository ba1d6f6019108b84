-- The table of loops that pass, their values and their run. Assumes nothing.
use Rattle.std.specs.Prelude.{Ok}
use mathlib.Core.Path.{◌≡◌, refl, sym, ap, subst, ◌∙◌}
use mathlib.Core.Bool.{Bool, cond}
use mathlib.Core.List.{List, [], ◌∷◌, ◌++◌, map, append-nil}
use mathlib.Core.Logic.{◌≢◌}
use Prim.Native.Nat.{ℕ, ◌+◌, ◌-◌, ◌≤◌, ◌<◌}
use native.Mathlib.Numerals.{add-one}
use native.Mathlib.Omega.{arith}
use borrow.Author.Tests.{eq-eqb, ne_eqb}
use lib.IntN.{ℤ, pos}
use lib.ListN.{length, get_or, take, drop, drop_of_length-le, length-map}
use lib.Seq.{drop-cons}
use Rattle.refusals.specs.Answers.{is_told, Answer}
use Rattle.words.specs.Kinds.{rows_of}
use Rattle.meaning.specs.Loops.{Loops}
use Rattle.meaning.specs.Layout.{all_cells, need}
use Rattle.meaning.specs.Counts.{command_writes}
use Rattle.meaning.specs.Limits.{LoopsPass}
use Rattle.meaning.specs.Rows.{loops_rows}
use Rattle.meaning.specs.Numbers.{clamped32}
use Rattle.meaning.specs.Runs.{RunOf}
use Rattle.meaning.specs.Sequence.{up_from}
use Rattle.meaning.proofs.Laws.Orders.{up_from_length}
use Rattle.syntax.specs.Ranges.{as_natural, cell_numbers}
use Rattle.syntax.specs.Reading.{loops_of}
use Rattle.syntax.specs.Theorems.{loops_read}
use Rattle.syntax.proofs.LoopsTable as parts
use Rattle.loops.specs.Theorems.{Accepted, passes_exactly, runs_safely}
use Rattle.lines.specs.Reading.{filled}
use Rattle.store.specs.Cells.{cells_of as cellsOf'}
use Rattle.store.specs.Store.{store_of, frame_of}
use Rattle.interpreter.specs.Orders.{run_of}
use Rattle.interpreter.specs.Interpreter.{state_of}
use Rattle.run.specs.Theorems.{run_is_run}
use Rattle.values.specs.Values.{filling, value_of, value_lines, FillInto}
use Rattle.programs.specs.Runner.{with_values}
use Rattle.programs.specs.Parts.{ValuesInto, Ready, LaidOut}

-- ---- the cells of rows, one after the other

pub cells_next : (ns : List ℤ) (i : ℕ) → i < length ns
    → all_cells (cell_numbers (drop i ns)) ≡ as_natural (get_or ns i (pos 0)) + all_cells (cell_numbers (drop (i + 1) ns))
cells_next ns i h = rw (add-one, drop-cons ns i (pos 0) h)

pub cells_end : (ns : List ℤ) (i : ℕ) → length ns ≤ i → all_cells (cell_numbers (drop i ns)) ≡ 0
cells_end ns i h = ap (λ (l : List ℤ). all_cells (cell_numbers l)) (drop_of_length-le ns h)

-- ---- the values

module _ (v : List ℕ) (s : List ℤ) where
  pub none_asked : (n : ℕ) → n ≡ 0 → ValuesInto v n s (Ok 0) s
  none_asked n e = record {
    answer = ap (λ (b : Bool). cond b (Ok 0) (filling v n (length s))) (sym (eq-eqb n 0 e));
    filled = λ m f. ap (λ (k : ℕ). with_values v k s) (sym e);
    kept = λ q f. refl;
  }

  pub values_asked : (n : ℕ) (r : Answer) (s' : List ℤ) → n ≢ 0 → FillInto v n s r s' → ValuesInto v n s r s'
  values_asked n r s' d I = record {
    answer = I.answer ∙ ap (λ (b : Bool). cond b (Ok 0) (filling v n (length s))) (sym (ne_eqb n 0 d));
    filled = λ m f.
        I.store_left ∙ ap (λ (x : Answer). filled (is_told x) put s) f
        ∙ ap (λ (k : ℕ). put ++ drop k s) (length-map (up_from 0 n) (value_of (value_lines v)) ∙ up_from_length 0 n);
    kept = λ q f. I.store_left ∙ ap (λ (x : Answer). filled (is_told x) put s) f;
  }
    where
      put : List ℤ
      put = map (value_of (value_lines v)) (up_from 0 n)

-- ---- loops that pass, and a store that holds them

module _ (ks : List ℕ) (ns : List ℤ) (n : ℕ) (ready : Ready ks ns n) where
  abbrev L : Loops
  L = loops_of (rows_of ks ns)

  there : Accepted (rows_of ks ns) ready.writes ready.need
  there = (passes_exactly (rows_of ks ns) ready.writes ready.need).0 ready.passes

  own : L ≡ there.loops
  own = ap loops_of there.rows ∙ loops_read there.loops

  pub rows : rows_of ks ns ≡ loops_rows L
  rows = there.rows ∙ ap loops_rows (sym own)

  pub pass : LoopsPass L
  pass = subst LoopsPass (sym own) there.passes

  pub writes_few_holds : command_writes L.command ≤ 16777216
  writes_few_holds = omega (arith, ap (λ (x : Loops). command_writes x.command) own, there.writes, there.writes_few)

  -- the output lies in the store
  pub output_within : all_cells L.inputs + L.output ≤ n
  unfolding need
  output_within = omega (arith, ap need own, there.needs, ready.enough)

  -- where the rows of the inputs and of the output stand
  pub inputs_are : (k : ℕ) → k ≡ as_natural (get_or ns 0 (pos 0)) → (k ≡ length L.inputs) × (k + 2 ≤ length ns)
  inputs_are k e =
      let same = parts.inputs_counted_holds ks ns ready.same L rows e in
      (same, omega (arith, same, parts.table_long ks ns ready.same L rows))

  pub first_row : 0 < length ns
  first_row = omega (arith, parts.table_long ks ns ready.same L rows)

  pub laid_out : (k : ℕ) → k ≡ as_natural (get_or ns 0 (pos 0)) → (inputs output : ℕ) → inputs ≡ all_cells (cell_numbers (take (1 + k - 1) (drop 1 ns)))
      → output ≡ as_natural (get_or ns (1 + k) (pos 0)) → LaidOut L inputs output
  laid_out k e inputs output f g =
      let same = (inputs_are k e).0 in
      record {
        inputs_all = f ∙ ap all_cells (parts.inputs_there ks ns ready.same L rows (1 + k - 1) (omega (arith, same)));
        output_all = parts.output_there ks ns ready.same L rows output (1 + k) (omega (arith, same)) g;
      }

  -- the run on a store lent as cells alone, and what it leaves
  module _ (s s' : List ℤ) (b : List ℕ) (r : ℕ) (frame : frame_of s' b ≡ frame_of s [])
      (ran : length ks ≡ length ns → length ks ≤ 4096 → (M : Loops) → rows_of ks ns ≡ loops_rows M → LoopsPass M
      → command_writes M.command ≤ 16777216 → state_of (store_of s' b) r ≡ run_of M 0 (store_of s [])) where
    no_bytes : b ≡ []
    unfolding frame_of
    no_bytes = none b (ap (λ (f : ℕ × ℕ × List ℕ). f.1) frame)
      where
        none : (l : List ℕ) → length l ≡ 0 → l ≡ []
        none [] h = refl
        none (x ∷ l) h = absurd (omega arith)

    cells_alone : (l : List ℤ) → store_of l [] ≡ l
    unfolding store_of cellsOf'
    cells_alone l = append-nil l

    pub run_state : state_of s' r ≡ run_of L 0 s
    run_state =
        ap (λ (l : List ℤ). state_of l r) (sym (ap (store_of s') no_bytes ∙ cells_alone s'))
        ∙ ran ready.same ready.few L rows pass writes_few_holds
        ∙ ap (run_of L 0) (cells_alone s)

    pub run_writes : r ≤ 16777216
    run_writes =
        let safe = runs_safely clamped32 (rows_of ks ns) ready.writes ready.need ready.passes in
        let same : safe.0 ≡ L = sym (ap loops_of safe.1 ∙ loops_read safe.0) in
        let run = subst (λ (M : Loops). RunOf clamped32 M s (state_of s' r)) (sym same) (subst (RunOf clamped32 L s) (sym run_state) (run_is_run L 0 s)) in
        omega (arith, (safe.2 s).counted (state_of s' r) run, there.writes_few)
