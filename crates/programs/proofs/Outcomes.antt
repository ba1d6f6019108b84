-- The outcomes of the runner, as each way out of its parts knows them. Assumes nothing.
use Rattle.std.specs.Prelude.{Ok, Err}
use Rattle.loops.specs.Checked.{Checked}
use Rattle.columns.specs.declared.Counted.{Counted}
use Rattle.refusals.specs.Answers.{Answer}
use mathlib.Core.Bool.{Bool, true, false, cond}
use mathlib.Core.Path.{◌≡◌, sym, ap, ap₂, subst, ◌∙◌}
use mathlib.Core.List.{List, ◌++◌}
use Prim.Native.Nat.{ℕ, ◌≤◌, ◌<◌}
use native.Mathlib.Omega.{arith}
use borrow.Author.Tests.{le-leb, lt-leb}
use lib.Dec.{leb}
use lib.IntN.{ℤ}
use lib.ListN.{length, take, drop}
use lib.Seq.{sets}
use Rattle.refusals.specs.declared.Refusal.{Refusal}
use Rattle.refusals.specs.declared.Refusal.TheVariants.{LentSize, StoreSize}
use Rattle.words.specs.Kinds.{Row, rows_of}
use Rattle.words.proofs.Laws.{rows_length}
use Rattle.lines.specs.Reading.{head_of, reading, loops_limits, filled}
use Rattle.lines.specs.Lent.{text_rows}
use Rattle.lines.specs.Printing.{printing}
use Rattle.lines.proofs.Laws.{rows_read}
use Rattle.lines.specs.declared.Heads.TheVariants.{Words}
use Rattle.meaning.specs.Loops.{Loops}
use Rattle.meaning.specs.Layout.{all_cells}
use Rattle.meaning.specs.Numbers.{clamped32}
use Rattle.meaning.specs.Runs.{State}
use Rattle.syntax.specs.Reading.{loops_of}
use Rattle.loops.specs.Check.{after_answer, check_loops_rows, check_table, check_loops_text}
use Rattle.loops.specs.TableTheorems.{few_rows}
use Rattle.interpreter.specs.Orders.{run_of}
use Rattle.interpreter.specs.Interpreter.{state_of}
use Rattle.run.specs.Run.{Ran, finished, refused}
use Rattle.programs.specs.Printed.{refusal_text, PutInto}
use Rattle.programs.specs.Runner.{ask_values, with_values, after_values, values_run, print_checked, runner_outcome}
use Rattle.programs.specs.Runner.{finished_text, outcome_text, runner_text, room_for_all, ShownInto, RunnerInto}
use Rattle.programs.specs.Parts.{ValuesInto, Ready, LaidOut, RunsInto}
use Rattle.programs.proofs.Putting.{front_put}

-- a run: its output cells and its writes
pub run_into : (L : Loops) (s s' : List ℤ) (w first size n : ℕ) (lent : List ℕ) {lent' : List ℕ} → state_of s' w ≡ run_of L 0 s
    → first ≡ all_cells L.inputs → size ≡ L.output → n ≡ length (finished_text (take size (drop first s')) w) → n ≤ 69648 → 69648 ≤ length lent
    → lent' ≡ sets lent 0 (finished_text (take size (drop first s')) w) → RunsInto L (finished (run_of L 0 s)) lent (Ok n) s' lent'
run_into L s s' w first size n lent {lent'} ran f o count few room put =
    let text : finished_text (take size (drop first s')) w ≡ outcome_text L (finished (run_of L 0 s)) =
    ap₂ (λ (i j : ℕ). finished_text (take i (drop j s')) w) o f ∙ ap (λ (st : State clamped32). outcome_text L (finished st)) ran in (
      count ∙ ap length text,
      ap (λ (st : State clamped32). st.store) ran,
      subst (λ (t : List ℕ). lent' ≡ t ++ drop (length t) lent) text (front_put (finished_text (take size (drop first s')) w) lent (omega (arith, count, few, room)) put),
    )

-- ---- the values, and then the run

module _ (v : List ℕ) (L : Loops) (s s₁ : List ℤ) (inputs output : ℕ) (laid : LaidOut L inputs output) {a : Answer}
    (I : ValuesInto v inputs s a s₁) where
  asked : after_values a L (with_values v (all_cells L.inputs) s) s ≡ values_run v L s
  unfolding values_run
  asked =
      ap (λ (y : Answer). after_values y L (with_values v (all_cells L.inputs) s) s)
      (I.answer ∙ ap (λ (n : ℕ). ask_values v n (length s)) laid.inputs_all)

  pub values_refused : {q : Refusal} → a ≡ Err q → values_run v L s ≡ refused q s₁
  values_refused {q} f =
      sym asked ∙ ap (λ (y : Answer). after_values y L (with_values v (all_cells L.inputs) s) s) f ∙ ap (refused q) (sym (I.kept q f))

  pub values_held : {m : ℕ} → a ≡ Ok m → values_run v L s ≡ finished (run_of L 0 s₁)
  values_held {m} f =
      sym asked ∙ ap (λ (y : Answer). after_values y L (with_values v (all_cells L.inputs) s) s) f
      ∙ ap (λ (l : List ℤ). finished (run_of L 0 l)) (ap (λ (n : ℕ). with_values v n s) (sym laid.inputs_all) ∙ sym (I.filled m f))

pub ready_same : (ks : List ℕ) (ns : List ℤ) (m n : ℕ) → m ≡ n → Ready ks ns n → Ready ks ns m
ready_same ks ns m n e ready = subst (Ready ks ns) (sym e) ready

-- ---- the check of a table

module _ (v ks : List ℕ) (ns : List ℤ) (s : List ℤ) {c : Checked} (e : c ≡ check_table (rows_of ks ns)) where
  abbrev L : Loops
  L = loops_of (rows_of ks ns)

  checked : {x : Checked} → c ≡ x → print_checked (check_table (rows_of ks ns)) v L s ≡ print_checked x v L s
  checked f = ap (λ (y : Checked). print_checked y v L s) (sym e ∙ f)

  pub check_refused : {q : Refusal} → c ≡ Err q → print_checked (check_table (rows_of ks ns)) v L s ≡ refused q s
  check_refused f = checked f

  module _ {p : Counted} (f : c ≡ Ok p) where
    pub store_short : length s < p.need → print_checked (check_table (rows_of ks ns)) v L s ≡ refused StoreSize s
    store_short h = checked f ∙ ap (λ (b : Bool). cond b (values_run v L s) (refused StoreSize s)) (lt-leb p.need (length s) h)

    pub passing_run : p.need ≤ length s → print_checked (check_table (rows_of ks ns)) v L s ≡ values_run v L s
    passing_run h = checked f ∙ ap (λ (b : Bool). cond b (values_run v L s) (refused StoreSize s)) (le-leb p.need (length s) h)

    pub ready : length ks ≡ length ns → length ks ≤ 4096 → p.need ≤ length s → Ready ks ns (length s)
    ready same few enough = record {
      same = same;
      few = few;
      writes = p.writes;
      need = p.need;
      passes = sym (few_rows (rows_of ks ns) (omega (arith, rows_length ks ns, few))) ∙ sym e ∙ f;
      enough = enough;
    }

-- ---- what is shown

module _ (text : List ℕ) (s : List ℤ) (lent : List ℕ) where
  pub lent_short : (end : List ℤ) → length lent < 69648 → ShownInto text end s lent (Err LentSize) s lent
  lent_short end h =
      let short : room_for_all lent ≡ false = lt-leb 69648 (length lent) h in
      record { answer = simp short; store_left = simp short; text_left = simp short }

  pub refusal_shown : {r : Answer} {lent' : List ℕ} → 69648 ≤ length lent → length text ≤ 45 → PutInto text lent r lent' → ShownInto text s s lent r s lent'
  unfolding printing
  refusal_shown h small I =
      let room : room_for_all lent ≡ true = le-leb 69648 (length lent) h in
      let fits : leb (length text) (length lent) ≡ true = le-leb (length text) (length lent) (omega (arith, h, small)) in
      record { answer = I.answer ∙ simp (fits, room); store_left = simp room; text_left = I.text_left ∙ simp (fits, room) }

-- ---- the reading of the loops

module _ (ws : List (List ℕ)) (t v : List ℕ) (s : List ℤ) where
  abbrev M : Loops
  M = loops_of (text_rows ws t)

  module _ {d : Answer} (i : d ≡ reading (head_of ws Words) loops_limits t) where
    read_so : {x : Answer} → d ≡ x → runner_outcome ws t v s ≡ print_checked (after_answer x (check_loops_rows (text_rows ws t))) v M s
    unfolding runner_outcome check_loops_text
    read_so f = ap (λ (y : Answer). print_checked (after_answer y (check_loops_rows (text_rows ws t))) v M s) (sym i ∙ f)

    pub reading_refused : {q : Refusal} → d ≡ Err q → runner_outcome ws t v s ≡ refused q s
    reading_refused f = read_so f

    pub table_run : {n : ℕ} {S : List Row} (lent lent' : List ℕ) (r : Answer) (s' : List ℤ) → d ≡ Ok n → n ≤ 4096 → S ≡ text_rows ws t
        → RunsInto (loops_of S) (print_checked (check_table S) v (loops_of S) s) lent r s' lent' → RunsInto M (runner_outcome ws t v s) lent r s' lent'
    table_run {n} {S} lent lent' r s' f few held I =
        let count = rows_read (head_of ws Words) loops_limits t n (sym i ∙ f) in
        subst (λ (x : Ran). RunsInto M x lent r s' lent')
        (ap (λ (x : Checked). print_checked x v M s) (few_rows (text_rows ws t) (omega (arith, count, few))) ∙ sym (read_so f))
        (subst (λ (R : List Row). RunsInto (loops_of R) (print_checked (check_table R) v (loops_of R) s) lent r s' lent') held I)

  -- what is printed of it
  module _ (lent lent' : List ℕ) (s' : List ℤ) (room : 69648 ≤ length lent) where
    shows_all : room_for_all lent ≡ true
    shows_all = le-leb 69648 (length lent) room

    pub run_shown : {n : ℕ} → RunsInto M (runner_outcome ws t v s) lent (Ok n) s' lent' → RunnerInto ws t v s lent (Ok n) s' lent'
    unfolding runner_text
    run_shown I = record { answer = ap Ok I.0 ∙ simp shows_all; store_left = I.1 ∙ simp shows_all; text_left = I.2 ∙ simp shows_all }

    pub refusal_run_shown : {q : Refusal} {l' : List ℕ} {r : Answer} → RunsInto M (runner_outcome ws t v s) lent (Err q) s' lent'
        → length (refusal_text q) ≤ 45 → PutInto (refusal_text q) lent' r l' → RunnerInto ws t v s lent r s' l'
    unfolding runner_text
    refusal_run_shown {q} {l'} {r} I small put =
        let shown = refusal_shown (refusal_text q) s' lent room small (subst (λ (l : List ℕ). PutInto (refusal_text q) l r l') I.1 put) in
        record {
          answer = shown.answer ∙ ap (λ (x : Ran). cond (room_for_all lent) (Ok (length (outcome_text M x))) (Err LentSize)) (sym I.0);
          store_left = ap (λ (x : Ran). x.store) (sym I.0) ∙ simp shows_all;
          text_left = shown.text_left ∙ ap (λ (x : Ran). filled (room_for_all lent) (outcome_text M x) lent) (sym I.0);
        }
