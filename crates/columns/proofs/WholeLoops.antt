-- Whole loops: the command stands behind the first row and the `cells` rows ([3.12]), nothing is in force there, and those rows are asked
-- nothing. Assumes nothing.
use mathlib.Core.Bool.{Bool, false}
use mathlib.Core.Path.{◌≡◌, refl, sym, ap, ap₂, subst, ◌∙◌}
use mathlib.Core.List.{List, [], ◌∷◌, ◌++◌, append-nil}
use mathlib.Core.Option.{Option, none, some}
use Prim.Native.Nat.{ℕ, suc, ◌+◌, ◌-◌, ◌≤◌}
use native.Mathlib.Omega.{arith}
use lib.IntN.{ℤ, pos}
use lib.ListN.{length, get_or, take, drop}
use Rattle.refusals.specs.declared.Refusal.{Refusal}
use Rattle.words.specs.Kinds.{Row, rows_of, word_loops, word_cells}
use Rattle.words.proofs.Laws.{rows_length}
use Rattle.meaning.specs.Loops.{Loops}
use Rattle.meaning.specs.Rows.{command_rows, all_cells_rows, loops_rows}
use Rattle.meaning.specs.Counts.{command_writes}
use Rattle.meaning.specs.Layout.{all_cells, need}
use Rattle.bounds.specs.Bounds.{ask_command, ask_bounds}
use Rattle.columns.specs.declared.Counted.{Counted}
use Rattle.std.specs.Prelude.{Ok, Err}
use Rattle.columns.specs.Table.{Stand}
use Rattle.columns.specs.Ends.{Ends}
use Rattle.words.specs.Groups.{one_of}
use Rattle.columns.specs.Names.{counter_words, region_words, closing, opens_by, push_if, framed, in_force, numbers_of, Named}
use Rattle.columns.specs.Figures.{capped_writes, capped_room, Figures, Rooms}
use Rattle.columns.specs.Asking.{is_access, no_at, first_from, told}
use Rattle.columns.specs.Whole.{asking}
use Rattle.syntax.specs.Ranges.{as_natural, cell_numbers}
use Rattle.syntax.proofs.LoopsTable as loops_table
use Rattle.columns.proofs.Tables as table
use Rattle.columns.proofs.CommandColumns.{writes_there, room_there}
use Rattle.columns.proofs.AskedTrees as asked

-- ---- the rows before the command

module _ (ks : List ℕ) (ns : List ℤ) (es : List ℕ) where
  next : (ws : List ℕ) (at k : ℕ) → get_or ks at 0 ≡ k → opens_by ws k ≡ false → framed ws ks es at ≡ [] → framed ws ks es (suc at) ≡ []
  unfolding framed
  next ws at k e o f = ap₂ (λ (x : Bool) (l : List ℕ). push_if x at (closing es at l)) (ap (opens_by ws) e ∙ o) f

  -- a row that opens nothing leaves an empty stack empty
  still : (ws : List ℕ) (at k : ℕ) → get_or ks at 0 ≡ k → opens_by ws k ≡ false → framed ws ks es at ≡ [] → framed ws ks es (at + 1) ≡ []
  still ws at k e o f = subst (λ (i : ℕ). framed ws ks es i ≡ []) (let s : suc at ≡ at + 1 = omega arith in s) (next ws at k e o f)

  front : (ws : List ℕ) → opens_by ws word_cells ≡ false → (ins : List ℕ) (at : ℕ) (z : ℤ) (rest : List Row)
      → Stand ks ns at (all_cells_rows ins ++ ((word_cells, z) ∷ rest)) → framed ws ks es at ≡ []
      → framed ws ks es (at + (length ins + 1)) ≡ []
  unfolding all_cells_rows
  front ws o [] at z rest s f = still ws at word_cells (table.kind s) o f
  front ws o (c ∷ ins) at z rest s f =
      subst (λ (i : ℕ). framed ws ks es i ≡ []) (let t : at + 1 + (length ins + 1) ≡ at + (suc (length ins) + 1) = omega arith in t)
      (front ws o ins (at + 1) z rest (table.next s) (still ws at word_cells (table.kind s) o f))

  command_stands : (ins : List ℕ) (at i : ℕ) (z : ℤ) (rest : List Row) → i ≡ at + (length ins + 1)
      → Stand ks ns at (all_cells_rows ins ++ ((word_cells, z) ∷ rest)) → Stand ks ns i rest
  unfolding all_cells_rows
  command_stands [] at i z rest e s = subst (λ (j : ℕ). Stand ks ns j rest) (let t : at + 1 ≡ i = omega (arith, e) in t) (table.next s)
  command_stands (c ∷ ins) at i z rest e s = command_stands ins (at + 1) i z rest (omega (arith, e)) (table.next s)

framed_zero : (ws : List ℕ) (ks es : List ℕ) → framed ws ks es 0 ≡ []
unfolding framed
framed_zero ws ks es = refl

-- ---- the answer

-- whatever is told where there is no "no", a "no" is told alike
told_no : {A B : Type 0} (x : A) (y : B) (o : Option Refusal) (q : Refusal) → Err q ≡ told x o → Err q ≡ told y o
told_no x y none q e = absurd (let z : ◌≡◌ {A = ℕ} 0 1 = cc in omega arith)
told_no x y (some p) q e = let i : q ≡ p = cc in ap Err i

told_none : {A B : Type 0} (x : A) (y : B) (o : Option Refusal) → Ok x ≡ told x o → Ok y ≡ told y o
told_none x y none e = refl
told_none x y (some p) e = absurd (let z : ◌≡◌ {A = ℕ} 0 1 = cc in omega arith)

-- what an answer says
pub asking_refused : (w c : ℕ) (o : Option Refusal) (q : Refusal) → Err q ≡ asking w c o → o ≡ some q
asking_refused w c none q e = absurd (let z : ◌≡◌ {A = ℕ} 0 1 = cc in omega arith)
asking_refused w c (some p) q e = let x : p ≡ q = cc in ap some x

pub asking_passed : (a : Counted) (w c : ℕ) (o : Option Refusal) → Ok a ≡ asking w c o
    → (o ≡ none) × (a.writes ≡ capped_writes w) × (a.need ≡ capped_room c)
asking_passed a w c none e =
    let x : a ≡ record { writes = capped_writes w; need = capped_room c } = cc in
    (refl, ap (λ (b : Counted). b.writes) x, ap (λ (b : Counted). b.need) x)
asking_passed a w c (some p) e = absurd (let z : ◌≡◌ {A = ℕ} 0 1 = cc in omega arith)

module _ (ks : List ℕ) (ns : List ℤ) (es ms fs : List ℕ) (E : Ends ks es) (N : Named ks ns es ms) (F : Figures ks ns es ms fs)
    (same : length ks ≡ length ns) (short : length ks ≤ 4096) (L : Loops) (e : rows_of ks ns ≡ loops_rows L) where
  all_stand : Stand ks ns 0 (loops_rows L)
  all_stand = record {
    begins = record { behind = []; front = e ∙ sym (append-nil (loops_rows L)) };
    within = omega (arith, short, same, rows_length ks ns, ap length e);
  }

  rows_here : length ks ≡ length (loops_rows L)
  rows_here = let a = rows_length ks ns in let b = ap (λ (l : List Row). length l) e in omega (arith, a, b, same)

  abbrev behind : List Row
  behind = (word_cells, pos L.output) ∷ command_rows L.command

  command_here : (q : ℕ) → q ≡ 2 + length L.inputs → Stand ks ns q (command_rows L.command)
  unfolding loops_rows
  command_here q i =
      command_stands ks ns es L.inputs (0 + 1) q (pos L.output) (command_rows L.command) (omega (arith, i)) (table.next all_stand)

  none_framed : (ws : List ℕ) → opens_by ws word_loops ≡ false → opens_by ws word_cells ≡ false → framed ws ks es (0 + 1 + (length L.inputs + 1)) ≡ []
  unfolding loops_rows
  none_framed ws o u =
      front ks ns es ws u L.inputs (0 + 1) (pos L.output) (command_rows L.command) (table.next all_stand)
      (still ks ns es ws 0 word_loops (table.kind all_stand) o (framed_zero ws ks es))

  -- ---- question 9

  module _ (ins : List ℕ) (out : ℕ) where
    abbrev bad : ℕ → Bool
    bad = no_at ks ns ms fs ins out

    skip : (at k n : ℕ) → get_or ks at 0 ≡ k → is_access k ≡ false → first_from bad at (suc n) ≡ first_from bad (at + 1) n
    skip at k n f a = asked.skip ks ns es ms fs E F N ins out at k n f a

    -- the `cells` rows are asked nothing
    past_cells : (l : List ℕ) (at i : ℕ) (z : ℤ) (rest : List Row) → i ≡ at + (length l + 1)
        → Stand ks ns at (all_cells_rows l ++ ((word_cells, z) ∷ rest))
        → first_from bad at (length (all_cells_rows l ++ ((word_cells, z) ∷ rest))) ≡ first_from bad i (length rest)
    unfolding all_cells_rows is_access
    past_cells [] at i z rest f s =
        skip at word_cells (length rest) (table.kind s) refl ∙ ap (λ (j : ℕ). first_from bad j (length rest)) (let t : at + 1 ≡ i = omega (arith, f) in t)
    past_cells (c ∷ l) at i z rest f s =
        skip at word_cells (length (all_cells_rows l ++ ((word_cells, z) ∷ rest))) (table.kind s) refl
        ∙ past_cells l (at + 1) i z rest (omega (arith, f)) (table.next s)

    all_rows : (q : ℕ) → q ≡ 2 + length L.inputs → first_from bad 0 (length ks) ≡ first_from bad q (length (command_rows L.command))
    unfolding loops_rows is_access
    all_rows q i =
        ap (first_from bad 0) rows_here
        ∙ skip 0 word_loops (length (all_cells_rows L.inputs ++ behind)) (table.kind all_stand) refl
        ∙ past_cells L.inputs (0 + 1) q (pos L.output) (command_rows L.command) (omega (arith, i)) (table.next all_stand)

  asked_whole : (q : ℕ) → q ≡ 2 + length L.inputs → first_from (no_at ks ns ms fs L.inputs L.output) 0 (length ks) ≡ ask_bounds L
  unfolding ask_bounds in_force one_of
  asked_whole q i =
      all_rows L.inputs L.output q i
      ∙ asked.ask_command_holds ks ns es ms fs E F N L.inputs L.output q [] [] L.command (command_here q i)
      (record {
        loops = ap (λ (l : List ℕ). numbers_of ns (closing es q l)) (ap (framed counter_words ks es) at_q ∙ none_framed counter_words refl refl);
        rooms = ap (λ (l : List ℕ). numbers_of ns (closing es q l)) (ap (framed region_words ks es) at_q ∙ none_framed region_words refl refl);
      })
      ∙ ap (λ (l : ℕ). ask_command L.inputs L.output [] [] l L.command) (let t : q + 1 ≡ 3 + length L.inputs = omega (arith, i) in t)
    where
      at_q : q ≡ 0 + 1 + (length L.inputs + 1)
      at_q = omega (arith, i)

  -- ---- the answer from what the table's numbers say: n inputs, and the output behind them

  module _ (n out : ℕ) (f : n ≡ as_natural (get_or ns 0 (pos 0))) (g : out ≡ as_natural (get_or ns (1 + n) (pos 0))) where
    abbrev pub inputs_read : List ℕ
    inputs_read = cell_numbers (take (1 + n - 1) (drop 1 ns))

    counted : n ≡ length L.inputs
    counted = loops_table.inputs_counted_holds ks ns same L e f

    inputs_here : inputs_read ≡ L.inputs
    inputs_here = loops_table.inputs_there ks ns same L e (1 + n - 1) (omega (arith, counted))

    output_here : out ≡ L.output
    output_here = loops_table.output_there ks ns same L e out (1 + n) (omega (arith, counted)) g

    command_row : 1 + n + 1 ≡ 2 + length L.inputs
    command_row = omega (arith, counted)

    abbrev first_no : Option Refusal
    first_no = first_from (no_at ks ns ms fs inputs_read out) 0 (length ks)

    first_here : first_no ≡ ask_bounds L
    first_here =
        ap₂ (λ (l : List ℕ) (o : ℕ). first_from (no_at ks ns ms fs l o) 0 (length ks)) inputs_here output_here ∙ asked_whole (1 + n + 1) command_row

    pub refused : (r : Refusal) → Err r ≡ told (tt {0}) first_no → Err r ≡ asking (command_writes L.command) (need L) (ask_bounds L)
    refused r h = told_no (tt {0}) _ (ask_bounds L) r (h ∙ ap (told (tt {0})) first_here)

    need_here : (rs : List ℕ) → Rooms ks ns es rs → (i c v : ℕ) → i ≡ all_cells inputs_read → c ≡ capped_room (i + out)
        → v ≡ capped_room (c + get_or rs (1 + n + 1) 0) → v ≡ capped_room (need L)
    unfolding need
    need_here rs R i c v h j k =
        let t = room_there ks ns es E rs R (1 + n + 1) L.command (command_here (1 + n + 1) command_row) in
        omega (arith, t, k, j, h ∙ ap all_cells inputs_here, output_here)

    pub passed : (rs : List ℕ) → Rooms ks ns es rs → (w i c r v : ℕ) → Ok (tt {0}) ≡ told (tt {0}) first_no → w ≡ get_or fs (1 + n + 1) 0
        → i ≡ all_cells inputs_read → c ≡ capped_room (i + out) → r ≡ get_or rs (1 + n + 1) 0 → v ≡ capped_room (c + r)
        → Ok (record { writes = w; need = v }) ≡ asking (command_writes L.command) (need L) (ask_bounds L)
    passed rs R w i c r v h x j k y z =
        ap₂ (λ (l m : ℕ). Ok (record { writes = l; need = m })) (x ∙ writes_there ks ns es E ms fs F (1 + n + 1) L.command (command_here (1 + n + 1) command_row))
        (need_here rs R i c v j k (z ∙ ap (λ (m : ℕ). capped_room (c + m)) y))
        ∙ told_none (tt {0}) _ (ask_bounds L) (h ∙ ap (told (tt {0})) first_here)
