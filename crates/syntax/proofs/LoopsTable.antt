-- A table that holds the rows of loops: where its parts lie. Assumes nothing.
use mathlib.Core.Path.{◌≡◌, refl, sym, ap, ap₂, ◌∙◌}
use mathlib.Core.List.{List, [], ◌∷◌, ◌++◌, append-nil, append_assoc, map}
use Prim.Native.Nat.{ℕ, suc, ◌+◌, ◌≤◌}
use native.Mathlib.Omega.{arith}
use lib.IntN.{ℤ, pos}
use lib.ListN.{length, get_or, drop, take, length-append, length-map}
use lib.Seq.{get_or-append-add, take_at}
use Rattle.words.specs.Kinds.{Row, rows_of, word_loops, word_cells}
use Rattle.words.proofs.Laws.{rows_length}
use Rattle.meaning.specs.Loops.{Loops}
use Rattle.meaning.specs.Rows.{command_rows, all_cells_rows, loops_rows}
use Rattle.syntax.specs.Ranges.{as_natural, cell_numbers}
use Rattle.syntax.specs.Standing.{Begins}
use Rattle.syntax.proofs.Front as table
use Rattle.syntax.proofs.Front.{part}

-- ---- numbers of a table

numbers_in : (ks : List ℕ) (ns : List ℤ) → length ks ≡ length ns → map (λ (r : Row). r.1) (rows_of ks ns) ≡ ns
unfolding rows_of
numbers_in [] [] e = refl
numbers_in [] (n ∷ ns) e = absurd (omega arith)
numbers_in (k ∷ ks) [] e = absurd (omega arith)
numbers_in (k ∷ ks) (n ∷ ns) e = ap (λ (l : List ℤ). n ∷ l) (numbers_in ks ns (omega arith))

cells_numbers : (l : List ℕ) (b : List Row) → map (λ (r : Row). r.1) (all_cells_rows l ++ b) ≡ map pos l ++ map (λ (r : Row). r.1) b
unfolding all_cells_rows
cells_numbers [] b = refl
cells_numbers (n ∷ l) b = ap (λ (x : List ℤ). pos n ∷ x) (cells_numbers l b)

cells_length : (l : List ℕ) → length (all_cells_rows l) ≡ length l
unfolding all_cells_rows
cells_length [] = refl
cells_length (n ∷ l) = ap suc (cells_length l)

cells_back : (l : List ℕ) → cell_numbers (map pos l) ≡ l
cells_back [] = refl
cells_back (n ∷ l) = ap (λ (x : List ℕ). n ∷ x) (cells_back l)

-- ---- the table of loops

module _ (ks : List ℕ) (ns : List ℤ) (same : length ks ≡ length ns) (L : Loops) (e : rows_of ks ns ≡ loops_rows L) where
  abbrev K : ℕ
  K = length L.inputs

  abbrev behind : List Row
  behind = (word_cells, pos L.output) ∷ command_rows L.command

  front : Begins ks ns (loops_rows L)
  front = record { behind = []; front = e ∙ sym (append-nil (loops_rows L)) }

  pub table_filled : length ns ≡ 0 → ⊥
  unfolding loops_rows
  table_filled h = table.begins_none ks ns _ _ (same ∙ h) front

  pub inputs_counted_holds : {n : ℕ} → n ≡ as_natural (get_or ns 0 (pos 0)) → n ≡ K
  unfolding loops_rows
  inputs_counted_holds q = q ∙ ap as_natural (table.number front)

  pub table_long : K + 2 ≤ length ns
  unfolding loops_rows
  table_long =
      let a = rows_length ks ns in
      let b = ap (λ (l : List Row). length l) e in
      omega (arith, a, b, same, length-append (all_cells_rows L.inputs) behind, cells_length L.inputs)

  numbers : ns ≡ pos K ∷ (map pos L.inputs ++ (pos L.output ∷ map (λ (r : Row). r.1) (command_rows L.command)))
  unfolding loops_rows
  numbers =
      sym (numbers_in ks ns same) ∙ ap (map (λ (r : Row). r.1)) e ∙ ap (λ (x : List ℤ). pos K ∷ x) (cells_numbers L.inputs behind)

  pub output_there : (n i : ℕ) → i ≡ 1 + K → n ≡ as_natural (get_or ns i (pos 0)) → n ≡ L.output
  output_there n i j q =
      let a : List ℤ = pos K ∷ map pos L.inputs in
      let b : List ℤ = pos L.output ∷ map (λ (r : Row). r.1) (command_rows L.command) in
      let l : i ≡ length a + 0 = omega (arith, j, length-map L.inputs pos) in
      q ∙ ap as_natural (ap₂ (λ (x : List ℤ) (y : ℕ). get_or x y (pos 0)) numbers l ∙ get_or-append-add a b 0 (pos 0))

  pub inputs_there : (n : ℕ) → n ≡ K → cell_numbers (take n (drop 1 ns)) ≡ L.inputs
  inputs_there n j =
      let b : List ℤ = pos L.output ∷ map (λ (r : Row). r.1) (command_rows L.command) in
      let l : length (map pos L.inputs) ≡ n = omega (arith, j, length-map L.inputs pos) in
      ap (λ (x : List ℤ). cell_numbers (take n (drop 1 x))) numbers ∙ ap cell_numbers (take_at (map pos L.inputs) b n l) ∙ cells_back L.inputs

  pub command_there : (n : ℕ) → n ≡ 2 + K → Begins (part n ks) (part n ns) (command_rows L.command)
  unfolding loops_rows
  command_there n j =
      let a : List Row = all_cells_rows L.inputs ++ ((word_cells, pos L.output) ∷ []) in
      let b : List Row = command_rows L.command in
      let l : n ≡ length ((word_loops, pos K) ∷ a) =
      omega (arith, j, length-append (all_cells_rows L.inputs) ((word_cells, pos L.output) ∷ []), cells_length L.inputs) in
      let f : rows_of ks ns ≡ (((word_loops, pos K) ∷ a) ++ b) ++ [] =
      e ∙ ap (λ (x : List Row). (word_loops, pos K) ∷ x) (sym (append_assoc (all_cells_rows L.inputs) ((word_cells, pos L.output) ∷ []) b))
      ∙ sym (append-nil (((word_loops, pos K) ∷ a) ++ b)) in
      table.hind ((word_loops, pos K) ∷ a) b n l (record { behind = []; front = f })
