-- A plan whose types were found: its head's numbers, where its term stands, and that head rows and the written term make up its loops.
-- Assumes nothing.
use mathlib.Core.Path.{◌≡◌, refl, ap, ap₂, sym, subst, ◌∙◌}
use mathlib.Core.List.{List, [], ◌∷◌, ◌++◌, map, append-nil}
use Prim.Native.Nat.{ℕ, suc, ◌+◌, ◌-◌, ◌≤◌, ◌<◌}
use native.Mathlib.Omega.{arith}
use lib.IntN.{ℤ, pos}
use lib.ListN.{length, get_or, take, drop, length-append, length-map}
use lib.Seq.{drop_at, length-take-le, get_or-take, take-length}
use Rattle.std.proofs.lemmas.List.{map_more}
use Rattle.words.specs.Kinds.{Row, rows_of, word_plan, word_loops, word_cells, word_out}
use Rattle.words.proofs.Laws.{rows_length}
use Rattle.meaning.specs.Types.{DataType, number, cells}
use Rattle.meaning.specs.Terms.{Plan}
use Rattle.meaning.specs.Expressions.{Acceptor}
use Rattle.meaning.specs.Rows.{all_type_rows, term_rows, plan_rows, all_cells_rows, command_rows, loops_rows}
use Rattle.meaning.specs.Translation.{write_term, plan_type, translation}
use Rattle.syntax.specs.Ranges.{as_natural}
use Rattle.syntax.specs.Standing.{TermStands}
use Rattle.syntax.proofs.WalkSteps.{part_all, rows_part}
use Rattle.syntax.proofs.Front.{part, part_length, head_row}
use Rattle.type_table.specs.Table.{type_at}
use Rattle.type_table.specs.Columns.{Noted}
use Rattle.emission.specs.Nodes.{node_of, left_in, right_in}
use Rattle.emission.specs.References.{acceptor_at, acceptor_over, no_acceptor}
use Rattle.emission.specs.Table.{Table, put_row, put_rows}
use Rattle.emission.specs.Laws.Nodes.{kind_node, type_node, left_node, right_node}
use Rattle.emission.specs.Growth.{Pushed}
use Rattle.emission.specs.Laws.Growth.{node_pushed}
use Rattle.emission.specs.Laws.Table.{put_append}
use Rattle.clauses.specs.declared.State.{State}
use Rattle.row_translation.specs.WriteAndUse.{Stands, Room, nodes_written, ReadyToWrite}
use Rattle.translate.specs.Entry.{made_rows}
use Rattle.translate.specs.Making.{cells_at, PlanNoted, SomePlanNoted}

-- ---- the head

-- the cells of the inputs' types, at places that name them
same_cells : (Y ps : List ℕ) (I : List DataType) → length I ≤ length ps
    → ((k : ℕ) → k < length I → type_at Y (get_or ps k 0) ≡ get_or I k number) → cells_at Y (take (length I) ps) ≡ map cells I
same_cells Y ps [] h f = refl
same_cells Y [] (t ∷ I) h f = absurd (omega arith)
same_cells Y (p ∷ ps) (t ∷ I) h f =
    ap₂ (λ (c : ℕ) (cs : List ℕ). c ∷ cs) (ap cells (f 0 (omega arith)))
    (same_cells Y ps I (omega arith) (λ k g. f (suc k) (omega arith)))

-- one row `cells` more
cells_joined : (xs ys : List ℕ) → all_cells_rows (xs ++ ys) ≡ all_cells_rows xs ++ all_cells_rows ys
unfolding all_cells_rows
cells_joined [] ys = refl
cells_joined (x ∷ xs) ys = ap (λ (l : List Row). (word_cells, pos x) ∷ l) (cells_joined xs ys)

-- the rows `cells` of places: none yet, and one more
pub cells_none : (Y ps : List ℕ) (o : Table) → o ≡ put_rows (all_cells_rows (cells_at Y (take 0 ps))) o
unfolding put_rows all_cells_rows
cells_none Y ps o = refl

pub cells_more : (Y ps : List ℕ) (i : ℕ) (o o' o'' : Table) → i < length ps → o' ≡ put_rows (all_cells_rows (cells_at Y (take i ps))) o
    → o'' ≡ put_row o' (word_cells, pos (cells (type_at Y (get_or ps i 0)))) → o'' ≡ put_rows (all_cells_rows (cells_at Y (take (i + 1) ps))) o
unfolding put_rows all_cells_rows
cells_more Y ps i o o' o'' h p q =
    let x : ℕ = cells (type_at Y (get_or ps i 0)) in
    q ∙ ap (λ (u : Table). put_row u (word_cells, pos x)) p
    ∙ sym (put_append (all_cells_rows (cells_at Y (take i ps))) ((word_cells, pos x) ∷ []) o)
    ∙ ap (λ (l : List Row). put_rows l o) (sym (cells_joined (cells_at Y (take i ps)) (x ∷ [])))
    ∙ ap (λ (l : List ℕ). put_rows (all_cells_rows l) o) (sym (map_more (λ (k : ℕ). cells (type_at Y k)) ps i 0 h))

pub cells_all : (Y ps : List ℕ) (i : ℕ) (o o' : Table) → i ≡ length ps → o' ≡ put_rows (all_cells_rows (cells_at Y (take i ps))) o
    → o' ≡ put_rows (all_cells_rows (cells_at Y ps)) o
cells_all Y ps i o o' e p = p ∙ ap (λ (l : List ℕ). put_rows (all_cells_rows (cells_at Y l)) o) (ap (λ (n : ℕ). take n ps) e ∙ take-length ps)

-- the output, as node 1
pub output_node : (Y T U : List ℕ) (place : ℕ) → place < 65536 → Pushed T U 1 (node_of word_out place 0 0 0)
    → acceptor_at Y U 1 ≡ Acceptor.output (type_at Y place)
output_node Y T U place h p =
    let w : ℕ = node_of word_out place 0 0 0 in
    let a : left_in w ≡ 0 = left_node word_out place 0 0 0 h (omega arith) (omega arith) (omega arith) in
    let b : right_in w ≡ 0 = right_node word_out place 0 0 0 h (omega arith) (omega arith) (omega arith) in
    node_pushed no_acceptor (acceptor_over Y) T U 1 w p (omega (arith, a)) (omega (arith, b))
    ∙ rw (kind_node word_out place 0 0 0 h (omega arith) (omega arith) (omega arith), type_node word_out place 0 0 0 h (omega arith) (omega arith) (omega arith)) refl

-- ---- the term

module _ (ks : List ℕ) (ns : List ℤ) (C Y places : List ℕ) (row place : ℕ) (P : Plan) (A : PlanNoted ks ns C Y places row place P) where
  abbrev I : List DataType
  I = P.inputs

  plan_rows_holds : rows_of ks ns ≡ (word_plan, pos (length I)) ∷ (all_type_rows I ++ term_rows P.term)
  unfolding plan_rows
  plan_rows_holds = A.stands.0

  pub inputs_count : as_natural (get_or ns 0 (pos 0)) ≡ length I
  inputs_count = ap as_natural (head_row ks ns _ _ plan_rows_holds).1

  module _ (sizes : length ks ≡ length ns) where
    rows_count : length ks ≡ 1 + length (all_type_rows I) + length (term_rows P.term)
    rows_count =
        omega (arith, sizes, rows_length ks ns, ap length plan_rows_holds, length-append (all_type_rows I) (term_rows P.term))

    pub some_row : 1 ≤ length ns
    some_row = omega (arith, rows_count, sizes)

    pub row_within : row ≤ length ks
    row_within = omega (arith, rows_count, A.first)

    pub term_stands : TermStands (part row ks) (part row ns) (length I) 0 P.term
    term_stands =
        let q : row ≡ suc (length (all_type_rows I)) = omega (arith, A.first) in
        record {
          sizes = omega (arith, part_length row ks, part_length row ns, sizes);
          rest = [];
          rows =
              rows_part row ks ns
              ∙ ap₂ drop q plan_rows_holds
              ∙ drop_at (all_type_rows I) (term_rows P.term) (length (all_type_rows I)) refl
              ∙ sym (append-nil (term_rows P.term));
          in_range = A.stands.1.term;
        }

    module _ (few : length ks ≤ 256) (column : 256 ≤ length C) (T : List ℕ) (s : State)
        (none : s.count ≡ 0) (long : length s.variables ≡ 16) where
      pub plan_stands : Stands (part row ks) (part row ns) (part row C) Y ns T s I [] [] P.term
      plan_stands =
          let k = part_length row ks in
          let n = part_length row ns in
          let back : length ns - length (part row ns) ≡ row = omega (arith, n, row_within, sizes) in
          record {
            rows = term_stands;
            noted = subst (λ (D : List ℕ). Noted Y (length Y) I [] P.term D) (sym (part_all C row)) A.noted;
            named = refl;
            variables = record { each = λ d h. absurd (omega arith); count = none; few = omega (arith, none); long = long };
            literals = (omega (arith, n), part_all ns row ∙ ap (λ (i : ℕ). drop i ns) (sym back));
            column = omega (arith, k, part_length row C, few, column);
            inputs = A.stands.1.inputs_few;
          }

      pub plan_room : s.len ≡ 2 → s.counters ≡ 0 → s.regions ≡ 0 → length T ≡ 1024 → Room (nodes_written P.term) Y ns T s
      plan_room l c r t =
          let more : nodes_written P.term ≤ 768 = omega (arith, rows_count, few) in
          record {
            types = A.sound;
            some = omega (arith, l);
            nodes = omega (arith, l, more);
            size = t;
            counters = omega (arith, c, more);
            regions = omega (arith, r, more);
            plan = omega (arith, sizes, few);
          }

  -- ---- the whole

  abbrev command : Acceptor → List Row
  command Q = command_rows (write_term I P.term [] [] 0 0 Q)

  pub loops_put : (count : ℕ) (o o₁ o₂ o₃ o₄ : Table) (T U : List ℕ) → length places ≡ 8 → place < 65536
      → count ≡ as_natural (get_or ns 0 (pos 0))
      → o₁ ≡ put_row o (word_loops, pos count)
      → o₂ ≡ put_rows (all_cells_rows (cells_at Y (take count places))) o₁
      → o₃ ≡ put_row o₂ (word_cells, pos (cells (type_at Y place)))
      → Pushed T U 1 (node_of word_out place 0 0 0)
      → o₄ ≡ put_rows (command (acceptor_at Y U 1)) o₃
      → o₄ ≡ put_rows (made_rows P) o
  unfolding put_rows loops_rows translation
  loops_put count o o₁ o₂ o₃ o₄ T U eight low c e₁ e₂ e₃ node e₄ =
      let n : count ≡ length I = c ∙ inputs_count in
      let m : count ≡ length (map cells I) = n ∙ sym (length-map I cells) in
      let f = A.stands.1.inputs_few in
      let h : all_cells_rows (cells_at Y (take count places)) ≡ all_cells_rows (map cells I) =
      ap all_cells_rows (ap (λ (i : ℕ). cells_at Y (take i places)) n
      ∙ same_cells Y places I (omega (arith, eight, f)) (λ k g. (A.inputs k g).1)) in
      let t : type_at Y place ≡ plan_type P = A.type.1 in
      let w : command (acceptor_at Y U 1) ≡ command (Acceptor.output (plan_type P)) =
      ap command (output_node Y T U place low node ∙ ap Acceptor.output t) in
      let g₁ : o₁ ≡ put_row o (word_loops, pos (length (map cells I))) = e₁ ∙ ap (λ (i : ℕ). put_row o (word_loops, pos i)) m in
      let g₂ : o₂ ≡ put_rows (all_cells_rows (map cells I)) (put_row o (word_loops, pos (length (map cells I)))) =
      e₂ ∙ ap₂ put_rows h g₁ in
      let g₃ : o₃ ≡ put_row (put_rows (all_cells_rows (map cells I)) (put_row o (word_loops, pos (length (map cells I))))) (word_cells, pos (cells (plan_type P))) =
      e₃ ∙ ap₂ (λ (x : Table) (u : DataType). put_row x (word_cells, pos (cells u))) g₂ t in
      e₄ ∙ ap₂ put_rows w g₃
      ∙ sym (put_append (all_cells_rows (map cells I)) ((word_cells, pos (cells (plan_type P))) ∷ command (Acceptor.output (plan_type P)))
      (put_row o (word_loops, pos (length (map cells I)))))

-- ---- what the code asks on its way

module _ {ks : List ℕ} {ns : List ℤ} {C Y places : List ℕ} {row place : ℕ} (S : SomePlanNoted ks ns C Y places row place) where
  pub head_there : 1 ≤ length ns
  head_there = some_row ks ns C Y places row place S.plan S.noted S.sizes

  pub rows_there : row ≤ length ks
  rows_there = row_within ks ns C Y places row place S.plan S.noted S.sizes

  pub numbers_there : row ≤ length ns
  numbers_there = omega (arith, rows_there, S.sizes)

  pub column_there : row ≤ length C
  column_there = omega (arith, rows_there, S.few, S.column)

  pub place_below : place < length Y
  place_below = S.noted.type.0

  pub place_low : place < 65536
  place_low = omega (arith, place_below, S.noted.sound.few)

  module _ (count : ℕ) (e : count ≡ as_natural (get_or ns 0 (pos 0))) where
    counted : count ≡ length S.plan.inputs
    counted = e ∙ inputs_count ks ns C Y places row place S.plan S.noted

    pub few_inputs : count ≤ 8
    few_inputs = omega (arith, counted, S.noted.stands.1.inputs_few)

    pub inputs_length : length (take count places) ≡ count
    inputs_length = length-take-le count places (omega (arith, few_inputs, S.places))

    pub inputs_below_holds : (k : ℕ) → k < length (take count places) → get_or (take count places) k 0 < length Y
    inputs_below_holds k h =
        let g : get_or (take count places) k 0 ≡ get_or places k 0 = get_or-take count places k 0 (omega (arith, h, inputs_length)) in
        let n = (S.noted.inputs k (omega (arith, h, inputs_length, counted))).0 in
        omega (arith, g, n)

  pub ready : (T : List ℕ) (s : State) → s.count ≡ 0 → length s.variables ≡ 16 → s.len ≡ 2 → s.counters ≡ 0 → s.regions ≡ 0 → length T ≡ 1024
      → ReadyToWrite (part row ks) (part row ns) (part row C) Y ns T s
  ready T s a b l c r t = (
    record {
      inputs = S.plan.inputs;
      variables = [];
      expressions = [];
      term = S.plan.term;
      stands = plan_stands ks ns C Y places row place S.plan S.noted S.sizes S.few S.column T s a b;
    },
    plan_room ks ns C Y places row place S.plan S.noted S.sizes S.few S.column T s a b l c r t,
  )
