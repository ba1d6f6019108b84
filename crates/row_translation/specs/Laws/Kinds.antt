-- Terms by the kind of their first row, as the code asks for it: what is used and written of each. Assumes nothing.
use Rattle.std.specs.Prelude.{◌≡◌, true, false, List, ◌∷◌, ◌++◌, ℕ, suc, ◌+◌, ℤ, pos}
use Rattle.std.proofs.Math.Path.{refl}
use Rattle.std.proofs.Common.{ap, sym, ◌∙◌}
use Rattle.words.specs.Kinds.{word_redseq, word_new, word_seq}
use Rattle.words.specs.Words.{table, operands_of}
use Rattle.meaning.specs.Types.{DataType, Series, series_of, cells, array_length, element}
use Rattle.meaning.specs.Terms.{Term, series_in}
use Rattle.meaning.specs.Typing.{type_of}
use Rattle.meaning.specs.Loops.{Offset}
use Rattle.meaning.specs.Expressions.{Expression, Acceptor}
use Rattle.meaning.specs.Translation.{write_term}
use Rattle.meaning.specs.Rows.{command_rows}
use Rattle.meaning.proofs.Laws.UseRows.{use_rows, expression_of, regions_opened, reduce_rows, IsAssigned, write_rows_map}
use Rattle.syntax.specs.Standing.{term_kind, term_number, operand_count, first_operand, second_operand, third_operand, second_opens}
use Rattle.syntax.proofs.Standing.{three_operands}
use Rattle.syntax.proofs.Shapes.{Reduction, as_reduction, Map, as_map, map_opens}
use Rattle.emission.specs.References.{class_of}
use Rattle.words.specs.Groups.{one_of, is_leaf, is_map, has_one_operand}
use Rattle.clauses.specs.Clauses.{node_kind, number_over, map_loop, is_paired, first_part, second_part, is_grouping, is_regrouped, regrouped_by, region_node}
use Rattle.emission.specs.Laws.Readings.{read_by, write_by}
use Rattle.row_translation.specs.Laws.Words.{true_false, false_true, operation_word_holds, operation_read, map_word_holds}
use Rattle.row_translation.specs.Laws.Words.{split_word_holds, join_word_holds, index_word_holds}

module _ (I : List DataType) where
  -- ---- one operand

  pub record OneOperand (e : Term) : Type 0 where
    pub count : operand_count e ≡ 1
    pub opened : regions_opened e ≡ regions_opened (first_operand e)
    pub rows : (Γ : List DataType) (Δ : List Expression) (c r : ℕ) → use_rows I e Γ Δ c r ≡ use_rows I (first_operand e) Γ Δ c r
    pub reads : (Y : List ℕ) (N : List ℤ) (Γ : List DataType) (Δ : List Expression) (r : ℕ) (F : Expression)
        → read_by (class_of (node_kind (term_kind e))) Y N (node_kind (term_kind e)) 0 (number_over (term_kind e) (term_number e) (type_of I Γ (first_operand e)))
        (expression_of I (first_operand e) Γ Δ r) F
        ≡ expression_of I e Γ Δ r

  pub one_operand : (e : Term) → has_one_operand (term_kind e) ≡ true → OneOperand e
  unfolding use_rows expression_of one_of operands_of table
  one_operand (Term.input k) h = false_true h
  one_operand (Term.variable d) h = false_true h
  one_operand (Term.literal v) h = false_true h
  one_operand (Term.negate e) h = record { count = refl; opened = refl; rows = λ Γ Δ c r. refl; reads = λ Y N Γ Δ r F. refl }
  one_operand (Term.operation o e f) h = false_true (sym (operation_word_holds o).no_one ∙ h)
  one_operand (Term.map m a b) h = false_true (sym (map_word_holds m).no_one ∙ h)
  one_operand (Term.reduce z a b) h = false_true h
  one_operand (Term.zip a b) h = false_true h
  one_operand (Term.pair a b) h = false_true h
  one_operand (Term.split series n e) h = record { count = refl; opened = refl; rows = λ Γ Δ c r. refl; reads = λ Y N Γ Δ r F. rw (split_word_holds series).node refl }
  one_operand (Term.join series e) h = record { count = refl; opened = refl; rows = λ Γ Δ c r. refl; reads = λ Y N Γ Δ r F. rw (join_word_holds series).node refl }
  one_operand (Term.first e) h = record { count = refl; opened = refl; rows = λ Γ Δ c r. refl; reads = λ Y N Γ Δ r F. refl }
  one_operand (Term.second e) h = record { count = refl; opened = refl; rows = λ Γ Δ c r. refl; reads = λ Y N Γ Δ r F. refl }
  one_operand (Term.index series k e) h = record { count = refl; opened = refl; rows = λ Γ Δ c r. refl; reads = λ Y N Γ Δ r F. rw (index_word_holds series).node refl }

  -- ---- two operands of which both are used

  pub record TwoOperands (e : Term) : Type 0 where
    pub count : operand_count e ≡ 2
    pub opens : second_opens e ≡ 0
    pub opened : regions_opened e ≡ regions_opened (first_operand e) + regions_opened (second_operand e)
    pub rows : (Γ : List DataType) (Δ : List Expression) (c r : ℕ)
        → use_rows I e Γ Δ c r ≡ use_rows I (first_operand e) Γ Δ c r ++ use_rows I (second_operand e) Γ Δ c (r + regions_opened (first_operand e))
    pub reads : (Y : List ℕ) (N : List ℤ) (Γ : List DataType) (Δ : List Expression) (r : ℕ)
        → read_by (class_of (term_kind e)) Y N (term_kind e) 0 0 (expression_of I (first_operand e) Γ Δ r) (expression_of I (second_operand e) Γ Δ (r + regions_opened (first_operand e)))
        ≡ expression_of I e Γ Δ r

  pub two_operands : (e : Term) → is_leaf (term_kind e) ≡ false → is_map (term_kind e) ≡ false → (term_kind e ≡ word_redseq → ⊥) → has_one_operand (term_kind e) ≡ false → TwoOperands e
  unfolding use_rows expression_of one_of operands_of table
  two_operands (Term.input k) l m x h = true_false l
  two_operands (Term.variable d) l m x h = true_false l
  two_operands (Term.literal v) l m x h = true_false l
  two_operands (Term.negate e) l m x h = true_false h
  two_operands (Term.operation o e f) l m x h = record { count = refl; opens = refl; opened = refl; rows = λ Γ Δ c r. refl; reads = λ Y N Γ Δ r. operation_read o Y N _ _ }
  two_operands (Term.map k a b) l m x h = true_false (sym (map_word_holds k).is_one ∙ m)
  two_operands (Term.reduce z a b) l m x h = absurd (x refl)
  two_operands (Term.zip a b) l m x h = record { count = refl; opens = refl; opened = refl; rows = λ Γ Δ c r. refl; reads = λ Y N Γ Δ r. refl }
  two_operands (Term.pair a b) l m x h = record { count = refl; opens = refl; opened = refl; rows = λ Γ Δ c r. refl; reads = λ Y N Γ Δ r. refl }
  two_operands (Term.split series n e) l m x h = true_false (sym (split_word_holds series).is_one ∙ h)
  two_operands (Term.join series e) l m x h = true_false (sym (join_word_holds series).is_one ∙ h)
  two_operands (Term.first e) l m x h = true_false h
  two_operands (Term.second e) l m x h = true_false h
  two_operands (Term.index series k e) l m x h = true_false (sym (index_word_holds series).is_one ∙ h)

  -- ---- maps

  pub record MapTerm (e : Term) : Type 0 where
    pub count : operand_count e ≡ 2
    pub opens : second_opens e ≡ 1
    pub opened : regions_opened e ≡ 1
    pub node : region_node (term_kind e) ≡ 1
    pub lengths : (Γ : List DataType) → array_length (type_of I Γ e) ≡ array_length (type_of I Γ (first_operand e))
    pub rows : (Γ : List DataType) (Δ : List Expression) (c r : ℕ)
        → use_rows I e Γ Δ c r
        ≡ (word_new, pos (cells (type_of I Γ e))) ∷ (word_seq, pos 0) ∷ command_rows (write_term I e Γ Δ c (suc r) (Acceptor.region r (type_of I Γ e)))
    pub reads : (Γ : List DataType) (Δ : List Expression) (r : ℕ) → expression_of I e Γ Δ r ≡ Expression.region r (type_of I Γ e)
    pub writes : (Γ : List DataType) (Δ : List Expression) (c r : ℕ) (P : Acceptor)
        → command_rows (write_term I e Γ Δ c r P)
        ≡ use_rows I (first_operand e) Γ Δ c r
        ++ ((map_loop (term_kind e), pos (array_length (type_of I Γ e)))
        ∷ command_rows
        (write_term I (second_operand e) (element (type_of I Γ (first_operand e)) ∷ Γ) (Expression.index (expression_of I (first_operand e) Γ Δ r) (Offset.counter c) ∷ Δ)
        (suc c) (r + regions_opened (first_operand e)) (Acceptor.index P (Offset.counter c))))

  series_length : (series : Series) (n : ℕ) (t : DataType) → array_length (series_of series n t) ≡ n
  series_length Series.arrays n t = refl
  series_length Series.vectors n t = refl

  map_here : {e : Term} → Map e → MapTerm e
  unfolding use_rows expression_of
  map_here (Map.of m a b) = record {
    count = refl;
    opens = refl;
    opened = refl;
    node = (map_word_holds m).node;
    lengths = λ Γ. series_length (series_in m) (array_length (type_of I Γ a)) (type_of I (element (type_of I Γ a) ∷ Γ) b);
    rows = λ Γ Δ c r. refl;
    reads = λ Γ Δ r. refl;
    writes = λ Γ Δ c r P.
        rw ((map_word_holds m).its_loop, series_length (series_in m) (array_length (type_of I Γ a)) (type_of I (element (type_of I Γ a) ∷ Γ) b))
        (write_rows_map I m a b Γ Δ c r P);
  }

  pub map_term : (e : Term) → is_map (term_kind e) ≡ true → MapTerm e
  map_term e h = map_here (as_map e (map_opens e h))

  -- ---- reductions

  pub record ReduceTerm (e : Term) : Type 0 where
    pub count : operand_count e ≡ 3
    pub opens : second_opens e ≡ 0
    pub opened : regions_opened e ≡ regions_opened (second_operand e) + regions_opened (first_operand e) + 1
    pub types : (Γ : List DataType) → type_of I Γ e ≡ type_of I Γ (first_operand e)
    pub rows : (Γ : List DataType) (Δ : List Expression) (c r : ℕ)
        → use_rows I e Γ Δ c r
        ≡ use_rows I (second_operand e) Γ Δ c r
        ++ (use_rows I (first_operand e) Γ Δ c (r + regions_opened (second_operand e))
        ++ reduce_rows I (first_operand e) (second_operand e) (third_operand e) Γ Δ c (r + regions_opened (second_operand e) + regions_opened (first_operand e))
        (expression_of I (second_operand e) Γ Δ r) (expression_of I (first_operand e) Γ Δ (r + regions_opened (second_operand e))))
    pub reads : (Γ : List DataType) (Δ : List Expression) (r : ℕ)
        → expression_of I e Γ Δ r ≡ Expression.region (r + regions_opened (second_operand e) + regions_opened (first_operand e)) (type_of I Γ e)

  reduction_here : {e : Term} → Reduction e → ReduceTerm e
  unfolding use_rows expression_of
  reduction_here (Reduction.of z a b) =
      record { count = refl; opens = refl; opened = refl; types = λ Γ. refl; rows = λ Γ Δ c r. refl; reads = λ Γ Δ r. refl }

  pub reduce_term : (e : Term) → term_kind e ≡ word_redseq → ReduceTerm e
  reduce_term e h = reduction_here (as_reduction e (three_operands e h))

  -- ---- two operands of which both are written

  pub record PairedTerm (e : Term) : Type 0 where
    pub count : operand_count e ≡ 2
    pub opens : second_opens e ≡ 0
    pub no_map : region_node (term_kind e) ≡ 0
    pub writes : (Y : List ℕ) (Γ : List DataType) (Δ : List Expression) (c r : ℕ) (P : Acceptor)
        → command_rows (write_term I e Γ Δ c r P)
        ≡ (word_seq, pos 0)
        ∷ (command_rows (write_term I (first_operand e) Γ Δ c r (write_by (class_of (first_part (term_kind e))) Y (first_part (term_kind e)) 0 0 P))
        ++ command_rows (write_term I (second_operand e) Γ Δ c r (write_by (class_of (second_part (term_kind e))) Y (second_part (term_kind e)) 0 0 P)))

  pub paired_term : (e : Term) → is_paired (term_kind e) ≡ true → PairedTerm e
  unfolding write_term command_rows one_of
  paired_term (Term.input k) h = false_true h
  paired_term (Term.variable d) h = false_true h
  paired_term (Term.literal v) h = false_true h
  paired_term (Term.negate e) h = false_true h
  paired_term (Term.operation o e f) h = false_true (sym (operation_word_holds o).no_pair ∙ h)
  paired_term (Term.map m a b) h = false_true (sym (map_word_holds m).no_pair ∙ h)
  paired_term (Term.reduce z a b) h = false_true h
  paired_term (Term.zip a b) h = record { count = refl; opens = refl; no_map = refl; writes = λ Y Γ Δ c r P. refl }
  paired_term (Term.pair a b) h = record { count = refl; opens = refl; no_map = refl; writes = λ Y Γ Δ c r P. refl }
  paired_term (Term.split series n e) h = false_true (sym (split_word_holds series).no_pair ∙ h)
  paired_term (Term.join series e) h = false_true (sym (join_word_holds series).no_pair ∙ h)
  paired_term (Term.first e) h = false_true h
  paired_term (Term.second e) h = false_true h
  paired_term (Term.index series k e) h = false_true (sym (index_word_holds series).no_pair ∙ h)

  -- ---- one operand that is written

  pub record RegroupedTerm (e : Term) : Type 0 where
    pub count : operand_count e ≡ 1
    pub no_map : region_node (term_kind e) ≡ 0
    pub writes : (Y : List ℕ) (Γ : List DataType) (Δ : List Expression) (c r : ℕ) (P : Acceptor)
        → write_term I e Γ Δ c r P
        ≡ write_term I (first_operand e) Γ Δ c r
        (write_by (class_of (regrouped_by (term_kind e))) Y (regrouped_by (term_kind e)) 0 (number_over (term_kind e) (term_number e) (type_of I Γ (first_operand e))) P)

  pub regrouped_term : (e : Term) → is_regrouped (term_kind e) ≡ true → RegroupedTerm e
  unfolding write_term one_of
  regrouped_term (Term.input k) h = false_true h
  regrouped_term (Term.variable d) h = false_true h
  regrouped_term (Term.literal v) h = false_true h
  regrouped_term (Term.negate e) h = false_true h
  regrouped_term (Term.operation o e f) h = false_true (sym (operation_word_holds o).no_groups ∙ h)
  regrouped_term (Term.map m a b) h = false_true (sym (map_word_holds m).no_groups ∙ h)
  regrouped_term (Term.reduce z a b) h = false_true h
  regrouped_term (Term.zip a b) h = false_true h
  regrouped_term (Term.pair a b) h = false_true h
  regrouped_term (Term.split series n e) h = record { count = refl; no_map = (split_word_holds series).no_map; writes = λ Y Γ Δ c r P. rw (split_word_holds series).node refl }
  regrouped_term (Term.join series e) h = record { count = refl; no_map = (join_word_holds series).no_map; writes = λ Y Γ Δ c r P. rw (join_word_holds series).node refl }
  regrouped_term (Term.first e) h = false_true h
  regrouped_term (Term.second e) h = false_true h
  regrouped_term (Term.index series k e) h = false_true (sym (ap is_grouping (index_word_holds series).node) ∙ h)

  -- ---- those that are written by a use and an assignment

  pub assigned_term : (e : Term) → is_map (term_kind e) ≡ false → is_paired (term_kind e) ≡ false → is_regrouped (term_kind e) ≡ false → IsAssigned I e
  unfolding one_of
  assigned_term (Term.input k) m p g = tt
  assigned_term (Term.variable d) m p g = tt
  assigned_term (Term.literal v) m p g = tt
  assigned_term (Term.negate e) m p g = tt
  assigned_term (Term.operation o e f) m p g = tt
  assigned_term (Term.map k a b) m p g = true_false (sym (map_word_holds k).is_one ∙ m)
  assigned_term (Term.reduce z a b) m p g = tt
  assigned_term (Term.zip a b) m p g = true_false p
  assigned_term (Term.pair a b) m p g = true_false p
  assigned_term (Term.split series n e) m p g = true_false (sym (ap is_grouping (split_word_holds series).node) ∙ g)
  assigned_term (Term.join series e) m p g = true_false (sym (ap is_grouping (join_word_holds series).node) ∙ g)
  assigned_term (Term.first e) m p g = tt
  assigned_term (Term.second e) m p g = tt
  assigned_term (Term.index series k e) m p g = tt
