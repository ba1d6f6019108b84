-- What the words of operations, of maps, and of arrays and vectors are, and what they are not. Assumes nothing.
use Rattle.std.specs.Prelude.{◌≡◌, refl, Bool, true, false, List, ℕ, ℤ}
use Rattle.std.proofs.Common.{arith}
use Rattle.arithmetic.specs.Arithmetic.{Operation}
use Rattle.words.specs.Kinds.{word_split, word_join, word_idx}
use Rattle.words.specs.Words.{table, operands_of}
use Rattle.meaning.specs.Types.{Series}
use Rattle.meaning.specs.Terms.{LoopKind}
use Rattle.meaning.specs.Expressions.{Expression}
use Rattle.meaning.specs.Rows.{operation_word, map_word, loop_word, split_word, join_word, index_word}
use Rattle.emission.specs.References.{class_of}
use Rattle.words.specs.Groups.{one_of, is_map, has_one_operand}
use Rattle.clauses.specs.Clauses.{node_kind, map_loop, is_paired, is_regrouped, region_node}
use Rattle.emission.specs.Laws.Readings.{read_by}

pub true_false : {X : Type 0} → ◌≡◌ {A = Bool} true false → X
true_false e = absurd (let z : ◌≡◌ {A = ℕ} 0 1 = cc in omega arith)

pub false_true : {X : Type 0} → ◌≡◌ {A = Bool} false true → X
false_true e = absurd (let z : ◌≡◌ {A = ℕ} 0 1 = cc in omega arith)

pub record OperationWord (k : ℕ) : Type 0 where
  pub no_one : has_one_operand k ≡ false
  pub no_pair : is_paired k ≡ false
  pub no_groups : is_regrouped k ≡ false

pub operation_word_holds : (o : Operation) → OperationWord (operation_word o)
unfolding one_of operands_of table
operation_word_holds Operation.addition = record { no_one = refl; no_pair = refl; no_groups = refl }
operation_word_holds Operation.subtraction = record { no_one = refl; no_pair = refl; no_groups = refl }
operation_word_holds Operation.multiplication = record { no_one = refl; no_pair = refl; no_groups = refl }
operation_word_holds Operation.division = record { no_one = refl; no_pair = refl; no_groups = refl }
operation_word_holds Operation.minimum = record { no_one = refl; no_pair = refl; no_groups = refl }
operation_word_holds Operation.maximum = record { no_one = refl; no_pair = refl; no_groups = refl }

pub operation_read : (o : Operation) (Y : List ℕ) (N : List ℤ) (E F : Expression)
    → read_by (class_of (operation_word o)) Y N (operation_word o) 0 0 E F ≡ Expression.operation o E F
unfolding one_of
operation_read Operation.addition Y N E F = refl
operation_read Operation.subtraction Y N E F = refl
operation_read Operation.multiplication Y N E F = refl
operation_read Operation.division Y N E F = refl
operation_read Operation.minimum Y N E F = refl
operation_read Operation.maximum Y N E F = refl

pub record MapWord (m : LoopKind) : Type 0 where
  pub is_one : is_map (map_word m) ≡ true
  pub no_one : has_one_operand (map_word m) ≡ false
  pub no_pair : is_paired (map_word m) ≡ false
  pub no_groups : is_regrouped (map_word m) ≡ false
  pub its_loop : map_loop (map_word m) ≡ loop_word m
  pub node : region_node (map_word m) ≡ 1

pub map_word_holds : (m : LoopKind) → MapWord m
unfolding one_of operands_of table
map_word_holds LoopKind.parallel = record { is_one = refl; no_one = refl; no_pair = refl; no_groups = refl; its_loop = refl; node = refl }
map_word_holds LoopKind.sequential = record { is_one = refl; no_one = refl; no_pair = refl; no_groups = refl; its_loop = refl; node = refl }
map_word_holds LoopKind.lanes = record { is_one = refl; no_one = refl; no_pair = refl; no_groups = refl; its_loop = refl; node = refl }

-- [18.12] The words of one operand that arrays and vectors have each their own of; they make nodes of kind w.
pub record SeriesWord (k w : ℕ) : Type 0 where
  pub is_one : has_one_operand k ≡ true
  pub no_pair : is_paired k ≡ false
  pub no_map : region_node k ≡ 0
  pub node : node_kind k ≡ w

pub split_word_holds : (series : Series) → SeriesWord (split_word series) word_split
unfolding one_of operands_of table
split_word_holds Series.arrays = record { is_one = refl; no_pair = refl; no_map = refl; node = refl }
split_word_holds Series.vectors = record { is_one = refl; no_pair = refl; no_map = refl; node = refl }

pub join_word_holds : (series : Series) → SeriesWord (join_word series) word_join
unfolding one_of operands_of table
join_word_holds Series.arrays = record { is_one = refl; no_pair = refl; no_map = refl; node = refl }
join_word_holds Series.vectors = record { is_one = refl; no_pair = refl; no_map = refl; node = refl }

pub index_word_holds : (series : Series) → SeriesWord (index_word series) word_idx
unfolding one_of operands_of table
index_word_holds Series.arrays = record { is_one = refl; no_pair = refl; no_map = refl; node = refl }
index_word_holds Series.vectors = record { is_one = refl; no_pair = refl; no_map = refl; node = refl }
