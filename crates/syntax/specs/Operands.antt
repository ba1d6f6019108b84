-- What is due behind a row, its operands: [1.7], [2.1] to [2.3]. Definitions only; assumes nothing.
use Rattle.std.specs.Prelude.{Bool, true, false, cond, List, [], ◌∷◌, ℕ, zero, suc, eqb}
use Rattle.words.specs.Kinds.{word_kind_in, word_set, word_loc}
use Rattle.words.specs.declared.Sort.{Sort}
use Rattle.words.specs.declared.Sort.TheVariants.{Plan, DataType, Term, Loops, Cells, Command, Place, Value, Offset}
use Rattle.syntax.specs.declared.names.Names.{Names}
use Rattle.syntax.specs.declared.operands.Due.{Due}
use Rattle.words.specs.Groups.{one_of}
use Rattle.syntax.specs.Names.{opened_by}

-- [2.3] The K types behind `plan` [3.6] and the K `cells` behind `loops` [3.12] stand before the operands that the table lists.
abbrev pub inputs_counted : Sort → ℕ → ℕ
inputs_counted Plan n = n
inputs_counted DataType n = 0
inputs_counted Term n = 0
inputs_counted Loops n = n
inputs_counted Cells n = 0
inputs_counted Command n = 0
inputs_counted Place n = 0
inputs_counted Value n = 0
inputs_counted Offset n = 0

-- [2.2] The sort of a row's operand, the last one or another: `set` has a place and a value [3.13]; a place and a reading, `in` or
-- `loc`, have an offset [3.14]; the others have operands of their own sort.
abbrev pub operand_sort : Sort → ℕ → Bool → Sort
operand_sort Plan k last = cond last Term DataType
operand_sort DataType k last = DataType
operand_sort Term k last = Term
operand_sort Loops k last = cond last Command Cells
operand_sort Cells k last = Cells
operand_sort Command k last = cond (eqb k word_set) (cond last Value Place) Command
operand_sort Place k last = Offset
operand_sort Value k last = cond (one_of k (word_kind_in ∷ word_loc ∷ [])) Offset Value
operand_sort Offset k last = Offset

abbrev pub due : Sort → Names → Due
due s n = record { sort = s; names = n }

-- [3.9] [3.10] [3.13] the names that a row opens are in force in its last operand
unfoldable pub operand_of : Due → ℕ → ℕ → Bool → Due
operand_of d k n true = due (operand_sort d.sort k true) (opened_by k n d.names)
operand_of d k n false = due (operand_sort d.sort k false) d.names

-- so many operands of a row, up to its last
unfoldable pub operands_due : Due → ℕ → ℕ → ℕ → List Due
operands_due d k n zero = []
operands_due d k n (suc m) = operand_of d k n (eqb (suc m) 1) ∷ operands_due d k n m
