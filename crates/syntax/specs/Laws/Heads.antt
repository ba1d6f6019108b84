-- The operands of a row of any number: all but the last are alike. And the words of operations and maps. Assumes nothing.
use Rattle.std.specs.Prelude.{◌≡◌, refl, true, false, List, [], ◌∷◌, ◌++◌, ℕ, zero, suc}
use Rattle.std.proofs.Common.{ap, arith, ne_eqb}
use Rattle.arithmetic.specs.Arithmetic.{Operation}
use Rattle.words.specs.Groups.{one_of, operations, is_operation, is_map}
use Rattle.meaning.specs.Terms.{LoopKind}
use Rattle.meaning.specs.Rows.{operation_word, map_word}
use Rattle.syntax.specs.declared.operands.Due.{Due}
use Rattle.syntax.specs.Operands.{operand_of, operands_due}
use Rattle.words.proofs.Laws.{All}
use Rattle.syntax.specs.Laws.Each.{◌also◌}

unfoldable pub copies : ℕ → Due → List Due
copies zero d = []
copies (suc m) d = d ∷ copies m d

pub copies_more : (m : ℕ) (d : Due) (ds : List Due) → copies (suc m) d ++ ds ≡ copies m d ++ (d ∷ ds)
unfolding copies
copies_more zero d ds = refl
copies_more (suc m) d ds = ap (λ (l : List Due). d ∷ l) (copies_more m d ds)

pub operands_copies : (d : Due) (k n m : ℕ) → operands_due d k n (suc m) ≡ copies m (operand_of d k n false) ++ (operand_of d k n true ∷ [])
unfolding copies operands_due
operands_copies d k n zero = refl
operands_copies d k n (suc m) = simp (ne_eqb (suc (suc m)) 1 (λ e. omega arith)) (ap (λ (l : List Due). operand_of d k n false ∷ l) (operands_copies d k n m))

pub each_operation : (P : ℕ → Type 0) → All operations P → (o : Operation) → P (operation_word o)
each_operation P f Operation.addition = f.0
each_operation P f Operation.subtraction = f.1.0
each_operation P f Operation.multiplication = f.1.1.0
each_operation P f Operation.division = f.1.1.1.0
each_operation P f Operation.minimum = f.1.1.1.1.0
each_operation P f Operation.maximum = f.1.1.1.1.1.0

pub is_operation_holds : (o : Operation) → is_operation (operation_word o) ≡ true
unfolding one_of
is_operation_holds o = each_operation (λ w. is_operation w ≡ true) (refl also refl also refl also refl also refl also refl also tt) o

pub is_map_holds : (kind : LoopKind) → is_map (map_word kind) ≡ true
unfolding one_of
is_map_holds LoopKind.parallel = refl
is_map_holds LoopKind.sequential = refl
is_map_holds LoopKind.lanes = refl

-- no other word is an operation's
pub operation_apart : (o : Operation) (k : ℕ) → is_operation k ≡ false → operation_word o ≡ k → ⊥
operation_apart o k h e = let f = is_operation_holds o in let g = ap is_operation e in let z : ◌≡◌ {A = ℕ} 0 1 = cc in omega arith
