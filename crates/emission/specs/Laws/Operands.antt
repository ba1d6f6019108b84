-- Laws of classes and operands: which node a path goes on to, and that what is read, or written, there is the same. Assumes
-- nothing.
use Rattle.std.specs.Prelude.{◌≡◌, refl, [], ◌∷◌, Bool, true, false, cond, ℕ, pos, ◌<◌, drop}
use Rattle.std.proofs.Common.{ap, sym, ◌∙◌, arith, ne_eqb}
use Rattle.meaning.specs.Loops.{Offset, Place, Value}
use Rattle.meaning.specs.Paths.{Path, tail, by_part, index, first, second}
use Rattle.meaning.specs.Expressions.{Expression, Acceptor}
use Rattle.meaning.specs.Offsets.{read_at, write_at, unzipped}
use Rattle.meaning.specs.Translation.{no_expression}
use Rattle.emission.specs.Changes.{through, change_of}
use Rattle.emission.specs.References.{rearranged, written, no_acceptor, class_of}
use Rattle.emission.specs.declared.paths.Change.{Change}
use Rattle.emission.specs.declared.paths.Change.TheVariants.{Zip, Pair, Ungrouped, Grouped, First, Second, AtLiteral, AtCounter, ZipFirst, ZipSecond, Unchanged}
use Rattle.words.specs.Kinds.{word_kind_in, word_lit, word_neg, word_out, word_loc}
use Rattle.words.specs.Groups.{is_operation}
use Rattle.emission.specs.Nodes.{kind_in}
use Rattle.emission.specs.Laws.PathSteps.{tail_drop}
use Rattle.emission.specs.declared.references.Class.TheVariants.{Operation, Rearranged}

-- The node that a path goes on to: of a zip or a pair one of the two; node 0, which stands for nothing, behind what cannot be read,
-- or written.
abbrev pub operand_read : Change → Path Offset → ℕ → ℕ → ℕ
operand_read Zip p a b = by_part (tail p) a b
operand_read Pair p a b = by_part p a b
operand_read Ungrouped p a b = a
operand_read Grouped p a b = a
operand_read First p a b = a
operand_read Second p a b = a
operand_read AtLiteral p a b = a
operand_read AtCounter p a b = a
operand_read ZipFirst p a b = 0
operand_read ZipSecond p a b = 0
operand_read Unchanged p a b = 0

abbrev pub operand_written : Change → ℕ → ℕ
operand_written Zip a = 0
operand_written Pair a = 0
operand_written Ungrouped a = a
operand_written Grouped a = a
operand_written First a = a
operand_written Second a = a
operand_written AtLiteral a = a
operand_written AtCounter a = a
operand_written ZipFirst a = a
operand_written ZipSecond a = a
operand_written Unchanged a = 0

part_read : (E : ℕ → Expression) (p q : Path Offset) (a b : ℕ) → by_part p (read_at (E a) q) (read_at (E b) q) ≡ read_at (E (by_part p a b)) q
part_read E [] q a b = refl
part_read E (index i ∷ p) q a b = refl
part_read E (first ∷ p) q a b = refl
part_read E (second ∷ p) q a b = refl

nothing_read : (E : Expression) (q : Path Offset) → E ≡ no_expression → Value.literal (pos 0) ≡ read_at E q
nothing_read E q e = sym (ap (λ (F : Expression). read_at F q) e)

-- what is read there; E says what each node stands for
pub read_on : (E : ℕ → Expression) (f : Change) (n : ℕ) (p : Path Offset) (a b : ℕ) → E 0 ≡ no_expression
    → read_at (rearranged f n (E a) (E b)) p ≡ read_at (E (operand_read f p a b)) (through f n p)
read_on E Zip n p a b z = part_read E (tail p) (unzipped p) a b
read_on E Pair n p a b z = part_read E p (tail p) a b
read_on E Ungrouped n p a b z = refl
read_on E Grouped n p a b z = refl
read_on E First n p a b z = refl
read_on E Second n p a b z = refl
read_on E AtLiteral n p a b z = refl
read_on E AtCounter n p a b z = refl
read_on E ZipFirst n p a b z = nothing_read (E 0) (through ZipFirst n p) z
read_on E ZipSecond n p a b z = nothing_read (E 0) (through ZipSecond n p) z
read_on E Unchanged n p a b z = nothing_read (E 0) (through Unchanged n p) z

nothing_written : (P : Acceptor) (q : Path Offset) → P ≡ no_acceptor → Place.output (Offset.literal 0) ≡ write_at P q
nothing_written P q e = sym (ap (λ (Q : Acceptor). write_at Q q) e)

pub write_on : (P : ℕ → Acceptor) (f : Change) (n : ℕ) (p : Path Offset) (a : ℕ) → P 0 ≡ no_acceptor
    → write_at (written f n (P a)) p ≡ write_at (P (operand_written f a)) (through f n p)
write_on P Zip n p a z = nothing_written (P 0) (through Zip n p) z
write_on P Pair n p a z = nothing_written (P 0) (through Pair n p) z
write_on P Ungrouped n p a z = refl
write_on P Grouped n p a z = refl
write_on P First n p a z = refl
write_on P Second n p a z = refl
write_on P AtLiteral n p a z = refl
write_on P AtCounter n p a z = refl
write_on P ZipFirst n p a z = refl
write_on P ZipSecond n p a z = refl
write_on P Unchanged n p a z = nothing_written (P 0) (through Unchanged n p) z

-- as the code finds it: by the part that was tested
part_is : {A : Type 0} (p : Path Offset) (x y : A) → by_part p x y ≡ cond (by_part p false true) y x
part_is [] x y = refl
part_is (index i ∷ p) x y = refl
part_is (first ∷ p) x y = refl
part_is (second ∷ p) x y = refl

pub is_second_part : {A : Type 0} (p : Path Offset) (x y : A) → true ≡ by_part p false true → y ≡ by_part p x y
is_second_part p x y e = sym (part_is p x y ∙ ap (λ (b : Bool). cond b y x) (sym e))

pub is_first_part : {A : Type 0} (p : Path Offset) (x y : A) → false ≡ by_part p false true → x ≡ by_part p x y
is_first_part p x y e = sym (part_is p x y ∙ ap (λ (b : Bool). cond b y x) (sym e))

pub second_of_zip : (p : Path Offset) (a b r : ℕ) → true ≡ by_part (drop 1 p) false true → r ≡ b → r ≡ operand_read Zip p a b
second_of_zip p a b r h e = e ∙ is_second_part (drop 1 p) a b h ∙ ap (λ (q : Path Offset). by_part q a b) (sym (tail_drop p))

pub first_of_zip : (p : Path Offset) (a b r : ℕ) → false ≡ by_part (drop 1 p) false true → r ≡ a → r ≡ operand_read Zip p a b
first_of_zip p a b r h e = e ∙ is_first_part (drop 1 p) a b h ∙ ap (λ (q : Path Offset). by_part q a b) (sym (tail_drop p))

-- either way its number is smaller
part_below : (p : Path Offset) (a b v : ℕ) → a < v → b < v → by_part p a b < v
part_below [] a b v h l = h
part_below (index i ∷ p) a b v h l = h
part_below (first ∷ p) a b v h l = h
part_below (second ∷ p) a b v h l = l

pub read_below : (f : Change) (p : Path Offset) (a b v : ℕ) → a < v → b < v → operand_read f p a b < v
read_below Zip p a b v h l = part_below (tail p) a b v h l
read_below Pair p a b v h l = part_below p a b v h l
read_below Ungrouped p a b v h l = h
read_below Grouped p a b v h l = h
read_below First p a b v h l = h
read_below Second p a b v h l = h
read_below AtLiteral p a b v h l = h
read_below AtCounter p a b v h l = h
read_below ZipFirst p a b v h l = omega arith
read_below ZipSecond p a b v h l = omega arith
read_below Unchanged p a b v h l = omega arith

pub written_below : (f : Change) (a v : ℕ) → a < v → operand_written f a < v
written_below Zip a v h = omega arith
written_below Pair a v h = omega arith
written_below Ungrouped a v h = h
written_below Grouped a v h = h
written_below First a v h = h
written_below Second a v h = h
written_below AtLiteral a v h = h
written_below AtCounter a v h = h
written_below ZipFirst a v h = h
written_below ZipSecond a v h = h
written_below Unchanged a v h = omega arith

-- by the change that a node's kind makes
module _ (f g : Change) (k w r : ℕ) (e : f ≡ change_of k) (ek : k ≡ kind_in w) (eg : f ≡ g) where
  pub read_by_holds : (p : Path Offset) (a b : ℕ) → r ≡ operand_read g p a b → r ≡ operand_read (change_of (kind_in w)) p a b
  read_by_holds p a b h = h ∙ ap (λ (x : Change). operand_read x p a b) (sym eg ∙ e ∙ ap change_of ek)

  pub written_by_holds : (a : ℕ) → r ≡ operand_written g a → r ≡ operand_written (change_of (kind_in w)) a
  written_by_holds a h = h ∙ ap (λ (x : Change). operand_written x a) (sym eg ∙ e ∙ ap change_of ek)

-- the class of a kind that is none of those named
module _ (k : ℕ) (a : k ≡ word_lit → ⊥) (b : k ≡ word_kind_in → ⊥) (c : k ≡ word_loc → ⊥) (d : k ≡ word_out → ⊥) (e : k ≡ word_neg → ⊥) where
  pub class_operation : is_operation k ≡ true → Operation ≡ class_of k
  class_operation h = rw (ne_eqb k word_lit a, ne_eqb k word_kind_in b, ne_eqb k word_loc c, ne_eqb k word_out d, ne_eqb k word_neg e, h) refl

  pub class_other : is_operation k ≡ false → Rearranged ≡ class_of k
  class_other h = rw (ne_eqb k word_lit a, ne_eqb k word_kind_in b, ne_eqb k word_loc c, ne_eqb k word_out d, ne_eqb k word_neg e, h) refl
