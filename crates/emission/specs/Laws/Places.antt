-- The rows of the place of a node, as the code puts them: by the node's class. Assumes nothing.
use Rattle.std.specs.Prelude.{◌≡◌, ◌⊎◌, refl, List, ℕ, suc, ◌-◌, ◌<◌, ◌≤◌, get_or}
use Rattle.std.proofs.Math.Path.{ap}
use Rattle.std.proofs.Common.{sym, ◌∙◌, subst, arith, inl, inr}
use Rattle.std.proofs.Math.IntN.{pos}
use Rattle.words.specs.Kinds.{Row, word_lit, word_out, word_loc}
use Rattle.meaning.specs.Loops.{Offset, Place}
use Rattle.meaning.specs.Paths.{Path}
use Rattle.meaning.specs.Expressions.{Acceptor}
use Rattle.meaning.specs.Offsets.{write_at, offset_of, place_from_innermost}
use Rattle.meaning.specs.Rows.{place_rows, offset_rows}
use Rattle.type_table.specs.Table.{type_at}
use Rattle.emission.specs.Nodes.{kind_in, type_in, number_in, left_in, right_in}
use Rattle.emission.specs.Table.{Table, put_row, put_rows}
use Rattle.emission.specs.Changes.{change_of, through}
use Rattle.emission.specs.References.{class_of, no_acceptor, acceptor_by, acceptor_over, acceptor_at}
use Rattle.emission.specs.Laws.Nodes.{node_made, nothing_left, nothing_right, nothing_first}
use Rattle.emission.specs.Laws.Indices.{rows_under}
use Rattle.emission.specs.Laws.Operands.{operand_written, write_on}
use Rattle.emission.specs.declared.references.Class.{Class}
use Rattle.emission.specs.declared.references.Class.TheVariants.{Literal, Input, Region, Output, Negation, Operation, Rearranged}

-- the place of an acceptor at a path, as rows; that of no acceptor
abbrev pub place_at : ℕ → ℕ → Acceptor → Path Offset → List Row
place_at c r P p = place_rows (place_from_innermost c r (write_at P p))

abbrev pub nowhere : List Row
nowhere = place_rows (Place.output (Offset.literal 0))

pub put_nowhere : (o o₁ o₂ : Table) → o₁ ≡ put_row o (word_out, pos 0) → o₂ ≡ put_row o₁ (word_lit, pos 0) → o₂ ≡ put_rows nowhere o
unfolding put_rows place_rows offset_rows
put_nowhere o o₁ o₂ h l = l ∙ ap (λ (x : Table). put_row x (word_lit, pos 0)) h

-- the classes of what cannot be written
pub not_written : (f : Class) → (f ≡ Literal) ⊎ ((f ≡ Input) ⊎ ((f ≡ Negation) ⊎ (f ≡ Operation)))
    → (Y : List ℕ) (w : ℕ) (P : Acceptor) → acceptor_by f Y w P ≡ no_acceptor
not_written f (inl e) Y w P = ap (λ (y : Class). acceptor_by y Y w P) e
not_written f (inr (inl e)) Y w P = ap (λ (y : Class). acceptor_by y Y w P) e
not_written f (inr (inr (inl e))) Y w P = ap (λ (y : Class). acceptor_by y Y w P) e
not_written f (inr (inr (inr e))) Y w P = ap (λ (y : Class). acceptor_by y Y w P) e

-- node v by its class and operand
module _ (Y : List ℕ) (c r : ℕ) (T : List ℕ) (v a b : ℕ) (ha : a ≡ left_in (get_or T v 0)) (hb : b ≡ right_in (get_or T v 0))
    (p : Path Offset) (o o' : Table) where
  place_as : (P : Acceptor) → acceptor_at Y T v ≡ P → o' ≡ put_rows (place_at c r P p) o → o' ≡ put_rows (place_at c r (acceptor_at Y T v) p) o
  place_as P e h = h ∙ sym (ap (λ (Q : Acceptor). put_rows (place_at c r Q p) o) e)

  pub place_left : v ≤ a → o' ≡ put_rows nowhere o → o' ≡ put_rows (place_at c r (acceptor_at Y T v) p) o
  place_left l h = place_as no_acceptor (nothing_left no_acceptor (acceptor_over Y) T v (omega (arith, l, ha))) h

  pub place_right : v ≤ b → o' ≡ put_rows nowhere o → o' ≡ put_rows (place_at c r (acceptor_at Y T v) p) o
  place_right l h = place_as no_acceptor (nothing_right no_acceptor (acceptor_over Y) T v (omega (arith, l, hb))) h

  pub place_of_nothing : (v ≤ a) ⊎ ((a < v) × (v ≤ b)) → o' ≡ put_rows nowhere o → o' ≡ put_rows (place_at c r (acceptor_at Y T v) p) o
  place_of_nothing (inl l) h = place_left l h
  place_of_nothing (inr l) h = place_right l.1 h

  module _ (la : a < v) (lb : b < v) (g cl : Class) (k : ℕ) (hc : cl ≡ class_of k) (hk : k ≡ kind_in (get_or T v 0)) (hg : cl ≡ g) where
    made_as : (f : Class) → g ≡ f → acceptor_at Y T v ≡ acceptor_by f Y (get_or T v 0) (acceptor_at Y T a)
    made_as f e =
        node_made no_acceptor (acceptor_over Y) T v (get_or T v 0) refl (subst (λ (y : ℕ). y < v) ha la) (subst (λ (y : ℕ). y < v) hb lb)
        ∙ ap (λ (y : Class). acceptor_by y Y (get_or T v 0) (acceptor_at Y T (left_in (get_or T v 0)))) (sym (hc ∙ ap class_of hk) ∙ hg ∙ e)
        ∙ ap (λ (y : ℕ). acceptor_by f Y (get_or T v 0) (acceptor_at Y T y)) (sym ha)

    pub place_nowhere : acceptor_by g Y (get_or T v 0) (acceptor_at Y T a) ≡ no_acceptor → o' ≡ put_rows nowhere o
        → o' ≡ put_rows (place_at c r (acceptor_at Y T v) p) o
    place_nowhere e h = place_as no_acceptor (made_as g refl ∙ e) h

    pub place_output : g ≡ Output → (t : ℕ) (o₁ : Table) → t ≡ type_in (get_or T v 0) → o₁ ≡ put_row o (word_out, pos 0)
        → o' ≡ put_rows (rows_under c (offset_of (type_at Y t) p)) o₁ → o' ≡ put_rows (place_at c r (acceptor_at Y T v) p) o
    unfolding put_rows place_rows
    place_output e t o₁ et h l =
        place_as (Acceptor.output (type_at Y t)) (made_as Output e ∙ ap (λ (i : ℕ). Acceptor.output (type_at Y i)) (sym et))
        (l ∙ ap (put_rows (rows_under c (offset_of (type_at Y t) p))) h)

    pub place_region : g ≡ Region → (n m t : ℕ) (o₁ : Table) → n ≡ number_in (get_or T v 0) → m ≡ r - suc n → t ≡ type_in (get_or T v 0)
        → o₁ ≡ put_row o (word_loc, pos m) → o' ≡ put_rows (rows_under c (offset_of (type_at Y t) p)) o₁ → o' ≡ put_rows (place_at c r (acceptor_at Y T v) p) o
    unfolding put_rows place_rows
    place_region e n m t o₁ en em et h l =
        place_as (Acceptor.region n (type_at Y t))
        (made_as Region e ∙ ap (λ (i : ℕ). Acceptor.region i (type_at Y (type_in (get_or T v 0)))) (sym en) ∙ ap (λ (i : ℕ). Acceptor.region n (type_at Y i)) (sym et))
        (l ∙ ap (put_rows (rows_under c (offset_of (type_at Y t) p))) (h ∙ ap (λ (i : ℕ). put_row o (word_loc, pos i)) em))

    pub place_rearranged : g ≡ Rearranged → (n : ℕ) (q : Path Offset) → q ≡ through (change_of (kind_in (get_or T v 0))) (number_in (get_or T v 0)) p
        → n ≡ operand_written (change_of (kind_in (get_or T v 0))) (left_in (get_or T v 0))
        → o' ≡ put_rows (place_at c r (acceptor_at Y T n) q) o → o' ≡ put_rows (place_at c r (acceptor_at Y T v) p) o
    place_rearranged e n q eq en h =
        let w : ℕ = get_or T v 0 in
        let f = change_of (kind_in w) in
        let m : n ≡ operand_written f a = en ∙ ap (operand_written f) (sym ha) in
        h
        ∙ ap (λ (y : Path Offset). put_rows (place_at c r (acceptor_at Y T n) y) o) eq
        ∙ ap (λ (y : ℕ). put_rows (place_at c r (acceptor_at Y T y) (through f (number_in w) p)) o) m
        ∙ ap (λ (y : Place). put_rows (place_rows (place_from_innermost c r y)) o)
        (sym (write_on (λ (i : ℕ). acceptor_at Y T i) f (number_in w) p a (nothing_first no_acceptor (acceptor_over Y) T)))
        ∙ sym (ap (λ (Q : Acceptor). put_rows (place_at c r Q p) o) (made_as Rearranged e))
