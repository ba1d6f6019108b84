-- Rows in the middle of a table: the first, and its operands. Assumes nothing.
use mathlib.Core.Path.{◌≡◌, refl, sym, ap, subst, ◌∙◌}
use mathlib.Core.List.{List, ◌∷◌, ◌++◌}
use Prim.Native.Nat.{ℕ, ◌+◌, ◌≤◌}
use native.Mathlib.Nat.{add-zero}
use native.Mathlib.Omega.{arith}
use lib.IntN.{ℤ, pos}
use lib.ListN.{length, get_or, drop, length-append}
use lib.Seq.{get_or-drop, drop-drop}
use Rattle.words.specs.Kinds.{Row}
use Rattle.syntax.specs.Standing.{Begins}
use Rattle.syntax.proofs.Front as table
use Rattle.syntax.proofs.Front.{part, part_all}
use Rattle.columns.specs.Table.{Stand}

first_there : {A : Type 0} (at : ℕ) (l : List A) (d : A) → get_or (drop at l) 0 d ≡ get_or l at d
first_there at l d = get_or-drop at l 0 d ∙ ap (λ (i : ℕ). get_or l i d) (add-zero at)

-- the part from m on of what begins at row `at` begins at row at + m
part_there : {A : Type 0} (at m : ℕ) (l : List A) → part m (drop at l) ≡ drop (at + m) l
part_there at m l = part_all m (drop at l) ∙ drop-drop m at l

module _ {ks : List ℕ} {ns : List ℤ} {at : ℕ} where
  pub kind : {k : ℕ} {z : ℤ} {rs : List Row} → Stand ks ns at ((k, z) ∷ rs) → get_or ks at 0 ≡ k
  kind b = sym (first_there at ks 0) ∙ table.kind b.begins

  pub number : {k : ℕ} {z : ℤ} {rs : List Row} → Stand ks ns at ((k, z) ∷ rs) → get_or ns at (pos 0) ≡ z
  number b = sym (first_there at ns (pos 0)) ∙ table.number b.begins

-- what begins m rows behind row `at`
moved : (ks : List ℕ) (ns : List ℤ) (at m i : ℕ) (rs : List Row) → i ≡ at + m → i + length rs ≤ 4096
    → Begins (part m (drop at ks)) (part m (drop at ns)) rs → Stand ks ns i rs
moved ks ns at m i rs e h b = record {
  begins = subst (λ (j : ℕ). Begins (drop j ks) (drop j ns) rs) (sym e)
      (subst (λ (l : List ℤ). Begins (drop (at + m) ks) l rs) (part_there at m ns)
      (subst (λ (l : List ℕ). Begins l (part m (drop at ns)) rs) (part_there at m ks) b));
  within = h;
}

-- the rows behind the first; of two operands the first, and the second
module _ {ks : List ℕ} {ns : List ℤ} {at k : ℕ} {z : ℤ} where
  pub next : {rs : List Row} → Stand ks ns at ((k, z) ∷ rs) → Stand ks ns (at + 1) rs
  next {rs} b = moved ks ns at 1 (at + 1) rs refl (omega (arith, b.within)) (table.next b.begins)

  module _ (xs ys : List Row) where
    pub first : Stand ks ns at ((k, z) ∷ (xs ++ ys)) → Stand ks ns (at + 1) xs
    first b =
        let n = next b in
        record { begins = table.fore xs ys n.begins; within = omega (arith, n.within, length-append xs ys) }

    pub second : (i : ℕ) → i ≡ at + 1 + length xs → Stand ks ns at ((k, z) ∷ (xs ++ ys)) → Stand ks ns i ys
    second i e b =
        moved ks ns at (1 + length xs) i ys (omega (arith, e)) (omega (arith, e, b.within, length-append xs ys))
        (table.hind ((k, z) ∷ xs) ys (1 + length xs) (omega arith) b.begins)
