-- A column that keeps the rule of the figures has, where an offset stands, its bound ([10.20]). Assumes nothing.
use mathlib.Core.Bool.{Bool, true, false, cond, ◌&&◌}
use mathlib.Core.Path.{◌≡◌, refl, sym, ap, ap₂, ◌∙◌}
use mathlib.Core.List.{List, ◌++◌}
use Prim.Native.Nat.{ℕ, min, ◌+◌, ◌*◌, ◌-◌, ◌/◌, ◌≤◌}
use native.Mathlib.Omega.{arith}
use borrow.Author.Tests.{leb-true, leb-false, le-ltb}
use lib.Dec.{ltb, leb}
use lib.IntN.{ℤ, pos}
use lib.ListN.{length, get_or, length-append}
use Rattle.meaning.specs.Loops.{Offset, plus, times, over, rest}
use Rattle.meaning.specs.Rows.{offset_rows}
use Rattle.meaning.specs.Runs.{entry}
use Rattle.meaning.specs.Limits.{bound, counter_bound}
use Rattle.syntax.specs.Ranges.{as_natural}
use Rattle.columns.specs.Table.{Stand}
use Rattle.columns.specs.Ends.{Ends}
use Rattle.bounds.specs.Bounds.{every_row_bounded}
use Rattle.bounds.specs.Laws.{row_bounded}
use Rattle.words.specs.Groups.{one_of}
use Rattle.columns.specs.Names.{counter_words, in_force, numbers_of, Named}
use Rattle.columns.specs.Figures.{capped_bound, scaled_by, bound_by, is_command, figure_by, Figures}
use Rattle.columns.proofs.Tables as table
use Rattle.columns.proofs.EndTrees.{inside}
use Rattle.columns.proofs.Operands.{offset_rows_holds, one_first, two_second}

-- an offset's bound, or 65,536 where a row's bound is above 65,535
unfoldable pub whole_bound : (ℕ → ℕ) → Offset → ℕ
whole_bound c o = cond (every_row_bounded c o) (bound c o) 65536

-- ---- a row's bound

within : (v : ℕ) → cond (leb v 65535) v 65536 ≡ capped_bound v
within v = go (leb v 65535) refl
  where
    go : (b : Bool) → leb v 65535 ≡ b → cond b v 65536 ≡ capped_bound v
    go true e = let h = leb-true v 65535 e in omega arith
    go false e = let h = leb-false v 65535 e in omega arith

sum_within : (a b : Bool) (x y : ℕ) → capped_bound (cond a x 65536 + cond b y 65536) ≡ cond (a && b && leb (x + y) 65535) (x + y) 65536
sum_within true true x y = sym (within (x + y))
sum_within true false x y = omega arith
sum_within false b x y = omega arith

-- f is what the row makes of its operand's bound
step_within : (a : Bool) (x : ℕ) (f : ℕ → ℕ) → (a ≡ true → x ≤ 65535)
    → cond (ltb 65535 (cond a x 65536)) 65536 (capped_bound (f (cond a x 65536))) ≡ cond (a && leb (f x) 65535) (f x) 65536
step_within true x f h = ap (λ (b : Bool). cond b 65536 (capped_bound (f x))) (le-ltb 65535 x (h refl)) ∙ sym (within (f x))
step_within false x f h = refl

-- ---- offsets

module _ (ks : List ℕ) (ns : List ℤ) (es ms fs : List ℕ) (E : Ends ks es) (F : Figures ks ns es ms fs) (N : Named ks ns es ms) where
  row_bound : (at k n : ℕ) (z : ℤ) → get_or ks at 0 ≡ k → 1 ≤ k → get_or ns at (pos 0) ≡ z → as_natural z ≡ n
      → get_or fs at 0 ≡ figure_by k n (get_or ms at 0) (get_or fs (at + 1) 0) (get_or fs (get_or es (at + 1) 0) 0)
  row_bound at k n z e h g a =
      F.rule at (omega arith) (inside ks at k e h)
      ∙ ap₂ (λ (i j : ℕ). figure_by i j (get_or ms at 0) (get_or fs (at + 1) 0) (get_or fs (get_or es (at + 1) 0) 0)) e (ap as_natural g ∙ a)

  -- the bound of an offset, where the loops in force have these rounds
  pub offset_bound : (at : ℕ) (cs : List ℕ) (o : Offset) → Stand ks ns at (offset_rows o) → numbers_of ns (in_force counter_words ks es at) ≡ cs
      → get_or fs at 0 ≡ whole_bound (counter_bound cs) o
  unfolding offset_rows figure_by is_command bound_by scaled_by whole_bound every_row_bounded one_of
  offset_bound at cs (Offset.literal v) s f =
      row_bound at _ v _ (table.kind s) (omega arith) (table.number s) refl ∙ sym (within v)
  offset_bound at cs (Offset.counter d) s f =
      row_bound at _ d _ (table.kind s) (omega arith) (table.number s) refl
      ∙ ap (λ (i : ℕ). capped_bound (i - 1))
      (N.counter at (inside ks at _ (table.kind s) (omega arith)) (table.kind s) ∙ ap₂ entry f (ap as_natural (table.number s)))
      ∙ sym (within (entry cs d - 1))
  offset_bound at cs (plus x y) s f =
      let c = table.first (offset_rows x) (offset_rows y) s in
      let d = table.second (offset_rows x) (offset_rows y) (at + 1 + length (offset_rows x)) refl s in
      let e = E.offset ns (at + 1) x c in
      let w = E.offset ns at (plus x y) s in
      row_bound at _ 0 _ (table.kind s) (omega arith) (table.number s) refl
      ∙ ap₂ (λ (i j : ℕ). capped_bound (i + j))
      (offset_bound (at + 1) cs x c (ap (numbers_of ns)
      (one_first ks ns es E counter_words at _ _ (offset_rows x ++ offset_rows y) false s (omega arith) refl
      (omega (arith, length-append (offset_rows x) (offset_rows y), offset_rows_holds x)) w) ∙ f))
      (ap (λ (i : ℕ). get_or fs i 0) e
      ∙ offset_bound (at + 1 + length (offset_rows x)) cs y d
      (ap (numbers_of ns) (two_second ks ns es E counter_words at _ _ (offset_rows x) (offset_rows y) (at + 1 + length (offset_rows x)) s
      (omega arith) refl (offset_rows_holds y) w e refl) ∙ f))
      ∙ sum_within (every_row_bounded (counter_bound cs) x) (every_row_bounded (counter_bound cs) y) (bound (counter_bound cs) x) (bound (counter_bound cs) y)
  offset_bound at cs (times n x) s f =
      row_bound at _ n _ (table.kind s) (omega arith) (table.number s) refl
      ∙ ap (λ (i : ℕ). cond (ltb 65535 i) 65536 (capped_bound (n * i)))
      (offset_bound (at + 1) cs x (table.next s)
      (ap (numbers_of ns) (one_first ks ns es E counter_words at _ _ (offset_rows x) false s (omega arith) refl (offset_rows_holds x)
      (E.offset ns at (times n x) s)) ∙ f))
      ∙ step_within (every_row_bounded (counter_bound cs) x) (bound (counter_bound cs) x) (λ (i : ℕ). n * i) (row_bounded (counter_bound cs) x)
  offset_bound at cs (over n x) s f =
      row_bound at _ n _ (table.kind s) (omega arith) (table.number s) refl
      ∙ ap (λ (i : ℕ). cond (ltb 65535 i) 65536 (capped_bound (i / n)))
      (offset_bound (at + 1) cs x (table.next s)
      (ap (numbers_of ns) (one_first ks ns es E counter_words at _ _ (offset_rows x) false s (omega arith) refl (offset_rows_holds x)
      (E.offset ns at (over n x) s)) ∙ f))
      ∙ step_within (every_row_bounded (counter_bound cs) x) (bound (counter_bound cs) x) (λ (i : ℕ). i / n) (row_bounded (counter_bound cs) x)
  offset_bound at cs (rest n x) s f =
      row_bound at _ n _ (table.kind s) (omega arith) (table.number s) refl
      ∙ ap (λ (i : ℕ). cond (ltb 65535 i) 65536 (capped_bound (min i (n - 1))))
      (offset_bound (at + 1) cs x (table.next s)
      (ap (numbers_of ns) (one_first ks ns es E counter_words at _ _ (offset_rows x) false s (omega arith) refl (offset_rows_holds x)
      (E.offset ns at (rest n x) s)) ∙ f))
      ∙ step_within (every_row_bounded (counter_bound cs) x) (bound (counter_bound cs) x) (λ (i : ℕ). min i (n - 1)) (row_bounded (counter_bound cs) x)
