-- Stacks of rows in an array, from its top on: what has ended is closed, a row is put on top, a name is looked up. Assumes nothing.
use mathlib.Core.Bool.{Bool, true, false, cond, not}
use mathlib.Core.Path.{◌≡◌, refl, sym, ap, ◌∙◌}
use mathlib.Core.List.{List, [], ◌∷◌}
use Prim.Native.Nat.{ℕ, zero, suc, ◌+◌, ◌≤◌, ◌<◌}
use native.Mathlib.Nat.{not-suc-le-zero, le_of_suc-le-suc}
use native.Mathlib.Omega.{arith}
use borrow.Author.Tests.{ltb-true, ltb-false, le-ltb}
use lib.Dec.{ltb}
use lib.IntN.{ℤ, pos}
use lib.ListN.{length, get_or, drop, drop_of_length-le}
use Rattle.std.specs.Prelude.{Some, None, position}
use Rattle.std.specs.List.{position_or_len}
use Rattle.meaning.specs.Runs.{entry}
use Rattle.syntax.specs.Ranges.{as_natural}
use Rattle.columns.specs.Names.{closing, push_if, numbers_of, Passed}

-- ---- closing

-- what stands on the stack down to the first row that ends behind row q goes
abbrev pub open_at : List ℕ → ℕ → ℕ → Bool
open_at es q j = ltb q (get_or es j 0)

closing_drops : (es l : List ℕ) (q : ℕ) → drop (position_or_len (open_at es q) l) l ≡ closing es q l
closing_drops es [] q = refl
closing_drops es (j ∷ l) q = go (open_at es q j) (closing_drops es l q)
  where
    go : (b : Bool) → drop (position_or_len (open_at es q) l) l ≡ closing es q l
        → drop (cond (not b) (1 + position_or_len (open_at es q) l) 0) (j ∷ l) ≡ cond b (j ∷ l) (closing es q l)
    go true e = refl
    go false e =
        let n : 1 + position_or_len (open_at es q) l ≡ suc (position_or_len (open_at es q) l) = omega arith in
        ap (λ (k : ℕ). drop k (j ∷ l)) n ∙ e

pub close_some : (es l : List ℕ) (q i : ℕ) → Some i ≡ position (open_at es q) l → (i ≤ length l) × (drop i l ≡ closing es q l)
close_some es l q i e = go (position_or_len (open_at es q) l) (ltb (position_or_len (open_at es q) l) (length l)) refl e (closing_drops es l q)
  where
    go : (n : ℕ) (b : Bool) → ltb n (length l) ≡ b → Some i ≡ cond b (Some n) None → drop n l ≡ closing es q l
        → (i ≤ length l) × (drop i l ≡ closing es q l)
    go n true f g h =
        let s : i ≡ n = cc in
        (omega (arith, s, ltb-true n (length l) f), ap (λ (k : ℕ). drop k l) s ∙ h)
    go n false f g h = absurd (let z : ◌≡◌ {A = ℕ} 0 1 = cc in omega arith)

pub close_none : (es l : List ℕ) (q : ℕ) → None ≡ position (open_at es q) l → [] ≡ closing es q l
close_none es l q e = go (position_or_len (open_at es q) l) (ltb (position_or_len (open_at es q) l) (length l)) refl e (closing_drops es l q)
  where
    go : (n : ℕ) (b : Bool) → ltb n (length l) ≡ b → None ≡ cond b (Some n) None → drop n l ≡ closing es q l → [] ≡ closing es q l
    go n true f g h = absurd (let z : ◌≡◌ {A = ℕ} 0 1 = cc in omega arith)
    go n false f g h = sym (drop_of_length-le l {i = n} (ltb-false n (length l) f)) ∙ h

-- what was closed at an earlier row is closed at a later one
pub close_later : (es l : List ℕ) (q j : ℕ) → q ≤ j → closing es j l ≡ closing es j (closing es q l)
close_later es [] q j h = refl
close_later es (i ∷ l) q j h = go (close_later es l q j h) (ltb q (get_or es i 0)) refl
  where
    go : closing es j l ≡ closing es j (closing es q l) → (b : Bool) → ltb q (get_or es i 0) ≡ b
        → closing es j (i ∷ l) ≡ closing es j (cond b (i ∷ l) (closing es q l))
    go ih true e = refl
    go ih false e =
        let s = ltb-false q (get_or es i 0) e in
        ap (λ (b : Bool). cond b (i ∷ l) (closing es j l)) (le-ltb j (get_or es i 0) (omega (arith, s, h))) ∙ ih

-- ---- a row of the table: it opens a name, has one, or neither

module _ (es : List ℕ) (q : ℕ) (l : List ℕ) (o : Bool) where
  pub row_opens : {m : List ℕ} (k : List ℕ) → o ≡ true → m ≡ q ∷ k → k ≡ closing es q l → Passed es q o l m
  row_opens k e f g = record {
    later = λ j h. ap (closing es j) (f ∙ ap (λ (x : List ℕ). q ∷ x) g) ∙ ap (λ (b : Bool). closing es j (push_if b q (closing es q l))) (sym e);
  }

  pub row_names : {m : List ℕ} → o ≡ false → m ≡ closing es q l → Passed es q o l m
  row_names e f = record { later = λ j h. ap (closing es j) f ∙ ap (λ (b : Bool). closing es j (push_if b q (closing es q l))) (sym e) }

  pub row_neither : o ≡ false → Passed es q o l l
  row_neither e = record {
    later = λ j h. close_later es l q j (omega (arith, h)) ∙ ap (λ (b : Bool). closing es j (push_if b q (closing es q l))) (sym e);
  }

-- ---- the number of a name's row

pub named_there : (ns : List ℤ) (l : List ℕ) (d : ℕ) → d < length l → entry (numbers_of ns l) d ≡ as_natural (get_or ns (get_or l d 0) (pos 0))
named_there ns [] d h = absurd (not-suc-le-zero h)
named_there ns (j ∷ l) zero h = refl
named_there ns (j ∷ l) (suc d) h = named_there ns l d (le_of_suc-le-suc h)

pub named_past : (ns : List ℤ) (l : List ℕ) (d : ℕ) → length l ≤ d → entry (numbers_of ns l) d ≡ 0
named_past ns [] zero h = refl
named_past ns [] (suc d) h = refl
named_past ns (j ∷ l) zero h = absurd (not-suc-le-zero h)
named_past ns (j ∷ l) (suc d) h = named_past ns l d (le_of_suc-le-suc h)
