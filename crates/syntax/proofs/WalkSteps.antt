-- The steps of the walk: what one row is asked, what is due behind it, and how the walk goes on. Assumes nothing.
use Rattle.std.specs.Prelude.{Ok, Err, Some}
use mathlib.Core.Path.{◌≡◌, refl, sym, ap, ◌∙◌}
use mathlib.Core.Bool.{Bool, true, false, cond, ◌&&◌}
use mathlib.Core.List.{List, [], ◌∷◌, ◌++◌}
use Prim.Native.Nat.{ℕ, zero, suc, ◌+◌, ◌-◌, ◌≤◌, ◌<◌}
use native.Mathlib.Omega.{arith}
use native.Mathlib.Nat.{le_of_eq}
use native.Mathlib.Numerals.{add-one}
use lib.Dec.{T, eqb, leb, leb→le}
use borrow.Author.Tests.{ne_eqb}
use lib.Ieee.Fits.{and_l, and_r}
use lib.IntN.{ℤ, pos}
use lib.ListN.{length, get_or, take, drop, length-drop, drop_of_length-le}
use lib.Seq.{take_all}
use Rattle.refusals.specs.declared.Refusal.{Refusal}
use Rattle.refusals.specs.declared.Refusal.TheVariants.{RowDue}
use Rattle.refusals.specs.Answers.{after, Answer}
use Rattle.words.specs.Kinds.{Row, rows_of}
use Rattle.words.specs.Words.{Entry, entry, table, operands_as, operands_of, column_of}
use Rattle.words.specs.declared.Sort.{Sort}
use Rattle.syntax.specs.declared.operands.Due.{Due}
use Rattle.syntax.specs.Ranges.{as_natural}
use Rattle.syntax.specs.Names.{Bounded}
use Rattle.syntax.specs.Operands.{operand_of, operands_due}
use Rattle.syntax.specs.Laws.Ask.{asked, asked_bounded}
use Rattle.syntax.specs.Walk.{ask_row, walk_from, walk_on}
use Rattle.syntax.proofs.Numbers.{natural_of}
use mir.Syntax.{w32}
use mir.Val.{SFits, to_z, of_z}

-- ---- no word has more than three operands: one test of the table

few : List (Sort × ℕ) → Bool
few [] = true
few (u ∷ us) = leb u.1 3 && few us

all_few : List Entry → Bool
all_few [] = true
all_few (e ∷ es) = few e.uses && all_few es

few_at : (es : List Entry) (k : ℕ) → T (all_few es) → T (few (get_or es k (entry "" [])).uses)
unfolding all_few few
few_at [] k t = tt
few_at (e ∷ es) zero t = and_l (few e.uses) (all_few es) t
few_at (e ∷ es) (suc k) t = few_at es k (and_r (few e.uses) (all_few es) t)

few_as : (s : Sort) (us : List (Sort × ℕ)) (m : ℕ) → T (few us) → operands_as s us ≡ Some m → m ≤ 3
unfolding few
few_as s [] m t e = absurd (let y : ◌≡◌ {A = ℕ} 0 1 = cc in omega arith)
few_as s (u ∷ us) m t e = go (eqb (column_of s) (column_of u.0)) (few_as s us m (and_r (leb u.1 3) (few us) t)) e
  where
    go : (b : Bool) → (operands_as s us ≡ Some m → m ≤ 3) → cond b (Some u.1) (operands_as s us) ≡ Some m → m ≤ 3
    go true f e = let q : u.1 ≡ m = cc in omega (arith, q, leb→le u.1 3 (and_l (leb u.1 3) (few us) t))
    go false f e = f e

pub three_operands : (k : ℕ) (s : Sort) (m : ℕ) → operands_of k s ≡ Some m → m ≤ 3
unfolding operands_of all_few few table
three_operands k s m e = few_as s (get_or table k (entry "" [])).uses m (few_at table k tt) e

-- ---- the names of a row that passes fit

pub operand_bounded : (d : Due) (k n line m : ℕ) (last : Bool) → Bounded d.names → ask_row d k n line ≡ Ok m → Bounded (operand_of d k n last).names
unfolding operand_of
operand_bounded d k n line m true b e = asked_bounded d k n m (asked d k n line m e)
operand_bounded d k n line m false b e = b

-- ---- rows of parts of slices

pub part_all {ℓ} : {A : Type ℓ} (l : List A) (a : ℕ) → take (length l - a) (drop a l) ≡ drop a l
part_all l a = take_all _ _ (le_of_eq (length-drop a l))

pub drop_none : {A : Type 0} (l : List A) → drop 0 l ≡ l
drop_none [] = refl
drop_none (x ∷ l) = refl

rows_none : (ks : List ℕ) → rows_of ks [] ≡ []
unfolding rows_of
rows_none [] = refl
rows_none (k ∷ ks) = refl

rows_drop : (r : ℕ) (ks : List ℕ) (ns : List ℤ) → rows_of (drop r ks) (drop r ns) ≡ drop r (rows_of ks ns)
unfolding rows_of
rows_drop zero ks ns = ap (λ (x : List ℕ). rows_of x (drop 0 ns)) (drop_none ks) ∙ ap (rows_of ks) (drop_none ns) ∙ sym (drop_none (rows_of ks ns))
rows_drop (suc r) [] ns = refl
rows_drop (suc r) (k ∷ ks) [] = rows_none (drop r ks)
rows_drop (suc r) (k ∷ ks) (n ∷ ns) = rows_drop r ks ns

rows_below : (ks : List ℕ) (ns : List ℤ) → length (rows_of ks ns) ≤ length ks
unfolding rows_of
rows_below [] ns = omega arith
rows_below (k ∷ ks) [] = omega arith
rows_below (k ∷ ks) (n ∷ ns) = let h = rows_below ks ns in omega arith

pub rows_part : (r : ℕ) (ks : List ℕ) (ns : List ℤ) → rows_of (take (length ks - r) (drop r ks)) (take (length ns - r) (drop r ns)) ≡ drop r (rows_of ks ns)
rows_part r ks ns = rw (part_all ks r, part_all ns r) (rows_drop r ks ns)

-- the row at r, and the rows behind it
row_at : (r : ℕ) (ks : List ℕ) (ns : List ℤ) → length ks ≡ length ns → r < length ks
    → drop r (rows_of ks ns) ≡ (get_or ks r 0, get_or ns r (pos 0)) ∷ drop (suc r) (rows_of ks ns)
unfolding rows_of
row_at r [] ns e h = absurd (omega arith)
row_at r (k ∷ ks) [] e h = absurd (omega arith)
row_at zero (k ∷ ks) (n ∷ ns) e h = ap (λ (R : List Row). (k, n) ∷ R) (sym (drop_none (rows_of ks ns)))
row_at (suc r) (k ∷ ks) (n ∷ ns) e h = row_at r ks ns (omega arith) (omega arith)

-- ---- the walk of a table on from row f, where e is due: it is the walk of what is left from row r on

pub record Reached (f : ℕ) (e : Due) (R : List Row) (r : ℕ) (left : List Due) : Type 0 where
  pub same : (ds : List Due) → walk_from f (e ∷ ds) (drop f R) ≡ walk_from r (left ++ ds) (drop r R)

-- d is due there
module _ {f r : ℕ} {e d : Due} (ks : List ℕ) (ns : List ℤ) (there : Reached f e (rows_of ks ns) r (d ∷ [])) where
  pub walk_none : length ks ≤ r → (ds : List Due) → walk_from f (e ∷ ds) (drop f (rows_of ks ns)) ≡ Err (RowDue (r + 1))
  unfolding walk_from
  walk_none h ds =
      there.same ds
      ∙ ap (walk_from r (d ∷ ds)) (drop_of_length-le (rows_of ks ns) {i = r} (omega (arith, h, rows_below ks ns)))
      ∙ ap (λ (l : ℕ). Err (RowDue l)) (sym (add-one r))

  module _ (same : length ks ≡ length ns) (some : r < length ks) {n : ℕ} (fits : SFits w32 (get_or ns r (pos 0)))
      (en : n ≡ as_natural (to_z w32 (of_z w32 (get_or ns r (pos 0))))) {a : Answer} (ea : a ≡ ask_row d (get_or ks r 0) n (r + 1)) where
    step : (ds : List Due)
        → walk_from f (e ∷ ds) (drop f (rows_of ks ns))
        ≡ after a (λ m. walk_from (r + 1) (operands_due d (get_or ks r 0) n m ++ ds) (drop (r + 1) (rows_of ks ns)))
    unfolding walk_from
    step ds = there.same ds ∙ rw (ea, natural_of (get_or ns r (pos 0)) fits en, add-one, row_at r ks ns same some)

    pub walk_no : {q : Refusal} → a ≡ Err q → (ds : List Due) → walk_from f (e ∷ ds) (drop f (rows_of ks ns)) ≡ Err q
    walk_no q ds = step ds ∙ rw q

    pub walk_leaf : a ≡ Ok 0 → (ds : List Due) → walk_from f (e ∷ ds) (drop f (rows_of ks ns)) ≡ walk_from (r + 1) ds (drop (r + 1) (rows_of ks ns))
    unfolding operands_due
    walk_leaf q ds = step ds ∙ rw q

    pub walk_row : {m : ℕ} → a ≡ Ok m → {l : ℕ} → l ≡ m → Reached f e (rows_of ks ns) (r + 1) (operands_due d (get_or ks r 0) n l)
    walk_row q l = record { same = λ ds. step ds ∙ rw (q, l) }

-- m operands of a row are due there
module _ {f r m : ℕ} {e : Due} {R : List Row} (d : Due) (k n : ℕ) (there : Reached f e R r (operands_due d k n m)) where
  pub last_due : m ≡ 1 → {o : Due} → o ≡ operand_of d k n true → Reached f e R r (o ∷ [])
  unfolding operands_due
  last_due z {o} q = rw q (rw z at there)

  module _ (some : 1 < m) {o : Due} (eo : o ≡ operand_of d k n false) (w : Answer)
      (h : (ds : List Due) → walk_from r (o ∷ ds) (drop r R) ≡ walk_on w ds R) where
    first : (ds : List Due) → walk_from f (e ∷ ds) (drop f R) ≡ walk_on w (operands_due d k n (m - 1) ++ ds) R
    unfolding operands_due
    first ds =
        let z : m ≡ suc (m - 1) = omega arith in
        let f : eqb m 1 ≡ false = ne_eqb m 1 (λ x. absurd (omega (arith, some, x))) in
        let q : operands_due d k n m ≡ o ∷ operands_due d k n (m - 1) =
        ap (operands_due d k n) z
        ∙ ap (λ (x : Due). x ∷ operands_due d k n (m - 1))
        (ap (λ (x : ℕ). operand_of d k n (eqb x 1)) (sym z) ∙ ap (operand_of d k n) f ∙ sym eo) in
        there.same ds ∙ ap (λ (x : List Due). walk_from r (x ++ ds) (drop r R)) q ∙ h (operands_due d k n (m - 1) ++ ds)

    pub operand_no : {q : Refusal} → w ≡ Err q → (ds : List Due) → walk_from f (e ∷ ds) (drop f R) ≡ Err q
    operand_no q ds = first ds ∙ rw q

    pub operand_passed : {i : ℕ} → w ≡ Ok i → {l : ℕ} → l ≡ m - 1 → Reached f e R i (operands_due d k n l)
    operand_passed q l = record { same = λ ds. first ds ∙ rw (q, l) }
