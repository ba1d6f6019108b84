-- A whole table: its rows are as many as the shorter slice has, and each kind is a word's. Assumes nothing.
use Rattle.std.specs.Prelude.{Ok, Err, Option, Some, None, not, position}
use Rattle.std.specs.List.{position_from}
use Rattle.std.proofs.lemmas.Iterator.Adapters.{position_from-zero}
use Rattle.refusals.specs.Answers.{Answer}
use mathlib.Core.Path.{◌≡◌, refl, sym, ap, ap₂, ◌∙◌}
use mathlib.Core.Bool.{Bool, true, false, cond}
use mathlib.Core.List.{List, [], ◌∷◌}
use Prim.Native.Nat.{ℕ, zero, suc, ◌+◌, ◌≤◌, ◌<◌, min}
use native.Mathlib.Omega.{arith}
use native.Mathlib.Numerals.{add-one}
use lib.IntN.{ℤ}
use lib.ListN.{length, take, drop}
use lib.Seq.{length-take-le}
use Rattle.refusals.specs.declared.Refusal.{Refusal}
use Rattle.refusals.specs.declared.Refusal.TheVariants.{LineForm, RowDue}
use Rattle.words.specs.Kinds.{Row, rows_of}
use Rattle.words.specs.Groups.{is_listed}
use Rattle.words.proofs.Laws.{rows_length}
use Rattle.words.specs.declared.Sort.{Sort}
use Rattle.syntax.specs.declared.operands.Due.{Due}
use Rattle.syntax.specs.Names.{no_names}
use Rattle.syntax.specs.Operands.{due}
use Rattle.syntax.specs.Walk.{walk_from, walk_on, listed_from, walk_table}
use Rattle.syntax.proofs.WalkSteps.{drop_none}
use Rattle.syntax.specs.Laws.Listed.{listed_walk, all_listed, one_unlisted}

-- ---- question 2 of rows is that of their kinds: a search for the first that is no word

abbrev found : Option ℕ → Answer → Answer
found (Some i) next = Err (LineForm (i + 1))
found None next = next

listed_found : (ks : List ℕ) (ns : List ℤ) (p : ℕ) (v : Answer) → length ks ≡ length ns
    → found (position_from (λ k. not (is_listed k)) p ks) v ≡ listed_from p (rows_of ks ns) v
unfolding rows_of listed_from
listed_found [] ns p v e = refl
listed_found (k ∷ ks) [] p v e = absurd (omega arith)
listed_found (k ∷ ks) (n ∷ ns) p v e = go (is_listed k) (listed_found ks ns (suc p) v (omega arith))
  where
    go : (b : Bool) → found (position_from (λ k. not (is_listed k)) (suc p) ks) v ≡ listed_from (suc p) (rows_of ks ns) v
        → found (cond (not b) (Some p) (position_from (λ k. not (is_listed k)) (p + 1) ks)) v
        ≡ cond b (listed_from (suc p) (rows_of ks ns) v) (Err (LineForm (suc p)))
    go true f = rw add-one f
    go false f = ap (λ (l : ℕ). Err (LineForm l)) (add-one p)

-- ---- the end of the walk

rows_left : (R : List Row) (r p : ℕ) → r < length R → walk_from p [] (drop r R) ≡ Err (RowDue (suc p))
unfolding walk_from
rows_left [] r p h = absurd (omega arith)
rows_left (x ∷ R) zero p h = refl
rows_left (x ∷ R) (suc r) p h = rows_left R r p (omega arith)

none_left : (R : List Row) (r p : ℕ) → length R ≤ r → walk_from p [] (drop r R) ≡ Ok p
unfolding walk_from
none_left [] zero p h = refl
none_left [] (suc r) p h = refl
none_left (x ∷ R) zero p h = absurd (omega arith)
none_left (x ∷ R) (suc r) p h = none_left R r p (omega arith)

-- ---- the table

pub rows_take : (m : ℕ) (ks : List ℕ) (ns : List ℤ) → m ≡ min (length ks) (length ns) → rows_of (take m ks) (take m ns) ≡ rows_of ks ns
unfolding rows_of
rows_take zero [] ns e = refl
rows_take zero (k ∷ ks) [] e = refl
rows_take zero (k ∷ ks) (n ∷ ns) e = absurd (omega arith)
rows_take (suc m) [] ns e = absurd (omega arith)
rows_take (suc m) (k ∷ ks) [] e = absurd (omega arith)
rows_take (suc m) (k ∷ ks) (n ∷ ns) e = ap (λ (r : List Row). (k, n) ∷ r) (rows_take m ks ns (omega arith))

module _ (ks : List ℕ) (ns : List ℤ) {m : ℕ} (em : m ≡ min (length ks) (length ns)) where
  pub kinds_length : length (take m ks) ≡ m
  kinds_length = length-take-le m ks (omega arith)

  pub numbers_length : length (take m ns) ≡ m
  numbers_length = length-take-le m ns (omega arith)

  pub rows_found : {o : Option ℕ} → o ≡ position (λ k. not (is_listed k)) (take m ks)
      → found o (Ok m) ≡ listed_from 0 (rows_of ks ns) (Ok (length (rows_of ks ns)))
  rows_found {o} e =
      ap₂ found (e ∙ position_from-zero (λ k. not (is_listed k)) (take m ks)) (ap Ok (em ∙ sym (rows_length ks ns)))
      ∙ listed_found (take m ks) (take m ns) 0 (Ok (length (rows_of ks ns))) (kinds_length ∙ sym numbers_length)
      ∙ ap (λ (R : List Row). listed_from 0 R (Ok (length (rows_of ks ns)))) (rows_take m ks ns em)

module _ (ks : List ℕ) (ns : List ℤ) {l : Answer} (el : l ≡ listed_from 0 (rows_of ks ns) (Ok (length (rows_of ks ns)))) where
  pub table_unlisted : (s : Sort) (q : Refusal) → l ≡ Err q → Err q ≡ walk_table s (rows_of ks ns)
  unfolding walk_table
  table_unlisted s q e = sym (one_unlisted (rows_of ks ns) 0 (length (rows_of ks ns)) q _ (sym el ∙ e))

  module _ (m : ℕ) (is : l ≡ Ok m) where
    pub rows_shorter : m ≡ min (length ks) (length ns)
    rows_shorter =
        let e : Ok (length (rows_of ks ns)) ≡ Ok m = listed_walk (rows_of ks ns) 0 m _ (sym el ∙ is) in
        let n : length (rows_of ks ns) ≡ m = cc in
        sym n ∙ rows_length ks ns

    abbrev S : List Row
    S = rows_of (take m ks) (take m ns)

    part_length : length S ≡ m
    part_length = rows_length (take m ks) (take m ns) ∙ omega (arith, kinds_length ks ns rows_shorter, numbers_length ks ns rows_shorter)

    module _ (s : Sort) (a : Answer) (h : (ds : List Due) → walk_from 0 (due s no_names ∷ ds) (drop 0 S) ≡ walk_on a ds S) where
      table_walked : (v : Answer) → v ≡ walk_on a [] S → v ≡ walk_table s (rows_of ks ns)
      unfolding walk_table
      table_walked v e =
          e ∙ sym (h [])
          ∙ ap (walk_from 0 (due s no_names ∷ [])) (drop_none S ∙ rows_take m ks ns rows_shorter)
          ∙ sym (all_listed (rows_of ks ns) 0 m _ _ (sym el ∙ is))

      pub table_no : (q : Refusal) → a ≡ Err q → Err q ≡ walk_table s (rows_of ks ns)
      table_no q e = table_walked (Err q) (rw e)

      pub table_more : (end : ℕ) → a ≡ Ok end → end < m → Err (RowDue (end + 1)) ≡ walk_table s (rows_of ks ns)
      table_more end e l = table_walked (Err (RowDue (end + 1))) (rw (e, add-one) (sym (rows_left S end end (omega (arith, part_length)))))

      pub table_passed : (end : ℕ) → a ≡ Ok end → m ≤ end → Ok end ≡ walk_table s (rows_of ks ns)
      table_passed end e l = table_walked (Ok end) (rw e (sym (none_left S end end (omega (arith, part_length)))))
