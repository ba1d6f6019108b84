-- Rows that walk well are all passed, and their kinds are all words'. Assumes nothing.
use Rattle.std.specs.Prelude.{◌≡◌, refl, Bool, true, false, cond, List, [], ◌∷◌, ◌++◌, ℕ, suc, ◌+◌, length, Ok, Err}
use Rattle.refusals.specs.Answers.{Answer}
use Rattle.std.proofs.Common.{◌∙◌, arith}
use Rattle.refusals.specs.declared.Refusal.{Refusal}
use Rattle.refusals.specs.declared.Refusal.TheVariants.{LineForm}
use Rattle.words.specs.Kinds.{Row}
use Rattle.words.specs.Groups.{is_listed}
use Rattle.words.proofs.Laws.{word_listed}
use Rattle.words.specs.declared.Sort.{Sort}
use Rattle.syntax.specs.declared.operands.Due.{Due}
use Rattle.syntax.specs.Ranges.{as_natural}
use Rattle.syntax.specs.Names.{no_names}
use Rattle.syntax.specs.Operands.{due, operands_due}
use Rattle.syntax.specs.Walk.{walk_from, listed_from, walk_table}
use Rattle.syntax.specs.Laws.Ask.{asked, walked}

-- all rows are passed
walk_length : (R : List Row) (p m : ℕ) (ds : List Due) → walk_from p ds R ≡ Ok m → m ≡ p + length R
unfolding walk_from
walk_length [] p m [] e = let q : p ≡ m = cc in omega arith
walk_length [] p m (d ∷ ds) e = absurd (let y : ◌≡◌ {A = ℕ} 0 1 = cc in omega arith)
walk_length (r ∷ rs) p m [] e = absurd (let y : ◌≡◌ {A = ℕ} 0 1 = cc in omega arith)
walk_length (r ∷ rs) p m (d ∷ ds) e =
    let w = walked p m d ds r rs e in
    omega (arith, walk_length rs (suc p) m (operands_due d r.0 (as_natural r.1) w.0 ++ ds) w.2)

pub walk_listed : (R : List Row) (p m : ℕ) (ds : List Due) → walk_from p ds R ≡ Ok m → (q : ℕ) (v : Answer) → listed_from q R v ≡ v
unfolding walk_from listed_from
walk_listed [] p m ds e q v = refl
walk_listed (r ∷ rs) p m [] e q v = absurd (let y : ◌≡◌ {A = ℕ} 0 1 = cc in omega arith)
walk_listed (r ∷ rs) p m (d ∷ ds) e q v =
    let w = walked p m d ds r rs e in
    let a = asked d r.0 (as_natural r.1) (suc p) w.0 w.1 in
    rw (word_listed r.0 d.sort a.count a.of) (walk_listed rs (suc p) m (operands_due d r.0 (as_natural r.1) w.0 ++ ds) w.2 (suc q) v)

pub listed_walk : (R : List Row) (q m : ℕ) (v : Answer) → listed_from q R v ≡ Ok m → v ≡ Ok m
unfolding listed_from
listed_walk [] q m v e = e
listed_walk (r ∷ rs) q m v e = go (is_listed r.0) (listed_walk rs (suc q) m v) e
  where
    go : (b : Bool) → (listed_from (suc q) rs v ≡ Ok m → v ≡ Ok m) → cond b (listed_from (suc q) rs v) (Err (LineForm (suc q))) ≡ Ok m → v ≡ Ok m
    go true f e = f e
    go false f e = absurd (let y : ◌≡◌ {A = ℕ} 0 1 = cc in omega arith)

-- ---- question 2 of the kinds does not depend on what is asked behind it

pub all_listed : (R : List Row) (p m : ℕ) (v w : Answer) → listed_from p R v ≡ Ok m → listed_from p R w ≡ w
unfolding listed_from
all_listed [] p m v w e = refl
all_listed (r ∷ rs) p m v w e = go (is_listed r.0) (all_listed rs (suc p) m v w) e
  where
    go : (b : Bool) → (listed_from (suc p) rs v ≡ Ok m → listed_from (suc p) rs w ≡ w)
        → cond b (listed_from (suc p) rs v) (Err (LineForm (suc p))) ≡ Ok m → cond b (listed_from (suc p) rs w) (Err (LineForm (suc p))) ≡ w
    go true f e = f e
    go false f e = absurd (let y : ◌≡◌ {A = ℕ} 0 1 = cc in omega arith)

pub one_unlisted : (R : List Row) (p m : ℕ) (q : Refusal) (w : Answer) → listed_from p R (Ok m) ≡ Err q → listed_from p R w ≡ Err q
unfolding listed_from
one_unlisted [] p m q w e = absurd (let y : ◌≡◌ {A = ℕ} 0 1 = cc in omega arith)
one_unlisted (r ∷ rs) p m q w e = go (is_listed r.0) (one_unlisted rs (suc p) m q w) e
  where
    go : (b : Bool) → (listed_from (suc p) rs (Ok m) ≡ Err q → listed_from (suc p) rs w ≡ Err q)
        → cond b (listed_from (suc p) rs (Ok m)) (Err (LineForm (suc p))) ≡ Err q
        → cond b (listed_from (suc p) rs w) (Err (LineForm (suc p))) ≡ Err q
    go true f e = f e
    go false f e = e

-- ---- a whole table

module _ (s : Sort) (R : List Row) (m : ℕ) where
  pub table_walk : walk_table s R ≡ Ok m → walk_from 0 (due s no_names ∷ []) R ≡ Ok m
  unfolding walk_table
  table_walk e = listed_walk R 0 m (walk_from 0 (due s no_names ∷ []) R) e

  pub walk_table_holds : walk_from 0 (due s no_names ∷ []) R ≡ Ok m → walk_table s R ≡ Ok m
  unfolding walk_table
  walk_table_holds e = walk_listed R 0 m (due s no_names ∷ []) e 0 (walk_from 0 (due s no_names ∷ []) R) ∙ e

  pub table_passed : walk_table s R ≡ Ok m → m ≡ length R
  table_passed e = omega (arith, walk_length R 0 m (due s no_names ∷ []) (table_walk e))
