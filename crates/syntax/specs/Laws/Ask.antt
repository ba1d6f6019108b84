-- What one row is asked: the answers to questions 4, 5, 6 and 18, one by one and together. Assumes nothing.
use Rattle.std.specs.Prelude.{◌≡◌, refl, Bool, true, false, ◌&&◌, List, ◌∷◌, ◌++◌, ℕ, suc, ◌+◌, leb, Ok, Err, Option, Some, None}
use Rattle.std.proofs.Common.{arith, leb-true, le-leb}
use Rattle.refusals.specs.declared.Refusal.TheVariants.{RowDue, NumberRange, NameCount, LanesInside}
use Rattle.refusals.specs.Answers.{after, Answer}
use Rattle.words.specs.Kinds.{Row}
use Rattle.words.specs.Words.{operands_of}
use Rattle.syntax.specs.declared.names.Names.{Names}
use Rattle.syntax.specs.declared.operands.Due.{Due}
use Rattle.syntax.specs.Ranges.{as_natural, in_range}
use Rattle.syntax.specs.Names.{opened_by, names_fit, lanes_fit, Bounded}
use Rattle.syntax.specs.Operands.{inputs_counted, operands_due}
use Rattle.syntax.specs.Walk.{first_no, ask_row, walk_from}

module _ (d : Due) (k n line : ℕ) where
  pub ask_due : operands_of k d.sort ≡ None → Err (RowDue line) ≡ ask_row d k n line
  unfolding ask_row
  ask_due e = rw e

  module _ {m : ℕ} (of : operands_of k d.sort ≡ Some m) where
    pub ask_range : in_range d.sort d.names k n ≡ false → Err (NumberRange line) ≡ ask_row d k n line
    unfolding ask_row
    ask_range r = rw (of, r)

    pub ask_names : in_range d.sort d.names k n ≡ true → names_fit (opened_by k n d.names) ≡ false → Err (NameCount line) ≡ ask_row d k n line
    unfolding ask_row
    ask_names r f = rw (of, r, f)

    pub ask_lanes : in_range d.sort d.names k n ≡ true → names_fit (opened_by k n d.names) ≡ true → lanes_fit (opened_by k n d.names) ≡ false
        → Err (LanesInside line) ≡ ask_row d k n line
    unfolding ask_row
    ask_lanes r f g = rw (of, r, f, g)

    pub ask_passed : in_range d.sort d.names k n ≡ true → names_fit (opened_by k n d.names) ≡ true → lanes_fit (opened_by k n d.names) ≡ true
        → Ok (inputs_counted d.sort n + m) ≡ ask_row d k n line
    unfolding ask_row
    ask_passed r f g = rw (of, r, f, g)

-- ---- a row that passes

pub record Asked (d : Due) (k n m : ℕ) : Type 0 where
  pub count : ℕ
  pub of : operands_of k d.sort ≡ Some count
  pub operands : m ≡ inputs_counted d.sort n + count
  pub ranged : in_range d.sort d.names k n ≡ true
  pub fit : names_fit (opened_by k n d.names) ≡ true
  pub apart : lanes_fit (opened_by k n d.names) ≡ true

pub asked : (d : Due) (k n line m : ℕ) → ask_row d k n line ≡ Ok m → Asked d k n m
unfolding ask_row
asked d k n line m e =
    go (operands_of k d.sort) refl (in_range d.sort d.names k n) refl (names_fit (opened_by k n d.names)) refl (lanes_fit (opened_by k n d.names)) refl e
  where
    go : (o : Option ℕ) → operands_of k d.sort ≡ o → (r : Bool) → in_range d.sort d.names k n ≡ r → (f : Bool) → names_fit (opened_by k n d.names) ≡ f
        → (a : Bool) → lanes_fit (opened_by k n d.names) ≡ a
        → first_no o r f a (inputs_counted d.sort n) line ≡ Ok m → Asked d k n m
    go None p r q f g a l e = absurd (let y : ◌≡◌ {A = ℕ} 0 1 = cc in omega arith)
    go (Some c) p true q true g true l e = record { count = c; of = p; operands = cc; ranged = q; fit = g; apart = l }
    go (Some c) p true q true g false l e = absurd (let y : ◌≡◌ {A = ℕ} 0 1 = cc in omega arith)
    go (Some c) p true q false g a l e = absurd (let y : ◌≡◌ {A = ℕ} 0 1 = cc in omega arith)
    go (Some c) p false q f g a l e = absurd (let y : ◌≡◌ {A = ℕ} 0 1 = cc in omega arith)

-- the first row of a walk that finds nothing wrong passes, and so does the walk behind it
pub walked : (p m : ℕ) (d : Due) (ds : List Due) (r : Row) (rs : List Row) → walk_from p (d ∷ ds) (r ∷ rs) ≡ Ok m
    → (c : ℕ) × (ask_row d r.0 (as_natural r.1) (suc p) ≡ Ok c) × (walk_from (suc p) (operands_due d r.0 (as_natural r.1) c ++ ds) rs ≡ Ok m)
unfolding walk_from
walked p m d ds r rs e = go (ask_row d r.0 (as_natural r.1) (suc p)) refl e
  where
    go : (x : Answer) → ask_row d r.0 (as_natural r.1) (suc p) ≡ x
        → after x (λ c. walk_from (suc p) (operands_due d r.0 (as_natural r.1) c ++ ds) rs) ≡ Ok m
        → (c : ℕ) × (ask_row d r.0 (as_natural r.1) (suc p) ≡ Ok c) × (walk_from (suc p) (operands_due d r.0 (as_natural r.1) c ++ ds) rs ≡ Ok m)
    go (Ok c) q e = (c, q, e)
    go (Err x) q e = absurd (let y : ◌≡◌ {A = ℕ} 0 1 = cc in omega arith)

-- ---- the test of names, as a fact

pub fit_bounded : (s : Names) → names_fit s ≡ true → lanes_fit s ≡ true → Bounded s
fit_bounded s e l = go (leb s.variables 16) refl (leb s.counters 32) refl (leb s.regions 256) refl e
  where
    go : (a : Bool) → leb s.variables 16 ≡ a → (b : Bool) → leb s.counters 32 ≡ b → (c : Bool) → leb s.regions 256 ≡ c → a && b && c ≡ true → Bounded s
    go true p true q true r e = record {
      variables_fit = leb-true s.variables 16 p;
      counters_fit = leb-true s.counters 32 q;
      regions_fit = leb-true s.regions 256 r;
      lanes_fit = leb-true s.lanes 1 l;
    }
    go true p true q false r e = absurd (let y : ◌≡◌ {A = ℕ} 0 1 = cc in omega arith)
    go true p false q c r e = absurd (let y : ◌≡◌ {A = ℕ} 0 1 = cc in omega arith)
    go false p b q c r e = absurd (let y : ◌≡◌ {A = ℕ} 0 1 = cc in omega arith)

pub asked_bounded : (d : Due) (k n m : ℕ) → Asked d k n m → Bounded (opened_by k n d.names)
asked_bounded d k n m q = fit_bounded (opened_by k n d.names) q.fit q.apart

pub bounded_fit : (s : Names) → Bounded s → names_fit s ≡ true
bounded_fit s b = simp (le-leb s.variables 16 b.variables_fit, le-leb s.counters 32 b.counters_fit, le-leb s.regions 256 b.regions_fit)

pub bounded_apart : (s : Names) → Bounded s → lanes_fit s ≡ true
bounded_apart s b = le-leb s.lanes 1 b.lanes_fit
