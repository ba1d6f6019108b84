-- What the test of question 15 says: each cell below n stands on exactly one line and no other cell on any, so that there are n
-- lines. Assumes nothing.
use Rattle.std.specs.Prelude.{◌≡◌, refl, Bool, true, false, cond, ◌&&◌, List, [], ◌∷◌, ◌++◌, ◌≢◌, ℕ, zero, suc, ◌+◌, ◌≤◌, ◌<◌, eqb, ltb, length, get_or}
use Rattle.std.proofs.Common.{sym, ap, ◌∙◌, true≢false, le_of_suc-le-suc, arith, eqb-true, eq-eqb, ne_eqb, ltb-true, ltb-false, lt-ltb, le-ltb}
use Rattle.std.proofs.lemmas.Bool.{eqb-false}
use Rattle.words.specs.Kinds.{Row}
use Rattle.lines.specs.Reading.{kinds_of}
use Rattle.values.specs.Values.{lines_for, one_each, no_other, one_line_each, value_of}

both : (a b : Bool) → a && b ≡ true → (a ≡ true) × (b ≡ true)
both true b e = (refl, e)
both false b e = absurd (true≢false (sym e))

-- by whether two cells are the same
pub cell_cases : {P : Type 0} (c k : ℕ) → (c ≡ k → P) → (c ≢ k → P) → P
cell_cases {P} c k same other = go (eqb c k) refl
  where
    go : (b : Bool) → eqb c k ≡ b → P
    go true e = same (eqb-true c k e)
    go false e = other (eqb-false c k e)

-- ---- how many lines name a cell

module _ (k c : ℕ) (cs : List ℕ) where
  pub lines_here : c ≡ k → lines_for k (c ∷ cs) ≡ suc (lines_for k cs)
  unfolding lines_for
  lines_here e = rw (eq-eqb c k e)

  pub lines_other : c ≢ k → lines_for k (c ∷ cs) ≡ lines_for k cs
  unfolding lines_for
  lines_other e = rw (ne_eqb c k e)

pub lines_append : (k : ℕ) (cs ds : List ℕ) → lines_for k (cs ++ ds) ≡ lines_for k cs + lines_for k ds
unfolding lines_for
lines_append k [] ds = omega arith
lines_append k (c ∷ cs) ds =
    let rest = lines_append k cs ds in
    cell_cases c k
    (λ e. omega (arith, lines_here k c (cs ++ ds) e, lines_here k c cs e, rest))
    (λ e. omega (arith, lines_other k c (cs ++ ds) e, lines_other k c cs e, rest))

-- ---- the two parts of the question

one_each_says : (n : ℕ) (cs : List ℕ) → one_each n cs ≡ true → (k : ℕ) → k < n → lines_for k cs ≡ 1
unfolding one_each
one_each_says zero cs e k h = absurd (omega arith)
one_each_says (suc n) cs e k h =
    let p = both (eqb (lines_for n cs) 1) (one_each n cs) e in
    cell_cases k n
    (λ s. ap (λ (j : ℕ). lines_for j cs) s ∙ eqb-true (lines_for n cs) 1 p.0)
    (λ s. one_each_says n cs p.1 k (omega arith))

one_each_so : (n : ℕ) (cs : List ℕ) → ((k : ℕ) → k < n → lines_for k cs ≡ 1) → one_each n cs ≡ true
unfolding one_each
one_each_so zero cs h = refl
one_each_so (suc n) cs h = rw (eq-eqb (lines_for n cs) 1 (h n (omega arith))) (one_each_so n cs (λ k g. h k (omega arith)))

no_other_says : (n : ℕ) (cs : List ℕ) → no_other n cs ≡ true → (k : ℕ) → n ≤ k → lines_for k cs ≡ 0
unfolding no_other lines_for
no_other_says n [] e k h = refl
no_other_says n (c ∷ cs) e k h =
    let p = both (ltb c n) (no_other n cs) e in
    lines_other k c cs (λ s. omega (arith, ltb-true c n p.0)) ∙ no_other_says n cs p.1 k h

-- no cell from n on is named by a line, nor by those behind it
others_none : (n c : ℕ) (cs : List ℕ) → ((k : ℕ) → n ≤ k → lines_for k (c ∷ cs) ≡ 0) → (c < n) × ((k : ℕ) → n ≤ k → lines_for k cs ≡ 0)
others_none n c cs h = (
  go (ltb c n) refl,
  λ k g. cell_cases c k (λ s. absurd (omega (arith, lines_here k c cs s, h k g))) (λ s. sym (lines_other k c cs s) ∙ h k g),
)
  where
    go : (b : Bool) → ltb c n ≡ b → c < n
    go true e = ltb-true c n e
    go false e = absurd (omega (arith, lines_here c c cs refl, h c (ltb-false c n e)))

no_other_so : (n : ℕ) (cs : List ℕ) → ((k : ℕ) → n ≤ k → lines_for k cs ≡ 0) → no_other n cs ≡ true
unfolding no_other
no_other_so n [] h = refl
no_other_so n (c ∷ cs) h =
    let p = others_none n c cs h in
    rw (lt-ltb c n p.0) (no_other_so n cs p.1)

-- ---- the question

-- Each of the cells 0 to n − 1 stands on exactly one line, and no other cell on any.
pub record OneLineEach (n : ℕ) (cs : List ℕ) : Type 0 where
  pub one : (k : ℕ) → k < n → lines_for k cs ≡ 1
  pub none : (k : ℕ) → n ≤ k → lines_for k cs ≡ 0

pub test_says : (n : ℕ) (cs : List ℕ) → one_line_each n cs ≡ true → OneLineEach n cs
unfolding one_line_each
test_says n cs e =
    let p = both (one_each n cs) (no_other n cs) e in
    record { one = one_each_says n cs p.0; none = no_other_says n cs p.1 }

pub test_so : (n : ℕ) (cs : List ℕ) → OneLineEach n cs → one_line_each n cs ≡ true
unfolding one_line_each
test_so n cs p = rw (one_each_so n cs p.one) (no_other_so n cs p.none)

-- ---- as many lines as cells

-- how many lines name a cell below n
unfoldable below : ℕ → List ℕ → ℕ
below n [] = 0
below n (c ∷ cs) = cond (ltb c n) (suc (below n cs)) (below n cs)

module _ (n c : ℕ) (cs : List ℕ) where
  below_in : c < n → below n (c ∷ cs) ≡ suc (below n cs)
  unfolding below
  below_in h = rw (lt-ltb c n h)

  below_out : n ≤ c → below n (c ∷ cs) ≡ below n cs
  unfolding below
  below_out h = rw (le-ltb c n h)

below_zero_holds : (cs : List ℕ) → below 0 cs ≡ 0
unfolding below
below_zero_holds [] = refl
below_zero_holds (c ∷ cs) = below_out 0 c cs (omega arith) ∙ below_zero_holds cs

-- the lines for n are those that are below n + 1 and not below n
below_next : (n : ℕ) (cs : List ℕ) → below (suc n) cs ≡ below n cs + lines_for n cs
unfolding below lines_for
below_next n [] = refl
below_next n (c ∷ cs) =
    let rest = below_next n cs in
    cell_cases c n
    (λ e. omega (arith, below_in (suc n) c cs (omega arith), below_out n c cs (omega arith), lines_here n c cs e, rest))
    (λ e. go (ltb c n) refl e rest)
  where
    go : (b : Bool) → ltb c n ≡ b → c ≢ n → below (suc n) cs ≡ below n cs + lines_for n cs
        → below (suc n) (c ∷ cs) ≡ below n (c ∷ cs) + lines_for n (c ∷ cs)
    go true h e rest =
        let l = ltb-true c n h in
        omega (arith, below_in (suc n) c cs (omega arith), below_in n c cs l, lines_other n c cs e, rest)
    go false h e rest =
        let l = ltb-false c n h in
        let m : suc n ≤ c = omega (arith, e) in
        omega (arith, below_out (suc n) c cs m, below_out n c cs l, lines_other n c cs e, rest)

-- every line, where no other is there
below_every : (n : ℕ) (cs : List ℕ) → no_other n cs ≡ true → below n cs ≡ length cs
unfolding below no_other
below_every n [] e = refl
below_every n (c ∷ cs) e =
    let p = both (ltb c n) (no_other n cs) e in
    below_in n c cs (ltb-true c n p.0) ∙ ap suc (below_every n cs p.1)

below_ones : (n : ℕ) (cs : List ℕ) → ((k : ℕ) → k < n → lines_for k cs ≡ 1) → below n cs ≡ n
below_ones zero cs h = below_zero_holds cs
below_ones (suc n) cs h = omega (arith, below_next n cs, h n (omega arith), below_ones n cs (λ k g. h k (omega arith)))

below_few : (n : ℕ) (cs : List ℕ) → ((k : ℕ) → k < n → lines_for k cs ≤ 1) → below n cs ≤ n
below_few zero cs h = omega (arith, below_zero_holds cs)
below_few (suc n) cs h = omega (arith, below_next n cs, h n (omega arith), below_few n cs (λ k g. h k (omega arith)))

below_full : (n : ℕ) (cs : List ℕ) → ((k : ℕ) → k < n → lines_for k cs ≤ 1) → below n cs ≡ n
    → (k : ℕ) → k < n → lines_for k cs ≡ 1
below_full zero cs h e k g = absurd (omega arith)
below_full (suc n) cs h e k g =
    let less : (j : ℕ) → j < n → lines_for j cs ≤ 1 = λ j l. h j (omega arith) in
    let next = below_next n cs in
    let few = below_few n cs less in
    let last = h n (omega arith) in
    cell_cases k n
    (λ s. ap (λ (j : ℕ). lines_for j cs) s ∙ omega (arith, next, few, last, e))
    (λ s. below_full n cs less (omega (arith, next, few, last, e)) k (omega arith))

-- There are as many lines as cells.
pub as_many : (n : ℕ) (cs : List ℕ) → OneLineEach n cs → length cs ≡ n
as_many n cs p = sym (below_every n cs (no_other_so n cs p.none)) ∙ below_ones n cs p.one

-- Where there are as many lines as cells, and no cell stands on two, each stands on one.
pub none_twice : (n : ℕ) (cs : List ℕ) → length cs ≡ n → ((k : ℕ) → k < n → lines_for k cs ≤ 1)
    → ((k : ℕ) → n ≤ k → lines_for k cs ≡ 0) → OneLineEach n cs
none_twice n cs e h none =
    record { one = below_full n cs h (below_every n cs (no_other_so n cs none) ∙ e); none = none }

-- ---- the value of a cell

line_counted : (rs : List Row) (i : ℕ) (d : Row) → i < length rs → 1 ≤ lines_for (get_or rs i d).0 (kinds_of rs)
line_counted [] i d h = absurd (omega arith)
line_counted (r ∷ rs) zero d h = omega (arith, lines_here r.0 r.0 (kinds_of rs) refl)
line_counted (r ∷ rs) (suc i) d h =
    let k = (get_or rs i d).0 in
    let rest = line_counted rs i d (le_of_suc-le-suc h) in
    cell_cases r.0 k
    (λ s. omega (arith, lines_here k r.0 (kinds_of rs) s))
    (λ s. omega (arith, lines_other k r.0 (kinds_of rs) s, rest))

-- What stands on a line is the value of its cell, where no other line names that cell.
pub value_of_line : (rs : List Row) (i : ℕ) (d : Row) → i < length rs → lines_for (get_or rs i d).0 (kinds_of rs) ≡ 1
    → value_of rs (get_or rs i d).0 ≡ (get_or rs i d).1
unfolding value_of lines_for
value_of_line [] i d h e = absurd (omega arith)
value_of_line (r ∷ rs) zero d h e = rw (eq-eqb r.0 r.0 refl)
value_of_line (r ∷ rs) (suc i) d h e =
    let some = line_counted rs i d (le_of_suc-le-suc h) in
    let k = (get_or rs i d).0 in
    cell_cases r.0 k
    (λ s. absurd (omega (arith, lines_here k r.0 (kinds_of rs) s, some, e)))
    (λ s. ap (λ (b : Bool). cond b r.1 (value_of rs k)) (ne_eqb r.0 k s)
    ∙ value_of_line rs i d (le_of_suc-le-suc h) (sym (lines_other k r.0 (kinds_of rs) s) ∙ e))
