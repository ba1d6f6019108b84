-- What stands in the two slices that a reader was lent: where they have room for as many rows as its limits let in, the rows of the text
-- are in front. Assumes nothing.
use Rattle.std.specs.Prelude.{Bool, ◌⊎◌, ◌&&◌, refl, List, [], ◌∷◌, ℕ, ◌≤◌, ◌<◌, min, leb, ℤ, length, take, drop, Ok, Err, Option}
use Rattle.std.proofs.Math.Bool.{true, false, cond}
use Rattle.std.proofs.Math.Path.{◌≡◌}
use Rattle.std.proofs.Common.{⊎_elim, sym, ap, ap₂, ◌∙◌, subst, arith, leb-true, le-leb, take_at, length-take-le}
use Rattle.std.proofs.lemmas.Bool.{lt-leb}
use Rattle.std.proofs.lemmas.List.{length-map}
use Rattle.refusals.specs.declared.Refusal.{Refusal}
use Rattle.refusals.specs.declared.Refusal.TheVariants.{LineCount, TextForm}
use Rattle.refusals.specs.Answers.{unless_refused, is_told, Answer}
use Rattle.words.specs.Kinds.{Row, rows_of}
use Rattle.texts.specs.Texts.{lines_of}
use Rattle.lines.specs.Reading.{rows_in, closed, formed, limited, reading, room_for, kinds_of, numbers_of, filled, ReadInto}
use Rattle.lines.specs.Lent.{ask_room, TableInto}
use Rattle.lines.proofs.Laws.{rows_read}
use Rattle.lines.specs.declared.Limits.{Limits}

-- ---- rows in front

-- the rows of rows' columns
pub rows_again : (R : List Row) → rows_of (kinds_of R) (numbers_of R) ≡ R
unfolding rows_of
rows_again [] = refl
rows_again (r ∷ R) = ap (λ (x : List Row). r ∷ x) (rows_again R)

-- no row is left where one of the columns has ended
pub rows_ended : (ks : List ℕ) (ns : List ℤ) → (length ks ≡ 0) ⊎ (length ns ≡ 0) → rows_of ks ns ≡ []
unfolding rows_of
rows_ended [] ns h = refl
rows_ended (k ∷ ks) [] h = refl
rows_ended (k ∷ ks) (n ∷ ns) h = absurd (⊎_elim (λ (e : length (k ∷ ks) ≡ 0). omega arith) (λ (e : length (n ∷ ns) ≡ 0). omega arith) h)

pub in_front : {A : Type 0} (b : Bool) (put lent left : List A) (n : ℕ) → b ≡ true → length put ≡ n → left ≡ filled b put lent → take n left ≡ put
in_front true put lent left n h l e = ap (take n) e ∙ take_at put (drop (length put) lent) n l
in_front false put lent left n h l e = absurd (let clash : ◌≡◌ {A = ℕ} 0 1 = cc in omega arith)

pub rows_in_front : (b : Bool) (R : List Row) (n : ℕ) (ks ks' : List ℕ) (ns ns' : List ℤ) → b ≡ true → length R ≡ n
    → ks' ≡ filled b (kinds_of R) ks → ns' ≡ filled b (numbers_of R) ns → rows_of (take n ks') (take n ns') ≡ R
rows_in_front b R n ks ks' ns ns' h l p q =
    ap₂ rows_of
    (in_front b (kinds_of R) ks ks' n h (length-map R (λ (r : Row). r.0) ∙ l) p)
    (in_front b (numbers_of R) ns ns' n h (length-map R (λ (r : Row). r.1) ∙ l) q)
    ∙ rows_again R

-- ---- room for n rows in slices of k and of m

module _ (n k m : ℕ) where
  pub no_room : min k m < n → (leb n k && leb n m) ≡ false
  no_room h = go (leb n k) refl
    where
      go : (b : Bool) → leb n k ≡ b → (b && leb n m) ≡ false
      go true e = lt-leb n m (omega (arith, leb-true n k e))
      go false e = refl

  pub short_kinds : k < n → (leb n k && leb n m) ≡ false
  short_kinds h = simp (lt-leb n k h)

  pub short_numbers : m < n → (leb n k && leb n m) ≡ false
  short_numbers h = go (leb n k)
    where
      go : (b : Bool) → (b && leb n m) ≡ false
      go true = lt-leb n m h
      go false = refl

  pub room_for_holds : n ≤ k → n ≤ m → (leb n k && leb n m) ≡ true
  room_for_holds h g = simp (le-leb n k h, le-leb n m g)

-- ---- refused before the table is touched

pub refused_into : {v r : Answer} {q : Refusal} (R : List Row) (ks : List ℕ) (ns : List ℤ) → r ≡ v → r ≡ Err q → TableInto v R ks ns r ks ns
refused_into R ks ns e f = record {
  answer = f ∙ ap (λ (x : Answer). unless_refused x (ask_room (length R) (length ks) (length ns))) (sym f ∙ e);
  kinds_left = ap (λ (x : Answer). filled (is_told x) (kinds_of R) ks) (sym f);
  numbers_left = ap (λ (x : Answer). filled (is_told x) (numbers_of R) ns) (sym f);
}

-- ---- passed, whatever number was told: question 12 alone is left

pub told_into : {v r : Answer} {m n : ℕ} {S R : List Row} {ks ks' : List ℕ} {ns ns' : List ℤ} → v ≡ Ok m → S ≡ R → TableInto (Ok n) S ks ns r ks' ns'
    → TableInto v R ks ns r ks' ns'
told_into {v} {r} {m} {n} {S} {R} {ks} {ks'} {ns} {ns'} e f i =
    let j = subst (λ (T : List Row). TableInto (Ok n) T ks ns r ks' ns') f i in
    record {
      answer = j.answer ∙ ap (λ (x : Answer). unless_refused x (ask_room (length R) (length ks) (length ns))) (sym e);
      kinds_left = j.kinds_left;
      numbers_left = j.numbers_left;
    }

-- ---- a text that was read

limited_few : (limit n : ℕ) (r : Answer) → limited limit r ≡ Ok n → n ≤ limit
limited_few limit n (Err q) e = absurd (let clash : ◌≡◌ {A = ℕ} 0 1 = cc in omega arith)
limited_few limit n (Ok m) e = go (leb m limit) refl e
  where
    go : (b : Bool) → leb m limit ≡ b → cond b (Ok m) (Err LineCount) ≡ Ok n → n ≤ limit
    go true h e = let same : m ≡ n = cc in omega (arith, leb-true m limit h)
    go false h e = absurd (let clash : ◌≡◌ {A = ℕ} 0 1 = cc in omega arith)

module _ (head : List ℕ → Option ℕ) (limits : Limits) (t : List ℕ) where
  -- it has no more rows than its limits let in
  pub read_few : (n : ℕ) → reading head limits t ≡ Ok n → n ≤ limits.lines
  unfolding reading
  read_few n e = go (closed limits.bytes t) e
    where
      go : (b : Bool) → cond b (limited limits.lines (formed head 0 (lines_of t))) (Err TextForm) ≡ Ok n → n ≤ limits.lines
      go true e = limited_few limits.lines n (formed head 0 (lines_of t)) e
      go false e = absurd (let clash : ◌≡◌ {A = ℕ} 0 1 = cc in omega arith)

  -- and they stand in front of slices that have room for so many
  pub rows_held : (r : Answer) (n : ℕ) (ks ks' : List ℕ) (ns ns' : List ℤ) → r ≡ Ok n → limits.lines ≤ length ks → limits.lines ≤ length ns
      → ReadInto head limits t ks ns r ks' ns' → rows_of (take n ks') (take n ns') ≡ rows_in head (lines_of t)
  rows_held r n ks ks' ns ns' f h g i =
      let e : reading head limits t ≡ Ok n = sym i.answer ∙ f in
      let few = read_few n e in
      let room : room_for r (length ks) (length ns) ≡ true =
      ap (λ (x : Answer). room_for x (length ks) (length ns)) f ∙ room_for_holds n (length ks) (length ns) (omega (arith, few, h)) (omega (arith, few, g)) in
      rows_in_front true (rows_in head (lines_of t)) n ks ks' ns ns' refl (rows_read head limits t n e) (i.kinds_left room) (i.numbers_left room)

  -- ---- read into slices of as many rows as the limits let in: their fronts hold the rows

  pub record Held (n : ℕ) (ks' : List ℕ) (ns' : List ℤ) : Type 0 where
    pub few : n ≤ limits.lines
    pub kinds_front : length (take n ks') ≡ n
    pub numbers_front : length (take n ns') ≡ n
    pub rows : rows_of (take n ks') (take n ns') ≡ rows_in head (lines_of t)

  pub held : {r : Answer} {n : ℕ} {ks ks' : List ℕ} {ns ns' : List ℤ} → ReadInto head limits t ks ns r ks' ns' → r ≡ Ok n
      → length ks ≡ limits.lines → length ns ≡ limits.lines → length ks' ≡ limits.lines → length ns' ≡ limits.lines → Held n ks' ns'
  held {r} {n} {ks} {ks'} {ns} {ns'} i f k m k' m' =
      let few = read_few n (sym i.answer ∙ f) in
      record {
        few = few;
        kinds_front = length-take-le n ks' (omega (arith, few, k'));
        numbers_front = length-take-le n ns' (omega (arith, few, m'));
        rows = rows_held r n ks ks' ns ns' f (omega (arith, k)) (omega (arith, m)) i;
      }
