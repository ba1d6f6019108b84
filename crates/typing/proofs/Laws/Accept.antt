-- Every question of a term is answered "yes" exactly when the term is well typed and within the limits. Assumes nothing.
use Rattle.std.specs.Prelude.{◌≡◌, List, [], ◌∷◌, T, get_or}
use Rattle.std.proofs.Common.{sym, ap, subst, mul-le-mul_right, one-mul}
use Prim.Native.Nat.{ℕ, zero, suc, ◌+◌, ◌*◌, ◌/◌, ◌≤◌, ◌<◌}
use Rattle.std.proofs.Math.Nat.{one-le-mul}
use Rattle.std.proofs.Math.Numerals.{add-one}
use native.Mathlib.Omega.{arith}
use Rattle.std.proofs.Math.ListN.{length}
use Rattle.meaning.specs.Types.{DataType, Series, number, array, vector, cells, array_length, element, first_type, second_type, series_of}
use Rattle.meaning.specs.Terms.{Term, series_in}
use Rattle.meaning.specs.Typing.{type_of}
use Rattle.meaning.specs.Limits.{CellsWithin, TypeWithin, TermWithin}
use Rattle.meaning.proofs.Laws.Bounds.{width_is_count}
use Rattle.meaning.proofs.Laws.Typing.{IsArray, IsPair, IsSeries, WellTyped}
use Rattle.meaning.proofs.Laws.PassingTerms.{type_within}
use Rattle.syntax.specs.InRange.{TermInRange, GroupInRange}
use Rattle.typing.specs.Accepted.{Nonempty, AllNonempty}
use Rattle.typing.specs.Check.{in_limits, behind}
use Rattle.typing.specs.Questions.{AllYes}
use Rattle.typing.specs.TypeQuestions.{term_questions}
use Rattle.typing.proofs.Laws.Questions.{yes_append, yes_parts}
use Rattle.typing.proofs.Laws.Tests.{both_tell, number_tells, array_tells, series_tells, element_tells, pair_tells, same_tells, limits_tell, zip_tells, split_tells, join_tells, index_tells}

-- ---- types without an empty array

pub nonempty_at : (ts : List DataType) (k : ℕ) → AllNonempty ts → Nonempty (get_or ts k number)
nonempty_at [] k h = tt
nonempty_at (t ∷ ts) zero h = h.0
nonempty_at (t ∷ ts) (suc k) h = nonempty_at ts k h.1

pub cells_nonempty : (t : DataType) → CellsWithin t → Nonempty t
cells_nonempty number h = tt
cells_nonempty (array n t) h = (h.0, cells_nonempty t h.2)
cells_nonempty (DataType.pair s t) h = (cells_nonempty s h.1, cells_nonempty t h.2)
cells_nonempty (vector w) h = h

-- a type has no fewer cells than its parts
cells_within : (t : DataType) → Nonempty t → cells t ≤ 4096 → CellsWithin t
cells_within number h l = tt
cells_within (array n t) h l =
    let once : 1 * cells t ≤ n * cells t = mul-le-mul_right (cells t) h.0 in
    (h.0, l, cells_within t h.1 (omega (arith, one-mul (cells t))))
cells_within (DataType.pair s t) h l = (l, cells_within s h.0 (omega arith), cells_within t h.1 (omega arith))
cells_within (vector w) h l = h

cells_limited : (t : DataType) → CellsWithin t → cells t ≤ 4096
cells_limited number h = omega arith
cells_limited (array n t) h = h.1
cells_limited (DataType.pair s t) h = h.0
cells_limited (vector w) h = (width_is_count w h).1

-- question 8 on a type
pub passes_size : (t : DataType) → Nonempty t → T (in_limits t) → TypeWithin t
passes_size t h q = let l = (limits_tell t).holds q in (cells_within t h l.0, l.1)

pub size_passes : (t : DataType) → TypeWithin t → T (in_limits t)
size_passes t h = (limits_tell t).passes (cells_limited t h.0, h.1)

number_within : TypeWithin number
number_within = (tt, omega arith)

array_parts : (t : DataType) → Nonempty t → IsArray t → (1 ≤ array_length t) × Nonempty (element t)
array_parts t h e = subst Nonempty e h

-- [18.1] the same of a vector
series_parts : (series : Series) (t : DataType) → Nonempty t → IsSeries series t → (1 ≤ array_length t) × Nonempty (element t)
series_parts Series.arrays t h e = array_parts t h e
series_parts Series.vectors t h e = ((width_is_count (array_length t) (subst Nonempty e h)).0, subst Nonempty (sym (ap element e)) tt)

-- [18.4] what a map, a `split` or an `asvec` makes
series_nonempty : (series : Series) (s t : DataType) → Nonempty s → IsSeries series s → Nonempty t
    → Nonempty (series_of series (array_length s) t)
series_nonempty Series.arrays s t h e k = ((array_parts s h e).0, k)
series_nonempty Series.vectors s t h e k = subst Nonempty e h

group_nonempty : (series : Series) (n : ℕ) (t : DataType) → GroupInRange series n → Nonempty t
    → (0 < n) × Nonempty (series_of series n t)
group_nonempty Series.arrays n t r k = (r.0, (r.0, k))
group_nonempty Series.vectors n t r k = ((width_is_count n r).0, r)

pair_parts : (t : DataType) → Nonempty t → IsPair t → Nonempty (first_type t) × Nonempty (second_type t)
pair_parts t h e = subst Nonempty e h

-- a factor of a number that is not 0
factor : (m n : ℕ) → 1 ≤ m * n → 1 ≤ m
factor zero n h = absurd (omega arith)
factor (suc m) n h = omega arith

-- ---- all "yes": well typed, and within the limits

module _ (I : List DataType) (full : AllNonempty I) where
  nonempty : (Γ : List DataType) (e : Term) → TermWithin I Γ e → Nonempty (type_of I Γ e)
  nonempty Γ e w = cells_nonempty (type_of I Γ e) (type_within I Γ e w).0

  pub accepted : (Γ : List DataType) (e : Term) (line : ℕ) → AllNonempty Γ → TermInRange (length I) (length Γ) e
      → AllYes (term_questions I Γ e line) → WellTyped I Γ e × TermWithin I Γ e
  unfolding term_questions
  accepted Γ (Term.input k) line g r h = (r, passes_size (get_or I k number) (nonempty_at I k full) h.0)
  accepted Γ (Term.variable d) line g r h = (r, passes_size (get_or Γ d number) (nonempty_at Γ d g) h.0)
  accepted Γ (Term.literal v) line g r h = (tt, tt)
  accepted Γ (Term.negate e) line g r h =
      let p = yes_parts (term_questions I Γ e (suc line)) _ h in
      let x = accepted Γ e (suc line) g r p.0 in
      ((x.0, (number_tells (type_of I Γ e)).holds p.1.0), x.1)
  accepted Γ (Term.operation o e f) line g r h =
      let p = yes_parts (term_questions I Γ e (suc line)) _ h in
      let q = yes_parts (term_questions I Γ f (behind e (suc line))) _ p.1 in
      let x = accepted Γ e (suc line) g r.0 p.0 in
      let y = accepted Γ f (behind e (suc line)) g r.1 q.0 in
      let n = (both_tell (number_tells (type_of I Γ e)) (number_tells (type_of I Γ f))).holds q.1.0 in
      ((x.0, y.0, n.0, n.1), (x.1, y.1))
  accepted Γ (Term.map kind a b) line g r h =
      let p = yes_parts (term_questions I Γ a (suc line)) _ h in
      let q = yes_parts (term_questions I (element (type_of I Γ a) ∷ Γ) b (behind a (suc line))) _ p.1.1 in
      let x = accepted Γ a (suc line) g r.1 p.0 in
      let is : IsSeries (series_in kind) (type_of I Γ a) = (series_tells (series_in kind) (type_of I Γ a)).holds p.1.0 in
      let c = series_parts (series_in kind) (type_of I Γ a) (nonempty Γ a x.1) is in
      let t : DataType = type_of I (element (type_of I Γ a) ∷ Γ) b in
      let y = accepted (element (type_of I Γ a) ∷ Γ) b (behind a (suc line)) (c.1, g) (rw add-one at r.2) q.0 in
      let made = series_nonempty (series_in kind) (type_of I Γ a) t (nonempty Γ a x.1) is (nonempty (element (type_of I Γ a) ∷ Γ) b y.1) in
      let s = passes_size (type_of I Γ (Term.map kind a b)) made q.1.1.0 in
      ((x.0, is, y.0, (element_tells (series_in kind) t).holds q.1.0), (s, x.1, y.1, omega (arith, r.0)))
  accepted Γ (Term.reduce z a b) line g r h =
      let two_more : length Γ + 2 ≡ suc (suc (length Γ)) = omega arith in
      let p = yes_parts (term_questions I Γ z (suc line)) _ h in
      let q = yes_parts (term_questions I Γ a (behind z (suc line))) _ p.1 in
      let u = yes_parts (term_questions I (type_of I Γ z ∷ element (type_of I Γ a) ∷ Γ) b (behind a (behind z (suc line)))) _ q.1.1 in
      let x = accepted Γ z (suc line) g r.1 p.0 in
      let y = accepted Γ a (behind z (suc line)) g r.2 q.0 in
      let is : IsArray (type_of I Γ a) = (array_tells (type_of I Γ a)).holds q.1.0 in
      let c = array_parts (type_of I Γ a) (nonempty Γ a y.1) is in
      let w = accepted (type_of I Γ z ∷ element (type_of I Γ a) ∷ Γ) b (behind a (behind z (suc line)))
      (nonempty Γ z x.1, (c.1, g)) (rw two_more at r.3) u.0 in
      let same = (same_tells (type_of I (type_of I Γ z ∷ element (type_of I Γ a) ∷ Γ) b) (type_of I Γ z)).holds u.1.0 in
      ((x.0, y.0, is, w.0, same), (passes_size (type_of I Γ z) (nonempty Γ z x.1) u.1.1.0, x.1, y.1, w.1, omega (arith, r.0)))
  accepted Γ (Term.zip a b) line g r h =
      let p = yes_parts (term_questions I Γ a (suc line)) _ h in
      let q = yes_parts (term_questions I Γ b (behind a (suc line))) _ p.1 in
      let x = accepted Γ a (suc line) g r.0 p.0 in
      let y = accepted Γ b (behind a (suc line)) g r.1 q.0 in
      let z = (zip_tells (type_of I Γ a) (type_of I Γ b)).holds q.1.0 in
      let c = array_parts (type_of I Γ a) (nonempty Γ a x.1) z.0.0 in
      let d = array_parts (type_of I Γ b) (nonempty Γ b y.1) z.0.1 in
      ((x.0, y.0, z.0.0, z.0.1, z.1), (passes_size (type_of I Γ (Term.zip a b)) (c.0, (c.1, d.1)) q.1.1.0, x.1, y.1))
  accepted Γ (Term.pair a b) line g r h =
      let p = yes_parts (term_questions I Γ a (suc line)) _ h in
      let q = yes_parts (term_questions I Γ b (behind a (suc line))) _ p.1 in
      let x = accepted Γ a (suc line) g r.0 p.0 in
      let y = accepted Γ b (behind a (suc line)) g r.1 q.0 in
      ((x.0, y.0), (passes_size (type_of I Γ (Term.pair a b)) (nonempty Γ a x.1, nonempty Γ b y.1) q.1.0, x.1, y.1))
  accepted Γ (Term.split series n e) line g r h =
      let p = yes_parts (term_questions I Γ e (suc line)) _ h in
      let x = accepted Γ e (suc line) g r.1 p.0 in
      let f = (split_tells series n (type_of I Γ e)).holds p.1.0 in
      let c = array_parts (type_of I Γ e) (nonempty Γ e x.1) f.0.0 in
      let groups : 1 ≤ array_length (type_of I Γ e) / n = factor _ n (omega (arith, c.0, f.0.1)) in
      let group = group_nonempty series n (element (type_of I Γ e)) r.0 c.1 in (
        (x.0, f.0.0, f.0.1, group.0, f.1),
        (passes_size (type_of I Γ (Term.split series n e)) (groups, group.1) p.1.1.0, x.1),
      )
  accepted Γ (Term.join series e) line g r h =
      let p = yes_parts (term_questions I Γ e (suc line)) _ h in
      let x = accepted Γ e (suc line) g r p.0 in
      let f = (join_tells series (type_of I Γ e)).holds p.1.0 in
      let c = array_parts (type_of I Γ e) (nonempty Γ e x.1) f.0 in
      let d = series_parts series (element (type_of I Γ e)) c.1 f.1 in
      ((x.0, f.0, f.1), (passes_size (type_of I Γ (Term.join series e)) (one-le-mul c.0 d.0, d.1) p.1.1.0, x.1))
  accepted Γ (Term.first e) line g r h =
      let p = yes_parts (term_questions I Γ e (suc line)) _ h in
      let x = accepted Γ e (suc line) g r p.0 in
      let is : IsPair (type_of I Γ e) = (pair_tells (type_of I Γ e)).holds p.1.0 in
      let c = pair_parts (type_of I Γ e) (nonempty Γ e x.1) is in
      ((x.0, is), (passes_size (type_of I Γ (Term.first e)) c.0 p.1.1.0, x.1))
  accepted Γ (Term.second e) line g r h =
      let p = yes_parts (term_questions I Γ e (suc line)) _ h in
      let x = accepted Γ e (suc line) g r p.0 in
      let is : IsPair (type_of I Γ e) = (pair_tells (type_of I Γ e)).holds p.1.0 in
      let c = pair_parts (type_of I Γ e) (nonempty Γ e x.1) is in
      ((x.0, is), (passes_size (type_of I Γ (Term.second e)) c.1 p.1.1.0, x.1))
  accepted Γ (Term.index series k e) line g r h =
      let p = yes_parts (term_questions I Γ e (suc line)) _ h in
      let x = accepted Γ e (suc line) g r.1 p.0 in
      let f = (index_tells series k (type_of I Γ e)).holds p.1.0 in
      let c = series_parts series (type_of I Γ e) (nonempty Γ e x.1) f.0 in
      ((x.0, f.0, f.1), (passes_size (type_of I Γ (Term.index series k e)) c.1 p.1.1.0, x.1))

-- ---- well typed and within the limits: all "yes"

pub accepts : (I Γ : List DataType) (e : Term) (line : ℕ) → WellTyped I Γ e → TermWithin I Γ e → AllYes (term_questions I Γ e line)
unfolding term_questions
accepts I Γ (Term.input k) line h w = (size_passes (type_of I Γ (Term.input k)) w, tt)
accepts I Γ (Term.variable d) line h w = (size_passes (type_of I Γ (Term.variable d)) w, tt)
accepts I Γ (Term.literal v) line h w = (size_passes number number_within, tt)
accepts I Γ (Term.negate e) line h w =
    yes_append (term_questions I Γ e (suc line)) _ (accepts I Γ e (suc line) h.0 w)
    ((number_tells (type_of I Γ e)).passes h.1, (size_passes number number_within, tt))
accepts I Γ (Term.operation o e f) line h w =
    yes_append (term_questions I Γ e (suc line)) _ (accepts I Γ e (suc line) h.0 w.0)
    (yes_append (term_questions I Γ f (behind e (suc line))) _ (accepts I Γ f (behind e (suc line)) h.1 w.1) (
      (both_tell (number_tells (type_of I Γ e)) (number_tells (type_of I Γ f))).passes (h.2, h.3),
      (size_passes number number_within, tt),
    ))
accepts I Γ (Term.map kind a b) line h w =
    yes_append (term_questions I Γ a (suc line)) _ (accepts I Γ a (suc line) h.0 w.1) (
      (series_tells (series_in kind) (type_of I Γ a)).passes h.1,
      yes_append (term_questions I (element (type_of I Γ a) ∷ Γ) b (behind a (suc line))) _
          (accepts I (element (type_of I Γ a) ∷ Γ) b (behind a (suc line)) h.2 w.2) (
            (element_tells (series_in kind) (type_of I (element (type_of I Γ a) ∷ Γ) b)).passes h.3,
            (size_passes (type_of I Γ (Term.map kind a b)) w.0, tt),
          ),
    )
accepts I Γ (Term.reduce z a b) line h w =
    yes_append (term_questions I Γ z (suc line)) _ (accepts I Γ z (suc line) h.0 w.1)
    (yes_append (term_questions I Γ a (behind z (suc line))) _ (accepts I Γ a (behind z (suc line)) h.1 w.2) (
      (array_tells (type_of I Γ a)).passes h.2,
      yes_append (term_questions I (type_of I Γ z ∷ element (type_of I Γ a) ∷ Γ) b (behind a (behind z (suc line)))) _
          (accepts I (type_of I Γ z ∷ element (type_of I Γ a) ∷ Γ) b (behind a (behind z (suc line))) h.3 w.3)
          ((same_tells (type_of I (type_of I Γ z ∷ element (type_of I Γ a) ∷ Γ) b) (type_of I Γ z)).passes h.4, (size_passes (type_of I Γ z) w.0, tt)),
    ))
accepts I Γ (Term.zip a b) line h w =
    yes_append (term_questions I Γ a (suc line)) _ (accepts I Γ a (suc line) h.0 w.1)
    (yes_append (term_questions I Γ b (behind a (suc line))) _ (accepts I Γ b (behind a (suc line)) h.1 w.2)
    ((zip_tells (type_of I Γ a) (type_of I Γ b)).passes ((h.2, h.3), h.4), (size_passes (type_of I Γ (Term.zip a b)) w.0, tt)))
accepts I Γ (Term.pair a b) line h w =
    yes_append (term_questions I Γ a (suc line)) _ (accepts I Γ a (suc line) h.0 w.1)
    (yes_append (term_questions I Γ b (behind a (suc line))) _ (accepts I Γ b (behind a (suc line)) h.1 w.2)
    (size_passes (type_of I Γ (Term.pair a b)) w.0, tt))
accepts I Γ (Term.split series n e) line h w =
    yes_append (term_questions I Γ e (suc line)) _ (accepts I Γ e (suc line) h.0 w.1)
    ((split_tells series n (type_of I Γ e)).passes ((h.1, h.2), h.4), (size_passes (type_of I Γ (Term.split series n e)) w.0, tt))
accepts I Γ (Term.join series e) line h w =
    yes_append (term_questions I Γ e (suc line)) _ (accepts I Γ e (suc line) h.0 w.1)
    ((join_tells series (type_of I Γ e)).passes (h.1, h.2), (size_passes (type_of I Γ (Term.join series e)) w.0, tt))
accepts I Γ (Term.first e) line h w =
    yes_append (term_questions I Γ e (suc line)) _ (accepts I Γ e (suc line) h.0 w.1)
    ((pair_tells (type_of I Γ e)).passes h.1, (size_passes (type_of I Γ (Term.first e)) w.0, tt))
accepts I Γ (Term.second e) line h w =
    yes_append (term_questions I Γ e (suc line)) _ (accepts I Γ e (suc line) h.0 w.1)
    ((pair_tells (type_of I Γ e)).passes h.1, (size_passes (type_of I Γ (Term.second e)) w.0, tt))
accepts I Γ (Term.index series k e) line h w =
    yes_append (term_questions I Γ e (suc line)) _ (accepts I Γ e (suc line) h.0 w.1)
    ((index_tells series k (type_of I Γ e)).passes (h.1, h.2), (size_passes (type_of I Γ (Term.index series k e)) w.0, tt))
