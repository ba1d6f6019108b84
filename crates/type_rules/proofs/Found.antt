-- Answers that were found: question 8 on a type, and how answers follow one another as the table grows.
use Rattle.std.specs.Prelude.{◌≡◌, Bool, true, false, cond, ◌&&◌, leb, List, ℕ, zero, suc, ◌+◌, ◌*◌, ◌/◌, ◌%◌, ◌≤◌, ◌<◌, eqb, Option, Some, None, Result, Ok, Err}
use Rattle.std.proofs.Common.{refl, ap, sym, ap₂, subst, ◌∙◌, arith, mul-le-mul_left, mul-le-mul_right, eq-eqb}
use native.Mathlib.Nat.{mul-le-mul, div-add-mod'}
use borrow.Author.Tests.{le-leb, lt-leb, leb-false, eqb-true}
use Rattle.refusals.specs.declared.Refusal.{Refusal}
use Rattle.refusals.specs.declared.Refusal.TheVariants.{TypeSize}
use Rattle.meaning.specs.Types.{DataType, Series, number, array, vector, cells, levels, element, series_of}
use Rattle.meaning.specs.Limits.{IsCount, IsWidth, CellsWithin, TypeWithin}
use Rattle.meaning.proofs.Laws.Bounds.{width_is_count}
use Rattle.type_table.specs.Table.{type_at, Sound, Put, ArrayTold}
use Rattle.type_table.specs.declared.ArrayShape.{ArrayShape}
use Rattle.type_table.specs.Laws.{sound_below, length_within}
use Rattle.typing.specs.Check.{Verdict, typed, sized, fitted, refused, is_array, may_be_in, same_type}
use Rattle.type_rules.specs.Rules.{Grown, Found, Room, type_found, SeriesTold, split_rule, zip_rule}
use Rattle.type_rules.specs.declared.Typed.{Typed}

cells_few : (t : DataType) → CellsWithin t → cells t ≤ 4096
cells_few number h = omega arith
cells_few (array n t) h = h.1
cells_few (DataType.pair s t) h = h.0
cells_few (vector w) h = (width_is_count w h).1

pub within_sized : (line : ℕ) (t : DataType) → TypeWithin t → sized line t ≡ typed t
within_sized line t h = rw (le-leb (cells t) 4096 (cells_few t h.0), le-leb (levels t) 8 h.1)

many_cells : (line : ℕ) (t : DataType) → 4096 < cells t → sized line t ≡ refused (TypeSize line)
many_cells line t h = rw (lt-leb (cells t) 4096 h)

second_false : (b : Bool) → (b && false) ≡ false
second_false true = refl
second_false false = refl

many_levels : (line : ℕ) (t : DataType) → 8 < levels t → sized line t ≡ refused (TypeSize line)
many_levels line t h = rw (lt-leb (levels t) 8 h, second_false (leb (cells t) 4096))

pub sized_typed : (line : ℕ) (t u : DataType) → sized line t ≡ typed u → t ≡ u
sized_typed line t u = go (leb (cells t) 4096 && leb (levels t) 8)
  where
    go : (b : Bool) → cond b (typed t) (refused (TypeSize line)) ≡ typed u → t ≡ u
    go true e = cc
    go false e = cc

-- an array of types that are too big is too big
pub array_refused : (line n : ℕ) (t : DataType) (q : Refusal) → 1 ≤ n → sized line t ≡ refused q → sized line (array n t) ≡ refused q
array_refused line n t q h e = go (leb (cells t) 4096) (leb (levels t) 8) refl refl e
  where
    go : (a b : Bool) → leb (cells t) 4096 ≡ a → leb (levels t) 8 ≡ b → cond (a && b) (typed t) (refused (TypeSize line)) ≡ refused q
        → sized line (array n t) ≡ refused q
    go true true x y e = cc
    go true false x y e = many_levels line (array n t) (omega (arith, leb-false (levels t) 8 y)) ∙ e
    go false b x y e =
        let m : 1 * cells t ≤ n * cells t = mul-le-mul_right (cells t) h in
        many_cells line (array n t) (omega (arith, leb-false (cells t) 4096 x)) ∙ e

-- a type that stands in the table is within the limits
pub known_sized : {T : List ℕ} {m : ℕ} (line p : ℕ) → Sound T m → p < m → sized line (type_at T p) ≡ typed (type_at T p)
known_sized line p S h = within_sized line _ (S.each p h).within

pub grown_same : {T : List ℕ} {m : ℕ} → Sound T m → Grown T m T m
grown_same S = record { more = omega arith; sound = S; kept = λ i h. refl; size = refl }

-- what is told of a series that stands in the table
pub array_told : {T : List ℕ} {m : ℕ} (p : ℕ) (r : Option ArrayShape) → Sound T m → p < m → ArrayTold T p r → SeriesTold Series.arrays T p r
array_told {T} p (Some a) S h t =
    let W = subst TypeWithin t.0 (S.each p h).within in
    (t.0, t.1, (W.0.0, omega (arith, W.0.1, length_within a.length (type_at T a.element) W.0.2)), λ z. ap element t.0)
array_told {T} p None S h f = go (type_at T p) f
  where
    go : (t : DataType) → ((n : ℕ) (s : DataType) → t ≡ array n s → ⊥) → is_array t ≡ false
    go number f = refl
    go (array n s) f = absurd (f n s refl)
    go (DataType.pair r s) f = refl
    go (vector w) f = refl

pub vector_within : {T : List ℕ} {m : ℕ} (p w : ℕ) → Sound T m → p < m → type_at T p ≡ vector w → IsWidth w
vector_within p w S h e = (subst TypeWithin e (S.each p h).within).0

pub product_bounds : (m n : ℕ) → IsCount m → IsCount n → (1 ≤ m * n) × (m * n ≤ 16777216)
product_bounds m n h k =
    let a : 1 * 1 ≤ m * n = mul-le-mul h.0 k.0 in
    let b : m * n ≤ 4096 * 4096 = mul-le-mul h.1 k.1 in
    (omega arith, omega arith)

-- groups of n, n dividing the length
pub quotient_bounds : (l n : ℕ) → IsCount l → 1 ≤ n → l % n ≡ 0 → (1 ≤ l / n) × (l / n ≤ 16777216)
quotient_bounds l n h k e = go (l / n) (div-add-mod' l n)
  where
    go : (q : ℕ) → q * n + l % n ≡ l → (1 ≤ q) × (q ≤ 16777216)
    go zero p = absurd (omega arith)
    go (suc q) p =
        let b : suc q * 1 ≤ suc q * n = mul-le-mul_left (suc q) k in
        (omega arith, omega arith)

-- ---- the same types

pub same_refl : (t : DataType) → same_type t t ≡ true
same_refl number = refl
same_refl (array n t) = rw (eq-eqb n n refl, same_refl t)
same_refl (DataType.pair s t) = rw (same_refl s, same_refl t)
same_refl (vector w) = eq-eqb w w refl

both_first : (a b : Bool) → (a && b) ≡ true → (a ≡ true) × (b ≡ true)
both_first true b e = (refl, e)
both_first false b e = absurd (cc)

same_types : (s t : DataType) → same_type s t ≡ true → s ≡ t
same_types number number e = refl
same_types number (array n t) e = cc
same_types number (DataType.pair t u) e = cc
same_types number (vector w) e = cc
same_types (array m s) number e = cc
same_types (array m s) (array n t) e =
    let h = both_first (eqb m n) (same_type s t) e in
    ap₂ array (eqb-true m n h.0) (same_types s t h.1)
same_types (array m s) (DataType.pair t u) e = cc
same_types (array m s) (vector w) e = cc
same_types (DataType.pair r s) number e = cc
same_types (DataType.pair r s) (array n t) e = cc
same_types (DataType.pair r s) (DataType.pair t u) e =
    let h = both_first (same_type r t) (same_type s u) e in
    ap₂ DataType.pair (same_types r t h.0) (same_types s u h.1)
same_types (DataType.pair r s) (vector w) e = cc
same_types (vector v) number e = cc
same_types (vector v) (array n t) e = cc
same_types (vector v) (DataType.pair t u) e = cc
same_types (vector v) (vector w) e = ap vector (eqb-true v w e)

pub not_same : (s t : DataType) → (s ≡ t → ⊥) → same_type s t ≡ false
not_same s t f = go (same_type s t) refl
  where
    go : (b : Bool) → same_type s t ≡ b → b ≡ false
    go true e = absurd (f (same_types s t e))
    go false e = refl

-- ---- answers

pub found_as : (T : List ℕ) (m : ℕ) (U : List ℕ) (n k rows : ℕ) (v w : Verdict) (r : Result Typed Refusal)
    → n ≤ k → v ≡ w → Found T m U n rows w r → Found T m U k rows v r
found_as T m U n k rows v w (Ok t) h e F = (e ∙ F.0, F.1, F.2, omega (arith, F.3), F.4)
found_as T m U n k rows v w (Err q) h e F = e ∙ F

pub grown_on : {T U X : List ℕ} {l m n : ℕ} → Grown T l U m → Grown U m X n → Grown T l X n
grown_on G H = record {
  more = omega (arith, G.more, H.more);
  sound = H.sound;
  kept = λ i h. H.kept i (omega (arith, G.more)) ∙ G.kept i h;
  size = H.size ∙ G.size;
}

-- an answer found on a grown table, said of the table before
pub found_on : (T : List ℕ) (l : ℕ) (U : List ℕ) (m : ℕ) (X : List ℕ) (n k rows : ℕ) (v w : Verdict) (r : Result Typed Refusal)
    → Grown T l U m → n ≤ k → v ≡ w → Found U m X n rows w r → Found T l X k rows v r
found_on T l U m X n k rows v w (Ok t) G h e F = (e ∙ F.0, F.1, F.2, omega (arith, F.3), grown_on G F.4)
found_on T l U m X n k rows v w (Err q) G h e F = e ∙ F

-- ---- a `split`, its groups being what they are
module _ (series : Series) (n line l : ℕ) (t s : DataType) (is : t ≡ array l s) (h : l % n ≡ 0) where
  divides : eqb (l / n * n) l ≡ true
  divides = eq-eqb (l / n * n) l (omega (arith, div-add-mod' l n))

  abbrev group : DataType
  group = series_of series n s

  made : (b : Bool) (u : DataType) → fitted line b group ≡ typed u → fitted line b (array (l / n) group) ≡ sized line (array (l / n) u)
  made true u e = rw (sized_typed line group u e)
  made false u e = cc

  not_made : (b : Bool) (q : Refusal) → 1 ≤ l / n → fitted line b group ≡ refused q → fitted line b (array (l / n) group) ≡ refused q
  not_made true q k e = array_refused line (l / n) group q k e
  not_made false q k e = e

  pub split_made : (u : DataType) → fitted line (may_be_in series s) group ≡ typed u → split_rule series n line t ≡ sized line (array (l / n) u)
  split_made u e = rw (is, divides) (made (may_be_in series s) u e)

  pub split_refused : (q : Refusal) → 1 ≤ l / n → fitted line (may_be_in series s) group ≡ refused q → split_rule series n line t ≡ refused q
  split_refused q k e = rw (is, divides) (not_made (may_be_in series s) q k e)

-- ---- a `zip`, its operands being what they are
module _ (line m n : ℕ) (s t u v : DataType) (left : s ≡ array m u) (right : t ≡ array n v) (same : m ≡ n) where
  pub zip_made : (w : DataType) → sized line (DataType.pair u v) ≡ typed w → zip_rule line s t ≡ sized line (array m w)
  zip_made w e =
      let f : DataType.pair u v ≡ w = sized_typed line (DataType.pair u v) w e in
      rw (left, right, eq-eqb m n same, ← f)

  pub zip_refused : (q : Refusal) → 1 ≤ m → sized line (DataType.pair u v) ≡ refused q → zip_rule line s t ≡ refused q
  zip_refused q h e = rw (left, right, eq-eqb m n same) (array_refused line m (DataType.pair u v) q h e)

-- ---- for the recursion over rows

pub room_less : {T : List ℕ} {m a b : ℕ} → Room T m a → b ≤ a → Room T m b
room_less R h = record { sound = R.sound; places = omega (arith, R.places); few = omega (arith, R.few) }

pub room_grown : {T U : List ℕ} {m l : ℕ} (a b : ℕ) → Room T m a → Grown T m U l → l + b ≤ m + a → Room U l b
room_grown a b R G h = record { sound = G.sound; places = omega (arith, R.places, G.size); few = omega (arith, R.few) }

pub found_type : (T : List ℕ) (m n rows : ℕ) (v : Verdict) (p : ℕ) → Sound T m → p < m → m ≤ n → v ≡ typed (type_at T p)
    → Found T m T n rows v (type_found p rows m)
found_type T m n rows v p S h l e = (e, refl, h, l, grown_same S)

pub found_put : {T U : List ℕ} {m : ℕ} {t : DataType} (line rows : ℕ) → Put T U m t
    → Found T m U (m + 1) rows (sized line t) (type_found m rows (m + 1))
found_put {T} {U} {m} {t} line rows P = (
  within_sized line t (subst TypeWithin P.put (P.sound.each m (omega arith)).within) ∙ ap typed (sym P.put),
  refl,
  omega arith,
  omega arith,
  record { more = omega arith; sound = sound_below P.sound (omega arith); kept = P.kept; size = P.size },
)

module _ (T : List ℕ) (m : ℕ) (U : List ℕ) (n rows : ℕ) (v : Verdict) where
  pub was_typed : {r : Result Typed Refusal} {p a l : ℕ} → r ≡ type_found p a l → Found T m U n rows v r
      → (v ≡ typed (type_at U p)) × (a ≡ rows) × (p < l) × (l ≤ n) × Grown T m U l
  was_typed e h = subst (Found T m U n rows v) e h

  pub was_refused : {r : Result Typed Refusal} {q : Refusal} → r ≡ Err q → Found T m U n rows v r → v ≡ refused q
  was_refused e h = subst (Found T m U n rows v) e h
