-- Laws of the tests of types: each tells a fact. Those of `split`, `idx` and `zip` are said for every length. Assumes nothing.
use Rattle.std.specs.Prelude.{◌≡◌, refl, Bool, ◌&&◌, ◌↔◌, ℕ, ◌*◌, ◌/◌, ◌≤◌, ◌<◌, T, eqb, ltb, leb}
use Rattle.std.proofs.Common.{sym, ap, ap₂, subst, mul-div_cancel, eqb→eq, ltb→lt, lt→ltb, leb→le, le→leb}
use Rattle.std.proofs.Math.Dec.{eqb_refl}
use Rattle.std.specs.Float.Ieee.Bits.{is_true}
use Rattle.std.specs.Float.Ieee.Fits.{and_i, and_l, and_r}
use Rattle.meaning.specs.Types.{DataType, Series, number, array, vector, cells, levels, array_length, element, is_number}
use Rattle.meaning.proofs.Laws.Typing.{IsArray, IsPair, IsSeries, MayBeIn, number_told}
use Rattle.typing.specs.Check.{is_array, is_pair, is_vector, is_series, may_be_in, same_type, zip_fits, split_fits, join_fits, index_fits, in_limits}

-- a test answers "yes" exactly when a fact holds
pub record Tells (test : Bool) (fact : Type 0) : Type 0 where
  pub holds : T test → fact
  pub passes : fact → T test

-- both of two tests
pub both_tell : {A B : Type 0} {a b : Bool} → Tells a A → Tells b B → Tells (a && b) (A × B)
both_tell {A} {B} {a} {b} f g = record {
  holds = λ t. (f.holds (and_l a b t), g.holds (and_r a b t));
  passes = λ h. and_i a b (f.passes h.0) (g.passes h.1);
}

equal_tells : (m n : ℕ) → Tells (eqb m n) (m ≡ n)
equal_tells m n = record { holds = eqb→eq m n; passes = λ e. subst (λ (k : ℕ). T (eqb m k)) e (eqb_refl m) }

below_tells : (m n : ℕ) → Tells (ltb m n) (m < n)
below_tells m n = record { holds = ltb→lt m n; passes = lt→ltb m n }

within_tells : (m n : ℕ) → Tells (leb m n) (m ≤ n)
within_tells m n = record { holds = leb→le m n; passes = le→leb m n }

-- ---- types

pub number_tells : (t : DataType) → Tells (is_number t) (t ≡ number)
number_tells t = record {
  holds = λ h. number_told t (is_true (is_number t) h);
  passes = λ e. subst (λ (s : DataType). T (is_number s)) (sym e) tt;
}

pub array_tells : (t : DataType) → Tells (is_array t) (IsArray t)
array_tells t = record { holds = is t; passes = λ e. subst (λ (s : DataType). T (is_array s)) (sym e) tt }
  where
    is : (s : DataType) → T (is_array s) → IsArray s
    is number h = absurd h
    is (array n s) h = refl
    is (DataType.pair r s) h = absurd h
    is (vector w) h = absurd h

pub pair_tells : (t : DataType) → Tells (is_pair t) (IsPair t)
pair_tells t = record { holds = is t; passes = λ e. subst (λ (s : DataType). T (is_pair s)) (sym e) tt }
  where
    is : (s : DataType) → T (is_pair s) → IsPair s
    is number h = absurd h
    is (array n s) h = absurd h
    is (DataType.pair r s) h = refl
    is (vector w) h = absurd h

vector_tells : (t : DataType) → Tells (is_vector t) (IsSeries Series.vectors t)
vector_tells t = record { holds = is t; passes = λ e. subst (λ (s : DataType). T (is_vector s)) (sym e) tt }
  where
    is : (s : DataType) → T (is_vector s) → IsSeries Series.vectors s
    is number h = absurd h
    is (array n s) h = absurd h
    is (DataType.pair r s) h = absurd h
    is (vector w) h = refl

pub series_tells : (series : Series) (t : DataType) → Tells (is_series series t) (IsSeries series t)
series_tells Series.arrays t = array_tells t
series_tells Series.vectors t = vector_tells t

pub element_tells : (series : Series) (t : DataType) → Tells (may_be_in series t) (MayBeIn series t)
element_tells Series.arrays t = record { holds = λ h. tt; passes = λ h. tt }
element_tells Series.vectors t = number_tells t

same_itself : (t : DataType) → T (same_type t t)
same_itself number = tt
same_itself (array n t) = and_i (eqb n n) (same_type t t) (eqb_refl n) (same_itself t)
same_itself (DataType.pair s t) = and_i (same_type s s) (same_type t t) (same_itself s) (same_itself t)
same_itself (vector w) = eqb_refl w

same_equal : (s t : DataType) → T (same_type s t) → s ≡ t
same_equal number number h = refl
same_equal number (array n t) h = absurd h
same_equal number (DataType.pair s t) h = absurd h
same_equal number (vector w) h = absurd h
same_equal (array m s) number h = absurd h
same_equal (array m s) (array n t) h =
    ap₂ array (eqb→eq m n (and_l (eqb m n) (same_type s t) h)) (same_equal s t (and_r (eqb m n) (same_type s t) h))
same_equal (array m s) (DataType.pair t u) h = absurd h
same_equal (array m s) (vector w) h = absurd h
same_equal (DataType.pair r s) number h = absurd h
same_equal (DataType.pair r s) (array n t) h = absurd h
same_equal (DataType.pair r s) (DataType.pair t u) h =
    ap₂ DataType.pair (same_equal r t (and_l (same_type r t) (same_type s u) h)) (same_equal s u (and_r (same_type r t) (same_type s u) h))
same_equal (DataType.pair r s) (vector w) h = absurd h
same_equal (vector v) number h = absurd h
same_equal (vector v) (array n t) h = absurd h
same_equal (vector v) (DataType.pair t u) h = absurd h
same_equal (vector v) (vector w) h = ap vector (eqb→eq v w h)

pub same_tells : (s t : DataType) → Tells (same_type s t) (s ≡ t)
same_tells s t = record { holds = same_equal s t; passes = λ e. subst (λ (u : DataType). T (same_type s u)) e (same_itself s) }

pub limits_tell : (t : DataType) → Tells (in_limits t) ((cells t ≤ 4096) × (levels t ≤ 8))
limits_tell t = both_tell (within_tells (cells t) 4096) (within_tells (levels t) 8)

-- ---- rules

pub zip_tells : (s t : DataType) → Tells (zip_fits s t) ((IsArray s × IsArray t) × (array_length s ≡ array_length t))
zip_tells s t = both_tell (both_tell (array_tells s) (array_tells t)) (equal_tells (array_length s) (array_length t))

pub split_tells : (series : Series) (n : ℕ) (t : DataType)
    → Tells (split_fits series n t) ((IsArray t × (array_length t / n * n ≡ array_length t)) × MayBeIn series (element t))
split_tells series n t =
    both_tell (both_tell (array_tells t) (equal_tells (array_length t / n * n) (array_length t))) (element_tells series (element t))

pub join_tells : (series : Series) (t : DataType) → Tells (join_fits series t) (IsArray t × IsSeries series (element t))
join_tells series t = both_tell (array_tells t) (series_tells series (element t))

pub index_tells : (series : Series) (k : ℕ) (t : DataType) → Tells (index_fits series k t) (IsSeries series t × (k < array_length t))
index_tells series k t = both_tell (series_tells series t) (below_tells k (array_length t))

-- ---- for every length

-- `split,n`, [18.4] and `asvec,n`, fits an array of such elements exactly when n divides its length.
pub split_fits_holds : (series : Series) (n l : ℕ) (t : DataType) → 0 < n → MayBeIn series t
    → T (split_fits series n (array l t)) ↔ ((m : ℕ) × (l ≡ m * n))
split_fits_holds series n l t h may = (
  (λ f. (l / n, sym ((split_tells series n (array l t)).holds f).0.1)),
  (λ d.
      (split_tells series n (array l t)).passes (
        (refl, subst (λ (k : ℕ). k / n * n ≡ k) (sym d.1) (ap (λ (q : ℕ). q * n) (mul-div_cancel d.0 h))),
        may,
      )),
)

-- `idx,k` fits an array exactly when k is below its length, [18.7] and `at,k` a vector exactly when k is below its width.
pub index_fits_holds : (k l : ℕ) (t : DataType) → T (index_fits Series.arrays k (array l t)) ↔ (k < l)
index_fits_holds k l t =
    ((λ f. ((index_tells Series.arrays k (array l t)).holds f).1), (λ h. (index_tells Series.arrays k (array l t)).passes (refl, h)))

pub lane_fits : (k w : ℕ) → T (index_fits Series.vectors k (vector w)) ↔ (k < w)
lane_fits k w =
    ((λ f. ((index_tells Series.vectors k (vector w)).holds f).1), (λ h. (index_tells Series.vectors k (vector w)).passes (refl, h)))

-- `zip` fits two arrays exactly when their lengths are equal.
pub zip_fits_holds : (m n : ℕ) (s t : DataType) → T (zip_fits (array m s) (array n t)) ↔ (m ≡ n)
zip_fits_holds m n s t =
    ((λ f. ((zip_tells (array m s) (array n t)).holds f).1), (λ e. (zip_tells (array m s) (array n t)).passes ((refl, refl), e)))
