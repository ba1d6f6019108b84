-- Plans that differ in a length only: the check of each, for every length. Assumes nothing.
use Rattle.std.specs.Prelude.{◌≡◌, refl, Bool, true, false, cond, ◌&&◌, [], ◌∷◌, ℕ, ◌*◌, ◌/◌, ◌≤◌, ◌<◌, T, leb}
use Rattle.std.proofs.Common.{ap, ap₂, ◌∙◌, mul-one, arith, le-leb, leb→le, le→leb}
use Rattle.refusals.specs.declared.Refusal.{Refusal}
use Rattle.refusals.specs.declared.Refusal.TheVariants.{TypeMisfit, TypeSize}
use Rattle.meaning.specs.Types.{DataType, Series, number, array, vector, cells, levels, array_length, element, series_of}
use Rattle.meaning.specs.Terms.{Term}
use Rattle.meaning.specs.Rows.{type_rows, all_type_rows, term_rows}
use Rattle.typing.specs.Check.{Verdict, typed, refused, split_fits, index_fits, zip_fits, in_limits, sized, fitted, after_operand, check, check_type, check_types, check_plan}
use Rattle.typing.specs.Lengths.{split_plan, index_plan, asvec_plan, at_plan, zip_plan, table_plan, Decided}
use Rattle.typing.proofs.Laws.Tests.{split_tells, split_fits_holds, index_fits_holds, lane_fits, zip_fits_holds}

row_fits : (l : ℕ) → l ≤ 4096 → in_limits (array l number) ≡ true
row_fits l h = ap (λ (b : Bool). b && true) (le-leb (l * 1) 4096 (omega (arith, mul-one l)))

index_plan_holds : (k l : ℕ) → l ≤ 4096
    → check_plan (index_plan k l) ≡ cond (index_fits Series.arrays k (array l number)) (typed number) (refused (TypeMisfit 4))
unfolding check_plan check_types check_type check type_rows all_type_rows term_rows
index_plan_holds k l h =
    ap (λ (b : Bool).
    after_operand (cond b (typed (array l number)) (refused (TypeSize 2))) λ u.
    after_operand (cond b (typed (array l number)) (refused (TypeSize 5))) λ t. fitted 4 (index_fits Series.arrays k t) (element t))
    (row_fits l h)

-- [18.7] a lane of a vector
lane_plan : (k w : ℕ) → w ≤ 4096
    → check_plan (at_plan k w) ≡ cond (index_fits Series.vectors k (vector w)) (typed number) (refused (TypeMisfit 3))
unfolding check_plan check_types check_type check type_rows all_type_rows term_rows
lane_plan k w h =
    ap (λ (b : Bool).
    after_operand (cond (b && true) (typed (vector w)) (refused (TypeSize 2))) λ u.
    after_operand (cond (b && true) (typed (vector w)) (refused (TypeSize 4))) λ t. fitted 3 (index_fits Series.vectors k t) (element t))
    (le-leb w 4096 h)

-- [18.2] n elements of an array are n numbers, and so are n lanes
group_cells : (series : Series) (n : ℕ) → cells (series_of series n number) ≡ n
group_cells Series.arrays n = mul-one n
group_cells Series.vectors n = refl

group_levels : (series : Series) (n : ℕ) → levels (series_of series n number) ≡ 2
group_levels Series.arrays n = refl
group_levels Series.vectors n = refl

-- `split,n`, [18.4] and `asvec,n`
split_plan_holds : (series : Series) (n l : ℕ) → l ≤ 4096
    → check_plan record { inputs = array l number ∷ []; term = Term.split series n (Term.input 0) }
    ≡ cond (split_fits series n (array l number)) (typed (array (l / n) (series_of series n number))) (refused (TypeMisfit 4))
unfolding check_plan check_types check_type check type_rows all_type_rows term_rows
split_plan_holds series n l h =
    ap (λ (b : Bool).
    after_operand (cond b (typed (array l number)) (refused (TypeSize 2))) λ u.
    after_operand (cond b (typed (array l number)) (refused (TypeSize 5))) λ t.
    fitted 4 (split_fits series n t) (array (array_length t / n) (series_of series n (element t))))
    (row_fits l h)
    ∙ go (split_fits series n (array l number)) (λ f. ((split_tells series n (array l number)).holds f).0.1)
  where
    go : (b : Bool) → (T b → l / n * n ≡ l)
        → fitted 4 b (array (l / n) (series_of series n number))
        ≡ cond b (typed (array (l / n) (series_of series n number))) (refused (TypeMisfit 4))
    go true d =
        let group : DataType = series_of series n number in
        let same : l / n * cells group ≡ l = ap (λ (x : ℕ). l / n * x) (group_cells series n) ∙ d tt in
        ap₂ (λ (a b : Bool). cond (a && b) (typed (array (l / n) group)) (refused (TypeSize 4)))
        (le-leb (l / n * cells group) 4096 (omega (arith, same)))
        (le-leb (levels (array (l / n) group)) 8 (omega (arith, group_levels series n)))
    go false d = refl

zip_plan_holds : (m n : ℕ) → m ≤ 2048 → n ≤ 4096
    → check_plan (zip_plan m n)
    ≡ cond (zip_fits (array m number) (array n number)) (typed (array m (DataType.pair number number))) (refused (TypeMisfit 6))
unfolding check_plan check_types check_type check type_rows all_type_rows term_rows
zip_plan_holds m n h k =
    let s : DataType = array m number in
    let t : DataType = array n number in
    ap₂ (λ (a b : Bool).
    after_operand (cond a (typed s) (refused (TypeSize 2))) λ u.
    after_operand (cond b (typed t) (refused (TypeSize 4))) λ v.
    after_operand (cond a (typed s) (refused (TypeSize 7))) λ x.
    after_operand (cond b (typed t) (refused (TypeSize 8))) λ y.
    fitted 6 (zip_fits x y) (array (array_length x) (DataType.pair (element x) (element y))))
    (row_fits m (omega arith)) (row_fits n k)
    ∙ ap (λ (b : Bool). cond (zip_fits s t) (cond (b && true) (typed (array m (DataType.pair number number))) (refused (TypeSize 6))) (refused (TypeMisfit 6)))
    (le-leb (m * 2) 4096 (omega arith))

table_plan_holds : (m n : ℕ) → n ≤ 4096
    → check_plan (table_plan m n) ≡ cond (leb (m * n) 4096) (typed (array m (array n number))) (refused (TypeSize 2))
unfolding check_plan check_types check_type check type_rows all_type_rows term_rows
table_plan_holds m n h =
    let s : DataType = array m (array n number) in
    ap (λ (b : Bool).
    after_operand (after_operand (cond b (typed (array n number)) (refused (TypeSize 3))) λ u. sized 2 s) λ v. sized 5 s)
    (row_fits n h)
    ∙ ap (λ (x : ℕ). twice s (leb (m * x) 4096 && true)) (mul-one n)
    ∙ go s (leb (m * n) 4096)
  where
    twice : DataType → Bool → Verdict
    twice s b = after_operand (cond b (typed s) (refused (TypeSize 2))) λ v. cond b (typed s) (refused (TypeSize 5))

    go : (s : DataType) (b : Bool) → twice s (b && true) ≡ cond b (typed s) (refused (TypeSize 2))
    go s true = refl
    go s false = refl

-- a verdict by a test that tells a fact
decided : {v : Verdict} (b : Bool) {t : DataType} {q : Refusal} {fact : Type 0}
    → v ≡ cond b (typed t) (refused q) → (T b → fact) → (fact → T b) → Decided v fact t q
decided {v} b {t} {q} {fact} e f g = record {
  passes = λ h. e ∙ yes' b (g h);
  refuses = λ h. e ∙ no' b (λ x. h (f x));
}
  where
    yes' : (c : Bool) → T c → cond c (typed t) (refused q) ≡ typed t
    yes' true x = refl
    yes' false x = absurd x

    no' : (c : Bool) → (T c → ⊥) → cond c (typed t) (refused q) ≡ refused q
    no' true x = absurd (x tt)
    no' false x = refl

pub split_decided : (n l : ℕ) → 0 < n → l ≤ 4096
    → Decided (check_plan (split_plan n l)) ((m : ℕ) × (l ≡ m * n)) (array (l / n) (array n number)) (TypeMisfit 4)
split_decided n l p h =
    let f = split_fits_holds Series.arrays n l number p tt in
    decided (split_fits Series.arrays n (array l number)) (split_plan_holds Series.arrays n l h) f.0 f.1

pub asvec_decided : (w l : ℕ) → 0 < w → l ≤ 4096
    → Decided (check_plan (asvec_plan w l)) ((m : ℕ) × (l ≡ m * w)) (array (l / w) (vector w)) (TypeMisfit 4)
asvec_decided w l p h =
    let f = split_fits_holds Series.vectors w l number p refl in
    decided (split_fits Series.vectors w (array l number)) (split_plan_holds Series.vectors w l h) f.0 f.1

pub index_decided : (k l : ℕ) → l ≤ 4096 → Decided (check_plan (index_plan k l)) (k < l) number (TypeMisfit 4)
index_decided k l h =
    let f = index_fits_holds k l number in decided (index_fits Series.arrays k (array l number)) (index_plan_holds k l h) f.0 f.1

pub lane_decided : (k w : ℕ) → w ≤ 4096 → Decided (check_plan (at_plan k w)) (k < w) number (TypeMisfit 3)
lane_decided k w h = let f = lane_fits k w in decided (index_fits Series.vectors k (vector w)) (lane_plan k w h) f.0 f.1

pub zip_decided : (m n : ℕ) → m ≤ 2048 → n ≤ 4096
    → Decided (check_plan (zip_plan m n)) (m ≡ n) (array m (DataType.pair number number)) (TypeMisfit 6)
zip_decided m n h k = let f = zip_fits_holds m n number number in decided (zip_fits (array m number) (array n number)) (zip_plan_holds m n h k) f.0 f.1

pub table_decided : (m n : ℕ) → n ≤ 4096 → Decided (check_plan (table_plan m n)) (m * n ≤ 4096) (array m (array n number)) (TypeSize 2)
table_decided m n h = decided (leb (m * n) 4096) (table_plan_holds m n h) (leb→le (m * n) 4096) (le→leb (m * n) 4096)
