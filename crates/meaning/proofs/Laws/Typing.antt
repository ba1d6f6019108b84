-- The relation of Figure 3, [5.2] to [5.10], by computing: a term has a type exactly when it is well typed, and then its type is
-- `type_of`.
use Rattle.std.specs.Prelude.{◌≡◌, refl, true, List, ◌∷◌, ℕ, ◌*◌, ◌/◌, ◌<◌, length}
use Rattle.std.proofs.Common.{sym, ap, ap₂, ◌∙◌, subst, true≢false, mul-div_cancel}
use Rattle.meaning.specs.Types.{DataType, Series, is_number, array_length, element, first_type, second_type, series_of, number}
use Rattle.meaning.specs.Types.{array, vector}
use Rattle.meaning.specs.Terms.{LoopKind, Term, series_in}
use Rattle.meaning.specs.Typing.{HasType, type_of}

-- what the test of a number tells
pub number_told : (t : DataType) → is_number t ≡ true → t ≡ number
number_told number e = refl
number_told (array n s) e = absurd (true≢false (sym e))
number_told (DataType.pair r s) e = absurd (true≢false (sym e))
number_told (vector w) e = absurd (true≢false (sym e))

abbrev pub IsArray : DataType → Type 0
IsArray t = t ≡ array (array_length t) (element t)

abbrev pub IsPair : DataType → Type 0
IsPair t = t ≡ DataType.pair (first_type t) (second_type t)

-- an array or a vector, as it is named; and a type that its elements may have
abbrev pub IsSeries : Series → DataType → Type 0
IsSeries series t = t ≡ series_of series (array_length t) (element t)

abbrev pub MayBeIn : Series → DataType → Type 0
MayBeIn Series.arrays t = Unit {0}
MayBeIn Series.vectors t = t ≡ number

-- A term has a type: its operands do, and they are of the types that the rule of Figure 3 asks for.
abbrev pub WellTyped : List DataType → List DataType → Term → Type 0
WellTyped I Γ (Term.input k) = k < length I
WellTyped I Γ (Term.variable d) = d < length Γ
WellTyped I Γ (Term.literal v) = Unit {0}
WellTyped I Γ (Term.negate e) = WellTyped I Γ e × (type_of I Γ e ≡ number)
WellTyped I Γ (Term.operation o e f) =
    WellTyped I Γ e × WellTyped I Γ f × (type_of I Γ e ≡ number) × (type_of I Γ f ≡ number)
WellTyped I Γ (Term.map kind a b) =
    WellTyped I Γ a × IsSeries (series_in kind) (type_of I Γ a) × WellTyped I (element (type_of I Γ a) ∷ Γ) b
    × MayBeIn (series_in kind) (type_of I (element (type_of I Γ a) ∷ Γ) b)
WellTyped I Γ (Term.reduce z a b) =
    WellTyped I Γ z × WellTyped I Γ a × IsArray (type_of I Γ a)
    × WellTyped I (type_of I Γ z ∷ element (type_of I Γ a) ∷ Γ) b
    × (type_of I (type_of I Γ z ∷ element (type_of I Γ a) ∷ Γ) b ≡ type_of I Γ z)
WellTyped I Γ (Term.zip a b) =
    WellTyped I Γ a × WellTyped I Γ b × IsArray (type_of I Γ a) × IsArray (type_of I Γ b)
    × (array_length (type_of I Γ a) ≡ array_length (type_of I Γ b))
WellTyped I Γ (Term.pair a b) = WellTyped I Γ a × WellTyped I Γ b
WellTyped I Γ (Term.split series n e) =
    WellTyped I Γ e × IsArray (type_of I Γ e) × (array_length (type_of I Γ e) / n * n ≡ array_length (type_of I Γ e))
    × (0 < n) × MayBeIn series (element (type_of I Γ e))
WellTyped I Γ (Term.join series e) = WellTyped I Γ e × IsArray (type_of I Γ e) × IsSeries series (element (type_of I Γ e))
WellTyped I Γ (Term.first e) = WellTyped I Γ e × IsPair (type_of I Γ e)
WellTyped I Γ (Term.second e) = WellTyped I Γ e × IsPair (type_of I Γ e)
WellTyped I Γ (Term.index series k e) = WellTyped I Γ e × IsSeries series (type_of I Γ e) × (k < array_length (type_of I Γ e))

is_array_holds : {t s : DataType} {n : ℕ} → t ≡ array n s → IsArray t
is_array_holds e = subst (λ x. x ≡ array (array_length x) (element x)) (sym e) refl

is_vector_holds : {t : DataType} {w : ℕ} → t ≡ vector w → IsSeries Series.vectors t
is_vector_holds e = subst (λ x. x ≡ vector (array_length x)) (sym e) refl

is_pair_holds : {t r s : DataType} → t ≡ DataType.pair r s → IsPair t
is_pair_holds e = subst (λ x. x ≡ DataType.pair (first_type x) (second_type x)) (sym e) refl

-- a body is typed alike in equal scopes
in_scope : (I : List DataType) (b : Term) (t : DataType) {Γ Γ' : List DataType}
    → Γ ≡ Γ' → WellTyped I Γ b × (type_of I Γ b ≡ t) → WellTyped I Γ' b × (type_of I Γ' b ≡ t)
in_scope I b t e h = subst (λ (Γ : List DataType). WellTyped I Γ b × (type_of I Γ b ≡ t)) e h

-- a term that has a type is well typed, and has that type
pub well_typed : {I Γ : List DataType} {e : Term} {t : DataType} → HasType I Γ e t
    → WellTyped I Γ e × (type_of I Γ e ≡ t)
well_typed (HasType.input k h e) = (h, e)
well_typed (HasType.variable d h e) = (h, e)
well_typed (HasType.literal v) = (tt, refl)
well_typed (HasType.negate d) = (well_typed d, refl)
well_typed (HasType.operation o d f) = let h = well_typed d in let k = well_typed f in ((h.0, k.0, h.1, k.1), refl)
well_typed {I} (HasType.map {Γ} {a} {b} {n} {s} {t} kind e d f) =
    let h = well_typed d in
    let q = in_scope I b t (ap (λ (x : DataType). x ∷ Γ) (sym (ap element h.1))) (well_typed f) in
    let m : ℕ = array_length (type_of I Γ a) in
    let body : DataType = type_of I (element (type_of I Γ a) ∷ Γ) b in (
      (
        h.0,
        subst (λ (σ : Series). IsSeries σ (type_of I Γ a)) (sym e) (is_array_holds h.1),
        q.0,
        subst (λ (σ : Series). MayBeIn σ body) (sym e) tt,
      ),
      ap (λ (σ : Series). series_of σ m body) e ∙ ap₂ array (ap array_length h.1) q.1,
    )
well_typed {I} (HasType.map_vector {Γ} {a} {b} {w} d f) =
    let h = well_typed d in
    let q = in_scope I b number (ap (λ (x : DataType). x ∷ Γ) (sym (ap element h.1))) (well_typed f) in
    ((h.0, is_vector_holds h.1, q.0, q.1), ap vector (ap array_length h.1))
well_typed {I} (HasType.reduce {Γ} {z} {a} {b} {n} {s} {t} d f g) =
    let h = well_typed d in
    let k = well_typed f in
    let scope : t ∷ s ∷ Γ ≡ type_of I Γ z ∷ element (type_of I Γ a) ∷ Γ =
    ap₂ (λ (x y : DataType). x ∷ y ∷ Γ) (sym h.1) (sym (ap element k.1)) in
    let q = in_scope I b t scope (well_typed g) in
    ((h.0, k.0, is_array_holds k.1, q.0, q.1 ∙ sym h.1), h.1)
well_typed (HasType.zip d f) =
    let h = well_typed d in
    let k = well_typed f in (
      (h.0, k.0, is_array_holds h.1, is_array_holds k.1, ap array_length h.1 ∙ sym (ap array_length k.1)),
      ap₂ array (ap array_length h.1) (ap₂ DataType.pair (ap element h.1) (ap element k.1)),
    )
well_typed (HasType.pair d f) =
    let h = well_typed d in let k = well_typed f in ((h.0, k.0), ap₂ DataType.pair h.1 k.1)
well_typed {I} (HasType.split {Γ} {e} {l} {t} m n p q d) =
    let h = well_typed d in
    let f : array_length (type_of I Γ e) ≡ m * n = ap array_length h.1 ∙ q in
    let g : array_length (type_of I Γ e) / n ≡ m = ap (λ (x : ℕ). x / n) f ∙ mul-div_cancel m p in (
      (h.0, is_array_holds h.1, ap (λ (x : ℕ). x * n) g ∙ sym f, p, tt),
      ap₂ (λ (x : ℕ) (y : DataType). array x (array n y)) g (ap element h.1),
    )
well_typed {I} (HasType.as_vector {Γ} {e} {l} m w p q d) =
    let h = well_typed d in
    let f : array_length (type_of I Γ e) ≡ m * w = ap array_length h.1 ∙ q in
    let g : array_length (type_of I Γ e) / w ≡ m = ap (λ (x : ℕ). x / w) f ∙ mul-div_cancel m p in (
      (h.0, is_array_holds h.1, ap (λ (x : ℕ). x * w) g ∙ sym f, p, ap element h.1),
      ap (λ (x : ℕ). array x (vector w)) g,
    )
well_typed (HasType.join q d) =
    let h = well_typed d in
    let m = ap array_length h.1 in
    let n = ap (λ (x : DataType). array_length (element x)) h.1 in (
      (h.0, is_array_holds h.1, is_array_holds (ap element h.1)),
      ap₂ array (ap₂ ◌*◌ m n ∙ sym q) (ap (λ (x : DataType). element (element x)) h.1),
    )
well_typed (HasType.as_scalar q d) =
    let h = well_typed d in
    let m = ap array_length h.1 in
    let n = ap (λ (x : DataType). array_length (element x)) h.1 in (
      (h.0, is_array_holds h.1, is_vector_holds (ap element h.1)),
      ap₂ array (ap₂ ◌*◌ m n ∙ sym q) (ap (λ (x : DataType). element (element x)) h.1),
    )
well_typed (HasType.first d) = let h = well_typed d in ((h.0, is_pair_holds h.1), ap first_type h.1)
well_typed (HasType.second d) = let h = well_typed d in ((h.0, is_pair_holds h.1), ap second_type h.1)
well_typed (HasType.index k p d) =
    let h = well_typed d in
    ((h.0, is_array_holds h.1, subst (λ (x : ℕ). k < x) (sym (ap array_length h.1)) p), ap element h.1)
well_typed (HasType.lane k p d) =
    let h = well_typed d in
    ((h.0, is_vector_holds h.1, subst (λ (x : ℕ). k < x) (sym (ap array_length h.1)) p), ap element h.1)

-- the type of a derivation, replaced by its equal
at_type : {I Γ : List DataType} {e : Term} {s t : DataType} → s ≡ t → HasType I Γ e s → HasType I Γ e t
at_type {I} {Γ} {e} q d = subst (λ t. HasType I Γ e t) q d

-- and a well_typed term has its type
pub has_type : (I Γ : List DataType) (e : Term) → WellTyped I Γ e → HasType I Γ e (type_of I Γ e)
has_type I Γ (Term.input k) h = HasType.input k h refl
has_type I Γ (Term.variable d) h = HasType.variable d h refl
has_type I Γ (Term.literal v) h = HasType.literal v
has_type I Γ (Term.negate e) h = HasType.negate (at_type h.1 (has_type I Γ e h.0))
has_type I Γ (Term.operation o e f) h =
    HasType.operation o (at_type h.2 (has_type I Γ e h.0)) (at_type h.3 (has_type I Γ f h.1))
has_type I Γ (Term.map LoopKind.parallel a b) h =
    HasType.map LoopKind.parallel refl (at_type h.1 (has_type I Γ a h.0))
    (has_type I (element (type_of I Γ a) ∷ Γ) b h.2)
has_type I Γ (Term.map LoopKind.sequential a b) h =
    HasType.map LoopKind.sequential refl (at_type h.1 (has_type I Γ a h.0))
    (has_type I (element (type_of I Γ a) ∷ Γ) b h.2)
has_type I Γ (Term.map LoopKind.lanes a b) h =
    HasType.map_vector (at_type h.1 (has_type I Γ a h.0))
    (subst (λ (t : DataType). HasType I (t ∷ Γ) b number) (ap element h.1)
    (at_type h.3 (has_type I (element (type_of I Γ a) ∷ Γ) b h.2)))
has_type I Γ (Term.reduce z a b) h =
    HasType.reduce (has_type I Γ z h.0) (at_type h.2 (has_type I Γ a h.1))
    (at_type h.4 (has_type I (type_of I Γ z ∷ element (type_of I Γ a) ∷ Γ) b h.3))
has_type I Γ (Term.zip a b) h =
    HasType.zip (at_type h.2 (has_type I Γ a h.0))
    (at_type (h.3 ∙ ap (λ (n : ℕ). array n (element (type_of I Γ b))) (sym h.4)) (has_type I Γ b h.1))
has_type I Γ (Term.pair a b) h = HasType.pair (has_type I Γ a h.0) (has_type I Γ b h.1)
has_type I Γ (Term.split Series.vectors n e) h =
    HasType.as_vector (array_length (type_of I Γ e) / n) n h.3 (sym h.2)
    (at_type (h.1 ∙ ap (λ (t : DataType). array (array_length (type_of I Γ e)) t) h.4) (has_type I Γ e h.0))
has_type I Γ (Term.split Series.arrays n e) h =
    HasType.split (array_length (type_of I Γ e) / n) n h.3 (sym h.2) (at_type h.1 (has_type I Γ e h.0))
has_type I Γ (Term.join Series.vectors e) h =
    at_type (ap (λ (t : DataType). array (array_length (type_of I Γ e) * array_length (element (type_of I Γ e))) t)
    (sym (ap element h.2)))
    (HasType.as_scalar refl
    (at_type (h.1 ∙ ap (λ (t : DataType). array (array_length (type_of I Γ e)) t) h.2) (has_type I Γ e h.0)))
has_type I Γ (Term.join Series.arrays e) h =
    HasType.join refl
    (at_type (h.1 ∙ ap (λ (t : DataType). array (array_length (type_of I Γ e)) t) h.2) (has_type I Γ e h.0))
has_type I Γ (Term.first e) h = HasType.first (at_type h.1 (has_type I Γ e h.0))
has_type I Γ (Term.second e) h = HasType.second (at_type h.1 (has_type I Γ e h.0))
has_type I Γ (Term.index Series.vectors k e) h =
    at_type (sym (ap element h.1)) (HasType.lane k h.2 (at_type h.1 (has_type I Γ e h.0)))
has_type I Γ (Term.index Series.arrays k e) h = HasType.index k h.2 (at_type h.1 (has_type I Γ e h.0))
