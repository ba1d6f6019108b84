-- The type check: whether a term has a type is decided, and the type is found. It is the relation of Figure 3, [5.2] to [5.10].
use Rattle.std.specs.Prelude.{◌≡◌, refl, ◌≢◌, List, ◌∷◌, ℕ, ◌*◌, ◌/◌, length}
use Rattle.std.proofs.Common.{ap, ap₂, ◌∙◌, subst, arith}
use Rattle.std.proofs.Math.Option.{Option, none, some}
use Rattle.std.proofs.Math.Decide.{ℕ_discrete, dec_lt}
use Rattle.meaning.specs.Types.{DataType, Series, array_length, element, first_type, second_type, series_of, number}
use Rattle.meaning.specs.Types.{array, vector}
use Rattle.meaning.specs.Terms.{Term, series_in}
use Rattle.meaning.specs.Typing.{HasType, type_of}
use Rattle.meaning.proofs.Laws.Typing.{IsArray, IsPair, IsSeries, MayBeIn, WellTyped, well_typed, has_type}

-- Types are compared

sort : DataType → ℕ
sort number = 0
sort (array n t) = 1
sort (DataType.pair s t) = 2
sort (vector w) = 3

-- types of different sorts differ
other_sort : (s t : DataType) → sort s ≢ sort t → Dec (s ≡ t)
other_sort s t h = no (λ e. h (ap sort e))

same_type? : (s t : DataType) → Dec (s ≡ t)
unfolding sort
same_type? number number = yes refl
same_type? number (array n t) = other_sort number (array n t) (omega arith)
same_type? number (DataType.pair s t) = other_sort number (DataType.pair s t) (omega arith)
same_type? number (vector w) = other_sort number (vector w) (omega arith)
same_type? (array n t) number = other_sort (array n t) number (omega arith)
same_type? (array n s) (array m t) = go (ℕ_discrete n m) (same_type? s t)
  where
    go : Dec (n ≡ m) → Dec (s ≡ t) → Dec (array n s ≡ array m t)
    go (yes x) (yes y) = yes (ap₂ array x y)
    go (yes x) (no y) = no (λ e. y (ap element e))
    go (no x) d = no (λ e. x (ap array_length e))
same_type? (array n t) (DataType.pair r s) = other_sort (array n t) (DataType.pair r s) (omega arith)
same_type? (array n t) (vector w) = other_sort (array n t) (vector w) (omega arith)
same_type? (DataType.pair r s) number = other_sort (DataType.pair r s) number (omega arith)
same_type? (DataType.pair r s) (array n t) = other_sort (DataType.pair r s) (array n t) (omega arith)
same_type? (DataType.pair a b) (DataType.pair c d) = go (same_type? a c) (same_type? b d)
  where
    go : Dec (a ≡ c) → Dec (b ≡ d) → Dec (DataType.pair a b ≡ DataType.pair c d)
    go (yes x) (yes y) = yes (ap₂ DataType.pair x y)
    go (yes x) (no y) = no (λ e. y (ap second_type e))
    go (no x) d = no (λ e. x (ap first_type e))
same_type? (DataType.pair r s) (vector w) = other_sort (DataType.pair r s) (vector w) (omega arith)
same_type? (vector w) number = other_sort (vector w) number (omega arith)
same_type? (vector w) (array n t) = other_sort (vector w) (array n t) (omega arith)
same_type? (vector w) (DataType.pair r s) = other_sort (vector w) (DataType.pair r s) (omega arith)
same_type? (vector w) (vector v) = go (ℕ_discrete w v)
  where
    go : Dec (w ≡ v) → Dec (vector w ≡ vector v)
    go (yes x) = yes (ap vector x)
    go (no x) = no (λ e. x (ap array_length e))

is_series? : (series : Series) (t : DataType) → Dec (IsSeries series t)
is_series? series t = same_type? t (series_of series (array_length t) (element t))

may_be_in? : (series : Series) (t : DataType) → Dec (MayBeIn series t)
may_be_in? Series.arrays t = yes tt
may_be_in? Series.vectors t = same_type? t number

is_array? : (t : DataType) → Dec (IsArray t)
is_array? t = same_type? t (array (array_length t) (element t))

is_pair? : (t : DataType) → Dec (IsPair t)
is_pair? t = same_type? t (DataType.pair (first_type t) (second_type t))

-- Several questions at once

both : {A B : Type 0} → Dec A → Dec B → Dec (A × B)
both (yes a) (yes b) = yes (a, b)
both (yes a) (no b) = no (λ h. b h.1)
both (no a) d = no (λ h. a h.0)

through : {A B : Type 0} → (A → B) → (B → A) → Dec A → Dec B
through f g (yes a) = yes (f a)
through f g (no a) = no (λ b. a (g b))

three : {A B C : Type 0} → Dec A → Dec B → Dec C → Dec (A × B × C)
unfolding both through
three a b c = through (λ h. (h.0, h.1.0, h.1.1)) (λ h. (h.0, (h.1, h.2))) (both a (both b c))

four : {A B C D : Type 0} → Dec A → Dec B → Dec C → Dec D → Dec (A × B × C × D)
unfolding both through three
four a b c d =
    through (λ h. (h.0, h.1.0, h.1.1, h.1.2)) (λ h. (h.0, (h.1, h.2, h.3))) (both a (three b c d))

five : {A B C D E : Type 0} → Dec A → Dec B → Dec C → Dec D → Dec E → Dec (A × B × C × D × E)
unfolding both through four
five a b c d e =
    through (λ h. (h.0, h.1.0, h.1.1, h.1.2, h.1.3)) (λ h. (h.0, (h.1, h.2, h.3, h.4)))
    (both a (four b c d e))

-- The type check

unfoldable pub well_typed? : (I Γ : List DataType) (e : Term) → Dec (WellTyped I Γ e)
unfolding both three four five is_array? is_pair? is_series? may_be_in? same_type? sort other_sort
well_typed? I Γ (Term.input k) = dec_lt k (length I)
well_typed? I Γ (Term.variable d) = dec_lt d (length Γ)
well_typed? I Γ (Term.literal v) = yes tt
well_typed? I Γ (Term.negate e) = both (well_typed? I Γ e) (same_type? (type_of I Γ e) number)
well_typed? I Γ (Term.operation o e f) =
    four (well_typed? I Γ e) (well_typed? I Γ f) (same_type? (type_of I Γ e) number) (same_type? (type_of I Γ f) number)
well_typed? I Γ (Term.map kind a b) =
    four (well_typed? I Γ a) (is_series? (series_in kind) (type_of I Γ a)) (well_typed? I (element (type_of I Γ a) ∷ Γ) b)
    (may_be_in? (series_in kind) (type_of I (element (type_of I Γ a) ∷ Γ) b))
well_typed? I Γ (Term.reduce z a b) =
    five (well_typed? I Γ z) (well_typed? I Γ a) (is_array? (type_of I Γ a))
    (well_typed? I (type_of I Γ z ∷ element (type_of I Γ a) ∷ Γ) b)
    (same_type? (type_of I (type_of I Γ z ∷ element (type_of I Γ a) ∷ Γ) b) (type_of I Γ z))
well_typed? I Γ (Term.zip a b) =
    five (well_typed? I Γ a) (well_typed? I Γ b) (is_array? (type_of I Γ a)) (is_array? (type_of I Γ b))
    (ℕ_discrete (array_length (type_of I Γ a)) (array_length (type_of I Γ b)))
well_typed? I Γ (Term.pair a b) = both (well_typed? I Γ a) (well_typed? I Γ b)
well_typed? I Γ (Term.split series n e) =
    five (well_typed? I Γ e) (is_array? (type_of I Γ e))
    (ℕ_discrete (array_length (type_of I Γ e) / n * n) (array_length (type_of I Γ e)))
    (dec_lt 0 n)
    (may_be_in? series (element (type_of I Γ e)))
well_typed? I Γ (Term.join series e) =
    three (well_typed? I Γ e) (is_array? (type_of I Γ e)) (is_series? series (element (type_of I Γ e)))
well_typed? I Γ (Term.first e) = both (well_typed? I Γ e) (is_pair? (type_of I Γ e))
well_typed? I Γ (Term.second e) = both (well_typed? I Γ e) (is_pair? (type_of I Γ e))
well_typed? I Γ (Term.index series k e) =
    three (well_typed? I Γ e) (is_series? series (type_of I Γ e)) (dec_lt k (array_length (type_of I Γ e)))

if_yes : {A : Type 0} → Dec A → DataType → Option DataType
if_yes (yes a) t = some t
if_yes (no a) t = none

-- the type of a term that has one, or none
unfoldable pub infer : List DataType → List DataType → Term → Option DataType
unfolding if_yes
infer I Γ e = if_yes (well_typed? I Γ e) (type_of I Γ e)

if_yes_yes : {A : Type 0} (d : Dec A) (t : DataType) → A → if_yes d t ≡ some t
unfolding if_yes
if_yes_yes (yes a) t h = refl
if_yes_yes (no a) t h = absurd (a h)

if_yes_some : {A : Type 0} (d : Dec A) (t r : DataType) → if_yes d t ≡ some r → A × (t ≡ r)
unfolding if_yes
if_yes_some (yes a) t r e = (a, cc)
if_yes_some (no a) t r e = absurd (let z : ◌≡◌ {A = ℕ} 0 1 = cc in omega arith)

-- What it finds is the relation, both ways

pub typed_inferred : (I Γ : List DataType) (e : Term) (t : DataType) → HasType I Γ e t → infer I Γ e ≡ some t
unfolding infer
typed_inferred I Γ e t d = let h = well_typed d in if_yes_yes (well_typed? I Γ e) (type_of I Γ e) h.0 ∙ ap some h.1

pub inferred_typed : (I Γ : List DataType) (e : Term) (t : DataType) → infer I Γ e ≡ some t → HasType I Γ e t
unfolding infer
inferred_typed I Γ e t h =
    let k = if_yes_some (well_typed? I Γ e) (type_of I Γ e) t h in
    subst (λ (x : DataType). HasType I Γ e x) k.1 (has_type I Γ e k.0)
