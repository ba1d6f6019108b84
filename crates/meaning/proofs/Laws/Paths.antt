-- Paths that lead to the cells of a type, and that different paths lead to different cells.
use Rattle.std.specs.Prelude.{◌≡◌, refl, [], ◌∷◌, ℕ, ◌+◌, ◌*◌, ◌/◌, ◌%◌, ◌<◌}
use Rattle.std.proofs.Common.{sym, ap, ap₂, ◌∙◌, subst, arith}
use Rattle.std.proofs.Math.Nat.{div-add-mod}
use Rattle.meaning.specs.Types.{DataType, Series, cells, array_length, element, series_of, number, array, vector}
use Rattle.meaning.specs.Paths.{Step, Path, head_index, tail, by_part, index, first, second}
use Rattle.meaning.proofs.Laws.Typing.{IsSeries, MayBeIn}
use Rattle.meaning.proofs.Laws.Series.{by_series, by_elements}
use Rattle.meaning.proofs.Laws.Groups.{group_below, group_injective}

-- a path that leads to a cell of a value of this type
abbrev pub PathOf : DataType → Path ℕ → Type 0
PathOf number [] = Unit {0}
PathOf number (x ∷ p) = ⊥
PathOf (array n t) [] = ⊥
PathOf (array n t) (index i ∷ p) = (i < n) × PathOf t p
PathOf (array n t) (first ∷ p) = ⊥
PathOf (array n t) (second ∷ p) = ⊥
PathOf (DataType.pair s t) [] = ⊥
PathOf (DataType.pair s t) (index i ∷ p) = ⊥
PathOf (DataType.pair s t) (first ∷ p) = PathOf s p
PathOf (DataType.pair s t) (second ∷ p) = PathOf t p
PathOf (vector w) [] = ⊥
PathOf (vector w) (index i ∷ p) = (i < w) × PathOf number p
PathOf (vector w) (first ∷ p) = ⊥
PathOf (vector w) (second ∷ p) = ⊥

-- [3.4] the cell that it leads to
abbrev pub cell_of : DataType → Path ℕ → ℕ
cell_of number p = 0
cell_of (array n t) p = cells t * head_index 0 p + cell_of t (tail p)
cell_of (DataType.pair s t) p = by_part p (cell_of s (tail p)) (cells s + cell_of t (tail p))
cell_of (vector w) p = 1 * head_index 0 p + 0

-- Cases of a path, by the type it leads into

pub on_number_holds : (B : Path ℕ → Type 0) → B [] → (p : Path ℕ) → PathOf number p → B p
on_number_holds B h [] ok = h
on_number_holds B h (x ∷ p) ok = absurd ok

pub on_array : (n : ℕ) (t : DataType) (B : Path ℕ → Type 0)
    → ((i : ℕ) (p : Path ℕ) → i < n → PathOf t p → B (index i ∷ p))
    → (p : Path ℕ) → PathOf (array n t) p → B p
on_array n t B h [] ok = absurd ok
on_array n t B h (index i ∷ p) ok = h i p ok.0 ok.1
on_array n t B h (first ∷ p) ok = absurd ok
on_array n t B h (second ∷ p) ok = absurd ok

pub on_pair : (s t : DataType) (B : Path ℕ → Type 0)
    → ((p : Path ℕ) → PathOf s p → B (first ∷ p))
    → ((p : Path ℕ) → PathOf t p → B (second ∷ p))
    → (p : Path ℕ) → PathOf (DataType.pair s t) p → B p
on_pair s t B h k [] ok = absurd ok
on_pair s t B h k (index i ∷ p) ok = absurd ok
on_pair s t B h k (first ∷ p) ok = h p ok
on_pair s t B h k (second ∷ p) ok = k p ok

pub on_groups : (m n : ℕ) (t : DataType) (B : Path ℕ → Type 0)
    → ((i j : ℕ) (p : Path ℕ) → i < m → j < n → PathOf t p → B (index i ∷ index j ∷ p))
    → (p : Path ℕ) → PathOf (array m (array n t)) p → B p
on_groups m n t B h =
    on_array m (array n t) B (λ i r l. on_array n t (λ p. B (index i ∷ p)) (λ j p l₂ ok. h i j p l l₂ ok) r)

-- Two types that the same paths lead into: what is held or written in the one is held or written in the other. A vector
-- has the paths of an array of numbers, so that the laws of arrays serve.

pub record SamePaths (s t : DataType) : Type 0 where
  pub to : (p : Path ℕ) → PathOf s p → PathOf t p
  pub from : (p : Path ℕ) → PathOf t p → PathOf s p

pub same_refl : (t : DataType) → SamePaths t t
same_refl t = record { to = λ p ok. ok; from = λ p ok. ok }

pub same_sym : {s t : DataType} → SamePaths s t → SamePaths t s
same_sym h = record { to = h.from; from = h.to }

pub same_vector : (w : ℕ) → SamePaths (vector w) (array w number)
same_vector w = record { to = to; from = from }
  where
    to : (p : Path ℕ) → PathOf (vector w) p → PathOf (array w number) p
    to [] ok = ok
    to (index i ∷ p) ok = ok
    to (first ∷ p) ok = ok
    to (second ∷ p) ok = ok

    from : (p : Path ℕ) → PathOf (array w number) p → PathOf (vector w) p
    from [] ok = ok
    from (index i ∷ p) ok = ok
    from (first ∷ p) ok = ok
    from (second ∷ p) ok = ok

pub same_array : (m : ℕ) {s t : DataType} → SamePaths s t → SamePaths (array m s) (array m t)
same_array m {s} {t} h = record {
  to = on_array m s (λ p. PathOf (array m t) p) (λ i p l ok. (l, h.to p ok));
  from = on_array m t (λ p. PathOf (array m s) p) (λ i p l ok. (l, h.from p ok));
}

-- n elements of type t, and the elements of a type, as an array
pub same_series : (series : Series) (n : ℕ) (t : DataType) → MayBeIn series t → SamePaths (series_of series n t) (array n t)
same_series = by_series SamePaths same_refl same_vector

pub same_elements : (series : Series) (t : DataType) → IsSeries series t → SamePaths t (array (array_length t) (element t))
same_elements = by_elements SamePaths same_refl same_vector

-- Paths regrouped: numbers for the offsets of `grouped`, `ungrouped`, `unzipped` and `zipped_at`

abbrev pub flat_path : ℕ → Path ℕ → Path ℕ
flat_path n p = index (n * head_index 0 p + head_index 0 (tail p)) ∷ tail (tail p)

abbrev pub group_path : ℕ → Path ℕ → Path ℕ
group_path n p = index (head_index 0 p / n) ∷ index (head_index 0 p % n) ∷ tail p

abbrev pub unzipped_path : Path ℕ → Path ℕ
unzipped_path p = index (head_index 0 p) ∷ tail (tail p)

abbrev pub zipped_path : Step ℕ → Path ℕ → Path ℕ
zipped_path part p = index (head_index 0 p) ∷ part ∷ tail p

pub group_path_injective : (n i j : ℕ) (p r : Path ℕ)
    → group_path n (index i ∷ p) ≡ group_path n (index j ∷ r) → index i ∷ p ≡ index j ∷ r
group_path_injective n i j p r e =
    let d : i / n ≡ j / n = ap (head_index 0) e in
    let m : i % n ≡ j % n = ap (λ (π : Path ℕ). head_index 0 (tail π)) e in
    let t : p ≡ r = ap (λ (π : Path ℕ). tail (tail π)) e in
    let f : i ≡ j = sym (div-add-mod i n) ∙ ap₂ (λ (x y : ℕ). n * x + y) d m ∙ div-add-mod j n in
    ap₂ (λ (x : ℕ) (π : Path ℕ). index x ∷ π) f t

pub flat_path_injective : (n i j i' j' : ℕ) (p r : Path ℕ) → j < n → j' < n
    → flat_path n (index i ∷ index j ∷ p) ≡ flat_path n (index i' ∷ index j' ∷ r)
    → index i ∷ index j ∷ p ≡ index i' ∷ index j' ∷ r
flat_path_injective n i j i' j' p r l l' e =
    let d : (i ≡ i') × (j ≡ j') = group_injective n i i' j j' l l' (ap (head_index 0) e) in
    let t : p ≡ r = ap tail e in
    ap₂ (λ (x : ℕ) (π : Path ℕ). index x ∷ π) d.0 (ap₂ (λ (x : ℕ) (π : Path ℕ). index x ∷ π) d.1 t)

-- a first part is no second part
StartsFirst : Path ℕ → Type 0
StartsFirst [] = ⊥
StartsFirst (index i ∷ p) = ⊥
StartsFirst (first ∷ p) = Unit {0}
StartsFirst (second ∷ p) = ⊥

pub second_not_first : {p r : Path ℕ} → ◌≡◌ {A = Path ℕ} (second ∷ p) (first ∷ r) → ⊥
unfolding StartsFirst
second_not_first e = subst StartsFirst (sym e) tt

-- Cells

pub cell_of_below : (t : DataType) (p : Path ℕ) → PathOf t p → cell_of t p < cells t
cell_of_below number p ok = omega arith
cell_of_below (array n t) p ok =
    on_array n t (λ r. cell_of (array n t) r < n * cells t) (λ i r l k. group_below l (cell_of_below t r k)) p ok
cell_of_below (DataType.pair s t) p ok =
    on_pair s t (λ r. cell_of (DataType.pair s t) r < cells s + cells t)
    (λ r k. let h = cell_of_below s r k in omega arith)
    (λ r k. let h = cell_of_below t r k in omega arith)
    p ok
cell_of_below (vector w) p ok =
    on_array w number (λ r. cell_of (vector w) r < w) (λ i r l k. omega arith) p ((same_vector w).to p ok)

pub cell_of_injective : (t : DataType) (p r : Path ℕ) → PathOf t p → PathOf t r → cell_of t p ≡ cell_of t r → p ≡ r
cell_of_injective number p r ok ok' = λ e. on_number_holds (λ y. y ≡ r) (on_number_holds (λ z. [] ≡ z) refl r ok') p ok
cell_of_injective (array n t) p r ok ok' =
    on_array n t (λ y. cell_of (array n t) y ≡ cell_of (array n t) r → y ≡ r)
    (λ i y l k.
    on_array n t (λ z. cell_of (array n t) (index i ∷ y) ≡ cell_of (array n t) z → index i ∷ y ≡ z)
    (λ j z l' k' e.
    let h = group_injective (cells t) i j (cell_of t y) (cell_of t z) (cell_of_below t y k) (cell_of_below t z k') e in
    ap₂ (λ (x : ℕ) (π : Path ℕ). index x ∷ π) h.0 (cell_of_injective t y z k k' h.1))
    r ok')
    p ok
cell_of_injective (DataType.pair s t) p r ok ok' =
    on_pair s t (λ y. cell_of (DataType.pair s t) y ≡ cell_of (DataType.pair s t) r → y ≡ r)
    (λ y k.
    on_pair s t (λ z. cell_of (DataType.pair s t) (first ∷ y) ≡ cell_of (DataType.pair s t) z → first ∷ y ≡ z)
    (λ z k' e. ap (λ (π : Path ℕ). first ∷ π) (cell_of_injective s y z k k' e))
    (λ z k' e. absurd (let h = cell_of_below s y k in omega arith))
    r ok')
    (λ y k.
    on_pair s t (λ z. cell_of (DataType.pair s t) (second ∷ y) ≡ cell_of (DataType.pair s t) z → second ∷ y ≡ z)
    (λ z k' e. absurd (let h = cell_of_below s z k' in omega arith))
    (λ z k' e. ap (λ (π : Path ℕ). second ∷ π) (cell_of_injective t y z k k' (omega arith)))
    r ok')
    p ok
cell_of_injective (vector w) p r ok ok' =
    on_array w number (λ y. cell_of (vector w) y ≡ cell_of (vector w) r → y ≡ r)
    (λ i y l k.
    on_array w number (λ z. cell_of (vector w) (index i ∷ y) ≡ cell_of (vector w) z → index i ∷ y ≡ z)
    (λ j z l' k' e.
    ap₂ (λ (x : ℕ) (π : Path ℕ). index x ∷ π) (omega arith)
    (on_number_holds (λ v. v ≡ z) (on_number_holds (λ v. [] ≡ v) refl z k') y k))
    r ((same_vector w).to r ok'))
    p ((same_vector w).to p ok)
