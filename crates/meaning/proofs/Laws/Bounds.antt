-- Bounds: the offset of a path whose indices are in range is in range, and its bound is below the cells of the type.
use Rattle.std.specs.Prelude.{◌≡◌, refl, List, [], ◌∷◌, ℕ, ◌+◌, ◌*◌, ◌-◌, ◌/◌, ◌≤◌, ◌<◌, min, length}
use Rattle.std.proofs.Common.{sym, ap, ap₂, ◌∙◌, subst, ⊎_elim, mul-le-mul_right, mul_comm, one-mul, div-le_self, arith}
use Rattle.meaning.specs.Types.{DataType, Series, cells, array_length, element, series_of, number, array, vector}
use Rattle.meaning.specs.Terms.{LoopKind, series_in}
use Rattle.meaning.specs.Loops.{Offset, plus, times, over, rest}
use Rattle.meaning.specs.Paths.{Path, index, first, second}
use Rattle.meaning.specs.Offsets.{summands, sum_onto, sum_of, offset_of, offset_from_innermost}
use Rattle.meaning.specs.Limits.{IsCount, IsWidth, RoundsInRange, bound, counter_bound, OffsetPasses}
use Rattle.meaning.specs.Limits.{OffsetFits, CellsWithin}
use Rattle.meaning.proofs.Laws.Typing.{IsSeries, MayBeIn}
use Rattle.meaning.proofs.Laws.Series.{by_series, by_elements}
use Rattle.meaning.proofs.Laws.Groups.{group_below, quotient_below}
use Rattle.meaning.proofs.Laws.Paths.{PathOf, cell_of, cell_of_below}
use Rattle.meaning.proofs.Laws.Evaluation.{path_by, Additive, total_by, summands_total, offset_is_cell}
use Rattle.meaning.proofs.Laws.Levels.{at_level, Extends, level_top}

-- Bounds of counters by level

abbrev pub level_bound : List ℕ → ℕ → ℕ
level_bound ns l = at_level ns l - 1

pub bound_from_innermost : (ns : List ℕ) (o : Offset)
    → bound (counter_bound ns) (offset_from_innermost (length ns) o) ≡ bound (level_bound ns) o
bound_from_innermost ns (Offset.literal v) = refl
bound_from_innermost ns (Offset.counter l) = refl
bound_from_innermost ns (plus a b) = ap₂ ◌+◌ (bound_from_innermost ns a) (bound_from_innermost ns b)
bound_from_innermost ns (times n a) = ap (λ (j : ℕ). n * j) (bound_from_innermost ns a)
bound_from_innermost ns (over n a) = ap (λ (j : ℕ). j / n) (bound_from_innermost ns a)
bound_from_innermost ns (rest n a) = ap (λ (j : ℕ). min j (n - 1)) (bound_from_innermost ns a)

small_from_innermost : (ns : List ℕ) (o : Offset)
    → bound (level_bound ns) o ≤ 65535 → bound (counter_bound ns) (offset_from_innermost (length ns) o) ≤ 65535
small_from_innermost ns o l = subst (λ (x : ℕ). x ≤ 65535) (sym (bound_from_innermost ns o)) l

passes_from_innermost : (ns : List ℕ) (o : Offset)
    → OffsetPasses (length ns) (level_bound ns) o
    → OffsetPasses (length ns) (counter_bound ns) (offset_from_innermost (length ns) o)
passes_from_innermost ns (Offset.literal v) h = h
passes_from_innermost ns (Offset.counter l) h = (omega (arith, h.0), h.1)
passes_from_innermost ns (plus x y) h =
    (passes_from_innermost ns x h.0, passes_from_innermost ns y h.1, small_from_innermost ns (plus x y) h.2)
passes_from_innermost ns (times n x) h =
    (passes_from_innermost ns x h.0, h.1, small_from_innermost ns (times n x) h.2)
passes_from_innermost ns (over n x) h =
    (passes_from_innermost ns x h.0, h.1, small_from_innermost ns (over n x) h.2)
passes_from_innermost ns (rest n x) h =
    (passes_from_innermost ns x h.0, h.1, small_from_innermost ns (rest n x) h.2)

pub fits_from_innermost : (ns : List ℕ) (o : Offset) (n : ℕ) → OffsetFits (length ns) (level_bound ns) o n
    → OffsetFits (length ns) (counter_bound ns) (offset_from_innermost (length ns) o) n
fits_from_innermost ns o n h =
    (passes_from_innermost ns o h.0, subst (λ (x : ℕ). x < n) (sym (bound_from_innermost ns o)) h.1)

-- Sizes within the limits

pub width_is_count : (w : ℕ) → IsWidth w → IsCount w
width_is_count w h =
    ⊎_elim (λ e. (omega arith, omega arith))
    (⊎_elim (λ e. (omega arith, omega arith)) (⊎_elim (λ e. (omega arith, omega arith)) (λ e. (omega arith, omega arith))))
    h

-- the rounds of a loop
pub rounds_are_count : (kind : LoopKind) (n : ℕ) → RoundsInRange kind n → IsCount n
rounds_are_count LoopKind.parallel n h = h
rounds_are_count LoopKind.sequential n h = h
rounds_are_count LoopKind.lanes n h = width_is_count n h

pub cells_positive : (t : DataType) → CellsWithin t → 1 ≤ cells t
cells_positive number f = omega arith
cells_positive (array n t) f =
    let h : 1 * cells t ≤ n * cells t = mul-le-mul_right (cells t) f.0 in
    let e = one-mul (cells t) in
    let k = cells_positive t f.2 in
    omega arith
cells_positive (DataType.pair s t) f = let h = cells_positive s f.1 in omega arith
cells_positive (vector w) f = (width_is_count w f).0

pub cells_within : (t : DataType) → CellsWithin t → cells t ≤ 4096
cells_within number f = omega arith
cells_within (array n t) f = f.1
cells_within (DataType.pair s t) f = f.0
cells_within (vector w) f = (width_is_count w f).1

pub length_within : (n : ℕ) (t : DataType) → CellsWithin (array n t) → n ≤ 4096
length_within n t f =
    let h : 1 * n ≤ cells t * n = mul-le-mul_right n (cells_positive t f.2) in
    let e = one-mul n in
    let c = mul_comm (cells t) n in
    let l = f.1 in
    omega arith

-- Paths of offsets, with the bounds for their numbers

abbrev pub bound_under : List ℕ → Offset → ℕ
bound_under ns o = bound (level_bound ns) o

bound_additive : (ns : List ℕ) → Additive (bound_under ns)
bound_additive ns = record { of_literal = λ v. refl; of_plus = λ x y. refl; of_times = λ n x. refl }

-- a path that leads into a value of this type, whatever the counters are; and whose indices' rows are in range
abbrev pub PathWithin : List ℕ → DataType → Path Offset → Type 0
PathWithin ns number [] = Unit {0}
PathWithin ns number (x ∷ p) = ⊥
PathWithin ns (array n t) [] = ⊥
PathWithin ns (array n t) (index o ∷ p) = OffsetFits (length ns) (level_bound ns) o n × PathWithin ns t p
PathWithin ns (array n t) (first ∷ p) = ⊥
PathWithin ns (array n t) (second ∷ p) = ⊥
PathWithin ns (DataType.pair s t) [] = ⊥
PathWithin ns (DataType.pair s t) (index i ∷ p) = ⊥
PathWithin ns (DataType.pair s t) (first ∷ p) = PathWithin ns s p
PathWithin ns (DataType.pair s t) (second ∷ p) = PathWithin ns t p
PathWithin ns (vector w) [] = ⊥
PathWithin ns (vector w) (index o ∷ p) = OffsetFits (length ns) (level_bound ns) o w × PathWithin ns number p
PathWithin ns (vector w) (first ∷ p) = ⊥
PathWithin ns (vector w) (second ∷ p) = ⊥

pub within_array : (ns : List ℕ) (n : ℕ) (t : DataType) (B : Path Offset → Type 0)
    → ((o : Offset) (p : Path Offset)
    → OffsetFits (length ns) (level_bound ns) o n → PathWithin ns t p → B (index o ∷ p))
    → (p : Path Offset) → PathWithin ns (array n t) p → B p
within_array ns n t B h [] k = absurd k
within_array ns n t B h (index o ∷ p) k = h o p k.0 k.1
within_array ns n t B h (first ∷ p) k = absurd k
within_array ns n t B h (second ∷ p) k = absurd k

pub within_pair : (ns : List ℕ) (s t : DataType) (B : Path Offset → Type 0)
    → ((p : Path Offset) → PathWithin ns s p → B (first ∷ p))
    → ((p : Path Offset) → PathWithin ns t p → B (second ∷ p))
    → (p : Path Offset) → PathWithin ns (DataType.pair s t) p → B p
within_pair ns s t B h k [] i = absurd i
within_pair ns s t B h k (index o ∷ p) i = absurd i
within_pair ns s t B h k (first ∷ p) i = h p i
within_pair ns s t B h k (second ∷ p) i = k p i

-- Two types that the same paths lead into, as in `Laws.Paths`
pub record SameWithin (s t : DataType) : Type 0 where
  pub to : (ns : List ℕ) (p : Path Offset) → PathWithin ns s p → PathWithin ns t p
  pub from : (ns : List ℕ) (p : Path Offset) → PathWithin ns t p → PathWithin ns s p

within_refl : (t : DataType) → SameWithin t t
within_refl t = record { to = λ ns p i. i; from = λ ns p i. i }

pub within_sym : {s t : DataType} → SameWithin s t → SameWithin t s
within_sym h = record { to = h.from; from = h.to }

pub within_vector : (w : ℕ) → SameWithin (vector w) (array w number)
within_vector w = record { to = to; from = from }
  where
    to : (ns : List ℕ) (p : Path Offset) → PathWithin ns (vector w) p → PathWithin ns (array w number) p
    to ns [] i = i
    to ns (index o ∷ p) i = i
    to ns (first ∷ p) i = i
    to ns (second ∷ p) i = i

    from : (ns : List ℕ) (p : Path Offset) → PathWithin ns (array w number) p → PathWithin ns (vector w) p
    from ns [] i = i
    from ns (index o ∷ p) i = i
    from ns (first ∷ p) i = i
    from ns (second ∷ p) i = i

pub within_groups : (m : ℕ) {s t : DataType} → SameWithin s t → SameWithin (array m s) (array m t)
within_groups m {s} {t} h = record {
  to = λ ns. within_array ns m s (λ p. PathWithin ns (array m t) p) (λ o p l i. (l, h.to ns p i));
  from = λ ns. within_array ns m t (λ p. PathWithin ns (array m s) p) (λ o p l i. (l, h.from ns p i));
}

pub within_series : (series : Series) (n : ℕ) (t : DataType) → MayBeIn series t → SameWithin (series_of series n t) (array n t)
within_series = by_series SameWithin within_refl within_vector

pub within_elements : (series : Series) (t : DataType) → IsSeries series t
    → SameWithin t (array (array_length t) (element t))
within_elements = by_elements SameWithin within_refl within_vector

number_within_path : (ns : List ℕ) (p : Path Offset)
    → PathWithin ns number p → PathOf number (path_by (bound_under ns) p)
number_within_path ns [] i = tt
number_within_path ns (x ∷ p) i = absurd i

within_path : (ns : List ℕ) (t : DataType) (p : Path Offset) → PathWithin ns t p → PathOf t (path_by (bound_under ns) p)
within_path ns number p i = number_within_path ns p i
within_path ns (array n t) p i =
    within_array ns n t (λ r. PathOf (array n t) (path_by (bound_under ns) r))
    (λ o r h k. (h.1, within_path ns t r k)) p i
within_path ns (DataType.pair s t) p i =
    within_pair ns s t (λ r. PathOf (DataType.pair s t) (path_by (bound_under ns) r)) (λ r k. within_path ns s r k)
    (λ r k. within_path ns t r k) p i
within_path ns (vector w) p i =
    within_array ns w number (λ r. PathOf (vector w) (path_by (bound_under ns) r))
    (λ o r h k. (h.1, number_within_path ns r k)) p ((within_vector w).to ns p i)

-- The offset of such a path is in range, and its bound is a cell of the type

AllPass : ℕ → (ℕ → ℕ) → List Offset → Type 0
AllPass k c [] = Unit {0}
AllPass k c (x ∷ xs) = OffsetPasses k c x × AllPass k c xs

sum_onto_passes : (k : ℕ) (c : ℕ → ℕ) (o : Offset) (xs : List Offset)
    → OffsetPasses k c o → AllPass k c xs → bound c o + total_by (bound c) xs ≤ 65535 → OffsetPasses k c (sum_onto o xs)
unfolding total_by AllPass
sum_onto_passes k c o [] h a l = h
sum_onto_passes k c o (x ∷ xs) h a l = sum_onto_passes k c (plus o x) xs (h, a.0, omega arith) a.1 (omega arith)

sum_passes : (k : ℕ) (c : ℕ → ℕ) (xs : List Offset)
    → AllPass k c xs → total_by (bound c) xs ≤ 65535 → OffsetPasses k c (sum_of xs)
unfolding total_by AllPass
sum_passes k c [] a l = omega arith
sum_passes k c (x ∷ xs) a l = sum_onto_passes k c x xs a.0 a.1 l

summands_pass : (ns : List ℕ) (t : DataType) (p : Path Offset)
    → CellsWithin t → PathWithin ns t p → AllPass (length ns) (level_bound ns) (summands t p)
unfolding AllPass
summands_pass ns number p f i = tt
summands_pass ns (array n t) p f i =
    let count : IsCount (cells t) = (cells_positive t f.2, cells_within t f.2) in
    within_array ns n t (λ r. AllPass (length ns) (level_bound ns) (summands (array n t) r))
    (λ o r h k.
    let g : cells t * bound (level_bound ns) o + 0 < n * cells t = group_below h.1 count.0 in
    let l = f.1 in
    ((h.0, count, omega arith), summands_pass ns t r f.2 k))
    p i
summands_pass ns (DataType.pair s t) p f i =
    let least = cells_positive t f.2 in
    let most = f.0 in
    within_pair ns s t (λ r. AllPass (length ns) (level_bound ns) (summands (DataType.pair s t) r))
    (λ r k. summands_pass ns s r f.1 k)
    (λ r k. (omega arith, summands_pass ns t r f.2 k))
    p i
summands_pass ns (vector w) p f i =
    let count : IsCount w = width_is_count w f in
    let most = count.1 in
    within_array ns w number (λ r. AllPass (length ns) (level_bound ns) (summands (vector w) r))
    (λ o r h k. let l = h.1 in ((h.0, (omega arith, omega arith), omega arith), tt))
    p ((within_vector w).to ns p i)

pub offset_fits : (ns : List ℕ) (t : DataType) (p : Path Offset)
    → CellsWithin t → PathWithin ns t p → OffsetFits (length ns) (level_bound ns) (offset_of t p) (cells t)
offset_fits ns t p f i =
    let ok : PathOf t (path_by (bound_under ns) p) = within_path ns t p i in
    let e : total_by (bound_under ns) (summands t p) ≡ cell_of t (path_by (bound_under ns) p) =
    summands_total (bound_under ns) (bound_additive ns) t p ok in
    let l : cell_of t (path_by (bound_under ns) p) < cells t = cell_of_below t (path_by (bound_under ns) p) ok in
    let c = cells_within t f in (
      sum_passes (length ns) (level_bound ns) (summands t p) (summands_pass ns t p f i) (omega arith),
      subst (λ (x : ℕ). x < cells t) (sym (offset_is_cell (bound_under ns) (bound_additive ns) t p ok)) l,
    )

-- Indices of groups, and the innermost counter

-- element j of group i
pub group_fits : (k : ℕ) (c : ℕ → ℕ) (m n : ℕ) (i j : Offset) → IsCount n → m * n ≤ 4096
    → OffsetFits k c i m → OffsetFits k c j n → OffsetFits k c (plus (times n i) j) (m * n)
group_fits k c m n i j count all a b =
    let g : n * bound c i + bound c j < m * n = group_below a.1 b.1 in
    (((a.0, count, omega arith), b.0, omega arith), g)

-- the group of element e, and its place there
pub flat_fits : (k : ℕ) (c : ℕ → ℕ) (m n : ℕ) (e : Offset) → IsCount n → m * n ≤ 4096
    → OffsetFits k c e (m * n) → OffsetFits k c (over n e) m × OffsetFits k c (rest n e) n
flat_fits k c m n e count all a =
    let l = a.1 in
    let least = count.0 in
    let most = count.1 in
    let smaller = div-le_self (bound c e) n in
    (((a.0, count, omega arith), quotient_below (bound c e) m n l), ((a.0, count, omega arith), omega arith))

array_groups_within : (m n : ℕ) (t : DataType) → CellsWithin (array m (array n t)) → m * n ≤ 4096
array_groups_within m n t f =
    let a : 1 * n ≤ cells t * n = mul-le-mul_right n (cells_positive t f.2.2) in
    let b : n ≤ n * cells t = (let e = one-mul n in let c = mul_comm (cells t) n in omega arith) in
    let c : n * m ≤ n * cells t * m = mul-le-mul_right m b in
    let d = mul_comm n m in
    let e = mul_comm (n * cells t) m in
    let l = f.1 in
    omega arith

-- how many groups, and of how many elements: arrays, or vectors
pub groups_within : (series : Series) (m n : ℕ) (t : DataType) → CellsWithin (array m (series_of series n t))
    → IsCount n × (m * n ≤ 4096)
groups_within Series.arrays m n t f = ((f.2.0, length_within n t f.2), array_groups_within m n t f)
groups_within Series.vectors m n t f = (width_is_count n f.2, f.1)

-- an offset into n elements, under all further loops
abbrev pub IndexFits : List ℕ → Offset → ℕ → Type 0
IndexFits ns o n = (ns' : List ℕ) → Extends ns ns' → OffsetFits (length ns') (level_bound ns') o n

pub counter_fits : (n : ℕ) (ns : List ℕ) → IsCount n → IndexFits (n ∷ ns) (Offset.counter (length ns)) n
counter_fits n ns count ns' e =
    let q : at_level ns' (length ns) ≡ n = e.same (length ns) (omega arith) ∙ level_top n ns in
    let least = count.0 in
    let most = count.1 in
    ((omega (arith, e.longer), omega arith), omega arith)

pub length_is_count : (series : Series) (t : DataType) → IsSeries series t → CellsWithin t → IsCount (array_length t)
length_is_count series t isa f =
    go series (array_length t) (element t) (subst (λ (x : DataType). CellsWithin x) isa f)
  where
    go : (series : Series) (n : ℕ) (t : DataType) → CellsWithin (series_of series n t) → IsCount n
    go Series.arrays n t g = (g.0, length_within n t g)
    go Series.vectors n t g = width_is_count n g

-- the rounds of a map are in range
pub rounds_in_range : (kind : LoopKind) (t : DataType) → IsSeries (series_in kind) t → CellsWithin t
    → RoundsInRange kind (array_length t)
rounds_in_range LoopKind.parallel t isa f = length_is_count Series.arrays t isa f
rounds_in_range LoopKind.sequential t isa f = length_is_count Series.arrays t isa f
rounds_in_range LoopKind.lanes t isa f = subst (λ (x : DataType). CellsWithin x) isa f
