-- The figure of a row, an offset's bound ([10.20]) or a command's writes ([7.1]), and the room of a command's regions ([7.4]): the rules
-- that the passes keep at every row. Definitions only; assumes nothing.
use Rattle.std.specs.Prelude.{Bool, cond, ◌||◌, ◌≡◌, List, ℕ, min, max, ◌+◌, ◌*◌, ◌-◌, ◌/◌, ◌≤◌, ◌<◌, eqb, ltb, ℤ, pos, length, get_or}
use Rattle.words.specs.Kinds.{word_lit, word_ctr, word_plus, word_times, word_over, word_set, word_seq, word_for, word_par, word_new, word_lanes}
use Rattle.syntax.specs.Ranges.{as_natural}

-- ---- the figure

-- [13.12] 65,536 stands for every bound above 65,535.
abbrev pub capped_bound : ℕ → ℕ
capped_bound x = min x 65536

-- `times`, `over` or `rest` of an offset with the bound x
unfoldable pub scaled_by : ℕ → ℕ → ℕ → ℕ
scaled_by k n x = cond (eqb k word_times) (n * x) (cond (eqb k word_over) (x / n) (min x (n - 1)))

-- [10.20] the bound of an offset's row, m being the rounds of the loop that it names, x and y the bounds of its operands
unfoldable pub bound_by : ℕ → ℕ → ℕ → ℕ → ℕ → ℕ
bound_by k n m x y =
    cond (eqb k word_lit) (capped_bound n)
    (cond (eqb k word_ctr) (capped_bound (m - 1))
    (cond (eqb k word_plus) (capped_bound (x + y)) (cond (ltb 65535 x) 65536 (capped_bound (scaled_by k n x)))))

-- [13.15] 16,777,217 stands for every number of writes above 16,777,216.
abbrev pub capped_writes : ℕ → ℕ
capped_writes x = min x 16777217

-- [7.1] the writes of a command's row, x and y being those of its operands
unfoldable pub writes_by : ℕ → ℕ → ℕ → ℕ → ℕ
writes_by k n x y =
    cond (eqb k word_set) 1 (cond (eqb k word_seq) (capped_writes (x + y)) (cond (eqb k word_new) x (capped_writes (n * x))))

-- [3.13] the words of commands
unfoldable pub is_command : ℕ → Bool
is_command k = eqb k word_set || eqb k word_seq || eqb k word_for || eqb k word_par || eqb k word_new || eqb k word_lanes

-- a command's writes; of another row its bound
unfoldable pub figure_by : ℕ → ℕ → ℕ → ℕ → ℕ → ℕ
figure_by k n m x y = cond (is_command k) (writes_by k n x y) (bound_by k n m x y)

-- row p of a table
abbrev pub figure_at : List ℕ → List ℤ → ℕ → ℕ → ℕ → ℕ → ℕ
figure_at ks ns m p x y = figure_by (get_or ks p 0) (as_natural (get_or ns p (pos 0))) m x y

-- ---- the room

-- 2^48 stands for every greater room, and for every greater need
abbrev pub capped_room : ℕ → ℕ
capped_room x = min x 281474976710656

-- [7.4] the room of a command's row, x and y being those of its operands
unfoldable pub room_by : ℕ → ℕ → ℕ → ℕ → ℕ
room_by k n x y =
    cond (eqb k word_set) 0
    (cond (eqb k word_seq) (max x y)
    (cond (eqb k word_new) (capped_room (n + x)) (cond (eqb k word_par) (capped_room (n * x)) (cond (eqb k word_lanes) (capped_room (n * x)) x))))

abbrev pub room_at : List ℕ → List ℤ → ℕ → ℕ → ℕ → ℕ
room_at ks ns p x y = room_by (get_or ks p 0) (as_natural (get_or ns p (pos 0))) x y

-- ---- columns

-- From row q on a column keeps a rule: what a row has comes from what its operands have, which es says where to find.
abbrev pub Column : ℕ → List ℕ → List ℕ → (ℕ → ℕ → ℕ → ℕ) → ℕ → Type 0
Column n es cs R q = (p : ℕ) → q ≤ p → p < n → get_or cs p 0 ≡ R p (get_or cs (p + 1) 0) (get_or cs (get_or es (p + 1) 0) 0)

-- every row's figure; ms has the numbers of the rows that are named
pub record Figures (ks : List ℕ) (ns : List ℤ) (es ms fs : List ℕ) : Type 0 where
  pub rule : Column (length ks) es fs (λ (p x y : ℕ). figure_at ks ns (get_or ms p 0) p x y) 0

-- every row's room
pub record Rooms (ks : List ℕ) (ns : List ℤ) (es rs : List ℕ) : Type 0 where
  pub rule : Column (length ks) es rs (room_at ks ns) 0
