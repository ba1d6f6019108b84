-- The laws of the layout, and all that the proofs use of it: the rooms of a command's parts lie inside its own, a `new`'s own cells lie
-- outside its body's room, and the rooms of two rounds of a `par` have no cell in common. A room is its first cell and how many cells it has.
use Rattle.std.specs.Prelude.{◌≡◌, refl, List, [], ◌∷◌, map, ℕ, zero, suc, ◌+◌, ◌*◌, ◌≤◌, ◌<◌, length, get_or}
use Rattle.std.proofs.Common.{not-suc-le-zero, le_of_suc-le-suc, suc-mul, mul-le-mul_right, arith}
use Rattle.std.proofs.Math.Decide.{dec_lt}
use Rattle.meaning.specs.Types.{DataType, cells, number}
use Rattle.meaning.specs.Terms.{LoopKind}
use Rattle.meaning.specs.Loops.{Command, seq, loop, new}
use Rattle.meaning.specs.Layout.{room, first_room, second_room, round_room, region_room, body_room, all_cells}
use Rattle.meaning.specs.Layout.{bases_from}
use Rattle.meaning.specs.Runs.{entry}

-- Cells and rooms

-- cell x is one of the n cells from a on
pub record Inside (a n x : ℕ) : Type 0 where
  pub from : a ≤ x
  pub below : x < a + n

-- it is none of them
pub data Outside (a n x : ℕ) : Type 0 where
  before : x < a → Outside a n x
  after : a + n ≤ x → Outside a n x

-- the m cells from b on are among the n cells from a on
pub record Part (b m a n : ℕ) : Type 0 where
  pub from : a ≤ b
  pub below : b + m ≤ a + n

-- the m cells from b on and the n cells from a on have none in common
pub data Apart (b m a n : ℕ) : Type 0 where
  before : b + m ≤ a → Apart b m a n
  after : a + n ≤ b → Apart b m a n

pub part_refl : (a n : ℕ) → Part a n a n
part_refl a n = record { from = omega arith; below = omega arith }

pub part_trans : {a n b m c l : ℕ} → Part c l b m → Part b m a n → Part c l a n
part_trans p q = record { from = omega (arith, p.from, q.from); below = omega (arith, p.below, q.below) }

pub inside_part : {a n b m x : ℕ} → Part b m a n → Inside b m x → Inside a n x
inside_part p h = record { from = omega (arith, p.from, h.from); below = omega (arith, p.below, h.below) }

pub outside_part : {a n b m x : ℕ} → Part b m a n → Outside a n x → Outside b m x
outside_part p (Outside.before l) = Outside.before (omega (arith, p.from))
outside_part p (Outside.after l) = Outside.after (omega (arith, p.below))

pub apart_outside : {a n b m x : ℕ} → Apart b m a n → Inside b m x → Outside a n x
apart_outside (Apart.before l) h = Outside.before (omega (arith, h.below))
apart_outside (Apart.after l) h = Outside.after (omega (arith, h.from))

pub not_both : {a n x : ℕ} → Inside a n x → Outside a n x → ⊥
not_both h (Outside.before l) = omega (arith, h.from)
not_both h (Outside.after l) = omega (arith, h.below)

-- of no cells, every cell is outside
pub outside_none : (a x : ℕ) → Outside a 0 x
outside_none a x = go (dec_lt x a)
  where
    go : Dec (x < a) → Outside a 0 x
    go (yes h) = Outside.before h
    go (no h) = Outside.after (omega arith)

-- Where all of the m cells from b on are outside the n cells from r on, all of these are outside those.
pub outside_too : {b m r n : ℕ} → ((x : ℕ) → Inside b m x → Outside r n x) → (x : ℕ) → Inside r n x → Outside b m x
outside_too {b} {m} apart x h = go (dec_lt x b) (dec_lt x (b + m))
  where
    go : Dec (x < b) → Dec (x < b + m) → Outside b m x
    go (yes l) d = Outside.before l
    go (no l) (no k) = Outside.after (omega arith)
    go (no l) (yes k) = absurd (not_both h (apart x (record { from = omega arith; below = k })))

-- The laws

pub first_inside : (a : ℕ) (c d : Command) → Part (first_room a c d) (room c) a (room (seq c d))
unfolding first_room room
first_inside a c d = record { from = omega arith; below = omega arith }

pub second_inside : (a : ℕ) (c d : Command) → Part (second_room a c d) (room d) a (room (seq c d))
unfolding second_room room
second_inside a c d = record { from = omega arith; below = omega arith }

pub round_inside : (a : ℕ) (kind : LoopKind) (n : ℕ) (b : Command) (i : ℕ)
    → i < n → Part (round_room a kind n b i) (room b) a (room (loop kind n b))
unfolding round_room room
round_inside a LoopKind.parallel n b i h =
    let fit : suc i * room b ≤ n * room b = mul-le-mul_right (room b) h in
    record { from = omega arith; below = omega (arith, fit, suc-mul i (room b)) }
round_inside a LoopKind.sequential n b i h = record { from = omega arith; below = omega arith }
round_inside a LoopKind.lanes n b i h =
    let fit : suc i * room b ≤ n * room b = mul-le-mul_right (room b) h in
    record { from = omega arith; below = omega (arith, suc-mul i (room b)) }

-- the loops whose rounds have cells of their own
abbrev pub OwnCells : LoopKind → Type 0
OwnCells LoopKind.parallel = Unit {0}
OwnCells LoopKind.sequential = ⊥
OwnCells LoopKind.lanes = Unit {0}

-- two rounds of a `par` or a `lanes` have no cell in common
pub rounds_apart : (a : ℕ) (kind : LoopKind) → OwnCells kind → (n : ℕ) (b : Command) (i j : ℕ) → i < j
    → Apart (round_room a kind n b i) (room b) (round_room a kind n b j) (room b)
unfolding round_room
rounds_apart a LoopKind.parallel own n b i j h =
    let fit : suc i * room b ≤ j * room b = mul-le-mul_right (room b) h in
    Apart.before (omega (arith, suc-mul i (room b)))
rounds_apart a LoopKind.sequential own n b i j h = absurd own
rounds_apart a LoopKind.lanes own n b i j h =
    let fit : suc i * room b ≤ j * room b = mul-le-mul_right (room b) h in
    Apart.before (omega (arith, fit, suc-mul i (room b)))

pub region_inside : (a c : ℕ) (b : Command) → Part (region_room a c b) c a (room (new c b))
unfolding region_room room
region_inside a c b = record { from = omega arith; below = omega arith }

pub body_inside : (a c : ℕ) (b : Command) → Part (body_room a c b) (room b) a (room (new c b))
unfolding body_room room
body_inside a c b = record { from = omega arith; below = omega arith }

pub region_apart : (a c : ℕ) (b : Command) → Apart (region_room a c b) c (body_room a c b) (room b)
unfolding region_room body_room
region_apart a c b = Apart.before (omega arith)

-- The inputs lie one after the other, all before the output

pub base_fits : (cs : List ℕ) (b k : ℕ) → k < length cs → entry (bases_from b cs) k + entry cs k ≤ b + all_cells cs
base_fits [] b k h = absurd (not-suc-le-zero h)
base_fits (c ∷ cs) b zero h = omega arith
base_fits (c ∷ cs) b (suc k) h = let r = base_fits cs (b + c) k (le_of_suc-le-suc h) in omega arith

pub entry_cells : (I : List DataType) (k : ℕ) → k < length I → entry (map cells I) k ≡ cells (get_or I k number)
entry_cells [] k h = absurd (not-suc-le-zero h)
entry_cells (t ∷ I) zero h = refl
entry_cells (t ∷ I) (suc k) h = entry_cells I k (le_of_suc-le-suc h)
