-- [7.4] How many cells loops that pass need at most, by their writes; and the need is no cell greater than a region asks for.
use Rattle.std.specs.Prelude.{Bool, true, false, ◌≡◌, refl, List, [], ◌∷◌, ◌⊎◌, ℕ, suc, ◌+◌, ◌*◌, ◌-◌, ◌≤◌, ◌<◌, length, leb}
use Rattle.std.proofs.Common.{ap, subst, ◌∙◌, inl, inr, suc-le-suc, mul-zero, one-mul, suc-mul, mul-suc, mul-add, add-mul, mul_left_comm, mul-le-mul_left, mul-le-mul_right, arith, leb-true, leb-false}
use Rattle.meaning.specs.Terms.{LoopKind}
use Rattle.meaning.specs.Loops.{Command, Loops, seq, loop, new}
use Rattle.meaning.specs.Layout.{room, first_room, second_room, round_room, region_room, body_room, EndsBefore, all_cells, regions_from, need}
use Rattle.meaning.specs.Runs.{entry}
use Rattle.meaning.specs.Counts.{command_writes}
use Rattle.meaning.specs.Limits.{IsCount, CommandPasses, LoopsPass}
use Rattle.meaning.proofs.Laws.Bounds.{rounds_are_count}

rounds_by_writes : (m : ℕ) (kind : LoopKind) (n : ℕ) (b : Command) → 1 ≤ n → (1 ≤ command_writes b) × (room b ≤ m * command_writes b)
    → (1 ≤ n * command_writes b) × (room (loop kind n b) ≤ m * (n * command_writes b))
unfolding room
rounds_by_writes m kind n b l h = go kind
  where
    a_round : command_writes b ≤ n * command_writes b
    a_round = let r = mul-le-mul_right (command_writes b) l in omega (arith, r, one-mul (command_writes b))

    own_cells : (1 ≤ n * command_writes b) × (n * room b ≤ m * (n * command_writes b))
    own_cells =
        (omega (arith, h.0, a_round), let r = mul-le-mul_left n h.1 in omega (arith, r, mul_left_comm n m (command_writes b)))

    go : (k : LoopKind) → (1 ≤ n * command_writes b) × (room (loop k n b) ≤ m * (n * command_writes b))
    go LoopKind.parallel = own_cells
    go LoopKind.sequential = (omega (arith, h.0, a_round), let r = mul-le-mul_left m a_round in omega (arith, h.1, r))
    go LoopKind.lanes = own_cells

-- A region is open for at least one write, and at most 256 are open around one another.
pub room_by_writes : (ins : List ℕ) (out : ℕ) (ns rs : List ℕ) (c : Command) → CommandPasses ins out ns rs c
    → (1 ≤ command_writes c) × (room c ≤ 4096 * (256 - length rs) * command_writes c)
unfolding room CommandPasses
room_by_writes ins out ns rs (Command.assignment p v) h = (omega arith, omega arith)
room_by_writes ins out ns rs (seq c d) h =
    let a = room_by_writes ins out ns rs c h.0 in
    let b = room_by_writes ins out ns rs d h.1 in
    (omega (arith, a.0), omega (arith, a.1, b.1, mul-add (4096 * (256 - length rs)) (command_writes c) (command_writes d)))
room_by_writes ins out ns rs (loop kind n b) h =
    rounds_by_writes (4096 * (256 - length rs)) kind n b (rounds_are_count kind n h.0).0 (room_by_writes ins out (n ∷ ns) rs b h.2)
room_by_writes ins out ns rs (new c b) h =
    let a = room_by_writes ins out ns (c ∷ rs) b h.2 in
    let w : ℕ = command_writes b in
    let one_less : 256 - length rs ≡ suc (256 - length (c ∷ rs)) = omega (arith, h.1) in
    let more : 4096 * (256 - length rs) * w ≡ 4096 * (256 - length (c ∷ rs)) * w + 4096 * w =
    ap (λ (m : ℕ). 4096 * m * w) one_less ∙ ap (λ (m : ℕ). m * w) (mul-suc 4096 (256 - length (c ∷ rs)))
    ∙ add-mul (4096 * (256 - length (c ∷ rs))) 4096 w in
    (a.0, omega (arith, a.0, a.1, h.0.1, more))

pub cells_few : (cs : List ℕ) → ((k : ℕ) → k < length cs → IsCount (entry cs k)) → all_cells cs ≤ 4096 * length cs
cells_few [] h = omega arith
cells_few (c ∷ cs) h = let a = cells_few cs (λ k l. h (suc k) (suc-le-suc l)) in omega (arith, a, (h 0 (omega arith)).1)

-- nine times 4,096 cells for the inputs and the output, and 256 times 4,096 for each write
pub need_by_writes : (L : Loops) → LoopsPass L → need L ≤ 36864 + 1048576 * command_writes L.command
unfolding need
need_by_writes L h =
    let a = cells_few L.inputs h.within.input_cells in
    let b = room_by_writes L.inputs L.output [] [] L.command h.within.passes in
    omega (arith, a, b.1, h.within.output_cells.1, h.within.inputs_few)

-- ---- Reached

-- where a room ends, one of its regions does, unless there is none
abbrev Reached : Command → ℕ → Type 0
Reached c a = (room c ≡ 0) ⊎ EndsBefore (a + room c) c a

reached_seq : (c d : Command) (a : ℕ) → Reached c a → Reached d a → Reached (seq c d) a
unfolding room first_room second_room
reached_seq c d a h g = go (leb (room d) (room c)) refl
  where
    first : room c ≡ room (seq c d) → Reached c a → Reached (seq c d) a
    first e (inl z) = inl (omega (arith, e, z))
    first e (inr x) = inr (inl (subst (λ (n : ℕ). EndsBefore (a + n) c a) e x))

    second : room d ≡ room (seq c d) → Reached d a → Reached (seq c d) a
    second e (inl z) = inl (omega (arith, e, z))
    second e (inr x) = inr (inr (subst (λ (n : ℕ). EndsBefore (a + n) d a) e x))

    go : (b : Bool) → leb (room d) (room c) ≡ b → Reached (seq c d) a
    go true e = first (let l = leb-true (room d) (room c) e in omega (arith, l)) h
    go false e = second (let l = leb-false (room d) (room c) e in omega (arith, l)) g

-- where each round has its own cells, in the last one
reached_last : (kind : LoopKind) (n : ℕ) (b : Command) (a : ℕ) → 1 ≤ n
    → room (loop kind n b) ≡ n * room b → round_room a kind n b (n - 1) ≡ a + (n - 1) * room b
    → ((e : ℕ) → Reached b e) → Reached (loop kind n b) a
reached_last kind n b a l all at h = go (h (round_room a kind n b (n - 1)))
  where
    last : round_room a kind n b (n - 1) + room b ≡ a + room (loop kind n b)
    last =
        let e : suc (n - 1) ≡ n = omega (arith, l) in
        let f = suc-mul (n - 1) (room b) in
        omega (arith, f, ap (λ (m : ℕ). m * room b) e, all, at)

    go : Reached b (round_room a kind n b (n - 1)) → Reached (loop kind n b) a
    go (inl z) = inl (all ∙ ap (λ (m : ℕ). n * m) z ∙ mul-zero n)
    go (inr x) =
        inr (n - 1, omega (arith, l), subst (λ (e : ℕ). EndsBefore e b (round_room a kind n b (n - 1))) last x)

-- of a `par` or a `lanes` in its last round, of a `for` in every one
reached_loop : (kind : LoopKind) (n : ℕ) (b : Command) (a : ℕ) → 1 ≤ n → ((e : ℕ) → Reached b e) → Reached (loop kind n b) a
unfolding room round_room
reached_loop LoopKind.parallel n b a l h = reached_last LoopKind.parallel n b a l refl refl h
reached_loop LoopKind.sequential n b a l h = go (h a)
  where
    go : Reached b a → Reached (loop LoopKind.sequential n b) a
    go (inl z) = inl z
    go (inr x) = inr (0, l, x)
reached_loop LoopKind.lanes n b a l h = reached_last LoopKind.lanes n b a l refl refl h

reached_new : (c : ℕ) (b : Command) (a : ℕ) → Reached b (a + c) → Reached (new c b) a
unfolding room region_room body_room
reached_new c b a (inl z) = inr (inl (omega (arith, z)))
reached_new c b a (inr x) =
    inr (inr (subst (λ (e : ℕ). EndsBefore e b (a + c)) (let s : a + c + room b ≡ a + (c + room b) = omega arith in s) x))

room_reached : (ins : List ℕ) (out : ℕ) (ns rs : List ℕ) (c : Command) (a : ℕ) → CommandPasses ins out ns rs c → Reached c a
unfolding CommandPasses room
room_reached ins out ns rs (Command.assignment p v) a h = inl refl
room_reached ins out ns rs (seq c d) a h = reached_seq c d a (room_reached ins out ns rs c a h.0) (room_reached ins out ns rs d a h.1)
room_reached ins out ns rs (loop kind n b) a h =
    reached_loop kind n b a (rounds_are_count kind n h.0).0 (λ e. room_reached ins out (n ∷ ns) rs b e h.2)
room_reached ins out ns rs (new c b) a h = reached_new c b a (room_reached ins out ns (c ∷ rs) b (a + c) h.2)

pub need_reached : (L : Loops) → LoopsPass L → (need L ≡ regions_from L) ⊎ EndsBefore (need L) L.command (regions_from L)
unfolding need
need_reached L h = go (room_reached L.inputs L.output [] [] L.command (regions_from L) h.within.passes)
  where
    go : Reached L.command (regions_from L) → (regions_from L + room L.command ≡ regions_from L)
        ⊎ EndsBefore (regions_from L + room L.command) L.command (regions_from L)
    go (inl z) = inl (omega (arith, z))
    go (inr x) = inr x
