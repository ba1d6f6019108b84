-- [18.15] Question 18 as a walk down the rows asks it, and as Limits computes it. Assumes nothing.
use Rattle.std.specs.Prelude.{◌≡◌, refl, Bool, true, false, ◌&&◌, ℕ, ◌+◌, ◌≤◌}
use Rattle.std.proofs.Common.{sym, arith}
use Rattle.meaning.specs.Terms.{LoopKind}
use Rattle.meaning.specs.Loops.{Command, seq, loop, new}
use Rattle.meaning.specs.Limits.{no_lanes, lanes_apart}

-- How many `lanes` are around a loop's command, the loop counted if it is one; and on a `lanes` row whether with its own they are at most
-- one.
abbrev pub lanes_around : LoopKind → ℕ → ℕ
lanes_around LoopKind.parallel l = l
lanes_around LoopKind.sequential l = l
lanes_around LoopKind.lanes l = l + 1

abbrev pub LanesFit : ℕ → Command → Type 0
LanesFit l (Command.assignment p v) = Unit {0}
LanesFit l (seq c d) = LanesFit l c × LanesFit l d
LanesFit l (loop LoopKind.parallel n b) = LanesFit l b
LanesFit l (loop LoopKind.sequential n b) = LanesFit l b
LanesFit l (loop LoopKind.lanes n b) = (l + 1 ≤ 1) × LanesFit (l + 1) b
LanesFit l (new c b) = LanesFit l b

clash : {A : Type 0} → true ≡ false → A
clash e = absurd (let y : ◌≡◌ {A = ℕ} 0 1 = cc in omega arith)

both : (a b : Bool) → a && b ≡ true → (a ≡ true) × (b ≡ true)
both true b e = (refl, e)
both false b e = clash (sym e)

together : (a b : Bool) → a ≡ true → b ≡ true → a && b ≡ true
together true b e f = f
together false b e f = e

-- inside a `lanes`, the fit is that there is no other
none_inside : (c : Command) → no_lanes c ≡ true → LanesFit 1 c
none_inside (Command.assignment p v) e = tt
none_inside (seq c d) e = let x = both (no_lanes c) (no_lanes d) e in (none_inside c x.0, none_inside d x.1)
none_inside (loop LoopKind.parallel n b) e = none_inside b e
none_inside (loop LoopKind.sequential n b) e = none_inside b e
none_inside (loop LoopKind.lanes n b) e = clash (sym e)
none_inside (new c b) e = none_inside b e

inside_none : (c : Command) → LanesFit 1 c → no_lanes c ≡ true
inside_none (Command.assignment p v) f = refl
inside_none (seq c d) f = together (no_lanes c) (no_lanes d) (inside_none c f.0) (inside_none d f.1)
inside_none (loop LoopKind.parallel n b) f = inside_none b f
inside_none (loop LoopKind.sequential n b) f = inside_none b f
inside_none (loop LoopKind.lanes n b) f = absurd (let l : 2 ≤ 1 = f.0 in omega arith)
inside_none (new c b) f = inside_none b f

-- Either way it is the same question.
pub lanes_fit : (c : Command) → lanes_apart c ≡ true → LanesFit 0 c
lanes_fit (Command.assignment p v) e = tt
lanes_fit (seq c d) e = let x = both (lanes_apart c) (lanes_apart d) e in (lanes_fit c x.0, lanes_fit d x.1)
lanes_fit (loop LoopKind.parallel n b) e = lanes_fit b e
lanes_fit (loop LoopKind.sequential n b) e = lanes_fit b e
lanes_fit (loop LoopKind.lanes n b) e = (omega arith, none_inside b e)
lanes_fit (new c b) e = lanes_fit b e

pub lanes_apart_holds : (c : Command) → LanesFit 0 c → lanes_apart c ≡ true
lanes_apart_holds (Command.assignment p v) f = refl
lanes_apart_holds (seq c d) f = together (lanes_apart c) (lanes_apart d) (lanes_apart_holds c f.0) (lanes_apart_holds d f.1)
lanes_apart_holds (loop LoopKind.parallel n b) f = lanes_apart_holds b f
lanes_apart_holds (loop LoopKind.sequential n b) f = lanes_apart_holds b f
lanes_apart_holds (loop LoopKind.lanes n b) f = inside_none b f.1
lanes_apart_holds (new c b) f = lanes_apart_holds b f
