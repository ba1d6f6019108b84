-- Runs of whole loops on a store of cells: [9.1] to [9.7]; and by the orders that are named: [9.10]. Definitions only; assumes nothing.
use Rattle.std.specs.Prelude.{cond, ℕ, eqb, ℤ}
use mathlib.Core.List.{List, [], ◌++◌, reverse, Permᴰ}
use Rattle.meaning.specs.Sequence.{up_from}
use Rattle.meaning.specs.Numbers.{clamped32}
use Rattle.meaning.specs.Loops.{Loops}
use Rattle.meaning.specs.Layout.{regions_from}
use Rattle.meaning.specs.Runs.{State, start_of, beginning, RunOf}
use Rattle.meaning.specs.Arbiters.{Arbiter, run_by}
use Rattle.meaning.specs.NamedOrders.{evens, odds}

-- [9.1] a run of loops, from a store to a state
abbrev pub IsRun : Loops → List ℤ → State clamped32 → Type 0
IsRun L s st = RunOf clamped32 L s st

-- [9.5] at every visit the arbiter names each of the n rounds once
abbrev pub Permutes : Arbiter → Type 0
Permutes π = (visit : List ℕ) (n : ℕ) → Permᴰ (π visit n) (up_from 0 n)

-- the run in which every `par`, [18.10] and every `lanes`, takes the rounds that the arbiter names at that visit
abbrev pub run_named : Arbiter → Loops → List ℤ → State clamped32
run_named π L s = run_by clamped32 π L.command [] (start_of L) (regions_from L) (beginning clamped32 s)

-- [9.10] the order that a number names, the same at every visit
abbrev pub turns : ℕ → Arbiter
turns order visit n =
    cond (eqb order 0) (up_from 0 n) (cond (eqb order 1) (reverse (up_from 0 n)) (evens (up_from 0 n) ++ odds (up_from 0 n)))

-- [9.10] the run in which every `par`, [18.10] and every `lanes`, takes it
abbrev pub run_in_order : ℕ → Loops → List ℤ → State clamped32
run_in_order order L s = run_named (turns order) L s
