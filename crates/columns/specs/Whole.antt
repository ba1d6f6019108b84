-- The answer on whole loops: question 9, their writes and their need. Definitions only; assumes nothing.
use Rattle.std.specs.Prelude.{◌≡◌, List, ℕ, ℤ, Result}
use Rattle.std.proofs.Math.Option.{Option}
use Rattle.refusals.specs.declared.Refusal.{Refusal}
use Rattle.words.specs.Kinds.{rows_of}
use Rattle.meaning.specs.Loops.{Loops}
use Rattle.meaning.specs.Rows.{loops_rows}
use Rattle.meaning.specs.Counts.{command_writes}
use Rattle.meaning.specs.Layout.{need}
use Rattle.bounds.specs.Bounds.{ask_bounds}
use Rattle.columns.specs.declared.Counted.{Counted}
use Rattle.columns.specs.Figures.{capped_writes, capped_room}
use Rattle.columns.specs.Asking.{told}

-- the answer with the first "no"; neither number is told beyond its cap
abbrev pub asking : ℕ → ℕ → Option Refusal → Result Counted Refusal
asking writes cells = told (record { writes = capped_writes writes; need = capped_room cells })

-- [10.9], [7.1], [7.4] of the loops whose rows fill a table
abbrev pub AsksLoops : List ℕ → List ℤ → Result Counted Refusal → Type 0
AsksLoops ks ns r = (L : Loops) → rows_of ks ns ≡ loops_rows L → r ≡ asking (command_writes L.command) (need L) (ask_bounds L)
