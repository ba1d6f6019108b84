-- [18.10] A `lanes` counts as a `par`: with `par` in place of every `lanes` of any loops, whoever wrote them, every run, the need and the mixings
-- are the same. Definitions only; `Theorems` has the proof.
--
-- It rests on
--   meaning    loops_as_par: the loops with `par` for every `lanes`; need
--   Runs       run_named: the run that takes the order that an arbiter names at each visit
--   mixing     MixingOf: the mixings of the steps of loops
use Rattle.std.specs.Prelude.{◌≡◌, ◌↔◌, List, ℤ}
use Rattle.meaning.specs.Loops.{Loops}
use Rattle.meaning.specs.Layout.{need}
use Rattle.meaning.specs.Arbiters.{Arbiter}
use Rattle.meaning.specs.AsPar.{loops_as_par}
use Rattle.meaning.specs.Steps.{SetStep}
use Rattle.mixing.specs.Mixing.{MixingOf}
use Rattle.guarantees.specs.Runs.{run_named}

pub record LanesAsPar : Type 0 where
  pub same_run : (π : Arbiter) (L : Loops) (s : List ℤ) → run_named π (loops_as_par L) s ≡ run_named π L s
  pub same_need : (L : Loops) → need (loops_as_par L) ≡ need L
  pub same_mixings : (L : Loops) (l : List SetStep) → MixingOf (loops_as_par L) l ↔ MixingOf L l
