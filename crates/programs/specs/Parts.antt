-- What the contracts of the runner's parts say. Definitions only; assumes nothing.
use Rattle.std.specs.Prelude.{◌≡◌, List, ◌++◌, ℕ, ◌≤◌, ℤ, length, drop, Ok, Err}
use Rattle.loops.specs.Checked.{passing}
use Rattle.refusals.specs.Answers.{Answer}
use Rattle.refusals.specs.declared.Refusal.{Refusal}
use Rattle.words.specs.Kinds.{rows_of}
use Rattle.meaning.specs.Loops.{Loops}
use Rattle.meaning.specs.Layout.{all_cells}
use Rattle.loops.specs.Check.{check_loops_rows}
use Rattle.run.specs.Run.{Ran, refused}
use Rattle.programs.specs.Runner.{ask_values, with_values, outcome_text}

-- What is left where the values of n input cells were asked.
pub record ValuesInto (v : List ℕ) (n : ℕ) (s : List ℤ) (r : Answer) (s' : List ℤ) : Type 0 where
  pub answer : r ≡ ask_values v n (length s)
  pub filled : (m : ℕ) → r ≡ Ok m → s' ≡ with_values v n s
  pub kept : (q : Refusal) → r ≡ Err q → s' ≡ s

-- A table whose rows pass and need n cells, of which there are at least so many in the store.
pub record Ready (kinds : List ℕ) (numbers : List ℤ) (store : ℕ) : Type 0 where
  pub same : length kinds ≡ length numbers
  pub few : length kinds ≤ 4096
  pub writes : ℕ
  pub need : ℕ
  pub passes : check_loops_rows (rows_of kinds numbers) ≡ passing writes need
  pub enough : need ≤ store

-- So many cells have the inputs of loops in all, and so many their output.
pub record LaidOut (L : Loops) (inputs output : ℕ) : Type 0 where
  pub inputs_all : inputs ≡ all_cells L.inputs
  pub output_all : output ≡ L.output

-- An outcome is printed, and the store left is its own; or it is a "no", which is not printed.
abbrev pub RunsInto : Loops → Ran → List ℕ → Answer → List ℤ → List ℕ → Type 0
RunsInto L x lent (Ok n) store' lent' =
    (n ≡ length (outcome_text L x)) × (store' ≡ x.store) × (lent' ≡ outcome_text L x ++ drop (length (outcome_text L x)) lent)
RunsInto L x lent (Err q) store' lent' = (x ≡ refused q store') × (lent' ≡ lent)
