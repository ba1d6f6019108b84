-- Demand 3, [9.8]: from a plan's text to the last write, by every way through the entries, on every store, in every order of rounds, and
-- [9.14] in every mixing of their steps. It is one claim about whole runs, and not one for each term, loop or order.
--
-- It rests on
--   Demand2    PlanAccepted: the one plan whose rows the text's lines are; Ways: how loops are had from the text
--   Runs       IsRun: every run; Permutes: an arbiter that names, at each visit of each `par` and each `lanes` [18.10], each round once;
--              run_named: the run that takes what it names
--   meaning    plan_value: the value, read from the plan's formulas alone; Outcome: what a run must have come to; Shaped; translation,
--              plan_writes, need; and what those are made of
--   mixing     MixingOf: the mixings of the steps of loops; after_mixing: what the steps of one come to
--   Told       what an entry tells; store: cells and bytes as a store; programs: the lines that the runner prints
use Rattle.std.specs.Prelude.{◌≡◌, List, [], map, ℕ, ◌≤◌, ℤ, length, take}
use Rattle.refusals.specs.Answers.{Answer}
use Rattle.meaning.specs.Types.{cells}
use Rattle.meaning.specs.Terms.{Plan}
use Rattle.meaning.specs.Numbers.{clamped32}
use Rattle.meaning.specs.Values.{flatten}
use Rattle.meaning.specs.Shapes.{Shaped}
use Rattle.meaning.specs.Layout.{all_cells, need}
use Rattle.meaning.specs.Runs.{State}
use Rattle.meaning.specs.Arbiters.{Arbiter}
use Rattle.meaning.specs.Steps.{SetStep}
use Rattle.meaning.specs.Translation.{plan_type, translation}
use Rattle.meaning.specs.Counts.{plan_writes}
use Rattle.meaning.specs.Demand3.{plan_value, Outcome}
use Rattle.mixing.specs.Mixing.{MixingOf, after_mixing}
use Rattle.typing.specs.Questions.{AllYes}
use Rattle.loops.specs.Promises.{TellsNeed}
use Rattle.run.specs.Promises.{KeepsFrame, RunsText, RunsRows}
use Rattle.store.specs.Store.{store_of, frame_of}
use Rattle.programs.specs.Runner.{with_values, finished_text}
use Rattle.programs.specs.Promises.{PrintsRun}
use Rattle.vazhdumir.specs.Promises.{TellsNeedForC, RunsTextForC, RunsRowsForC}
use Rattle.guarantees.specs.Told.{Told, told_answer, told_code}
use Rattle.guarantees.specs.Questions.{values_questions, output_room}
use Rattle.guarantees.specs.Runs.{IsRun, Permutes, run_named}
use Rattle.guarantees.specs.Ways.{MadeText, MadeTable, Translated}
use Rattle.guarantees.specs.Demand1.{TextLeft}
use Rattle.guarantees.specs.Demand2.{PlanAccepted}

-- [3.2] how many input cells there are, and those of a store
abbrev pub input_count : Plan → ℕ
input_count P = all_cells (map cells P.inputs)

abbrev pub input_cells : Plan → List ℤ → List ℤ
input_cells P s = take (input_count P) s

-- [9.14] Every mixing of the steps of the loops of P, done from the store s on, leaves the whole store as s', regions included, and makes the
-- writes counted from the plan.
abbrev pub MixingsLeave : Plan → List ℤ → List ℤ → Type 0
MixingsLeave P s s' =
    (l : List SetStep) → MixingOf (translation P) l → after_mixing clamped32 l s ≡ record { store = s'; writes = plan_writes P }

-- [9.8] What an entry that ran the loops of P on a store of cells c and bytes b told and left: the writes counted from the plan; output
-- cells that hold its value; inputs, cells past the need and left-over bytes [9.11] as they were; [9.14] all as every mixing leaves it.
pub record RanRightly (P : Plan) (c : List ℤ) (b : List ℕ) (r : Told) (c' : List ℤ) (b' : List ℕ) : Type 0 where
  pub told : r ≡ Told.value (plan_writes P)
  pub outcome : Outcome clamped32 P (store_of c b) (record { store = store_of c' b'; writes = plan_writes P })
  pub others : frame_of c' b' ≡ frame_of c b
  pub mixings : MixingsLeave P (store_of c b) (store_of c' b')

-- [11.7] What the runner told and left, lent a text l, of a run of the loops of P that began on the store s: the lines of the plan's value,
-- and of the writes counted from it; and the store as every mixing leaves it.
abbrev pub PrintedRightly : Plan → List ℤ → List ℕ → Told → List ℤ → List ℕ → Type 0
PrintedRightly P s l r s' l' =
    let text = finished_text (flatten (plan_value clamped32 P s)) (plan_writes P) in
    (r ≡ Told.value (length text))
    × TextLeft text l l'
    × Outcome clamped32 P s (record { store = s'; writes = plan_writes P })
    × MixingsLeave P s s'

pub record Delivered (ws : List (List ℕ)) (t : List ℕ) (P : Plan) : Type 0 where
  -- [8.1] The value depends on the numbers in the input cells and on nothing else, and has the shape of its type.
  pub value_of_inputs : (s s' : List ℤ) → input_cells P s ≡ input_cells P s' → plan_value clamped32 P s ≡ plan_value clamped32 P s'
  pub value_shaped : (s : List ℤ) → Shaped (plan_type P) (plan_value clamped32 P s)
  -- [9.5] Whatever order is named at each visit of each `par`, [18.10] and of each `lanes`, there is the run that takes it; [9.8] on a store of at least the need it
  -- comes to the outcome; and there is no other run.
  pub run_taken : (π : Arbiter) → Permutes π → (s : List ℤ) → IsRun (translation P) s (run_named π (translation P) s)
  pub run_outcome : (π : Arbiter) → Permutes π → (s : List ℤ) → need (translation P) ≤ length s
      → Outcome clamped32 P s (run_named π (translation P) s)
  pub no_other_run : (s : List ℤ) (st : State clamped32) → IsRun (translation P) s st
      → (π : Arbiter) × Permutes π × (st ≡ run_named π (translation P) s)
  -- [9.14] Every mixing of the steps, on a store of at least the need, comes to the outcome; and it comes to what every run comes to, the
  -- whole store, regions included, and the writes.
  pub mixing_outcome : (l : List SetStep) → MixingOf (translation P) l → (s : List ℤ) → need (translation P) ≤ length s
      → Outcome clamped32 P s (after_mixing clamped32 l s)
  pub mixing_as_run : (l : List SetStep) → MixingOf (translation P) l → (s : List ℤ) → need (translation P) ≤ length s
      → (st : State clamped32) → IsRun (translation P) s st → after_mixing clamped32 l s ≡ st
  -- [7.4] That need is what the need entries tell.
  pub need_told : (u : List ℕ) → MadeText ws t u → (r : Answer) → TellsNeed ws u r → told_answer r ≡ Told.value (need (translation P))
  pub need_told_c : (u : List ℕ) → MadeText ws t u → (r : ℕ) → TellsNeedForC ws u r → told_code r ≡ Told.value (need (translation P))
  -- [9.10] Each run entry, on every store of at least the need, in each order that can be named.
  pub text_run : (u : List ℕ) → MadeText ws t u → (order : ℕ) → order ≤ 2 → (c c' : List ℤ) (b b' : List ℕ) (r : Answer)
      → need (translation P) ≤ length (store_of c b) → KeepsFrame c b c' b' → RunsText ws u order c b r c' b'
      → RanRightly P c b (told_answer r) c' b'
  pub table_run : (k : List ℕ) (n : List ℤ) → MadeTable ws t k n → (order : ℕ) → order ≤ 2 → (c c' : List ℤ) (b b' : List ℕ) (r : Answer)
      → need (translation P) ≤ length (store_of c b) → KeepsFrame c b c' b' → RunsRows k n order c b r c' b'
      → RanRightly P c b (told_answer r) c' b'
  pub text_run_c : (u : List ℕ) → MadeText ws t u → (order : ℕ) → order ≤ 2 → (b b' : List ℕ) (r : ℕ)
      → need (translation P) ≤ length (store_of [] b) → RunsTextForC ws u order b r b' → RanRightly P [] b (told_code r) [] b'
  pub table_run_c : (k : List ℕ) (n : List ℤ) → MadeTable ws t k n → (order : ℕ) → order ≤ 2 → (b b' : List ℕ) (r : ℕ)
      → need (translation P) ≤ length (store_of [] b) → RunsRowsForC k n order b r b' → RanRightly P [] b (told_code r) [] b'
  -- The runner, on a store of at least the need, lent room enough and values that pass.
  pub printed_run : (u : List ℕ) → MadeText ws t u → (v : List ℕ) (s s' : List ℤ) (l l' : List ℕ) (r : Answer) → PrintsRun ws u v s l r s' l'
      → AllYes (output_room (length l)) → need (translation P) ≤ length s → AllYes (values_questions v (length s) (translation P))
      → PrintedRightly P (with_values v (input_count P) s) l (told_answer r) s' l'

-- [9.8] For every plan's text that is translated without refusal there is one plan whose rows are the text's, it is well typed within the
-- limits, and of it all that holds.
abbrev pub Demand3 : List (List ℕ) → Type 0
Demand3 ws = (t : List ℕ) → Translated ws t → (P : Plan) × PlanAccepted ws t P × Delivered ws t P
