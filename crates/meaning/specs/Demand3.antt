-- Demand 3, which is [9.8]: translated loops do what the plan says, whole, in every order. Definitions only; `Theorems` has the
-- proof.
--
-- It rests on these definitions and on no other of this crate:
--   Types         DataType, cells, the parts of a type, Series, series_of
--   Terms         LoopKind, series_in, Term, Plan
--   Typing        HasType, which is Figure 3 of the paper; type_of, by which the translation goes
--   Numbers       NumberDomain
--   Sequence      up_from, in_turn
--   Values        Datum, value, flatten, and what they are made of
--   Loops         Offset, Place, Value, Command, Loops
--   Layout        room, where the rooms of a command's parts begin, regions_from, need
--   Runs          Order, rounds_in, Environment, State, after_set, Rounds, Run, RunOf, and what they are made of
--   Paths         Step, Path, head_index, tail, by_part
--   Expressions   Expression, Acceptor
--   Offsets       read_at, write_at, the counting from 0 innermost, and what they are made of
--   Translation   assign, write_term, use_term, translation
--   Counts        writes_into, writes_on_use, plan_writes
-- here: the values that lie in the input cells, and what a run must have come to; of the crate arithmetic: Operation,
-- and for cells of 32 bits operate and negation; of the library: lists, permutations, whole and natural numbers.
use Rattle.std.specs.Prelude.{◌≡◌, List, [], ◌∷◌, map, ℕ, ◌+◌, ◌*◌, ◌≤◌, length, take, drop}
use Rattle.meaning.specs.Types.{DataType, cells, number, array, vector}
use Rattle.meaning.specs.Terms.{Plan}
use Rattle.meaning.specs.Typing.{HasType}
use Rattle.meaning.specs.Numbers.{NumberDomain}
use Rattle.meaning.specs.Sequence.{up_from}
use Rattle.meaning.specs.Values.{Datum, array_of, flatten, DatumOf, value}
use Rattle.meaning.specs.Layout.{all_cells, need}
use Rattle.meaning.specs.Runs.{Store, State, cell, RunOf}
use Rattle.meaning.specs.Translation.{plan_type, translation}
use Rattle.meaning.specs.Counts.{plan_writes}

module _ (𝓝 : NumberDomain) where
  -- [3.4] The value of type t that lies from cell b on. [18.8] A vector's is a list, as an array's is.
  unfoldable pub datum_at : DataType → Store 𝓝 → ℕ → DatumOf 𝓝
  datum_at number s b = Datum.number (cell 𝓝 s b)
  datum_at (array n t) s b = array_of (map (λ i. datum_at t s (b + cells t * i)) (up_from 0 n))
  datum_at (DataType.pair t₁ t₂) s b = Datum.pair (datum_at t₁ s b) (datum_at t₂ s (b + cells t₁))
  datum_at (vector w) s b = array_of (map (λ i. Datum.number (cell 𝓝 s (b + i))) (up_from 0 w))

  -- [7.5] the values of the inputs, which lie one behind the other from cell b on
  unfoldable pub input_data : ℕ → List DataType → Store 𝓝 → List (DatumOf 𝓝)
  input_data b [] s = []
  input_data b (t ∷ I) s = datum_at t s b ∷ input_data (b + cells t) I s

  -- [8.1] The plan's value, from the input cells as the run begins.
  unfoldable pub plan_value : Plan → Store 𝓝 → DatumOf 𝓝
  plan_value P s = value 𝓝 (input_data 0 P.inputs s) P.term []

  -- [9.8] What a run of the plan's loops, begun on the store s, must have come to.
  pub record Outcome (P : Plan) (s : Store 𝓝) (st : State 𝓝) : Type 0 where
    -- the output cells hold the plan's value
    pub output_holds : take (cells (plan_type P)) (drop (all_cells (map cells P.inputs)) st.store)
        ≡ flatten (plan_value P s)
    -- the input cells are as they were, and so are the cells past the need
    pub inputs_kept : take (all_cells (map cells P.inputs)) st.store ≡ take (all_cells (map cells P.inputs)) s
    pub beyond_kept : drop (need (translation P)) st.store ≡ drop (need (translation P)) s
    pub length_kept : length st.store ≡ length s
    -- the writes made are those counted from the plan
    pub writes_counted : st.writes ≡ plan_writes P

  -- [9.8] For every plan that has a type and every store at least as long as the need: there is a run of the plan's loops, and every
  -- run of them, whatever orders it takes, comes to the outcome.
  abbrev pub Demand3 : Type 0
  Demand3 =
      (P : Plan) (t : DataType)
      → HasType P.inputs [] P.term t
      → (s : Store 𝓝)
      → need (translation P) ≤ length s
      → ((st : State 𝓝) × RunOf 𝓝 (translation P) s st)
      × ((st : State 𝓝) → RunOf 𝓝 (translation P) s st → Outcome P s st)
