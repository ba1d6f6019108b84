-- The writes counted, from the rows of loops and from a plan: [7.1] to [7.3], [18.14] vectors as arrays. Definitions only; assumes nothing.
use Rattle.std.specs.Prelude.{cond, List, [], ◌∷◌, ℕ, ◌+◌, ◌*◌, get_or}
use Rattle.meaning.specs.Types.{DataType, is_number, cells, array_length, element, first_type, second_type, number}
use Rattle.meaning.specs.Terms.{Term, Plan}
use Rattle.meaning.specs.Typing.{type_of}
use Rattle.meaning.specs.Loops.{Command, seq, loop, new}

-- [7.1] How many writes a command makes.
abbrev pub command_writes : Command → ℕ
command_writes (Command.assignment p v) = 1
command_writes (seq c d) = command_writes c + command_writes d
command_writes (loop kind n b) = n * command_writes b
command_writes (new c b) = command_writes b

-- [7.2] Maps, w and u: ua is u of the array, n its length, wb is w of the body.
abbrev pub map_writes : ℕ → ℕ → ℕ → ℕ
map_writes ua n wb = ua + n * wb

-- [7.2] One round of a `redseq`: wb is w of the body, z the total's type. Any total but a number is assigned too.
abbrev pub round_writes : DataType → ℕ → ℕ
round_writes z wb = cond (is_number z) wb (wb + cells z)

-- [7.2] `redseq`, u: uz is u of the start.
abbrev pub reduce_writes : ℕ → ℕ → DataType → ℕ → ℕ → ℕ
reduce_writes ua uz z n wb = ua + uz + cells z + n * round_writes z wb

-- [7.2] What a term costs: w where it is written, u where it is used. Above each clause stands its line of the table there.
abbrev mutual
  -- w
  pub writes_into : List DataType → List DataType → Term → ℕ
  -- [7.2] `in`, `var`
  writes_into I Γ (Term.input k) = cells (get_or I k number)
  writes_into I Γ (Term.variable d) = cells (get_or Γ d number)
  -- [7.2] `lit`
  writes_into I Γ (Term.literal v) = 1
  -- [7.2] `neg`, operations
  writes_into I Γ (Term.negate e) = writes_on_use I Γ e + 1
  writes_into I Γ (Term.operation o e f) = writes_on_use I Γ e + writes_on_use I Γ f + 1
  -- [7.2] maps
  writes_into I Γ (Term.map kind a b) =
      map_writes (writes_on_use I Γ a) (array_length (type_of I Γ a)) (writes_into I (element (type_of I Γ a) ∷ Γ) b)
  -- [7.2] `redseq`
  writes_into I Γ (Term.reduce z a b) =
      reduce_writes (writes_on_use I Γ a) (writes_on_use I Γ z) (type_of I Γ z) (array_length (type_of I Γ a))
      (writes_into I (type_of I Γ z ∷ element (type_of I Γ a) ∷ Γ) b)
      + cells (type_of I Γ z)
  -- [7.2] `zip`, `pair`
  writes_into I Γ (Term.zip a b) = writes_into I Γ a + writes_into I Γ b
  writes_into I Γ (Term.pair a b) = writes_into I Γ a + writes_into I Γ b
  -- [7.2] `split`, `join`
  writes_into I Γ (Term.split series n e) = writes_into I Γ e
  writes_into I Γ (Term.join series e) = writes_into I Γ e
  -- [7.2] `fst`, `snd`, `idx`
  writes_into I Γ (Term.first e) = writes_on_use I Γ e + cells (first_type (type_of I Γ e))
  writes_into I Γ (Term.second e) = writes_on_use I Γ e + cells (second_type (type_of I Γ e))
  writes_into I Γ (Term.index series k e) = writes_on_use I Γ e + cells (element (type_of I Γ e))

  -- u
  pub writes_on_use : List DataType → List DataType → Term → ℕ
  -- [7.2] `in`, `var`, `lit`
  writes_on_use I Γ (Term.input k) = 0
  writes_on_use I Γ (Term.variable d) = 0
  writes_on_use I Γ (Term.literal v) = 0
  -- [7.2] `neg`, operations
  writes_on_use I Γ (Term.negate e) = writes_on_use I Γ e
  writes_on_use I Γ (Term.operation o e f) = writes_on_use I Γ e + writes_on_use I Γ f
  -- [7.2] maps
  writes_on_use I Γ (Term.map kind a b) =
      map_writes (writes_on_use I Γ a) (array_length (type_of I Γ a)) (writes_into I (element (type_of I Γ a) ∷ Γ) b)
  -- [7.2] `redseq`
  writes_on_use I Γ (Term.reduce z a b) =
      reduce_writes (writes_on_use I Γ a) (writes_on_use I Γ z) (type_of I Γ z) (array_length (type_of I Γ a))
      (writes_into I (type_of I Γ z ∷ element (type_of I Γ a) ∷ Γ) b)
  -- [7.2] `zip`, `pair`
  writes_on_use I Γ (Term.zip a b) = writes_on_use I Γ a + writes_on_use I Γ b
  writes_on_use I Γ (Term.pair a b) = writes_on_use I Γ a + writes_on_use I Γ b
  -- [7.2] `split`, `join`
  writes_on_use I Γ (Term.split series n e) = writes_on_use I Γ e
  writes_on_use I Γ (Term.join series e) = writes_on_use I Γ e
  -- [7.2] `fst`, `snd`, `idx`
  writes_on_use I Γ (Term.first e) = writes_on_use I Γ e
  writes_on_use I Γ (Term.second e) = writes_on_use I Γ e
  writes_on_use I Γ (Term.index series k e) = writes_on_use I Γ e

-- [7.3] The w of the plan's term.
abbrev pub plan_writes : Plan → ℕ
plan_writes P = writes_into P.inputs [] P.term
