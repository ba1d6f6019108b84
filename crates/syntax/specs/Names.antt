-- The names that rows open, and how many may be in force: [10.6]. Definitions only; assumes nothing.
use Rattle.std.specs.Prelude.{Bool, cond, ◌&&◌, [], ◌∷◌, ℕ, ◌+◌, ◌≤◌, eqb, leb}
use Rattle.words.specs.Kinds.{word_plan, word_redseq, word_loops, word_new, word_lanes}
use Rattle.words.specs.Groups.{one_of, is_map, is_loop}
use Rattle.syntax.specs.declared.names.Names.{Names}

abbrev pub names : ℕ → ℕ → ℕ → ℕ → ℕ → Names
names i v c r l = record { inputs = i; variables = v; counters = c; regions = r; lanes = l }

abbrev pub no_names : Names
no_names = names 0 0 0 0 0

-- [18.15] the `lanes` around, and a row's own
abbrev pub lanes_with : ℕ → ℕ → ℕ
lanes_with k l = cond (eqb k word_lanes) (l + 1) l

-- The names in force and a row's own: the K inputs of `plan` [3.6] and `loops` [3.12], one variable of a map [3.9], two of `redseq`
-- [3.10], one counter of `for`, `par` and `lanes`, one region of `new` [3.13].
unfoldable pub opened_by : ℕ → ℕ → Names → Names
opened_by k n s =
    cond (is_map k) (names s.inputs (s.variables + 1) s.counters s.regions s.lanes)
    (cond (is_loop k) (names s.inputs s.variables (s.counters + 1) s.regions (lanes_with k s.lanes))
    (cond (one_of k (word_plan ∷ word_loops ∷ [])) (names n s.variables s.counters s.regions s.lanes)
    (cond (eqb k word_redseq) (names s.inputs (s.variables + 2) s.counters s.regions s.lanes)
    (cond (eqb k word_new) (names s.inputs s.variables s.counters (s.regions + 1) s.lanes)
    s))))

-- [10.6] At most 16 variables [13.9], 32 counters [13.10] and 256 regions [13.11]. A row that opens none is asked about those in force,
-- which were asked about where they were opened.
abbrev pub names_fit : Names → Bool
names_fit s = leb s.variables 16 && leb s.counters 32 && leb s.regions 256

-- [18.15] Question 18: at most one `lanes` around a row, its own counted.
abbrev pub lanes_fit : Names → Bool
lanes_fit s = leb s.lanes 1

-- the same as a fact, and question 18
pub record Bounded (s : Names) : Type 0 where
  pub variables_fit : s.variables ≤ 16
  pub counters_fit : s.counters ≤ 32
  pub regions_fit : s.regions ≤ 256
  pub lanes_fit : s.lanes ≤ 1
