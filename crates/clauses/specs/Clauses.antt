-- What each clause makes: the nodes put, the rows put, and where the translation then stands. T and U are the table of
-- references before and after. Definitions only; assumes nothing.
use Rattle.std.specs.Prelude.{◌≡◌, Bool, true, cond, List, ℕ, ◌+◌, ◌-◌, eqb, pos, get_or, set}
use Rattle.words.specs.Kinds.{word_kind_in, word_var, word_lit, word_mappar, word_zip, word_pair, word_split, word_join}
use Rattle.words.specs.Kinds.{word_fst, word_snd, word_idx, word_seq, word_for, word_par, word_new, word_loc, word_ctr}
use Rattle.words.specs.Kinds.{word_asvec, word_asscal, word_mapvec, word_kind_at, word_lanes}
use Rattle.words.specs.Groups.{is_map}
use Rattle.meaning.specs.Types.{DataType, is_number, cells, array_length, element}
use Rattle.meaning.specs.Expressions.{Expression, Acceptor}
use Rattle.meaning.specs.Translation.{assign}
use Rattle.meaning.specs.Rows.{command_rows}
use Rattle.emission.specs.Changes.{zip_first, zip_second}
use Rattle.emission.specs.Nodes.{node_of}
use Rattle.emission.specs.Table.{Table, put_row, put_rows}
use Rattle.emission.specs.Growth.{Grown, Pushed, BothPushed}
use Rattle.clauses.specs.declared.State.{State}
use Rattle.clauses.specs.declared.Translated.{Translated}

-- ---- by the kind of a term's first row

-- the node of the region that a use of a map opens
abbrev pub region_node : ℕ → ℕ
region_node k = cond (is_map k) 1 0

-- [18.12] The word of arrays whose node a word of vectors makes: of `asvec`, `asscal` and `at`
abbrev pub node_kind : ℕ → ℕ
node_kind k = cond (eqb k word_asvec) word_split (cond (eqb k word_asscal) word_join (cond (eqb k word_kind_at) word_idx k))

-- [6.22] The number of a node over one operand of type t: of a `join` the length of a group, [18.13] of an `asscal` the width, else that of
-- its row
abbrev pub number_by : ℕ → ℕ → DataType → ℕ
number_by k n t = cond (eqb k word_join) (array_length (element t)) n

abbrev pub number_over : ℕ → ℕ → DataType → ℕ
number_over k n t = number_by (node_kind k) n t

-- [6.7] The loop that a map becomes, [18.12] a `mapvec` a `lanes`
abbrev pub map_loop : ℕ → ℕ
map_loop k = cond (eqb k word_mappar) word_par (cond (eqb k word_mapvec) word_lanes word_for)

-- [6.9] `zip` and `pair`, and the places of their operands
abbrev pub is_paired : ℕ → Bool
is_paired k = cond (eqb k word_zip) true (eqb k word_pair)

abbrev pub first_part : ℕ → ℕ
first_part k = cond (eqb k word_zip) zip_first word_fst

abbrev pub second_part : ℕ → ℕ
second_part k = cond (eqb k word_zip) zip_second word_snd

-- [6.10], [6.22] `split` and `join`, [18.12] `asvec` and `asscal`, and the place of their operand
abbrev pub is_grouping : ℕ → Bool
is_grouping k = cond (eqb k word_split) true (eqb k word_join)

abbrev pub is_regrouped : ℕ → Bool
is_regrouped k = is_grouping (node_kind k)

abbrev pub grouping_back : ℕ → ℕ
grouping_back k = cond (eqb k word_split) word_join word_split

abbrev pub regrouped_by : ℕ → ℕ
regrouped_by k = grouping_back (node_kind k)

-- ---- rows

-- [6.13], [6.14] A region of type t, and a `seq`
abbrev pub region_rows : DataType → Table → Table
region_rows t o = put_row (put_row o (word_new, pos (cells t))) (word_seq, pos 0)

-- [6.7] The loop of a map of type t
abbrev pub map_rows : ℕ → DataType → Table → Table
map_rows k t o = put_row o (map_loop k, pos (array_length t))

-- [6.14] The region that the body of a reduction of type t is written into, the total being region r; and what opens it in a round:
-- nothing, where it is the total.
abbrev pub body_region : DataType → ℕ → ℕ
body_region t r = cond (is_number t) r (r + 1)

abbrev pub next_rows : DataType → Table → Table
next_rows t o = cond (is_number t) o (region_rows t o)

-- [6.14], [6.16] A reduction of type t and n rounds as far as its body, in round c, the total being region r: the start Z is assigned.
abbrev pub entered_rows : DataType → ℕ → Expression → ℕ → ℕ → Table → Table
entered_rows t n Z c r o =
    next_rows t
    (put_row
    (put_row (put_rows (command_rows (assign t Z (Acceptor.region r t) c (r + 1))) (region_rows t o)) (word_seq, pos 0))
    (word_for, pos n))

-- [6.14] Behind its body, next, which is read as E, is assigned to the total P; a number stands there already.
abbrev pub left_rows : DataType → Expression → Acceptor → ℕ → ℕ → Table → Table
left_rows t E P c r o = cond (is_number t) o (put_rows (command_rows (assign t E P (c + 1) (r + 2))) o)

-- ---- uses

-- node s .len is what was used
pub record NodeUsed (s : State) (r : Translated) : Type 0 where
  pub rows : r.rows ≡ 1
  pub value : r.value ≡ s.len
  pub regions : r.regions ≡ s.regions
  pub len : r.len ≡ s.len + 1

-- the node of variable n
pub record VariableUsed (T U : List ℕ) (n : ℕ) (s : State) (r : Translated) : Type 0 where
  pub rows : r.rows ≡ 1
  pub value : r.value ≡ get_or s.variables (s.count - (n + 1)) 0
  pub regions : r.regions ≡ s.regions
  pub len : r.len ≡ s.len
  pub same : U ≡ T

-- [6.12] An input of the type at place t, a variable or a literal, which stands in a row of the plan.
pub record LeafUsed (T U : List ℕ) (k n t row : ℕ) (s : State) (r : Translated) : Type 0 where
  pub input : k ≡ word_kind_in → Pushed T U s.len (node_of word_kind_in t n 0 0) × NodeUsed s r
  pub variable : k ≡ word_var → VariableUsed T U n s r
  pub literal : k ≡ word_lit → Pushed T U s.len (node_of word_lit 0 row 0 0) × NodeUsed s r

-- [6.15] A node of kind k and number n over what was used
pub record OverOne (T U : List ℕ) (k n : ℕ) (one r : Translated) : Type 0 where
  pub node : Pushed T U one.len (node_of k 0 n one.value 0)
  pub rows : r.rows ≡ 1 + one.rows
  pub value : r.value ≡ one.len
  pub regions : r.regions ≡ one.regions
  pub len : r.len ≡ one.len + 1

pub record OverTwo (T U : List ℕ) (k : ℕ) (one two r : Translated) : Type 0 where
  pub node : Pushed T U two.len (node_of k 0 0 one.value two.value)
  pub rows : r.rows ≡ 1 + one.rows + two.rows
  pub value : r.value ≡ two.len
  pub regions : r.regions ≡ two.regions
  pub len : r.len ≡ two.len + 1

-- ---- states

-- the variables are as they were
pub record SameVariables (s r : State) : Type 0 where
  pub variables : r.variables ≡ s.variables
  pub count : r.count ≡ s.count

-- [6.13] Node s .len is a new region of the type at place t.
pub record RegionOpened (T U : List ℕ) (t : ℕ) (s r : State) : Type 0 where
  pub node : Pushed T U s.len (node_of word_loc t s.regions 0 0)
  pub counters : r.counters ≡ s.counters
  pub regions : r.regions ≡ s.regions + 1
  pub variables : SameVariables s r
  pub len : r.len ≡ s.len + 1

-- it is what is used once it is written
pub record RegionUsed (s : State) (written r : Translated) : Type 0 where
  pub rows : r.rows ≡ written.rows
  pub value : r.value ≡ s.len
  pub regions : r.regions ≡ s.regions + 1
  pub len : r.len ≡ written.len

pub record AfterUse (s : State) (used : Translated) (r : State) : Type 0 where
  pub counters : r.counters ≡ s.counters
  pub regions : r.regions ≡ used.regions
  pub variables : SameVariables s r
  pub len : r.len ≡ used.len

-- m rows later
pub record Later (m : ℕ) (translated r : Translated) : Type 0 where
  pub rows : r.rows ≡ m + translated.rows
  pub value : r.value ≡ translated.value
  pub regions : r.regions ≡ translated.regions
  pub len : r.len ≡ translated.len

-- node m is a part of the place P
pub record IntoPart (T U : List ℕ) (k n P m : ℕ) (s r : State) : Type 0 where
  pub node : Pushed T U m (node_of k 0 n P 0)
  pub counters : r.counters ≡ s.counters
  pub regions : r.regions ≡ s.regions
  pub variables : SameVariables s r
  pub len : r.len ≡ m + 1

-- ---- bodies

-- [6.7] In the round of a map written into P: the element, which is the body's variable, and the body's place
pub record MapEntered (T U : List ℕ) (P : ℕ) (s : State) (used : Translated) (r : State) : Type 0 where
  pub nodes : BothPushed T U used.len word_ctr s.counters used.value P
  pub counters : r.counters ≡ s.counters + 1
  pub regions : r.regions ≡ used.regions
  pub variables : r.variables ≡ set s.variables s.count used.len
  pub count : r.count ≡ s.count + 1
  pub len : r.len ≡ used.len + 2

-- [6.14] The total, region r of the type at place t; the element of node a at counter c; the region g that the body is written into
pub record ReductionPushed (T U : List ℕ) (t a c r g len : ℕ) : Type 0 where
  pub one : List ℕ
  pub two : List ℕ
  pub total : Pushed T one len (node_of word_loc t r 0 0)
  pub elements : Pushed one two (len + 1) (node_of word_ctr 0 c a 0)
  pub target : Pushed two U (len + 2) (node_of word_loc t g 0 0)

-- then the start is assigned to the total
pub record ReductionBegun (T U : List ℕ) (t a c r g len : ℕ) : Type 0 where
  pub between : List ℕ
  pub nodes : ReductionPushed T between t a c r g len
  pub grown : Grown between U (len + 3)

-- [3.10] In the round of a reduction: the body's variables are the total, innermost, and the element; the innermost region is g.
pub record InRound (s : State) (start : Translated) (g : ℕ) (r : State) : Type 0 where
  pub counters : r.counters ≡ s.counters + 1
  pub regions : r.regions ≡ g + 1
  pub variables : r.variables ≡ set (set s.variables s.count (start.len + 1)) (s.count + 1) start.len
  pub count : r.count ≡ s.count + 2
  pub len : r.len ≡ start.len + 3

pub record ReductionEntered (T U : List ℕ) (t a g : ℕ) (s : State) (start : Translated) (r : State) : Type 0 where
  pub begun : ReductionBegun T U t a s.counters start.regions g start.len
  pub round : InRound s start g r

-- [6.14] What is used of it is the total, region n; m rows stand before its body.
pub record ReductionLeft (T U : List ℕ) (total n m : ℕ) (body r : Translated) : Type 0 where
  pub grown : Grown T U body.len
  pub rows : r.rows ≡ m + body.rows
  pub value : r.value ≡ total
  pub regions : r.regions ≡ n + 1
  pub len : r.len ≡ body.len
