-- What writing a term and using it over its rows ([6.2]) are given and what they give. Definitions only; assumes
-- nothing. Throughout, Y is the table of types, N the numbers of the whole plan's rows, T and U the table of references
-- before and after.
use Rattle.std.specs.Prelude.{◌≡◌, List, ℕ, ◌+◌, ◌-◌, ◌*◌, ◌≤◌, ◌<◌, ℤ, length, get_or, drop}
use Rattle.meaning.specs.Types.{DataType}
use Rattle.meaning.specs.Terms.{Term}
use Rattle.meaning.specs.Expressions.{Expression, Acceptor}
use Rattle.meaning.specs.Translation.{write_term, no_expression}
use Rattle.meaning.specs.Rows.{term_rows, command_rows}
use Rattle.meaning.proofs.Laws.UseRows.{use_rows, expression_of, regions_opened}
use Rattle.syntax.specs.Standing.{TermStands, term_kind}
use Rattle.type_table.specs.Table.{Sound}
use Rattle.type_table.specs.Columns.{Noted}
use Rattle.emission.specs.Table.{Table, put_rows}
use Rattle.emission.specs.References.{expression_at, acceptor_at}
use Rattle.emission.specs.Growth.{Grown}
use Rattle.clauses.specs.Clauses.{region_node}
use Rattle.emission.specs.declared.sources.Made.{Made}
use Rattle.emission.specs.declared.sources.Source.{Source}
use Rattle.clauses.specs.declared.State.{State}
use Rattle.clauses.specs.declared.Translated.{Translated}
use Rattle.row_translation.specs.declared.terms.TermRows.{TermRows}

-- The variables' nodes read Δ, innermost first.
pub record Variables (Y : List ℕ) (N : List ℤ) (T : List ℕ) (s : State) (Δ : List Expression) : Type 0 where
  pub each : (d : ℕ) → d < length Δ
      → (get_or s.variables (s.count - (d + 1)) 0 < s.len)
      × (expression_at Y N T (get_or s.variables (s.count - (d + 1)) 0) ≡ get_or Δ d no_expression)
  pub count : s.count ≡ length Δ
  pub few : s.count ≤ 16
  pub long : length s.variables ≡ 16

-- The rows of the term e stand in front of kinds and numbers, and the places of their types in front of the column C.
pub record Stands (ks : List ℕ) (ns : List ℤ) (C Y : List ℕ) (N : List ℤ) (T : List ℕ) (s : State) (I Γ : List DataType) (Δ : List Expression) (e : Term) : Type 0 where
  pub rows : TermStands ks ns (length I) (length Γ) e
  pub noted : Noted Y (length Y) I Γ e C
  pub named : length Δ ≡ length Γ
  pub variables : Variables Y N T s Δ
  pub literals : (length ns ≤ length N) × (ns ≡ drop (length N - length ns) N)
  pub column : length ks ≤ length C
  pub inputs : length I ≤ 8

-- some term's kinds stand in front
pub record SomeRows (ks : List ℕ) : Type 0 where
  pub numbers : List ℤ
  pub inputs : ℕ
  pub variables : ℕ
  pub term : Term
  pub stands : TermStands ks numbers inputs variables term

-- and that term has n rows
abbrev pub CountsRows : List ℕ → ℕ → Type 0
CountsRows ks n = (ns : List ℤ) (inputs variables : ℕ) (e : Term) → TermStands ks ns inputs variables e → n ≡ length (term_rows e)

pub record SomeTerm (ks : List ℕ) (ns : List ℤ) (C Y : List ℕ) (N : List ℤ) (T : List ℕ) (s : State) : Type 0 where
  pub inputs : List DataType
  pub variables : List DataType
  pub expressions : List Expression
  pub term : Term
  pub stands : Stands ks ns C Y N T s inputs variables expressions term

-- There is room for so many nodes more, and for as many counters and regions; and for an assignment's 16 nodes and 8 counters.
pub record Room (more : ℕ) (Y : List ℕ) (N : List ℤ) (T : List ℕ) (s : State) : Type 0 where
  pub types : Sound Y (length Y)
  pub some : 1 ≤ s.len
  pub nodes : s.len + more + 16 ≤ 1024
  pub size : length T ≡ 1024
  pub counters : s.counters + more + 8 < 65536
  pub regions : s.regions + more < 65536
  pub plan : length N ≤ 65536

-- A row makes at most three nodes. A use of a map opens a region and then writes the map: so a write of it makes one fewer.
abbrev pub nodes_used : Term → ℕ
nodes_used e = 3 * length (term_rows e)

abbrev pub nodes_written : Term → ℕ
nodes_written e = 3 * length (term_rows e) - region_node (term_kind e)

-- Some term stands in front, and there is room for what its use, or a write of it, makes.
abbrev pub ReadyToUse : List ℕ → List ℤ → List ℕ → List ℕ → List ℤ → List ℕ → State → Type 0
ReadyToUse ks ns C Y N T s = (x : SomeTerm ks ns C Y N T s) × Room (nodes_used x.term) Y N T s

abbrev pub ReadyToWrite : List ℕ → List ℤ → List ℕ → List ℕ → List ℤ → List ℕ → State → Type 0
ReadyToWrite ks ns C Y N T s = (x : SomeTerm ks ns C Y N T s) × Room (nodes_written x.term) Y N T s

-- [6.2] What a use of e gives, from the rows o to the rows o'.
pub record Used (Y : List ℕ) (N : List ℤ) (I Γ : List DataType) (Δ : List Expression) (e : Term) (s : State) (T U : List ℕ) (o o' : Table) (r : Translated) : Type 0 where
  pub passed : r.rows ≡ length (term_rows e)
  pub rows : o' ≡ put_rows (use_rows I e Γ Δ s.counters s.regions) o
  pub value : expression_at Y N U r.value ≡ expression_of I e Γ Δ s.regions
  pub below : r.value < r.len
  pub regions : r.regions ≡ s.regions + regions_opened e
  pub grown : Grown T U s.len
  pub more : s.len ≤ r.len
  pub few : r.len ≤ s.len + 3 * length (term_rows e)

-- [6.2] What a write of e into P gives.
pub record Written (Y : List ℕ) (N : List ℤ) (I Γ : List DataType) (Δ : List Expression) (e : Term) (P : Acceptor) (s : State) (T U : List ℕ) (o o' : Table) (r : Translated) : Type 0 where
  pub passed : r.rows ≡ length (term_rows e)
  pub rows : o' ≡ put_rows (command_rows (write_term I e Γ Δ s.counters s.regions P)) o
  pub grown : Grown T U s.len
  pub more : s.len ≤ r.len
  pub few : r.len + region_node (term_kind e) ≤ s.len + 3 * length (term_rows e)

-- [6.2] Whichever term stands in front, this is what a use of it, or a write of it into P, gives.
abbrev pub Uses : List ℕ → List ℤ → List ℕ → List ℕ → List ℤ → State → List ℕ → List ℕ → Table → Table → Translated → Type 0
Uses ks ns C Y N s T U o o' r =
    (I Γ : List DataType) (Δ : List Expression) (e : Term) → Stands ks ns C Y N T s I Γ Δ e → Used Y N I Γ Δ e s T U o o' r

abbrev pub Writes : List ℕ → List ℤ → List ℕ → List ℕ → List ℤ → Acceptor → State → List ℕ → List ℕ → Table → Table → Translated → Type 0
Writes ks ns C Y N P s T U o o' r =
    (I Γ : List DataType) (Δ : List Expression) (e : Term) → Stands ks ns C Y N T s I Γ Δ e → Written Y N I Γ Δ e P s T U o o' r

-- The same of the rows, the types and the numbers that the code is handed.
abbrev pub UseReady : TermRows → Source → List ℕ → State → Type 0
UseReady t Z T s = ReadyToUse t.kinds.now t.numbers.now t.column.now Z.types.now Z.plan.now T s

abbrev pub WriteReady : TermRows → Source → List ℕ → State → Type 0
WriteReady t Z T s = ReadyToWrite t.kinds.now t.numbers.now t.column.now Z.types.now Z.plan.now T s

abbrev pub UseMade : TermRows → Source → State → Made → Made → Translated → Type 0
UseMade t Z s m m' r =
    Uses t.kinds.now t.numbers.now t.column.now Z.types.now Z.plan.now s m.references m'.references m.rows m'.rows r

abbrev pub WriteMade : TermRows → Source → ℕ → State → Made → Made → Translated → Type 0
WriteMade t Z target s m m' r =
    Writes t.kinds.now t.numbers.now t.column.now Z.types.now Z.plan.now (acceptor_at Z.types.now m.references target) s m.references m'.references
    m.rows m'.rows r
