-- What a use is given for its calls: where the operands stand, and room for what they make. Assumes nothing.
use mathlib.Core.Path.{◌≡◌, refl, ap, sym, ◌∙◌}
use mathlib.Core.Bool.{Bool, true, false, cond}
use mathlib.Core.List.{List}
use Prim.Native.Nat.{ℕ, ◌+◌, ◌-◌, ◌≤◌, ◌<◌}
use native.Mathlib.Omega.{arith}
use lib.IntN.{ℤ, pos}
use lib.ListN.{length, get_or}
use Rattle.words.specs.Kinds.{word_kind_in, word_var, word_redseq}
use Rattle.meaning.specs.Types.{DataType}
use Rattle.meaning.specs.Terms.{Term}
use Rattle.meaning.specs.Expressions.{Expression, Acceptor}
use Rattle.meaning.specs.Rows.{term_rows}
use Rattle.syntax.specs.Ranges.{as_natural}
use Rattle.syntax.specs.Standing.{term_kind, operand_count, first_operand, second_operand}
use Rattle.syntax.proofs.Standing.{some_operand, no_literal, its_kind, rows_within, some_row, rows_of_two}
use Rattle.syntax.proofs.Front.{part}
use Rattle.type_table.specs.Table.{Sound}
use Rattle.emission.specs.Table.{Table}
use Rattle.emission.specs.Laws.Growth.{grown_none}
use Rattle.words.specs.Groups.{is_leaf, is_map, has_one_operand}
use Rattle.clauses.specs.Clauses.{region_node, RegionOpened, AfterUse}
use Rattle.row_translation.specs.WriteAndUse.{Stands, ReadyToUse, ReadyToWrite, Room, nodes_used, nodes_written, Used, Uses, Writes}
use Rattle.row_translation.specs.Laws.Kinds.{TwoOperands, two_operands}
use Rattle.row_translation.specs.Laws.Operands.{type_here, type_first}
use Rattle.row_translation.specs.Laws.Calls.{regions_few_holds, room_on, stands_region, stands_under, stands_after_use}
use Rattle.row_translation.specs.Laws.Ranges.{number_fits, variable_fits}
use Rattle.clauses.specs.declared.State.{State}
use Rattle.clauses.specs.declared.Translated.{Translated}
use Rattle.row_translation.proofs.TermRows.{some_rows, first_fewer}

-- a term that stands, and room for it
pub ready_use : {ks : List ℕ} {ns : List ℤ} {C Y : List ℕ} {N : List ℤ} {T : List ℕ} {s : State} {I Γ : List DataType} {Δ : List Expression} {e : Term}
    → Stands ks ns C Y N T s I Γ Δ e → Room (nodes_used e) Y N T s → ReadyToUse ks ns C Y N T s
ready_use {I = I} {Γ = Γ} {Δ = Δ} {e = e} S R = (record { inputs = I; variables = Γ; expressions = Δ; term = e; stands = S }, R)

pub ready_write : {ks : List ℕ} {ns : List ℤ} {C Y : List ℕ} {N : List ℤ} {T : List ℕ} {s : State} {I Γ : List DataType} {Δ : List Expression} {e : Term}
    → Stands ks ns C Y N T s I Γ Δ e → Room (nodes_written e) Y N T s → ReadyToWrite ks ns C Y N T s
ready_write {I = I} {Γ = Γ} {Δ = Δ} {e = e} S R = (record { inputs = I; variables = Γ; expressions = Δ; term = e; stands = S }, R)

-- the rows that a call is handed are those that its callee's are
abbrev pub SameRows : List ℕ → List ℤ → List ℕ → List ℕ → List ℤ → List ℕ → Type 0
SameRows ks' ns' C' ks ns C = (ks' ≡ ks) × (ns' ≡ ns) × (C' ≡ C)

module _ {ks' ks : List ℕ} {ns' ns : List ℤ} {C' C : List ℕ} (q : SameRows ks' ns' C' ks ns C) where
  pub stands_as : {Y : List ℕ} {N : List ℤ} {T : List ℕ} {s : State} {I Γ : List DataType} {Δ : List Expression} {e : Term}
      → Stands ks ns C Y N T s I Γ Δ e → Stands ks' ns' C' Y N T s I Γ Δ e
  stands_as S = rw (q.0, q.1, q.2) S

  pub use_as : {Y : List ℕ} {N : List ℤ} {T : List ℕ} {s : State} → ReadyToUse ks ns C Y N T s → ReadyToUse ks' ns' C' Y N T s
  use_as R = rw (q.0, q.1, q.2) R

  pub write_as : {Y : List ℕ} {N : List ℤ} {T : List ℕ} {s : State} → ReadyToWrite ks ns C Y N T s → ReadyToWrite ks' ns' C' Y N T s
  write_as R = rw (q.0, q.1, q.2) R

  pub uses_as : {Y : List ℕ} {N : List ℤ} {s : State} {T U : List ℕ} {o o' : Table} {r : Translated}
      → Uses ks' ns' C' Y N s T U o o' r → Uses ks ns C Y N s T U o o' r
  uses_as H I Γ Δ e S = H I Γ Δ e (stands_as S)

  pub writes_as : {Y : List ℕ} {N : List ℤ} {P : Acceptor} {s : State} {T U : List ℕ} {o o' : Table} {r : Translated}
      → Writes ks' ns' C' Y N P s T U o o' r → Writes ks ns C Y N P s T U o o' r
  writes_as H I Γ Δ e S = H I Γ Δ e (stands_as S)

-- where a term stands, what a write or a use finds
module _ (ks : List ℕ) (ns : List ℤ) (C Y : List ℕ) (N : List ℤ) (T : List ℕ) (s : State) (I Γ : List DataType) (Δ : List Expression) (e : Term)
    (S : Stands ks ns C Y N T s I Γ Δ e) where
  pub head : get_or ks 0 0 ≡ term_kind e
  head = its_kind ks ns (length I) (length Γ) e S.rows

  -- the rows that there are
  pub bounds : (1 ≤ length ks) × (length ks ≡ length ns) × (length ks ≤ length C) × (length ns ≤ length N) × (length (term_rows e) ≤ length ks)
  bounds =
      (some_row ks ns (length I) (length Γ) e S.rows, S.rows.sizes, S.column, S.literals.0, rows_within ks ns (length I) (length Γ) e S.rows)

  pub typed : get_or C 0 0 < length Y
  typed = (type_here ks ns C Y N T s I Γ Δ e S).0

  module _ (m : ℕ) (R : Room m Y N T s) where
    pub leaf_asks : (k n p : ℕ) → k ≡ get_or ks 0 0 → n ≡ as_natural (get_or ns 0 (pos 0)) → p < 65536
        → (1 ≤ s.len) × (s.len < 1024) × (p < 65536) × (length N - length ns < 65536)
        × (k ≡ word_kind_in → n < 65536) × (k ≡ word_var → n < s.count) × (s.count ≤ 16)
    leaf_asks k n p ek en hp = (
      R.some,
      omega (arith, R.nodes),
      hp,
      omega (arith, R.plan, bounds),
      λ q. number_fits ks ns C Y N T s I Γ Δ e S k n ek en (λ x. absurd (omega (arith, q, x))),
      λ q. variable_fits ks ns C Y N T s I Γ Δ e S k n ek en q,
      S.variables.few,
    )

    pub region_asks : 1 ≤ m → Sound Y (length Y) × (get_or C 0 0 < length Y) × (1 ≤ s.len) × (s.len < 1024) × (s.regions < 65535)
    region_asks h = (R.types, typed, R.some, omega (arith, R.nodes), omega (arith, R.regions))

  some_node : 1 ≤ nodes_used e
  some_node = omega (arith, some_rows e)

  -- a region is opened for a used map
  pub open_asks : Room (nodes_used e) Y N T s
      → Sound Y (length Y) × (get_or C 0 0 < length Y) × (1 ≤ s.len) × (s.len < 1024) × (s.regions < 65535)
  open_asks R = region_asks (nodes_used e) R some_node

  pub opened_asks : Room (nodes_used e) Y N T s → is_map (get_or ks 0 0) ≡ true → {U : List ℕ} {p : ℕ} {s' : State} → RegionOpened T U p s s'
      → ReadyToWrite ks ns C Y N U s'
  opened_asks R h {U} {p} {s'} O =
      let n : region_node (term_kind e) ≡ 1 = ap (λ (b : Bool). cond b 1 0) (ap is_map (sym head) ∙ h) in
      let w : 1 ≤ length (term_rows e) = some_rows e in
      ready_write (stands_region ks ns C Y N T s I Γ Δ e S U p s' O)
      (room_on (nodes_used e) (nodes_written e) Y N T U s s' R O.node.grown (omega (arith, O.len)) (omega (arith, O.len, n, w)) (omega (arith, O.counters)) (omega (arith, O.regions, n, w)))

  -- the first operand
  module _ (l : is_leaf (get_or ks 0 0) ≡ false) where
    pub one : 1 ≤ operand_count e
    one = some_operand e (ap is_leaf (sym head) ∙ l)

    pub first_here : Stands (part 1 ks) (part 1 ns) (part 1 C) Y N T s I Γ Δ (first_operand e)
    first_here = stands_under ks ns C Y N T s I Γ Δ e S (get_or ks 0 0) refl one

    pub fewer : 1 + length (term_rows (first_operand e)) ≤ length (term_rows e)
    fewer = first_fewer e one

    pub two_rows : 2 ≤ length ks
    two_rows = omega (arith, fewer, bounds, some_rows (first_operand e))

    pub first_typed : get_or C 1 0 < length Y
    first_typed = (type_first ks ns C Y N T s I Γ Δ e S one).0

    pub first_asks : Room (nodes_used e) Y N T s → ReadyToUse (part 1 ks) (part 1 ns) (part 1 C) Y N T s
    first_asks R =
        ready_use first_here
        (room_on (nodes_used e) (nodes_used (first_operand e)) Y N T T s s R (grown_none T s.len R.size) (omega arith) (omega (arith, fewer)) (omega (arith, fewer)) (omega (arith, fewer)))

    pub number_asks : (n : ℕ) → n ≡ as_natural (get_or ns 0 (pos 0)) → Sound Y (length Y) → Sound Y (length Y) × (get_or C 1 0 < length Y) × (n < 65536)
    number_asks n en Z = (Z, first_typed, number_fits ks ns C Y N T s I Γ Δ e S (get_or ks 0 0) n refl en (λ x. no_literal e one (sym head ∙ x)))

    -- it was used
    module _ {U : List ℕ} {o o' : Table} {r : Translated} (H : Uses (part 1 ks) (part 1 ns) (part 1 C) Y N s T U o o' r) where
      pub first_used : Used Y N I Γ Δ (first_operand e) s T U o o' r
      first_used = H I Γ Δ (first_operand e) first_here

      pub first_reach : (1 + r.rows ≤ length ks) × (r.rows ≤ length N)
      first_reach = (omega (arith, first_used.passed, fewer, bounds), omega (arith, first_used.passed, fewer, bounds))

      pub over_one_asks : Room (nodes_used e) Y N T s → (r.value < r.len) × (r.len < 1024) × (r.rows ≤ 65535)
      over_one_asks R = (first_used.below, omega (arith, R.nodes, first_used.few, fewer), omega (arith, R.plan, first_reach, bounds))

      -- the second of two that are used
      module _ (hm : is_map (get_or ks 0 0) ≡ false) (hr : get_or ks 0 0 ≡ word_redseq → ⊥) (hb : has_one_operand (get_or ks 0 0) ≡ false) where
        two : TwoOperands I e
        two = two_operands I e (ap is_leaf (sym head) ∙ l) (ap is_map (sym head) ∙ hm) (λ x. hr (head ∙ x)) (ap has_one_operand (sym head) ∙ hb)

        both : length (term_rows e) ≡ 1 + length (term_rows (first_operand e)) + length (term_rows (second_operand e))
        both = rows_of_two e two.count

        module _ {s' : State} (G : AfterUse s r s') where
          pub second_here : Stands (part (1 + r.rows) ks) (part (1 + r.rows) ns) (part (1 + r.rows) C) Y N U s' I Γ Δ (second_operand e)
          second_here = stands_after_use ks ns C Y N T s I Γ Δ e S (get_or ks 0 0) refl l hm hr hb U o o' r s' first_used G

          pub second_asks : Room (nodes_used e) Y N T s → ReadyToUse (part (1 + r.rows) ks) (part (1 + r.rows) ns) (part (1 + r.rows) C) Y N U s'
          second_asks R =
              ready_use second_here
              (room_on (nodes_used e) (nodes_used (second_operand e)) Y N T U s s' R first_used.grown (omega (arith, G.len, first_used.more))
              (omega (arith, both, G.len, first_used.few)) (omega (arith, both, G.counters)) (omega (arith, both, G.regions, first_used.regions, regions_few_holds (first_operand e))))

          module _ {W : List ℕ} {p p' : Table} {w : Translated} (H' : Uses (part (1 + r.rows) ks) (part (1 + r.rows) ns) (part (1 + r.rows) C) Y N s' U W p p' w) where
            pub second_used : Used Y N I Γ Δ (second_operand e) s' U W p p' w
            second_used = H' I Γ Δ (second_operand e) second_here

            pub over_two_asks : Room (nodes_used e) Y N T s → (r.value < w.len) × (w.value < w.len) × (w.len < 1024) × (r.rows ≤ 65535) × (w.rows ≤ 65535)
            over_two_asks R = (
              omega (arith, first_used.below, G.len, second_used.more),
              second_used.below,
              omega (arith, R.nodes, first_used.few, G.len, second_used.few, both),
              omega (arith, R.plan, first_reach, bounds),
              omega (arith, R.plan, second_used.passed, bounds, both),
            )
