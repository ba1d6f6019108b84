-- The two claims of the induction by which translated loops pass, of how a term is used and of how it is written;
-- and how uses and writes join.
use Rattle.std.proofs.Common.{subst, le_of_suc-le-suc, arith}
use Rattle.std.specs.Prelude.{Bool, cond, length, get_or}
use Rattle.std.proofs.Math.Bool.{true, false}
use mathlib.Core.List.{List, [], ◌∷◌, map}
use Prim.Native.Nat.{ℕ, zero, suc, ◌+◌, ◌≤◌, ◌<◌}
use Rattle.meaning.specs.Types.{DataType, Series, is_number, cells, levels, array_length, element, number, array, vector}
use Rattle.meaning.specs.Terms.{LoopKind, series_in}
use Rattle.meaning.specs.Loops.{Offset, Command}
use Rattle.meaning.specs.Expressions.{Expression, Acceptor}
use Rattle.meaning.specs.Offsets.{read_at, write_at}
use Rattle.meaning.specs.Translation.{assign, Write, Use, write_map, body_into, round_by_next, use_reduce}
use Rattle.meaning.specs.Translation.{use_written, no_expression}
use Rattle.meaning.specs.Limits.{IsCount, CommandPasses, CellsWithin, TypeWithin}
use Rattle.meaning.proofs.Laws.Typing.{IsArray, IsSeries}
use Rattle.meaning.proofs.Laws.Levels.{Extends, extends_refl, extends_trans, extends_push}
use Rattle.meaning.proofs.Laws.Bounds.{cells_positive, cells_within, length_within, counter_fits}
use Rattle.meaning.proofs.Laws.Bounds.{length_is_count, rounds_in_range, width_is_count, SameWithin, within_sym, within_vector}
use Rattle.meaning.proofs.Laws.Bounds.{within_elements}
use Rattle.meaning.proofs.Laws.Passing.{ReadsPass, WritesPass, reads_on, writes_on, reads_same, writes_same}
use Rattle.meaning.proofs.Laws.Passing.{value_passes_innermost}
use Rattle.meaning.proofs.Laws.Passing.{place_passes_innermost, reads_index, reads_first, reads_second}
use Rattle.meaning.proofs.Laws.Passing.{writes_index, writes_first, writes_second, reads_region, writes_region}

-- What stands at the head of the loops: the inputs' types and the output's cells.
pub record Heading : Type 0 where
  pub input_types : List DataType
  pub output : ℕ

-- the inputs' cells
abbrev pub input_cells_of : Heading → List ℕ
input_cells_of H = map cells H.input_types

abbrev pub PassesUnder : Heading → List ℕ → List ℕ → Command → Type 0
PassesUnder H ns rs c = CommandPasses (input_cells_of H) H.output ns rs c

-- An assignment passes, under few enough loops

pub assign_passes : (H : Heading) (t : DataType) {E : Expression} {P : Acceptor} (ns rs : List ℕ)
    → CellsWithin t → length ns + levels t ≤ 32
    → ReadsPass (input_cells_of H) ns rs E t → WritesPass H.output ns rs P t
    → PassesUnder H ns rs (assign t E P (length ns) (length rs))
unfolding CommandPasses assign
assign_passes H number {E} {P} ns rs f l h k = (
  place_passes_innermost H.output ns rs (write_at P []) (k.write ns rs (extends_refl ns) (extends_refl rs) [] tt),
  value_passes_innermost (input_cells_of H) ns rs (read_at E []) (h.read ns rs (extends_refl ns) (extends_refl rs) [] tt),
)
assign_passes H (array n t) ns rs f l h k =
    let count : IsCount n = (f.0, length_within n t f) in
    let i : Offset = Offset.counter (length ns) in (
      count,
      omega arith,
      assign_passes H t (n ∷ ns) rs f.2 (omega arith)
          (reads_index i (reads_on h (extends_push n ns) (extends_refl rs)) (counter_fits n ns count))
          (writes_index i (writes_on k (extends_push n ns) (extends_refl rs)) (counter_fits n ns count)),
    )
assign_passes H (DataType.pair s t) ns rs f l h k = (
  assign_passes H s ns rs f.1 (omega arith) (reads_first h) (writes_first k),
  assign_passes H t ns rs f.2 (omega arith) (reads_second h) (writes_second k),
)
assign_passes H (vector w) {E} {P} ns rs f l h k =
    let count : IsCount w = width_is_count w f in
    let i : Offset = Offset.counter (length ns) in
    let h' : ReadsPass (input_cells_of H) (w ∷ ns) rs (Expression.index E i) number =
    reads_index i (reads_on (reads_same (within_vector w) h) (extends_push w ns) (extends_refl rs))
    (counter_fits w ns count) in
    let k' : WritesPass H.output (w ∷ ns) rs (Acceptor.index P i) number =
    writes_index i (writes_on (writes_same (within_vector w) k) (extends_push w ns) (extends_refl rs))
    (counter_fits w ns count) in (
      f,
      omega arith,
      (
        place_passes_innermost H.output (w ∷ ns) rs (write_at (Acceptor.index P i) [])
            (k'.write (w ∷ ns) rs (extends_refl (w ∷ ns)) (extends_refl rs) [] tt),
        value_passes_innermost (input_cells_of H) (w ∷ ns) rs (read_at (Expression.index E i) [])
            (h'.read (w ∷ ns) rs (extends_refl (w ∷ ns)) (extends_refl rs) [] tt),
      ),
    )

-- The claims

-- The inputs' and the variables' expressions pass; there are few enough loops, variables and regions, b more
-- regions included.
pub record Scope (H : Heading) (ns rs : List ℕ) (Γ : List DataType) (Δ : List Expression) (b : ℕ) : Type 0 where
  pub inputs : (k : ℕ) → k < length H.input_types
      → ReadsPass (input_cells_of H) ns rs (Expression.input k (get_or H.input_types k number))
      (get_or H.input_types k number)
  pub variables : (d : ℕ) → d < length Γ → ReadsPass (input_cells_of H) ns rs (get_or Δ d no_expression) (get_or Γ d number)
  pub loops_few : length ns ≤ length Γ
  pub variables_few : length Γ ≤ 16
  pub regions_few : length rs + b ≤ 256

pub scope_on : {H : Heading} {ns rs rs' : List ℕ} {Γ : List DataType} {Δ : List Expression} {b b' : ℕ}
    → Scope H ns rs Γ Δ b → Extends rs rs' → length rs' + b' ≤ 256 → Scope H ns rs' Γ Δ b'
scope_on {ns} G e few = record {
  inputs = λ k h. reads_on (G.inputs k h) (extends_refl ns) e;
  variables = λ d h. reads_on (G.variables d h) (extends_refl ns) e;
  loops_few = G.loops_few;
  variables_few = G.variables_few;
  regions_few = few;
}

-- in a loop whose body has one more variable
pub scope_loop : {H : Heading} {ns rs : List ℕ} {Γ : List DataType} {Δ : List Expression} {b : ℕ} {E : Expression}
    {t : DataType} (n : ℕ)
    → Scope H ns rs Γ Δ b → suc (length Γ) ≤ 16 → ReadsPass (input_cells_of H) (n ∷ ns) rs E t
    → Scope H (n ∷ ns) rs (t ∷ Γ) (E ∷ Δ) b
scope_loop {H} {ns} {rs} {Γ} {Δ} {E} {t} n G few h = record {
  inputs = λ k l. reads_on (G.inputs k l) (extends_push n ns) (extends_refl rs);
  variables = go;
  loops_few = omega (arith, G.loops_few);
  variables_few = few;
  regions_few = G.regions_few;
}
  where
    go : (d : ℕ) → d < length (t ∷ Γ)
        → ReadsPass (input_cells_of H) (n ∷ ns) rs (get_or (E ∷ Δ) d no_expression) (get_or (t ∷ Γ) d number)
    go zero l = h
    go (suc d) l = reads_on (G.variables d (le_of_suc-le-suc l)) (extends_push n ns) (extends_refl rs)

-- with one more variable
pub scope_push : {H : Heading} {ns rs : List ℕ} {Γ : List DataType} {Δ : List Expression} {b : ℕ} {E : Expression}
    {t : DataType}
    → Scope H ns rs Γ Δ b → suc (length Γ) ≤ 16 → ReadsPass (input_cells_of H) ns rs E t
    → Scope H ns rs (t ∷ Γ) (E ∷ Δ) b
scope_push {H} {ns} {rs} {Γ} {Δ} {E} {t} G few h = record {
  inputs = G.inputs;
  variables = go;
  loops_few = omega (arith, G.loops_few);
  variables_few = few;
  regions_few = G.regions_few;
}
  where
    go : (d : ℕ) → d < length (t ∷ Γ)
        → ReadsPass (input_cells_of H) ns rs (get_or (E ∷ Δ) d no_expression) (get_or (t ∷ Γ) d number)
    go zero l = h
    go (suc d) l = G.variables d (le_of_suc-le-suc l)

-- `useE` passes if its continuation does, whatever expression that reads; it opens at most b regions.
abbrev pub UsePasses : Heading → Use → List DataType → DataType → ℕ → Type 0
UsePasses H useE Γ t b =
    (Δ : List Expression) (ns rs : List ℕ) (C : Expression → ℕ → Command)
    → Scope H ns rs Γ Δ b
    → ((rs' : List ℕ) (E : Expression)
    → Extends rs rs' → length rs' ≤ length rs + b → ReadsPass (input_cells_of H) ns rs' E t
    → PassesUnder H ns rs' (C E (length rs')))
    → PassesUnder H ns rs (useE Γ Δ (length ns) (length rs) C)

abbrev pub WritePasses : Heading → Write → List DataType → DataType → ℕ → Type 0
WritePasses H writeE Γ t b =
    (Δ : List Expression) (ns rs : List ℕ) (P : Acceptor)
    → Scope H ns rs Γ Δ b → WritesPass H.output ns rs P t
    → PassesUnder H ns rs (writeE Γ Δ (length ns) (length rs) P)

-- How they join

module _ {H : Heading} {Γ : List DataType} where
  pub use_one_passes : (useE : Use) (t t' : DataType) (b : ℕ) (make : Expression → Expression)
      → ((ns rs : List ℕ) (E : Expression)
      → ReadsPass (input_cells_of H) ns rs E t → ReadsPass (input_cells_of H) ns rs (make E) t')
      → UsePasses H useE Γ t b
      → UsePasses H (λ G D c r C. useE G D c r (λ E r'. C (make E) r')) Γ t' b
  use_one_passes useE t t' b make keeps uses Δ ns rs C G K =
      uses Δ ns rs (λ E r'. C (make E) r') G (λ rs' E e l h. K rs' (make E) e l (keeps ns rs' E h))

  pub use_two_passes : (useE useF : Use) (t₁ t₂ t' : DataType) (b₁ b₂ : ℕ) (make : Expression → Expression → Expression)
      → ((ns rs : List ℕ) (E F : Expression)
      → ReadsPass (input_cells_of H) ns rs E t₁ → ReadsPass (input_cells_of H) ns rs F t₂
      → ReadsPass (input_cells_of H) ns rs (make E F) t')
      → UsePasses H useE Γ t₁ b₁ → UsePasses H useF Γ t₂ b₂
      → UsePasses H (λ G D c r C. useE G D c r (λ E r'. useF G D c r' (λ F r''. C (make E F) r''))) Γ t' (b₁ + b₂)
  use_two_passes useE useF t₁ t₂ t' b₁ b₂ make keeps uses₁ uses₂ Δ ns rs C G K =
      uses₁ Δ ns rs _ (scope_on G (extends_refl rs) (omega (arith, G.regions_few)))
      (λ rs₁ E e₁ l₁ h₁.
      uses₂ Δ ns rs₁ _ (scope_on G e₁ (omega (arith, G.regions_few)))
      (λ rs₂ F e₂ l₂ h₂.
      K rs₂ (make E F) (extends_trans e₁ e₂) (omega arith) (keeps ns rs₂ E F (reads_on h₁ (extends_refl ns) e₂) h₂)))

  -- in another type that the same paths lead into
  pub use_same_passes : (useE : Use) (t t' : DataType) (b : ℕ)
      → SameWithin t t' → UsePasses H useE Γ t b → UsePasses H useE Γ t' b
  use_same_passes useE t t' b same uses = use_one_passes useE t t' b (λ E. E) (λ ns rs E h. reads_same same h) uses

  pub write_same_passes : (writeE : Write) (t t' : DataType) (b : ℕ)
      → SameWithin t t' → WritePasses H writeE Γ t b → WritePasses H writeE Γ t' b
  write_same_passes writeE t t' b same writes Δ ns rs P G k = writes Δ ns rs P G (writes_same (within_sym same) k)

  pub assign_used_passes : (useE : Use) (t : DataType) (b : ℕ)
      → TypeWithin t → UsePasses H useE Γ t b
      → WritePasses H (λ G D c r P. useE G D c r (λ E r'. assign t E P c r')) Γ t b
  assign_used_passes useE t b f uses Δ ns rs P G k =
      uses Δ ns rs (λ E r'. assign t E P (length ns) r') G
      (λ rs' E e l h.
      assign_passes H t ns rs' f.0 (omega (arith, f.1, G.loops_few, G.variables_few)) h
      (writes_on k (extends_refl ns) e))

  pub use_written_passes : (writeE : Write) (t : DataType) (b : ℕ)
      → CellsWithin t → WritePasses H writeE Γ t b → UsePasses H (use_written t writeE) Γ t (suc b)
  unfolding use_written CommandPasses
  use_written_passes writeE t b f writes Δ ns rs C G K = (
    (cells_positive t f, cells_within t f),
    omega (arith, G.regions_few),
    (
      writes Δ ns (cells t ∷ rs) (Acceptor.region (length rs) t)
          (scope_on G (extends_push (cells t) rs) (omega (arith, G.regions_few))) (writes_region rs t f),
      K (cells t ∷ rs) (Expression.region (length rs) t) (extends_push (cells t) rs) (omega arith)
          (reads_region rs t f),
    ),
  )

  pub write_map_passes : (kind : LoopKind) (useA : Use) (writeB : Write) (ta tb : DataType) (ba bb : ℕ)
      → IsSeries (series_in kind) ta → CellsWithin ta → suc (length Γ) ≤ 16
      → UsePasses H useA Γ ta ba → WritePasses H writeB (element ta ∷ Γ) tb bb
      → WritePasses H (write_map kind ta useA writeB) Γ (array (array_length ta) tb) (ba + bb)
  unfolding write_map CommandPasses
  write_map_passes kind useA writeB ta tb ba bb isa f few uses writes Δ ns rs P G k =
      let n : ℕ = array_length ta in
      let i : Offset = Offset.counter (length ns) in
      let count : IsCount n = length_is_count (series_in kind) ta isa f in
      uses Δ ns rs _ (scope_on G (extends_refl rs) (omega (arith, G.regions_few)))
      (λ rs' A e l h.
      let h' : ReadsPass (input_cells_of H) ns rs' A (array n (element ta)) =
      reads_same (within_elements (series_in kind) ta isa) h in (
        rounds_in_range kind ta isa f,
        omega (arith, G.loops_few, G.variables_few),
        writes (Expression.index A i ∷ Δ) (n ∷ ns) rs' (Acceptor.index P i)
            (scope_loop n (scope_on G e (omega (arith, G.regions_few))) few
            (reads_index i (reads_on h' (extends_push n ns) (extends_refl rs')) (counter_fits n ns count)))
            (writes_index i (writes_on k (extends_push n ns) e) (counter_fits n ns count)),
      ))

  -- One round of a reduction, the total being the innermost region: its body is written there or into next
  module _ (writeB : Write) (e tz : DataType) (bb : ℕ) (fz : TypeWithin tz) (few : suc (suc (length Γ)) ≤ 16)
      (writes : WritePasses H writeB (tz ∷ e ∷ Γ) tz bb) (Δ : List Expression) (n : ℕ) (ns rs : List ℕ) (A : Expression)
      (G : Scope H ns rs Γ Δ (suc (suc bb))) (count : IsCount n) (h : ReadsPass (input_cells_of H) ns rs A (array n e)) where
    -- the regions: the total's, and next's
    abbrev total : List ℕ
    total = cells tz ∷ rs

    abbrev next : List ℕ
    next = cells tz ∷ total

    body_passes : (outer : List ℕ) → Extends rs (cells tz ∷ outer) → length outer ≤ suc (length rs)
        → ReadsPass (input_cells_of H) (n ∷ ns) (cells tz ∷ outer) (Expression.region (length rs) tz) tz
        → PassesUnder H (n ∷ ns) (cells tz ∷ outer)
        (body_into e tz writeB Γ Δ (length ns) (length rs) A (length outer))
    body_passes outer ext long reads =
        let i : Offset = Offset.counter (length ns) in
        writes (Expression.region (length rs) tz ∷ Expression.index A i ∷ Δ) (n ∷ ns) (cells tz ∷ outer)
        (Acceptor.region (length outer) tz)
        (scope_push
        (scope_loop n (scope_on G ext (omega (arith, G.regions_few))) (omega arith)
        (reads_index i (reads_on h (extends_push n ns) ext) (counter_fits n ns count)))
        few reads)
        (writes_region outer tz fz.0)

    round_passes : (direct : Bool)
        → PassesUnder H (n ∷ ns) total
        (cond direct (body_into e tz writeB Γ Δ (length ns) (length rs) A (length rs))
        (round_by_next e tz writeB Γ Δ (length ns) (length rs) A))
    unfolding CommandPasses
    round_passes true = body_passes rs (extends_push (cells tz) rs) (omega arith) (reads_region rs tz fz.0)
    round_passes false = (
      (cells_positive tz fz.0, cells_within tz fz.0),
      omega (arith, G.regions_few),
      (
        body_passes total (extends_trans (extends_push (cells tz) rs) (extends_push (cells tz) total)) (omega arith)
            (reads_on (reads_region rs tz fz.0) (extends_refl (n ∷ ns)) (extends_push (cells tz) total)),
        assign_passes H tz (n ∷ ns) next fz.0 (omega (arith, fz.1, G.loops_few, few)) (reads_region total tz fz.0)
            (writes_on (writes_region rs tz fz.0) (extends_refl (n ∷ ns)) (extends_push (cells tz) total)),
      ),
    )

  pub use_reduce_passes : (useA useZ : Use) (writeB : Write) (ta tz : DataType) (ba bz bb : ℕ)
      → IsArray ta → CellsWithin ta → TypeWithin tz → suc (suc (length Γ)) ≤ 16
      → UsePasses H useA Γ ta ba → UsePasses H useZ Γ tz bz → WritePasses H writeB (tz ∷ element ta ∷ Γ) tz bb
      → UsePasses H (use_reduce ta tz useA useZ writeB) Γ tz (suc (suc (ba + bz + bb)))
  unfolding use_reduce CommandPasses
  use_reduce_passes useA useZ writeB ta tz ba bz bb isa fa fz few usesA usesZ writes Δ ns rs C G K =
      let n : ℕ = array_length ta in
      let count : IsCount n = length_is_count Series.arrays ta isa fa in
      let cellsCount : IsCount (cells tz) = (cells_positive tz fz.0, cells_within tz fz.0) in
      usesA Δ ns rs _ (scope_on G (extends_refl rs) (omega (arith, G.regions_few)))
      (λ rs₁ A e₁ l₁ h₁.
      usesZ Δ ns rs₁ _ (scope_on G e₁ (omega (arith, G.regions_few)))
      (λ rs₂ Z e₂ l₂ h₂.
      let total : List ℕ = cells tz ∷ rs₂ in
      let h : ReadsPass (input_cells_of H) ns rs₂ A (array n (element ta)) =
      reads_on (subst (λ (t : DataType). ReadsPass (input_cells_of H) ns rs₁ A t) isa h₁) (extends_refl ns) e₂ in
      let startPasses : PassesUnder H ns total
      (assign tz Z (Acceptor.region (length rs₂) tz) (length ns) (length total)) =
      assign_passes H tz ns total fz.0 (omega (arith, fz.1, G.loops_few, G.variables_few))
      (reads_on h₂ (extends_refl ns) (extends_push (cells tz) rs₂)) (writes_region rs₂ tz fz.0) in (
        cellsCount,
        omega (arith, G.regions_few),
        (
          startPasses,
          (
            (
              count,
              omega (arith, G.loops_few, G.variables_few),
              round_passes writeB (element ta) tz bb fz few writes Δ n ns rs₂ A
                  (scope_on G (extends_trans e₁ e₂) (omega (arith, G.regions_few))) count h (is_number tz),
            ),
            K total (Expression.region (length rs₂) tz)
                (extends_trans e₁ (extends_trans e₂ (extends_push (cells tz) rs₂))) (omega arith)
                (reads_region rs₂ tz fz.0),
          ),
        ),
      )))
