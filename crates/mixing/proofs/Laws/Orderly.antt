-- Commands whose steps keep to given cells and that have no races: how they are made of their parts; assignments.
use Rattle.std.specs.Prelude.{◌≡◌, refl, ◌≢◌, List, [], ◌∷◌, ℕ, suc, ◌<◌, length}
use Rattle.std.proofs.Common.{sym, ap, ◌∙◌, subst}
use native.Mathlib.Omega.{arith}
use Rattle.meaning.specs.Types.{DataType, number, array, vector}
use Rattle.meaning.specs.Terms.{LoopKind}
use Rattle.meaning.specs.Loops.{Offset, Command, seq, loop, new}
use Rattle.meaning.specs.Layout.{first_room, second_room, round_room, region_room, body_room}
use Rattle.meaning.specs.Runs.{Environment, with_counter, with_region}
use Rattle.meaning.specs.Paths.{Path, head_index, index, first, second}
use Rattle.meaning.specs.Expressions.{Expression, Acceptor}
use Rattle.meaning.specs.Offsets.{read_at, write_at}
use Rattle.meaning.specs.Limits.{Touches}
use Rattle.meaning.specs.Translation.{assign_number, assign}
use Rattle.meaning.proofs.Laws.Paths.{PathOf, same_vector}
use Rattle.meaning.proofs.Laws.Levels.{extends_refl, extends_push, place_from_innermost_holds}
use Rattle.meaning.proofs.Laws.Holds.{Setting, environment, CellSet, innermost_counter}
use Rattle.meaning.proofs.Laws.Into.{Into, into_on, into_same, into_index, into_first, into_second}
use Rattle.mixing.specs.Races.{TouchesNot, WritesNot, RoundsApart, WithoutRaces}
use Rattle.mixing.proofs.Laws.Independence.{touches_more}
use Rattle.mixing.proofs.Laws.ReadsOnly.{ReadsOnly, reads_on, reads_from_innermost, reads_index, reads_first}
use Rattle.mixing.proofs.Laws.ReadsOnly.{reads_second, reads_only_same}

-- The command writes cells of Z and reads cells of R only, and has no races.
pub record Orderly (Z R : CellSet) (c : Command) (ρ : Environment) (a : ℕ) : Type 0 where
  pub touches : Touches Z R c ρ a
  pub without_races : WithoutRaces c ρ a

pub orderly_more : {Z R Z' R' : CellSet} {c : Command} {ρ : Environment} {a : ℕ}
    → ((x : ℕ) → Z x → Z' x) → ((x : ℕ) → R x → R' x) → Orderly Z R c ρ a → Orderly Z' R' c ρ a
orderly_more {c = c} {ρ = ρ} {a = a} f g h =
    record { touches = touches_more f g c ρ a h.touches; without_races = h.without_races }

-- no cell is in both
abbrev pub Disjoint : CellSet → CellSet → Type 0
Disjoint S T = (x : ℕ) → S x → T x → ⊥

-- a loop whose rounds have no races and are apart
rounds_without_races : (kind : LoopKind) (n : ℕ) (b : Command) (ρ : Environment) (a : ℕ)
    → ((i : ℕ) → i < n → WithoutRaces b (with_counter i ρ) (round_room a kind n b i)) → RoundsApart kind n b ρ a
    → WithoutRaces (loop kind n b) ρ a
unfolding WithoutRaces
rounds_without_races LoopKind.parallel n b ρ a h apart = (h, apart)
rounds_without_races LoopKind.sequential n b ρ a h apart = h
rounds_without_races LoopKind.lanes n b ρ a h apart = (h, apart)

module _ {Z R : CellSet} {ρ : Environment} {a : ℕ} where
  pub orderly_seq : {c d : Command}
      → Orderly Z R c ρ (first_room a c d) → Orderly Z R d ρ (second_room a c d) → Orderly Z R (seq c d) ρ a
  unfolding Touches WithoutRaces
  orderly_seq h k =
      record { touches = (h.touches, k.touches); without_races = (h.without_races, k.without_races) }

  pub orderly_new : {n : ℕ} {b : Command}
      → Orderly Z R b (with_region (region_room a n b) ρ) (body_room a n b) → Orderly Z R (new n b) ρ a
  unfolding Touches WithoutRaces
  orderly_new h = record { touches = h.touches; without_races = h.without_races }

  pub orderly_for : {n : ℕ} {b : Command}
      → ((i : ℕ) → i < n → Orderly Z R b (with_counter i ρ) (round_room a LoopKind.sequential n b i))
      → Orderly Z R (loop LoopKind.sequential n b) ρ a
  unfolding Touches WithoutRaces
  orderly_for h = record { touches = λ i l. (h i l).touches; without_races = λ i l. (h i l).without_races }

  -- each round of a loop keeps to cells of its own, and what it writes the others neither write nor read
  pub orderly_own : (kind : LoopKind) {n : ℕ} {b : Command} (Zs Rs : ℕ → CellSet)
      → ((i : ℕ) → i < n → Orderly (Zs i) (Rs i) b (with_counter i ρ) (round_room a kind n b i))
      → ((i j : ℕ) → i < n → j < n → i ≢ j → Disjoint (Zs i) (Zs j))
      → ((i j : ℕ) → i < n → j < n → i ≢ j → Disjoint (Zs i) (Rs j))
      → ((i : ℕ) → i < n → (x : ℕ) → Zs i x → Z x)
      → ((i : ℕ) → i < n → (x : ℕ) → Rs i x → R x)
      → Orderly Z R (loop kind n b) ρ a
  unfolding Touches WithoutRaces
  orderly_own kind {n} {b} Zs Rs h zz zr z r = record {
    touches = λ i l. (orderly_more (z i l) (r i l) (h i l)).touches;
    without_races =
        rounds_without_races kind n b ρ a (λ i l. (h i l).without_races)
        (λ i j lij lj.
        let li : i < n = omega arith in
        let other : Touches (Zs j) (Rs j) b (with_counter j ρ) (round_room a kind n b j) = (h j lj).touches in
        touches_more
        {Z = Zs i}
        {R = Rs i}
        {Z' = λ x. TouchesNot x b (with_counter j ρ) (round_room a kind n b j)}
        {R' = λ x. WritesNot x b (with_counter j ρ) (round_room a kind n b j)}
        (λ x w.
        touches_more
        {Z = Zs j}
        {R = Rs j}
        {Z' = λ y. y ≢ x}
        {R' = λ y. y ≢ x}
        (λ y q e. zz i j li lj (λ k. omega arith) x w (subst (Zs j) e q))
        (λ y q e. zr i j li lj (λ k. omega arith) x w (subst (Rs j) e q))
        b (with_counter j ρ) (round_room a kind n b j) other)
        (λ x w.
        touches_more
        {Z = Zs j}
        {R = Rs j}
        {Z' = λ y. y ≢ x}
        {R' = λ y. Unit {0}}
        (λ y q e. zr j i lj li (λ k. omega arith) x (subst (Zs j) e q) w) (λ y q. tt)
        b (with_counter j ρ) (round_room a kind n b j) other)
        b (with_counter i ρ) (round_room a kind n b i) (h i li).touches);
  }

-- the cells of a value of type t that lie at g
abbrev pub CellsAt : DataType → (Path ℕ → ℕ) → CellSet
CellsAt t g x = (p : Path ℕ) × PathOf t p × (g p ≡ x)

-- two elements of an array have no cell in common
pub elements_apart : (n : ℕ) (t : DataType) (g : Path ℕ → ℕ)
    → ((p r : Path ℕ) → PathOf (array n t) p → PathOf (array n t) r → g p ≡ g r → p ≡ r)
    → (i j : ℕ) → i < n → j < n → i ≢ j
    → Disjoint (CellsAt t (λ p. g (index i ∷ p))) (CellsAt t (λ p. g (index j ∷ p)))
elements_apart n t g distinct i j li lj ne x h k =
    ne
    (ap (head_index 0)
    (distinct (index i ∷ h.0) (index j ∷ k.0) (li, h.1) (lj, k.1) (h.2 ∙ sym k.2)))

-- An assignment reads what its expression reads, and writes its place: of a number, of the elements of an array or a vector, of any type.
set_orderly : {W : Setting} {E : Expression} {P : Acceptor} {g : Path ℕ → ℕ} {cs rs : List ℕ} {S : CellSet} {L : ℕ}
    {Z R : CellSet} (a : ℕ)
    → ReadsOnly W cs rs S E number → Into W cs rs P number g S L
    → ((p : Path ℕ) → PathOf number p → Z (g p)) → ((x : ℕ) → S x → R x)
    → Orderly Z R (assign_number E P (length cs) (length rs)) (environment W cs rs) a
unfolding Touches WithoutRaces
set_orderly {W} {E} {P} {g} {cs} {rs} {S} {L} {Z} {R} a h k into sub = record {
  touches = (
    subst Z
        (sym
        (place_from_innermost_holds W.out cs rs (write_at P []) ∙ k.lies cs rs (extends_refl cs) (extends_refl rs) [] tt))
        (into [] tt),
    reads_from_innermost R W.bases cs rs (read_at E [])
        ((reads_on h (extends_refl cs) (extends_refl rs) sub).read cs rs (extends_refl cs) (extends_refl rs) [] tt),
  );
  without_races = tt;
}

-- `body` assigns the element that the innermost counter names
elements_orderly : (kind : LoopKind) (n : ℕ) (t : DataType) {W : Setting} {E : Expression} {P : Acceptor}
    {g : Path ℕ → ℕ} {cs rs : List ℕ} {S : CellSet} {L : ℕ} {Z R : CellSet} (a : ℕ) (body : Command)
    → ((i : ℕ) → i < n
    → ReadsOnly W (i ∷ cs) rs S (Expression.index E (Offset.counter (length cs))) t
    → Into W (i ∷ cs) rs (Acceptor.index P (Offset.counter (length cs))) t (λ p. g (index i ∷ p)) S L
    → Orderly (CellsAt t (λ p. g (index i ∷ p))) S body (environment W (i ∷ cs) rs) (round_room a kind n body i))
    → ReadsOnly W cs rs S E (array n t) → Into W cs rs P (array n t) g S L
    → ((p : Path ℕ) → PathOf (array n t) p → Z (g p)) → ((x : ℕ) → S x → R x)
    → Orderly Z R (loop kind n body) (environment W cs rs) a
elements_orderly kind n t {W} {E} {P} {g} {cs} {rs} {S} {L} {Z} {R} a body each h k into sub =
    let c : Offset = Offset.counter (length cs) in
    orderly_own kind {n = n} {b = body} (λ i. CellsAt t (λ p. g (index i ∷ p))) (λ i. S)
    (λ i l.
    each i l
    (reads_index c i (reads_on h (extends_push i cs) (extends_refl rs) (λ x sx. sx)) (innermost_counter i cs) l)
    (into_index c i (innermost_counter i cs) l
    (into_on k (extends_push i cs) (extends_refl rs) (omega arith) k.apart)))
    (elements_apart n t g k.distinct)
    (λ i j li lj ne x h' sx. k.apart refl x sx (index i ∷ h'.0) (li, h'.1) h'.2)
    (λ i l x q. subst Z q.2 (into (index i ∷ q.0) (l, q.1)))
    (λ i l x sx. sub x sx)

pub assign_orderly : (t : DataType) {W : Setting} {E : Expression} {P : Acceptor} {g : Path ℕ → ℕ} {cs rs : List ℕ}
    {S : CellSet} {L : ℕ} {Z R : CellSet} (a : ℕ)
    → ReadsOnly W cs rs S E t → Into W cs rs P t g S L
    → ((p : Path ℕ) → PathOf t p → Z (g p)) → ((x : ℕ) → S x → R x)
    → Orderly Z R (assign t E P (length cs) (length rs)) (environment W cs rs) a
unfolding assign Touches WithoutRaces
assign_orderly number {cs = cs} a h k into sub = set_orderly {cs = cs} a h k into sub
assign_orderly (array n t) {W} {E} {P} {g} {cs} {rs} {S} {L} a h k into sub =
    let c : Offset = Offset.counter (length cs) in
    let body : Command = assign t (Expression.index E c) (Acceptor.index P c) (suc (length cs)) (length rs) in
    elements_orderly LoopKind.parallel n t {cs = cs} a body
    (λ i l h' k'.
    assign_orderly t {cs = i ∷ cs} {L = L} (round_room a LoopKind.parallel n body i) h' k' (λ p ok. (p, ok, refl))
    (λ x sx. sx))
    h k into sub
assign_orderly (DataType.pair s t) {W} {E} {P} {g} {cs} {rs} {S} {L} {Z} {R} a h k into sub =
    let c : Command = assign s (Expression.first E) (Acceptor.first P) (length cs) (length rs) in
    let d : Command = assign t (Expression.second E) (Acceptor.second P) (length cs) (length rs) in
    orderly_seq
    (assign_orderly s {cs = cs} (first_room a c d) (reads_first h) (into_first k) (λ p ok. into (first ∷ p) ok) sub)
    (assign_orderly t {cs = cs} (second_room a c d) (reads_second h) (into_second k)
    (λ p ok. into (second ∷ p) ok) sub)
assign_orderly (vector w) {W} {E} {P} {g} {cs} {rs} {S} {L} a h k into sub =
    let c : Offset = Offset.counter (length cs) in
    let body : Command = assign_number (Expression.index E c) (Acceptor.index P c) (suc (length cs)) (length rs) in
    elements_orderly LoopKind.lanes w number {cs = cs} a body
    (λ i l h' k'.
    set_orderly {cs = i ∷ cs} {L = L} (round_room a LoopKind.lanes w body i) h' k' (λ p ok. (p, ok, refl)) (λ x sx. sx))
    (reads_only_same (same_vector w) h) (into_same (same_vector w) k) (λ p ok. into p ((same_vector w).from p ok)) sub
