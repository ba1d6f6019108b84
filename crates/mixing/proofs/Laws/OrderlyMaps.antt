-- Maps are written orderly: no round of the loop touches what another writes.
use Rattle.std.specs.Prelude.{◌≡◌, refl, ◌⊎◌, ◌≢◌, List, ◌∷◌, length}
use Rattle.std.proofs.Common.{sym, subst, ⊎_elim, le_refl, arith}
use Rattle.std.proofs.Math.Logic.{inl, inr}
use Prim.Native.Nat.{ℕ, suc, ◌<◌}
use Rattle.std.proofs.Math.Decide.{dec_lt}
use Rattle.meaning.specs.Types.{DataType, array_length, element, array}
use Rattle.meaning.specs.Terms.{LoopKind}
use Rattle.meaning.specs.Loops.{Offset, Command, loop}
use Rattle.meaning.specs.Layout.{room, round_room}
use Rattle.meaning.specs.Runs.{Environment, with_counter}
use Rattle.meaning.specs.Paths.{Path, index}
use Rattle.meaning.specs.Expressions.{Expression, Acceptor}
use Rattle.meaning.specs.Translation.{Write, Use, write_map}
use Rattle.meaning.proofs.Laws.Typing.{IsArray}
use Rattle.meaning.proofs.Laws.Layout.{Inside, Outside, Part, inside_part, outside_part, apart_outside, not_both}
use Rattle.meaning.proofs.Laws.Layout.{round_inside, OwnCells, rounds_apart}
use Rattle.meaning.proofs.Laws.Paths.{PathOf, SamePaths}
use Rattle.meaning.proofs.Laws.Levels.{extends_refl, extends_push}
use Rattle.meaning.proofs.Laws.Holds.{Setting, environment, CellSet, innermost_counter}
use Rattle.meaning.proofs.Laws.Into.{NotAt, Into, into_on, into_index}
use Rattle.mixing.proofs.Laws.ReadsOnly.{ReadsOnly, reads_on, reads_only_same, reads_index}
use Rattle.mixing.proofs.Laws.Orderly.{Orderly, orderly_more, Disjoint, orderly_for, orderly_own, CellsAt, elements_apart}
use Rattle.mixing.proofs.Laws.OrderlyClaims.{Footing, footing_on, footing_part, footing_push, Allows, UsesOrderly}
use Rattle.mixing.proofs.Laws.OrderlyClaims.{WritesOrderly, footing_after, allows_after, into_after}

-- A round of the loop writes its element and its own room, and reads the cells relied on and its own room.
module _ (S Z R : CellSet) (ρ : Environment) (a n : ℕ) (b : Command) (t : DataType) (g : Path ℕ → ℕ) where
  abbrev round_writes : LoopKind → ℕ → CellSet
  round_writes kind i x = CellsAt t (λ p. g (index i ∷ p)) x ⊎ Inside (round_room a kind n b i) (room b) x

  abbrev round_reads : LoopKind → ℕ → CellSet
  round_reads kind i x = S x ⊎ Inside (round_room a kind n b i) (room b) x

  rooms_disjoint : (kind : LoopKind) → OwnCells kind → (i j : ℕ) → i ≢ j
      → Disjoint (Inside (round_room a kind n b i) (room b)) (Inside (round_room a kind n b j) (room b))
  rooms_disjoint kind own i j ne x h k = go (dec_lt i j)
    where
      go : Dec (i < j) → ⊥
      go (yes l) = not_both k (apart_outside (rounds_apart a kind own n b i j l) h)
      go (no l) = not_both h (apart_outside (rounds_apart a kind own n b j i (omega arith)) k)

  -- by the cells of its own that each round has, or as a `for`
  by_kind : (kind : LoopKind) → (OwnCells kind → Orderly Z R (loop kind n b) ρ a)
      → ((i : ℕ) → i < n → Orderly Z R b (with_counter i ρ) (round_room a kind n b i))
      → Orderly Z R (loop kind n b) ρ a
  by_kind LoopKind.parallel own rising = own tt
  by_kind LoopKind.sequential own rising = orderly_for rising
  by_kind LoopKind.lanes own rising = own tt

  loop_orderly : (kind : LoopKind)
      → ((p r : Path ℕ) → PathOf (array n t) p → PathOf (array n t) r → g p ≡ g r → p ≡ r)
      → ((p : Path ℕ) → PathOf (array n t) p → Outside a (room (loop kind n b)) (g p))
      → ((x : ℕ) → S x → NotAt (array n t) g x)
      → ((x : ℕ) → S x → Outside a (room (loop kind n b)) x)
      → Allows S a (room (loop kind n b)) Z R
      → ((p : Path ℕ) → PathOf (array n t) p → Z (g p))
      → ((i : ℕ) → i < n
      → Orderly (round_writes kind i) (round_reads kind i) b (with_counter i ρ) (round_room a kind n b i))
      → Orderly Z R (loop kind n b) ρ a
  loop_orderly kind distinct clear apart free A into each =
      by_kind kind own_cells (λ i l. orderly_more (writes_more i l) (reads_more i l) (each i l))
    where
      writes_more : (i : ℕ) → i < n → (x : ℕ) → round_writes kind i x → Z x
      writes_more i l x =
          ⊎_elim (λ q. subst Z q.2 (into (index i ∷ q.0) (l, q.1)))
          (λ h. A.room_written x (inside_part (round_inside a kind n b i l) h))

      reads_more : (i : ℕ) → i < n → (x : ℕ) → round_reads kind i x → R x
      reads_more i l x =
          ⊎_elim (λ sx. A.relied x sx) (λ h. A.room_read x (inside_part (round_inside a kind n b i l) h))

      own_cells : OwnCells kind → Orderly Z R (loop kind n b) ρ a
      own_cells own =
          -- an element's cells are outside every round's room
          let outside : (i j : ℕ) → i < n → j < n
          → Disjoint (CellsAt t (λ p. g (index i ∷ p))) (Inside (round_room a kind n b j) (room b)) =
          λ i j li lj x q h.
          not_both (subst (Inside (round_room a kind n b j) (room b)) (sym q.2) h)
          (outside_part (round_inside a kind n b j lj) (clear (index i ∷ q.0) (li, q.1))) in
          orderly_own kind (round_writes kind) (round_reads kind) each
          (λ i j li lj ne x.
          ⊎_elim
          (λ q. ⊎_elim (λ q'. elements_apart n t g distinct i j li lj ne x q q') (λ h. outside i j li lj x q h))
          (λ h. ⊎_elim (λ q. outside j i lj li x q h) (λ k. rooms_disjoint kind own i j ne x h k)))
          (λ i j li lj ne x.
          ⊎_elim
          (λ q.
          ⊎_elim (λ sx. apart x sx (index i ∷ q.0) (li, q.1) q.2) (λ h. outside i j li lj x q h))
          (λ h.
          ⊎_elim
          (λ sx. not_both h (outside_part (round_inside a kind n b i li) (free x sx)))
          (λ k. rooms_disjoint kind own i j ne x h k)))
          writes_more
          reads_more

module _ {W : Setting} {L : ℕ} {Γ : List DataType} where
  pub write_map_orderly : (kind : LoopKind) (useA : Use) (writeB : Write) (ta tb : DataType)
      → SamePaths ta (array (array_length ta) (element ta)) → UsesOrderly W L useA Γ ta
      → WritesOrderly W L writeB (element ta ∷ Γ) tb
      → WritesOrderly W L (write_map kind ta useA writeB) Γ (array (array_length ta) tb)
  unfolding write_map
  write_map_orderly kind useA writeB ta tb same uses writes Δ cs rs S a P g Z R G I clear A into =
      let n : ℕ = array_length ta in
      let i₀ : Offset = Offset.counter (length cs) in
      let body : Expression → ℕ → Command =
      λ E r'. writeB (element ta ∷ Γ) (Expression.index E i₀ ∷ Δ) (suc (length cs)) r' (Acceptor.index P i₀) in
      uses Δ cs rs S a (λ E r'. loop kind n (body E r')) Z R G A
      (λ rs' S' a' E H.
      let b : Command = body E (length rs') in
      let I' : Into W cs rs' P (array n tb) g S' L = into_after I clear H in
      let G' : Footing W cs rs' S' Γ Δ a' (room (loop kind n b)) L = footing_after G H in
      let h : ReadsOnly W cs rs' S' E (array n (element ta)) = reads_only_same same H.reads in
      let clear' : (p : Path ℕ) → PathOf (array n tb) p → Outside a' (room (loop kind n b)) (g p) =
      λ p ok. outside_part H.part (clear p ok) in
      loop_orderly S' Z R (environment W cs rs') a' n b tb g kind I'.distinct clear' (I'.apart refl) G'.free
      (allows_after A H) into
      (λ i l.
      let round : Part (round_room a' kind n b i) (room b) a' (room (loop kind n b)) = round_inside a' kind n b i l in
      writes (Expression.index E i₀ ∷ Δ) (i ∷ cs) rs' S' (round_room a' kind n b i) (Acceptor.index P i₀)
      (λ p. g (index i ∷ p)) _ _
      (footing_push
      (footing_part
      (footing_on G' (extends_push i cs) (extends_refl rs') (λ x sx. sx) G'.free G'.fits)
      round)
      (reads_index i₀ i (reads_on h (extends_push i cs) (extends_refl rs') (λ x sx. sx)) (innermost_counter i cs) l))
      (into_index i₀ i (innermost_counter i cs) l
      (into_on I' (extends_push i cs) (extends_refl rs') (le_refl L) I'.apart))
      (λ p ok. outside_part round (clear' (index i ∷ p) (l, ok)))
      (record { room_written = λ x q. inr q; room_read = λ x q. inr q; relied = λ x sx. inl sx })
      (λ p ok. inl (p, ok, refl))))
