-- Reductions are used orderly: the rounds come one after the other, and what is written is inside the reduction's room.
use Rattle.std.specs.Prelude.{◌≡◌, Bool, true, false, cond, List, ◌∷◌, length}
use Rattle.std.proofs.Math.Path.{refl, subst}
use Rattle.std.proofs.Common.{sym, ◌∙◌, true≢false, inl, inr, ⊎_elim, arith}
use Prim.Native.Nat.{ℕ, suc, ◌+◌, ◌<◌}
use Rattle.meaning.specs.Types.{DataType, is_number, cells, array_length, element, array}
use Rattle.meaning.specs.Terms.{LoopKind}
use Rattle.meaning.specs.Loops.{Offset, Command, seq, loop, new}
use Rattle.meaning.specs.Layout.{room, first_room, second_room, round_room, region_room, body_room}
use Rattle.meaning.specs.Expressions.{Expression, Acceptor}
use Rattle.meaning.specs.Translation.{assign, Write, Use, body_into, round_by_next, reduce_round, use_reduce}
use Rattle.meaning.proofs.Laws.Typing.{IsArray}
use Rattle.meaning.proofs.Laws.Layout.{Inside, Outside, Part, part_trans, inside_part, outside_part, apart_outside}
use Rattle.meaning.proofs.Laws.Layout.{first_inside, second_inside, round_inside, region_inside, body_inside, region_apart}
use Rattle.meaning.proofs.Laws.Paths.{cell_of}
use Rattle.meaning.proofs.Laws.Levels.{Extends, extends_refl, extends_trans, extends_push}
use Rattle.meaning.proofs.Laws.Holds.{Setting, environment, CellSet, RegionIs, innermost_counter, innermost_region}
use Rattle.meaning.proofs.Laws.Holds.{region_extends}
use Rattle.meaning.proofs.Laws.Into.{whole_inside, into_region}
use Rattle.meaning.proofs.Laws.Regions.{Added}
use Rattle.meaning.proofs.Laws.Layout.{outside_too}
use Rattle.mixing.proofs.Laws.ReadsOnly.{ReadsOnly, reads_on, reads_index, reads_region}
use Rattle.mixing.proofs.Laws.Orderly.{Orderly, orderly_seq, orderly_new, orderly_for, assign_orderly}
use Rattle.mixing.proofs.Laws.OrderlyClaims.{Footing, footing_on, footing_push, Allows, allows_part, UsesOrderly}
use Rattle.mixing.proofs.Laws.OrderlyClaims.{WritesOrderly, handed_both, footing_after, allows_after, handed_region}

-- A round: A reads the array, n elements of type e; the body writes the total's type z. The whole room is N cells from a on.
module _ (W : Setting) (L : ℕ) (writeB : Write) (Γ : List DataType) (z e : DataType)
    (writes : WritesOrderly W L writeB (z ∷ e ∷ Γ) z)
    (Δ : List Expression) (cs rs : List ℕ) (S : CellSet) (a N : ℕ) (G : Footing W cs rs S Γ Δ a N L)
    (A : Expression) (n : ℕ) (held : ReadsOnly W cs rs S A (array n e)) (Z R : CellSet) (allows : Allows S a N Z R) where
  -- the body, written into this region; and a round by next
  abbrev write_into : ℕ → Command
  write_into target = body_into e z writeB Γ Δ (length cs) (length rs) A target

  abbrev by_next : Command
  by_next = round_by_next e z writeB Γ Δ (length cs) (length rs) A

  -- Round i, the total being in its region at b.
  module _ (b i : ℕ) (whole : Part b (cells z) a N) (li : i < n) where
    -- The body is written into the innermost region, at q, which is the total's or another, in a room from r on. The
    -- room is apart from the total and from q; where the total is no number, so is q from all that is read.
    body_orderly : (q : ℕ) (outer : List ℕ) (r : ℕ)
        → Extends rs (q ∷ outer) → RegionIs (q ∷ outer) (length rs) b → Part q (cells z) a N
        → Part r (room (write_into (length outer))) a N
        → ((x : ℕ) → Inside b (cells z) x → Outside r (room (write_into (length outer))) x)
        → ((x : ℕ) → Inside q (cells z) x → Outside r (room (write_into (length outer))) x)
        → (is_number z ≡ false → (x : ℕ) → Added S b (cells z) x → Outside q (cells z) x)
        → Orderly Z R (write_into (length outer)) (environment W (i ∷ cs) (q ∷ outer)) r
    body_orderly q outer r more total-is target-part inner total-outside target-outside apart =
        let i₀ : Offset = Offset.counter (length cs) in
        writes (Expression.region (length rs) z ∷ Expression.index A i₀ ∷ Δ) (i ∷ cs) (q ∷ outer) (Added S b (cells z)) r
        (Acceptor.region (length outer) z) (λ p. q + cell_of z p) Z R
        (footing_push
        (footing_push
        (footing_on G (extends_push i cs) more (λ x sx. inl sx)
        (λ x. ⊎_elim (λ sx. outside_part inner (G.free x sx)) (λ h. total-outside x h))
        (omega (arith, inner.below, G.fits)))
        (reads_index i₀ i (reads_on held (extends_push i cs) more (λ x sx. inl sx)) (innermost_counter i cs) li))
        (reads_region (length rs) b total-is (λ p ok. inr (whole_inside b z p ok))))
        (into_region (length outer) q z (innermost_region q outer) (omega (arith, target-part.below, G.fits)) apart)
        (λ p ok. target-outside (q + cell_of z p) (whole_inside q z p ok))
        (allows_part allows inner (λ x. ⊎_elim (λ sx. inl sx) (λ h. inr (inside_part whole h))))
        (λ p ok. allows.room_written (q + cell_of z p) (inside_part target-part (whole_inside q z p ok)))

    -- By next: the body is written into a region of its own, and that is assigned to the total.
    next_orderly : (r : ℕ) → Part r (room by_next) a N
        → ((x : ℕ) → Inside b (cells z) x → Outside r (room by_next) x)
        → Orderly Z R by_next (environment W (i ∷ cs) (b ∷ rs)) r
    next_orderly r inner apart =
        let w : Command = write_into (suc (length rs)) in
        let d : Command =
        assign z (Expression.region (suc (length rs)) z) (Acceptor.region (length rs) z) (suc (length cs))
        (suc (suc (length rs))) in
        let q : ℕ = region_room r (cells z) (seq w d) in
        let body : ℕ = body_room r (cells z) (seq w d) in
        let one : ℕ = first_room body w d in
        let next : Part q (cells z) r (room by_next) = region_inside r (cells z) (seq w d) in
        let first : Part one (room w) body (room (seq w d)) = first_inside body w d in
        let write : Part one (room w) r (room by_next) = part_trans first (body_inside r (cells z) (seq w d)) in
        let total : RegionIs (q ∷ b ∷ rs) (length rs) b =
        region_extends (length rs) b (innermost_region b rs) (extends_push q (b ∷ rs)) in
        orderly_new
        (orderly_seq
        (body_orderly q (b ∷ rs) one (extends_trans (extends_push b rs) (extends_push q (b ∷ rs))) total
        (part_trans next inner) (part_trans write inner) (λ x h. outside_part write (apart x h))
        (λ x h. outside_part first (apart_outside (region_apart r (cells z) (seq w d)) h))
        (λ not x. ⊎_elim (λ sx. outside_part (part_trans next inner) (G.free x sx)) (λ h. outside_part next (apart x h))))
        (assign_orderly z {W = W} {cs = i ∷ cs} {rs = q ∷ b ∷ rs} {S = Inside q (cells z)} {L = L} (second_room body w d)
        (reads_region (suc (length rs)) q (innermost_region q (b ∷ rs)) (λ p ok. whole_inside q z p ok))
        (into_region (length rs) b z total (omega (arith, whole.below, G.fits))
        (λ not x h. outside_too apart x (inside_part next h)))
        (λ p ok. allows.room_written (b + cell_of z p) (inside_part whole (whole_inside b z p ok)))
        (λ x h. allows.room_read x (inside_part (part_trans next inner) h))))

    -- Both: `direct` says whether the total is a number, and then the body is written into the total itself.
    round_orderly : (direct : Bool) → is_number z ≡ direct
        → (r : ℕ) → Part r (room (cond direct (write_into (length rs)) by_next)) a N
        → ((x : ℕ) → Inside b (cells z) x → Outside r (room (cond direct (write_into (length rs)) by_next)) x)
        → Orderly Z R (cond direct (write_into (length rs)) by_next) (environment W (i ∷ cs) (b ∷ rs)) r
    round_orderly true is r inner apart =
        body_orderly b rs r (extends_push b rs) (innermost_region b rs) whole inner apart apart
        (λ not. absurd (true≢false (sym is ∙ not)))
    round_orderly false is r inner apart = next_orderly r inner apart

-- [6.14] The whole reduction: its array used, then its start; the start assigned, the rounds, and then the continuation.
module _ {W : Setting} {L : ℕ} {Γ : List DataType} where
  pub use_reduce_orderly : (useA useZ : Use) (writeB : Write) (ta tz : DataType)
      → IsArray ta → UsesOrderly W L useA Γ ta → UsesOrderly W L useZ Γ tz
      → WritesOrderly W L writeB (tz ∷ element ta ∷ Γ) tz
      → UsesOrderly W L (use_reduce ta tz useA useZ writeB) Γ tz
  unfolding use_reduce
  use_reduce_orderly useA useZ writeB ta tz isa usesA usesZ writes Δ cs rs S a C Z R G A K =
      let n : ℕ = array_length ta in
      usesA Δ cs rs S a _ Z R G A
      (λ rs₁ S₁ a₁ E H₁.
      usesZ Δ cs rs₁ S₁ a₁ _ Z R (footing_after G H₁) (allows_after A H₁)
      (λ rs₂ S₂ a₂ F H₂.
      let round : Command = reduce_round (element ta) tz writeB Γ Δ (length cs) (length rs₂) E in
      let start : Command = assign tz F (Acceptor.region (length rs₂) tz) (length cs) (suc (length rs₂)) in
      let rounds : Command = loop LoopKind.sequential n round in
      let d : Command = C (Expression.region (length rs₂) tz) (suc (length rs₂)) in
      let body : Command = seq start (seq rounds d) in
      let N : ℕ = room (new (cells tz) body) in
      let b : ℕ = region_room a₂ (cells tz) body in
      let inner : ℕ = body_room a₂ (cells tz) body in
      let after : ℕ = second_room inner start (seq rounds d) in
      let region : Part b (cells tz) a₂ N = region_inside a₂ (cells tz) body in
      let bodyPart : Part inner (room body) a₂ N = body_inside a₂ (cells tz) body in
      let rest : Part after (room (seq rounds d)) inner (room body) = second_inside inner start (seq rounds d) in
      let roundPart : (i : ℕ) → i < n
      → Part (round_room (first_room after rounds d) LoopKind.sequential n round i) (room round) inner (room body) =
      λ i l.
      part_trans (round_inside (first_room after rounds d) LoopKind.sequential n round i l)
      (part_trans (first_inside after rounds d) rest) in
      let G₂ : Footing W cs rs₂ S₂ Γ Δ a₂ N L = footing_after (footing_after G H₁) H₂ in
      let A₂ : Allows S₂ a₂ N Z R = allows_after (allows_after A H₁) H₂ in
      let held : ReadsOnly W cs rs₂ S₂ E (array n (element ta)) =
      subst (λ t. ReadsOnly W cs rs₂ S₂ E t) isa
      (reads_on H₁.reads (extends_refl cs) H₂.extends H₂.more) in
      orderly_new
      (orderly_seq
      (assign_orderly tz {cs = cs} {rs = b ∷ rs₂} {S = S₂} {L = L} (first_room inner start (seq rounds d))
      (reads_on H₂.reads (extends_refl cs) (extends_push b rs₂) (λ x sx. sx))
      (into_region (length rs₂) b tz (innermost_region b rs₂) (omega (arith, region.below, G₂.fits))
      (λ not x sx. outside_part region (G₂.free x sx)))
      (λ p ok. A₂.room_written (b + cell_of tz p) (inside_part region (whole_inside b tz p ok)))
      A₂.relied)
      (orderly_seq
      (orderly_for
      (λ i l.
      round_orderly W L writeB Γ tz (element ta) writes Δ cs rs₂ S₂ a₂ N G₂ E n held Z R A₂ b i region l (is_number tz) refl
      (round_room (first_room after rounds d) LoopKind.sequential n round i) (part_trans (roundPart i l) bodyPart)
      (λ x h. outside_part (roundPart i l) (apart_outside (region_apart a₂ (cells tz) body) h))))
      (K (b ∷ rs₂) (Added S₂ b (cells tz)) (second_room after rounds d) (Expression.region (length rs₂) tz)
      (handed_both H₁
      (handed_both H₂
      (handed_region tz region bodyPart (region_apart a₂ (cells tz) body)
      (part_trans (second_inside after rounds d) rest) G₂.free))))))))
