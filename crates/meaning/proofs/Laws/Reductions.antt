-- Reductions are used rightly: the total's region, the start's assignment, the rounds, and then the continuation.
use Rattle.std.specs.Prelude.{◌≡◌, refl, List, ◌∷◌, ℕ, suc, ◌+◌, ◌*◌, ◌<◌, length}
use Rattle.std.proofs.Common.{sym, subst, arith}
use Rattle.meaning.specs.Types.{DataType, cells, array_length, element, array}
use Rattle.meaning.specs.Terms.{LoopKind}
use Rattle.meaning.specs.Sequence.{up_from, in_turn}
use Rattle.meaning.specs.Loops.{Command, seq, loop, new}
use Rattle.meaning.specs.Layout.{room, first_room, second_room, round_room, region_room, body_room}
use Rattle.meaning.specs.Runs.{Orders, run}
use Rattle.meaning.specs.Expressions.{Expression, Acceptor}
use Rattle.meaning.specs.Translation.{assign, Write, Use, reduce_round, use_reduce}
use Rattle.meaning.specs.Counts.{round_writes, reduce_writes}
use Rattle.meaning.proofs.Laws.Typing.{IsArray}
use Rattle.meaning.proofs.Laws.Layout.{Inside, Outside, Part, part_trans, outside_part, apart_outside}
use Rattle.meaning.proofs.Laws.Layout.{outside_none, first_inside, second_inside, round_inside, region_inside}
use Rattle.meaning.proofs.Laws.Layout.{body_inside, region_apart}
use Rattle.meaning.proofs.Laws.Levels.{extends_refl, extends_push}
use Rattle.meaning.proofs.Laws.Holds.{Setting, StateOf, Contents, environment, CellSet, Holds, innermost_region}
use Rattle.meaning.proofs.Laws.Holds.{holds_on}
use Rattle.meaning.proofs.Laws.Into.{whole_apart, into_region}
use Rattle.meaning.proofs.Laws.Assign.{assign_wrote}
use Rattle.meaning.proofs.Laws.Claims.{Precondition, AfterUse, UsesRightly, WritesRightly, after_writes}
use Rattle.meaning.proofs.Laws.Claims.{after_both, precondition_after, holds_after}
use Rattle.meaning.proofs.Laws.Regions.{Added, region_after_use}
use Rattle.meaning.proofs.Laws.Totals.{reduced, Totalled, total_rounds}

-- A reduction once array and start are used: A holds the array, n elements of type e, and Z the start, of type z.
-- The whole command's room, N cells from a on, is that of a `new` of the total around assigning the start, the
-- rounds, and d.
module _ (W : Setting) (writeB : Write) (Γ : List DataType) (z e : DataType) (kb : ℕ)
    (Fb : List (Contents W) → Contents W) (writes : WritesRightly W writeB (z ∷ e ∷ Γ) z kb Fb)
    (Δ : List Expression) (env : List (Contents W)) (cs rs : List ℕ) (S : CellSet) (a N : ℕ) (st : StateOf W)
    (G : Precondition W cs rs st.store S Γ Δ env a N)
    (A : Expression) (n : ℕ) (fa : Contents W) (held : Holds W cs rs st.store S A (array n e) fa) where
  -- the commands
  abbrev round : Command
  round = reduce_round e z writeB Γ Δ (length cs) (length rs) A

  abbrev rounds : Command
  rounds = loop LoopKind.sequential n round

  abbrev assign_start : Expression → Command
  assign_start Z = assign z Z (Acceptor.region (length rs) z) (length cs) (suc (length rs))

  abbrev body : Expression → Command → Command
  body Z d = seq (assign_start Z) (seq rounds d)

  module _ (Z : Expression) (fz : Contents W) (hz : Holds W cs rs st.store S Z z fz)
      (d : Command) (whole : N ≡ room (new (cells z) (body Z d))) where
    -- the total's region, and where the rooms of the body, of the rounds and of d begin
    abbrev b : ℕ
    b = region_room a (cells z) (body Z d)

    abbrev inner : ℕ
    inner = body_room a (cells z) (body Z d)

    abbrev after : ℕ
    after = second_room inner (assign_start Z) (seq rounds d)

    abbrev round_at : ℕ → ℕ
    round_at m = round_room (first_room after rounds d) LoopKind.sequential n round m

    region_part : Part b (cells z) a N
    region_part = subst (λ (m : ℕ). Part b (cells z) a m) (sym whole) (region_inside a (cells z) (body Z d))

    body_part : Part inner (room (body Z d)) a N
    body_part = subst (λ (m : ℕ). Part inner (room (body Z d)) a m) (sym whole) (body_inside a (cells z) (body Z d))

    round_part : (m : ℕ) → m < n → Part (round_at m) (room round) inner (room (body Z d))
    round_part m l =
        part_trans (round_inside (first_room after rounds d) LoopKind.sequential n round m l)
        (part_trans (first_inside after rounds d) (second_inside inner (assign_start Z) (seq rounds d)))

    onward_part : Part (second_room after rounds d) (room d) inner (room (body Z d))
    onward_part = part_trans (second_inside after rounds d) (second_inside inner (assign_start Z) (seq rounds d))

    total_apart : (x : ℕ) → Inside b (cells z) x → Outside inner (room (body Z d)) x
    total_apart x i = apart_outside (region_apart a (cells z) (body Z d)) i

    start_assigned : (ch : Orders (assign_start Z))
        → Totalled W z b a N st fz (cells z)
        (run W.domain (assign_start Z) ch (environment W cs (b ∷ rs))
        (first_room inner (assign_start Z) (seq rounds d)) st)
    start_assigned ch =
        let H =
        assign_wrote z {cs = cs} (first_room inner (assign_start Z) (seq rounds d)) 0 st
        (holds_on hz (extends_refl cs) (extends_push b rs) (λ x sx. refl) (λ x sx. sx))
        (into_region (length rs) b z (innermost_region b rs) (omega (arith, region_part.below, G.fits))
        (λ not x sx. outside_part region_part (G.free x sx)))
        ch in
        record {
          total = H.written;
          kept = λ x o. H.kept x (whole_apart b z x (outside_part region_part o)) (outside_none 0 x);
          same_length = H.same_length;
          counted = H.counted;
        }

    reduce_held : (Q : StateOf W → Type 0)
        → ((b : ℕ) (S' : CellSet) (a' : ℕ) (st' : StateOf W)
        → AfterUse W cs rs S a N st (cells z + n * round_writes z kb) (Expression.region (length rs) z) z
        (reduced W Fb env fa 0 n fz) (b ∷ rs) S' a' (room d) st'
        → (ch : Orders d) → Q (run W.domain d ch (environment W cs (b ∷ rs)) a' st'))
        → (ch : Orders (new (cells z) (body Z d)))
        → Q (run W.domain (new (cells z) (body Z d)) ch (environment W cs rs) a st)
    unfolding run
    reduce_held Q K ch =
        let st₁ : StateOf W =
        run W.domain (assign_start Z) ch.0 (environment W cs (b ∷ rs))
        (first_room inner (assign_start Z) (seq rounds d)) st in
        let st₂ : StateOf W =
        in_turn (up_from 0 n)
        (λ m. run W.domain round (ch.1.0.1 m) (environment W (m ∷ cs) (b ∷ rs)) (round_at m)) st₁ in
        let T : Totalled W z b a N st (reduced W Fb env fa 0 n fz) (cells z + n * round_writes z kb) st₂ =
        total_rounds W writeB Γ z e kb Fb writes Δ env cs rs S a N st G A n fa held b round_at region_part
        (λ m l. part_trans (round_part m l) body_part)
        (λ m l x i. outside_part (round_part m l) (total_apart x i))
        ch.1.0.1 n 0 (omega arith) fz (cells z) st₁ (start_assigned ch.0) in
        K b (Added S b (cells z)) (second_room after rounds d) st₂
        (region_after_use z region_part body_part (region_apart a (cells z) (body Z d)) onward_part G.free T.total
        T.kept T.same_length T.counted)
        ch.1.1

-- [6.14] The whole reduction: its array used, then its start, and then the above.
pub use-reduce : {W : Setting} {Γ : List DataType} (useA useZ : Use) (writeB : Write) (ta tz : DataType) (ka kz kb : ℕ)
    (Fa Fz Fb : List (Contents W) → Contents W)
    → IsArray ta → UsesRightly W useA Γ ta ka Fa → UsesRightly W useZ Γ tz kz Fz
    → WritesRightly W writeB (tz ∷ element ta ∷ Γ) tz kb Fb
    → UsesRightly W (use_reduce ta tz useA useZ writeB) Γ tz (reduce_writes ka kz tz (array_length ta) kb)
    (λ env. reduced W Fb env (Fa env) 0 (array_length ta) (Fz env))
unfolding use_reduce
use-reduce {W} {Γ} useA useZ writeB ta tz ka kz kb Fa Fz Fb isa usesA usesZ writes Δ env cs rs S a st C G Q K ch =
    usesA Δ env cs rs S a st _ G Q
    (λ rs₁ S₁ a₁ st₁ A H₁.
    usesZ Δ env cs rs₁ S₁ a₁ st₁ _ (precondition_after G H₁) Q
    (λ rs₂ S₂ a₂ st₂ Z H₂.
    reduce_held W writeB Γ tz (element ta) kb Fb writes Δ env cs rs₂ S₂ a₂ _ st₂
    (precondition_after (precondition_after G H₁) H₂) A
    (array_length ta) (Fa env)
    (subst (λ t. Holds W cs rs₂ st₂.store S₂ A t (Fa env)) isa (holds_after H₁.holds H₁.free H₂))
    Z (Fz env) H₂.holds (C (Expression.region (length rs₂) tz) (suc (length rs₂))) refl Q
    (λ b S₃ a₃ st₃ H₃.
    K (b ∷ rs₂) S₃ a₃ st₃ (Expression.region (length rs₂) tz)
    (after_writes (omega arith) (after_both H₁ (after_both H₂ H₃))))))
    ch
