-- The rounds of a reduction: after every round the total's region holds the running total.
use Rattle.std.specs.Prelude.{◌≡◌, refl, Bool, true, false, cond, List, ◌∷◌, ℕ, zero, suc, ◌+◌, ◌*◌, ◌≤◌, ◌<◌, length}
use Rattle.std.proofs.Common.{sym, ◌∙◌, true≢false, inl, inr, ⊎_elim, suc-mul, arith}
use Rattle.meaning.specs.Types.{DataType, is_number, cells, array}
use Rattle.meaning.specs.Sequence.{up_from, in_turn}
use Rattle.meaning.specs.Loops.{Offset, Command, seq}
use Rattle.meaning.specs.Layout.{room, first_room, second_room, region_room, body_room}
use Rattle.meaning.specs.Runs.{Orders, run}
use Rattle.meaning.specs.Paths.{Path}
use Rattle.meaning.specs.Expressions.{Expression, Acceptor}
use Rattle.meaning.specs.Translation.{assign, Write, body_into, round_by_next, reduce_round}
use Rattle.meaning.specs.Counts.{round_writes}
use Rattle.meaning.proofs.Laws.Layout.{Inside, Outside, Part, part_trans, inside_part, outside_part}
use Rattle.meaning.proofs.Laws.Layout.{apart_outside, outside_none, first_inside, region_inside}
use Rattle.meaning.proofs.Laws.Layout.{body_inside, region_apart}
use Rattle.meaning.proofs.Laws.Paths.{PathOf, cell_of}
use Rattle.meaning.proofs.Laws.Levels.{Extends, extends_trans, extends_push}
use Rattle.meaning.proofs.Laws.PathValues.{element_at}
use Rattle.meaning.proofs.Laws.Holds.{Setting, StateOf, Contents, cell_at, environment, CellSet, Agree, Holds}
use Rattle.meaning.proofs.Laws.Holds.{RegionIs, innermost_counter, innermost_region, region_extends, holds_on}
use Rattle.meaning.proofs.Laws.Holds.{holds_index, holds_region}
use Rattle.meaning.proofs.Laws.Into.{whole_inside, whole_apart, into_region}
use Rattle.meaning.proofs.Laws.Wrote.{Wrote}
use Rattle.meaning.proofs.Laws.Assign.{assign_wrote}
use Rattle.meaning.proofs.Laws.Claims.{Precondition, precondition_on, precondition_push, WritesRightly}
use Rattle.meaning.proofs.Laws.Regions.{Added}
use Rattle.meaning.proofs.Laws.Layout.{outside_too}

-- the value after the rounds from i on, j of them: f the total, fa the array, Fb the body's value
abbrev pub reduced : (W : Setting) → (List (Contents W) → Contents W) → List (Contents W) → Contents W → ℕ → ℕ
    → Contents W → Contents W
reduced W Fb env fa i j f = in_turn (up_from i j) (λ m total. Fb (total ∷ element_at W.domain fa m ∷ env)) f

-- The total f stands in its region at b, after k writes; what else has changed since st is among the n cells from a
-- on.
pub record Totalled (W : Setting) (z : DataType) (b a n : ℕ) (st : StateOf W) (f : Contents W) (k : ℕ)
    (st' : StateOf W) : Type 0 where
  pub total : (p : Path ℕ) → PathOf z p → cell_at W st'.store (b + cell_of z p) ≡ f p
  pub kept : (x : ℕ) → Outside a n x → cell_at W st'.store x ≡ cell_at W st.store x
  pub same_length : length st'.store ≡ length st.store
  pub counted : st'.writes ≡ st.writes + k

-- The rounds of a reduction: A holds the array, n elements of type e; the body writes the total's type z.
module _ (W : Setting) (writeB : Write) (Γ : List DataType) (z e : DataType) (kb : ℕ)
    (Fb : List (Contents W) → Contents W) (writes : WritesRightly W writeB (z ∷ e ∷ Γ) z kb Fb)
    (Δ : List Expression) (env : List (Contents W)) (cs rs : List ℕ) (S : CellSet) (a N : ℕ) (st : StateOf W)
    (G : Precondition W cs rs st.store S Γ Δ env a N)
    (A : Expression) (n : ℕ) (fa : Contents W) (held : Holds W cs rs st.store S A (array n e) fa) where
  -- the body, written into this region; a round by next; and a round
  abbrev write_into : ℕ → Command
  write_into target = body_into e z writeB Γ Δ (length cs) (length rs) A target

  abbrev by_next : Command
  by_next = round_by_next e z writeB Γ Δ (length cs) (length rs) A

  abbrev round : Command
  round = reduce_round e z writeB Γ Δ (length cs) (length rs) A

  -- Round i, on the total f in its region at b.
  module _ (b i : ℕ) (whole : Part b (cells z) a N) (li : i < n) (f : Contents W) (k : ℕ) (st₁ : StateOf W)
      (T : Totalled W z b a N st f k st₁) where
    -- the total that the round is to come to
    abbrev f' : Contents W
    f' = Fb (f ∷ element_at W.domain fa i ∷ env)

    -- The body is written into the innermost region, at q, which is the total's or another, in a room from r on. The
    -- room is apart from the total and from q; where the total is no number, so is q from all that is read.
    body_wrote : (q : ℕ) (outer : List ℕ) (r : ℕ)
        → Extends rs (q ∷ outer) → RegionIs (q ∷ outer) (length rs) b → Part q (cells z) a N
        → Part r (room (write_into (length outer))) a N
        → ((x : ℕ) → Inside b (cells z) x → Outside r (room (write_into (length outer))) x)
        → ((x : ℕ) → Inside q (cells z) x → Outside r (room (write_into (length outer))) x)
        → (is_number z ≡ false → (x : ℕ) → Added S b (cells z) x → Outside q (cells z) x)
        → (ch : Orders (write_into (length outer)))
        → Wrote W (λ p. q + cell_of z p) z f' r (room (write_into (length outer))) kb st₁
        (run W.domain (write_into (length outer)) ch (environment W (i ∷ cs) (q ∷ outer)) r st₁)
    body_wrote q outer r more total-is target-part inner total-outside target-outside apart ch =
        let stand : Agree W S st.store st₁.store = λ x sx. T.kept x (G.free x sx) in
        writes (Expression.region (length rs) z ∷ Expression.index A (Offset.counter (length cs)) ∷ Δ)
        (f ∷ element_at W.domain fa i ∷ env) (i ∷ cs) (q ∷ outer) (Added S b (cells z)) r st₁
        (Acceptor.region (length outer) z) (λ p. q + cell_of z p)
        (precondition_push
        (precondition_push
        (precondition_on G (extends_push i cs) more stand (λ x sx. inl sx)
        (λ x. ⊎_elim (λ sx. outside_part inner (G.free x sx)) (λ h. total-outside x h))
        (omega (arith, inner.below, G.fits, T.same_length)))
        (holds_index (Offset.counter (length cs)) i
        (holds_on held (extends_push i cs) more stand (λ x sx. inl sx)) (innermost_counter i cs) li))
        (holds_region (length rs) b total-is T.total (λ p ok. inr (whole_inside b z p ok))))
        (into_region (length outer) q z (innermost_region q outer)
        (omega (arith, target-part.below, G.fits, T.same_length)) apart)
        (λ p ok. target-outside (q + cell_of z p) (whole_inside q z p ok))
        ch

    -- Of a number, in a room from r on: the body is written into the total itself.
    number_round : (r : ℕ) → is_number z ≡ true → Part r (room (write_into (length rs))) a N
        → ((x : ℕ) → Inside b (cells z) x → Outside r (room (write_into (length rs))) x)
        → (ch : Orders (write_into (length rs)))
        → Totalled W z b a N st f' (k + kb)
        (run W.domain (write_into (length rs)) ch (environment W (i ∷ cs) (b ∷ rs)) r st₁)
    number_round r is inner apart ch =
        let H =
        body_wrote b rs r (extends_push b rs) (innermost_region b rs) whole inner apart apart
        (λ not. absurd (true≢false (sym is ∙ not))) ch in
        record {
          total = H.written;
          kept = λ x o. H.kept x (whole_apart b z x (outside_part whole o)) (outside_part inner o) ∙ T.kept x o;
          same_length = H.same_length ∙ T.same_length;
          counted = omega (arith, H.counted, T.counted);
        }

    -- By next: the body is written into a region of its own, and that is assigned to the total.
    abbrev write_next : Command
    write_next = write_into (suc (length rs))

    abbrev assign_next : Command
    assign_next =
        assign z (Expression.region (suc (length rs)) z) (Acceptor.region (length rs) z) (suc (length cs))
        (suc (suc (length rs)))

    module _ (r : ℕ) (inner : Part r (room by_next) a N)
        (apart : (x : ℕ) → Inside b (cells z) x → Outside r (room by_next) x) where
      -- where next is; where the rooms of the round's two commands begin
      abbrev q : ℕ
      q = region_room r (cells z) (seq write_next assign_next)

      abbrev one : ℕ
      one = first_room (body_room r (cells z) (seq write_next assign_next)) write_next assign_next

      abbrev two : ℕ
      two = second_room (body_room r (cells z) (seq write_next assign_next)) write_next assign_next

      next_part : Part q (cells z) r (room by_next)
      next_part = region_inside r (cells z) (seq write_next assign_next)

      write_part : Part one (room write_next) r (room by_next)
      write_part =
          part_trans (first_inside (body_room r (cells z) (seq write_next assign_next)) write_next assign_next)
          (body_inside r (cells z) (seq write_next assign_next))

      -- next is outside the room of what writes it, and total outside next
      next_clear : (x : ℕ) → Inside q (cells z) x → Outside one (room write_next) x
      next_clear x h =
          outside_part (first_inside (body_room r (cells z) (seq write_next assign_next)) write_next assign_next)
          (apart_outside (region_apart r (cells z) (seq write_next assign_next)) h)

      total_clear : (x : ℕ) → Inside q (cells z) x → Outside b (cells z) x
      total_clear x h = outside_too apart x (inside_part next_part h)

      -- the cells relied on, the total's among them, are outside the round's room
      free : (x : ℕ) → Added S b (cells z) x → Outside r (room by_next) x
      free x = ⊎_elim (λ sx. outside_part inner (G.free x sx)) (λ h. apart x h)

      total_region : RegionIs (q ∷ b ∷ rs) (length rs) b
      total_region = region_extends (length rs) b (innermost_region b rs) (extends_push q (b ∷ rs))

      next_wrote : (ch : Orders write_next)
          → Wrote W (λ p. q + cell_of z p) z f' one (room write_next) kb st₁
          (run W.domain write_next ch (environment W (i ∷ cs) (q ∷ b ∷ rs)) one st₁)
      next_wrote ch =
          body_wrote q (b ∷ rs) one (extends_trans (extends_push b rs) (extends_push q (b ∷ rs))) total_region
          (part_trans next_part inner) (part_trans write_part inner) (λ x h. outside_part write_part (apart x h)) next_clear
          (λ not x sx. outside_part next_part (free x sx)) ch

      total_wrote : (st₂ : StateOf W)
          → ((p : Path ℕ) → PathOf z p → cell_at W st₂.store (q + cell_of z p) ≡ f' p)
          → length st₂.store ≡ length st₁.store
          → (ch : Orders assign_next)
          → Wrote W (λ p. b + cell_of z p) z f' 0 0 (cells z) st₂
          (run W.domain assign_next ch (environment W (i ∷ cs) (q ∷ b ∷ rs)) two st₂)
      total_wrote st₂ next same ch =
          assign_wrote z {cs = i ∷ cs} two 0 st₂
          (holds_region {S = Inside q (cells z)} (suc (length rs)) q (innermost_region q (b ∷ rs)) next
          (λ p ok. whole_inside q z p ok))
          (into_region (length rs) b z total_region (omega (arith, whole.below, G.fits, T.same_length))
          (λ not. total_clear))
          ch

      next_round : (ch : Orders by_next)
          → Totalled W z b a N st f' (k + (kb + cells z))
          (run W.domain by_next ch (environment W (i ∷ cs) (b ∷ rs)) r st₁)
      unfolding run
      next_round ch =
          let st₂ : StateOf W = run W.domain write_next ch.0 (environment W (i ∷ cs) (q ∷ b ∷ rs)) one st₁ in
          let H = next_wrote ch.0 in
          let K = total_wrote st₂ H.written H.same_length ch.1 in
          record {
            total = K.written;
            kept = λ x o.
                K.kept x (whole_apart b z x (outside_part whole o)) (outside_none 0 x)
                ∙ H.kept x (whole_apart q z x (outside_part (part_trans next_part inner) o))
                (outside_part (part_trans write_part inner) o)
                ∙ T.kept x o;
            same_length = K.same_length ∙ H.same_length ∙ T.same_length;
            counted = omega (arith, K.counted, H.counted, T.counted);
          }

    -- Both: `direct` says whether the total is a number
    total_round : (direct : Bool) → is_number z ≡ direct
        → (r : ℕ) → Part r (room (cond direct (write_into (length rs)) by_next)) a N
        → ((x : ℕ) → Inside b (cells z) x → Outside r (room (cond direct (write_into (length rs)) by_next)) x)
        → (ch : Orders (cond direct (write_into (length rs)) by_next))
        → Totalled W z b a N st f' (k + cond direct kb (kb + cells z))
        (run W.domain (cond direct (write_into (length rs)) by_next) ch (environment W (i ∷ cs) (b ∷ rs)) r st₁)
    total_round true is r inner apart ch = number_round r is inner apart ch
    total_round false is r inner apart ch = next_round r inner apart ch

  -- All rounds from i on, j of them; round m has its room at `at m`.
  pub total_rounds : (b : ℕ) (at : ℕ → ℕ) → Part b (cells z) a N
      → ((m : ℕ) → m < n → Part (at m) (room round) a N)
      → ((m : ℕ) → m < n → (x : ℕ) → Inside b (cells z) x → Outside (at m) (room round) x)
      → (ch : ℕ → Orders round) (j i : ℕ) → i + j ≤ n
      → (f : Contents W) (k : ℕ) (st₁ : StateOf W) → Totalled W z b a N st f k st₁
      → Totalled W z b a N st (reduced W Fb env fa i j f) (k + j * round_writes z kb)
      (in_turn (up_from i j) (λ m. run W.domain round (ch m) (environment W (m ∷ cs) (b ∷ rs)) (at m)) st₁)
  total_rounds b at total inner apart ch zero i li f k st₁ T =
      record { total = T.total; kept = T.kept; same_length = T.same_length; counted = omega (arith, T.counted) }
  total_rounds b at total inner apart ch (suc j) i li f k st₁ T =
      let l : i < n = omega arith in
      let f' : Contents W = Fb (f ∷ element_at W.domain fa i ∷ env) in
      let st₂ : StateOf W = run W.domain round (ch i) (environment W (i ∷ cs) (b ∷ rs)) (at i) st₁ in
      let T' : Totalled W z b a N st (reduced W Fb env fa (suc i) j f') (k + round_writes z kb + j * round_writes z kb)
      (in_turn (up_from (suc i) j) (λ m. run W.domain round (ch m) (environment W (m ∷ cs) (b ∷ rs)) (at m)) st₂) =
      total_rounds b at total inner apart ch j (suc i) (omega arith) f' (k + round_writes z kb) st₂
      (total_round b i total l f k st₁ T (is_number z) refl (at i) (inner i l) (apart i l) (ch i)) in
      record {
        total = T'.total;
        kept = T'.kept;
        same_length = T'.same_length;
        counted = omega (arith, T'.counted, suc-mul j (round_writes z kb));
      }
