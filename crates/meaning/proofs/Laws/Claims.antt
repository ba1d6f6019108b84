-- The two claims that the long induction proves together, of how a term is used and of how it is written; and how
-- uses and writes join. Of the layout only its laws are used.
use Rattle.std.specs.Prelude.{◌≡◌, refl, ◌⊎◌, List, ◌∷◌, ℕ, zero, suc, ◌+◌, ◌≤◌, ◌<◌, length, get_or}
use Rattle.std.proofs.Common.{sym, ◌∙◌, subst, inl, inr, ⊎_elim, arith}
use Rattle.meaning.specs.Types.{DataType, cells, number}
use Rattle.meaning.specs.Loops.{Command}
use Rattle.meaning.specs.Layout.{room}
use Rattle.meaning.specs.Runs.{Orders, run}
use Rattle.meaning.specs.Paths.{Path}
use Rattle.meaning.specs.Expressions.{Expression, Acceptor}
use Rattle.meaning.specs.Translation.{assign, Write, Use, no_expression}
use Rattle.meaning.proofs.Laws.Layout.{Inside, Outside, Part, part_refl, part_trans, inside_part, outside_part}
use Rattle.meaning.proofs.Laws.Layout.{not_both}
use Rattle.meaning.proofs.Laws.Paths.{PathOf, SamePaths, same_sym}
use Rattle.meaning.proofs.Laws.Levels.{Extends, extends_refl, extends_trans}
use Rattle.meaning.proofs.Laws.PathValues.{no_path_value}
use Rattle.meaning.proofs.Laws.Holds.{Setting, StoreOf, StateOf, Contents, cell_at, environment, CellSet, Agree}
use Rattle.meaning.proofs.Laws.Holds.{Holds, holds_on, holds_same}
use Rattle.meaning.proofs.Laws.Into.{Into, into_on, into_same}
use Rattle.meaning.proofs.Laws.Wrote.{Wrote, wrote_same}
use Rattle.meaning.proofs.Laws.Assign.{assign_wrote}

-- What a command finds as its run begins: the inputs' and the variables' expressions hold their values, relying on
-- the cells of S, which are all outside the command's room; and that room, n cells from a on, is in the store.
pub record Precondition (W : Setting) (cs rs : List ℕ) (s : StoreOf W) (S : CellSet) (Γ : List DataType)
    (Δ : List Expression) (env : List (Contents W)) (a n : ℕ) : Type 0 where
  pub inputs : (k : ℕ) → k < length W.input_types
      → Holds W cs rs s S (Expression.input k (get_or W.input_types k number)) (get_or W.input_types k number)
      (W.input_values k)
  pub variables : (d : ℕ) → d < length Γ
      → Holds W cs rs s S (get_or Δ d no_expression) (get_or Γ d number) (get_or env d (no_path_value W.domain))
  pub free : (x : ℕ) → S x → Outside a n x
  pub fits : a + n ≤ length s

-- later, and for another room
pub precondition_on : {W : Setting} {cs rs cs' rs' : List ℕ} {s s' : StoreOf W} {S S' : CellSet} {Γ : List DataType}
    {Δ : List Expression} {env : List (Contents W)} {a n b m : ℕ}
    → Precondition W cs rs s S Γ Δ env a n → Extends cs cs' → Extends rs rs' → Agree W S s s'
    → ((x : ℕ) → S x → S' x) → ((x : ℕ) → S' x → Outside b m x) → b + m ≤ length s'
    → Precondition W cs' rs' s' S' Γ Δ env b m
precondition_on G ec er ag more free fits = record {
  inputs = λ k h. holds_on (G.inputs k h) ec er ag more;
  variables = λ d h. holds_on (G.variables d h) ec er ag more;
  free = free;
  fits = fits;
}

-- for a part's room
pub precondition_part : {W : Setting} {cs rs : List ℕ} {s : StoreOf W} {S : CellSet} {Γ : List DataType}
    {Δ : List Expression} {env : List (Contents W)} {a n b m : ℕ}
    → Precondition W cs rs s S Γ Δ env a n → Part b m a n → Precondition W cs rs s S Γ Δ env b m
precondition_part {cs} {rs} G p =
    precondition_on G (extends_refl cs) (extends_refl rs) (λ x sx. refl) (λ x sx. sx)
    (λ x sx. outside_part p (G.free x sx))
    (omega (arith, p.below, G.fits))

-- with one more variable
pub precondition_push : {W : Setting} {cs rs : List ℕ} {s : StoreOf W} {S : CellSet} {Γ : List DataType}
    {Δ : List Expression} {env : List (Contents W)} {a n : ℕ} {E : Expression} {t : DataType} {f : Contents W}
    → Precondition W cs rs s S Γ Δ env a n → Holds W cs rs s S E t f
    → Precondition W cs rs s S (t ∷ Γ) (E ∷ Δ) (f ∷ env) a n
precondition_push {W} {cs} {rs} {s} {S} {Γ} {Δ} {env} {E} {t} {f} G H =
    record { inputs = G.inputs; variables = go; free = G.free; fits = G.fits }
  where
    go : (d : ℕ) → d < length (t ∷ Γ)
        → Holds W cs rs s S (get_or (E ∷ Δ) d no_expression) (get_or (t ∷ Γ) d number)
        (get_or (f ∷ env) d (no_path_value W.domain))
    go zero h = H
    go (suc d) h = G.variables d (omega arith)

-- What the use of a term has come to when its continuation begins, at state st', in a room of n' cells from a' on:
-- expression E holds the term's value f, relying on the cells of S'; only cells of the whole room, n cells from a
-- on, have changed.
pub record AfterUse (W : Setting) (cs rs : List ℕ) (S : CellSet) (a n : ℕ) (st : StateOf W) (k : ℕ) (E : Expression)
    (t : DataType) (f : Contents W)
    (rs' : List ℕ) (S' : CellSet) (a' n' : ℕ) (st' : StateOf W) : Type 0 where
  pub extends : Extends rs rs'
  pub part : Part a' n' a n
  pub more : (x : ℕ) → S x → S' x
  pub only : (x : ℕ) → S' x → S x ⊎ Inside a n x
  pub free : (x : ℕ) → S' x → Outside a' n' x
  pub kept : (x : ℕ) → Outside a n x → cell_at W st'.store x ≡ cell_at W st.store x
  pub same_length : length st'.store ≡ length st.store
  pub counted : st'.writes ≡ st.writes + k
  pub holds : Holds W cs rs' st'.store S' E t f

-- `useE` uses a term of type t and value F rightly, with k writes: whatever holds after every run of the
-- continuation, begun on what the use has come to, holds after every run of the whole.
abbrev pub UsesRightly : (W : Setting) → Use → List DataType → DataType → ℕ → (List (Contents W) → Contents W) → Type 1
UsesRightly W useE Γ t k F =
    (Δ : List Expression) (env : List (Contents W)) (cs rs : List ℕ) (S : CellSet) (a : ℕ) (st : StateOf W)
    (C : Expression → ℕ → Command)
    → Precondition W cs rs st.store S Γ Δ env a (room (useE Γ Δ (length cs) (length rs) C))
    → (Q : StateOf W → Type 0)
    → ((rs' : List ℕ) (S' : CellSet) (a' : ℕ) (st' : StateOf W) (E : Expression)
    → AfterUse W cs rs S a (room (useE Γ Δ (length cs) (length rs) C)) st k E t (F env) rs' S' a'
    (room (C E (length rs'))) st'
    → (ch : Orders (C E (length rs'))) → Q (run W.domain (C E (length rs')) ch (environment W cs rs') a' st'))
    → (ch : Orders (useE Γ Δ (length cs) (length rs) C))
    → Q (run W.domain (useE Γ Δ (length cs) (length rs) C) ch (environment W cs rs) a st)

-- `writeE` writes a term of type t and value F rightly, with k writes.
abbrev pub WritesRightly : (W : Setting) → Write → List DataType → DataType → ℕ → (List (Contents W) → Contents W)
    → Type 1
WritesRightly W writeE Γ t k F =
    (Δ : List Expression) (env : List (Contents W)) (cs rs : List ℕ) (S : CellSet) (a : ℕ) (st : StateOf W)
    (P : Acceptor) (g : Path ℕ → ℕ)
    → Precondition W cs rs st.store S Γ Δ env a (room (writeE Γ Δ (length cs) (length rs) P))
    → Into W cs rs P t g S (length st.store)
    → ((p : Path ℕ) → PathOf t p → Outside a (room (writeE Γ Δ (length cs) (length rs) P)) (g p))
    → (ch : Orders (writeE Γ Δ (length cs) (length rs) P))
    → Wrote W g t (F env) a (room (writeE Γ Δ (length cs) (length rs) P)) k st
    (run W.domain (writeE Γ Δ (length cs) (length rs) P) ch (environment W cs rs) a st)

-- What has come of a use

module _ {W : Setting} {cs rs : List ℕ} {S : CellSet} {a n : ℕ} {st : StateOf W} where
  -- of the use of what already holds
  pub after_nothing : {E : Expression} {t : DataType} {f : Contents W}
      → Holds W cs rs st.store S E t f → ((x : ℕ) → S x → Outside a n x)
      → AfterUse W cs rs S a n st 0 E t f rs S a n st
  after_nothing h free = record {
    extends = extends_refl rs;
    part = part_refl a n;
    more = λ x sx. sx;
    only = λ x sx. inl sx;
    free = free;
    kept = λ x o. refl;
    same_length = refl;
    counted = omega arith;
    holds = h;
  }

  module _ {k : ℕ} {E : Expression} {t : DataType} {f : Contents W} {rs₁ : List ℕ} {S₁ : CellSet} {a₁ n₁ : ℕ}
      {st₁ : StateOf W} where
    -- another expression, made of it
    pub after_making : {E' : Expression} {t' : DataType} {f' : Contents W}
        → AfterUse W cs rs S a n st k E t f rs₁ S₁ a₁ n₁ st₁ → Holds W cs rs₁ st₁.store S₁ E' t' f'
        → AfterUse W cs rs S a n st k E' t' f' rs₁ S₁ a₁ n₁ st₁
    after_making G h = record {
      extends = G.extends;
      part = G.part;
      more = G.more;
      only = G.only;
      free = G.free;
      kept = G.kept;
      same_length = G.same_length;
      counted = G.counted;
      holds = h;
    }

    pub after_writes : {k' : ℕ} → k ≡ k'
        → AfterUse W cs rs S a n st k E t f rs₁ S₁ a₁ n₁ st₁ → AfterUse W cs rs S a n st k' E t f rs₁ S₁ a₁ n₁ st₁
    after_writes e G = record {
      extends = G.extends;
      part = G.part;
      more = G.more;
      only = G.only;
      free = G.free;
      kept = G.kept;
      same_length = G.same_length;
      counted = omega (arith, G.counted);
      holds = G.holds;
    }

    -- a use in the continuation of a use
    pub after_both : {k' : ℕ} {E' : Expression} {t' : DataType} {f' : Contents W} {rs₂ : List ℕ} {S₂ : CellSet}
        {a₂ n₂ : ℕ} {st₂ : StateOf W}
        → AfterUse W cs rs S a n st k E t f rs₁ S₁ a₁ n₁ st₁
        → AfterUse W cs rs₁ S₁ a₁ n₁ st₁ k' E' t' f' rs₂ S₂ a₂ n₂ st₂
        → AfterUse W cs rs S a n st (k + k') E' t' f' rs₂ S₂ a₂ n₂ st₂
    after_both G H = record {
      extends = extends_trans G.extends H.extends;
      part = part_trans H.part G.part;
      more = λ x sx. H.more x (G.more x sx);
      only = λ x sx. ⊎_elim (λ s₁. G.only x s₁) (λ i. inr (inside_part G.part i)) (H.only x sx);
      free = H.free;
      kept = λ x o. H.kept x (outside_part G.part o) ∙ G.kept x o;
      same_length = H.same_length ∙ G.same_length;
      counted = omega (arith, G.counted, H.counted);
      holds = H.holds;
    }

    -- what the continuation finds; and what held before the use
    pub precondition_after : {Γ : List DataType} {Δ : List Expression} {env : List (Contents W)}
        → Precondition W cs rs st.store S Γ Δ env a n
        → AfterUse W cs rs S a n st k E t f rs₁ S₁ a₁ n₁ st₁
        → Precondition W cs rs₁ st₁.store S₁ Γ Δ env a₁ n₁
    precondition_after G H =
        precondition_on G (extends_refl cs) H.extends (λ x sx. H.kept x (G.free x sx)) H.more H.free
        (omega (arith, H.part.below, H.same_length, G.fits))

    pub holds_after : {E₀ : Expression} {t₀ : DataType} {f₀ : Contents W}
        → Holds W cs rs st.store S E₀ t₀ f₀ → ((x : ℕ) → S x → Outside a n x)
        → AfterUse W cs rs S a n st k E t f rs₁ S₁ a₁ n₁ st₁
        → Holds W cs rs₁ st₁.store S₁ E₀ t₀ f₀
    holds_after h free H = holds_on h (extends_refl cs) H.extends (λ x sx. H.kept x (free x sx)) H.more

    -- a place outside the room is a place for the continuation
    pub into_after : {P : Acceptor} {t' : DataType} {g : Path ℕ → ℕ}
        → Into W cs rs P t' g S (length st.store) → ((p : Path ℕ) → PathOf t' p → Outside a n (g p))
        → AfterUse W cs rs S a n st k E t f rs₁ S₁ a₁ n₁ st₁
        → Into W cs rs₁ P t' g S₁ (length st₁.store)
    into_after I clear H =
        into_on I (extends_refl cs) H.extends (omega (arith, H.same_length))
        (λ not x sx.
        ⊎_elim (λ s₀. I.apart not x s₀) (λ i p ok e. not_both (subst (Inside a n) (sym e) i) (clear p ok)) (H.only x sx))

    -- a write in the continuation is a write of the whole
    pub wrote_after : {g : Path ℕ → ℕ} {t' : DataType} {f' : Contents W} {b m k' : ℕ} {st₂ : StateOf W}
        → AfterUse W cs rs S a n st k E t f rs₁ S₁ a₁ n₁ st₁ → Part b m a n
        → Wrote W g t' f' b m k' st₁ st₂ → Wrote W g t' f' a n (k + k') st st₂
    wrote_after G p H = record {
      written = H.written;
      kept = λ x h o. H.kept x h (outside_part p o) ∙ G.kept x o;
      same_length = H.same_length ∙ G.same_length;
      counted = omega (arith, G.counted, H.counted);
    }

-- Expressions made of one expression, or of two

module _ {W : Setting} {Γ : List DataType} where
  pub use_one : (useE : Use) (t t' : DataType) (k : ℕ) (F : List (Contents W) → Contents W)
      (make : Expression → Expression) (Φ : Contents W → Contents W)
      → ((cs rs : List ℕ) (s : StoreOf W) (S : CellSet) (E : Expression) (f : Contents W)
      → Holds W cs rs s S E t f → Holds W cs rs s S (make E) t' (Φ f))
      → UsesRightly W useE Γ t k F
      → UsesRightly W (λ G D c r C. useE G D c r (λ E r'. C (make E) r')) Γ t' k (λ env. Φ (F env))
  use_one useE t t' k F make Φ keeps uses Δ env cs rs S a st C G Q K ch =
      uses Δ env cs rs S a st (λ E r'. C (make E) r') G Q
      (λ rs' S' a' st' E H ch'.
      K rs' S' a' st' (make E) (after_making H (keeps cs rs' st'.store S' E (F env) H.holds)) ch')
      ch

  pub use_two : (useE useF : Use) (t₁ t₂ t' : DataType) (k₁ k₂ : ℕ) (F₁ F₂ : List (Contents W) → Contents W)
      (make : Expression → Expression → Expression) (Φ : Contents W → Contents W → Contents W)
      → ((cs rs : List ℕ) (s : StoreOf W) (S : CellSet) (E F : Expression) (f g : Contents W)
      → Holds W cs rs s S E t₁ f → Holds W cs rs s S F t₂ g → Holds W cs rs s S (make E F) t' (Φ f g))
      → UsesRightly W useE Γ t₁ k₁ F₁ → UsesRightly W useF Γ t₂ k₂ F₂
      → UsesRightly W (λ G D c r C. useE G D c r (λ E r'. useF G D c r' (λ F r''. C (make E F) r''))) Γ t' (k₁ + k₂)
      (λ env. Φ (F₁ env) (F₂ env))
  use_two useE useF t₁ t₂ t' k₁ k₂ F₁ F₂ make Φ keeps uses₁ uses₂ Δ env cs rs S a st C G Q K ch =
      uses₁ Δ env cs rs S a st (λ E r'. useF Γ Δ (length cs) r' (λ F r''. C (make E F) r'')) G Q
      (λ rs₁ S₁ a₁ st₁ E H₁.
      uses₂ Δ env cs rs₁ S₁ a₁ st₁ (λ F r''. C (make E F) r'') (precondition_after G H₁) Q
      (λ rs₂ S₂ a₂ st₂ F H₂ ch'.
      K rs₂ S₂ a₂ st₂ (make E F)
      (after_both H₁
      (after_making H₂
      (keeps cs rs₂ st₂.store S₂ E F (F₁ env) (F₂ env) (holds_after H₁.holds H₁.free H₂) H₂.holds)))
      ch'))
      ch

  -- in another type that the same paths lead into
  pub uses_same : (useE : Use) (t t' : DataType) (k : ℕ) (F : List (Contents W) → Contents W)
      → SamePaths t t' → UsesRightly W useE Γ t k F → UsesRightly W useE Γ t' k F
  uses_same useE t t' k F same uses =
      use_one useE t t' k F (λ E. E) (λ f. f) (λ cs rs s S E f h. holds_same same h) uses

  pub writes_same : (writeE : Write) (t t' : DataType) (k : ℕ) (F : List (Contents W) → Contents W)
      → SamePaths t t' → WritesRightly W writeE Γ t k F → WritesRightly W writeE Γ t' k F
  writes_same writeE t t' k F same writes Δ env cs rs S a st P g G I clear ch =
      wrote_same same refl
      (writes Δ env cs rs S a st P g G (into_same (same_sym same) I) (λ p ok. clear p (same.to p ok)) ch)

  -- a use, then an assignment of what was used
  pub assign_used : (useE : Use) (t : DataType) (k : ℕ) (F : List (Contents W) → Contents W)
      → UsesRightly W useE Γ t k F
      → WritesRightly W (λ G D c r P. useE G D c r (λ E r'. assign t E P c r')) Γ t (k + cells t) F
  assign_used useE t k F uses Δ env cs rs S a st P g G I clear ch =
      let C : Expression → ℕ → Command = λ E r'. assign t E P (length cs) r' in
      let n : ℕ = room (useE Γ Δ (length cs) (length rs) C) in
      uses Δ env cs rs S a st C G
      (λ st''. Wrote W g t (F env) a n (k + cells t) st st'')
      (λ rs' S' a' st' E H ch'.
      wrote_after H (record { from = omega arith; below = omega arith })
      (assign_wrote t a' a st' H.holds (into_after I clear H) ch'))
      ch
