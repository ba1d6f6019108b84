-- The two claims of the induction by which translated loops have no races, of how a term is used and of how it is
-- written; and how uses and writes join. Nothing here depends on what the store holds.
use Rattle.std.proofs.Common.{sym, subst, inr, ⊎_elim, le_refl, le_of_suc-le-suc, arith}
use Rattle.std.specs.Prelude.{◌⊎◌, List, ◌∷◌, length, get_or}
use Rattle.std.proofs.Math.Logic.{inl}
use Prim.Native.Nat.{ℕ, zero, suc, ◌+◌, ◌≤◌, ◌<◌}
use Rattle.meaning.specs.Types.{DataType, cells, number}
use Rattle.meaning.specs.Loops.{Command, seq, new}
use Rattle.meaning.specs.Layout.{room, first_room, second_room, region_room, body_room}
use Rattle.meaning.specs.Paths.{Path}
use Rattle.meaning.specs.Expressions.{Expression, Acceptor}
use Rattle.meaning.specs.Translation.{assign, Write, Use, use_written, no_expression}
use Rattle.meaning.proofs.Laws.Layout.{Inside, Outside, Part, Apart, part_refl, part_trans, inside_part}
use Rattle.meaning.proofs.Laws.Layout.{outside_part, apart_outside, not_both, first_inside, second_inside}
use Rattle.meaning.proofs.Laws.Layout.{region_inside, body_inside, region_apart}
use Rattle.meaning.proofs.Laws.Paths.{PathOf, SamePaths, same_sym, cell_of}
use Rattle.meaning.proofs.Laws.Levels.{Extends, extends_refl, extends_trans, extends_push}
use Rattle.meaning.proofs.Laws.Holds.{Setting, environment, CellSet, innermost_region}
use Rattle.meaning.proofs.Laws.Into.{Into, into_on, into_same, whole_inside, into_region}
use Rattle.meaning.proofs.Laws.Regions.{Added, region_onward}
use Rattle.mixing.proofs.Laws.ReadsOnly.{ReadsOnly, reads_on, reads_only_same, reads_region}
use Rattle.mixing.proofs.Laws.Orderly.{Orderly, orderly_seq, orderly_new, assign_orderly}

-- What a command finds: the inputs' and the variables' expressions read cells of S only, which are all outside the
-- command's room; and that room, n cells from a on, is in a store of L cells.
pub record Footing (W : Setting) (cs rs : List ℕ) (S : CellSet) (Γ : List DataType) (Δ : List Expression)
    (a n L : ℕ) : Type 0 where
  pub inputs : (k : ℕ) → k < length W.input_types
      → ReadsOnly W cs rs S (Expression.input k (get_or W.input_types k number)) (get_or W.input_types k number)
  pub variables : (d : ℕ) → d < length Γ → ReadsOnly W cs rs S (get_or Δ d no_expression) (get_or Γ d number)
  pub free : (x : ℕ) → S x → Outside a n x
  pub fits : a + n ≤ L

pub footing_on : {W : Setting} {cs rs cs' rs' : List ℕ} {S S' : CellSet} {Γ : List DataType} {Δ : List Expression}
    {a n b m L : ℕ}
    → Footing W cs rs S Γ Δ a n L → Extends cs cs' → Extends rs rs'
    → ((x : ℕ) → S x → S' x) → ((x : ℕ) → S' x → Outside b m x) → b + m ≤ L
    → Footing W cs' rs' S' Γ Δ b m L
footing_on G ec er more free fits = record {
  inputs = λ k h. reads_on (G.inputs k h) ec er more;
  variables = λ d h. reads_on (G.variables d h) ec er more;
  free = free;
  fits = fits;
}

-- for a part's room
pub footing_part : {W : Setting} {cs rs : List ℕ} {S : CellSet} {Γ : List DataType} {Δ : List Expression} {a n b m L : ℕ}
    → Footing W cs rs S Γ Δ a n L → Part b m a n → Footing W cs rs S Γ Δ b m L
footing_part {cs = cs} {rs = rs} G p =
    footing_on G (extends_refl cs) (extends_refl rs) (λ x sx. sx) (λ x sx. outside_part p (G.free x sx))
    (omega (arith, p.below, G.fits))

-- with one more variable
pub footing_push : {W : Setting} {cs rs : List ℕ} {S : CellSet} {Γ : List DataType} {Δ : List Expression} {a n L : ℕ}
    {E : Expression} {t : DataType}
    → Footing W cs rs S Γ Δ a n L → ReadsOnly W cs rs S E t → Footing W cs rs S (t ∷ Γ) (E ∷ Δ) a n L
footing_push {W} {cs} {rs} {S} {Γ} {Δ} {E = E} {t = t} G h =
    record { inputs = G.inputs; variables = go; free = G.free; fits = G.fits }
  where
    go : (d : ℕ) → d < length (t ∷ Γ) → ReadsOnly W cs rs S (get_or (E ∷ Δ) d no_expression) (get_or (t ∷ Γ) d number)
    go zero l = h
    go (suc d) l = G.variables d (le_of_suc-le-suc l)

-- What a use hands on to its continuation, whose room is n' cells from a' on: expression E reads cells of S' only.
pub record Handed (W : Setting) (cs rs : List ℕ) (S : CellSet) (a n : ℕ) (E : Expression) (t : DataType)
    (rs' : List ℕ) (S' : CellSet) (a' n' : ℕ) : Type 0 where
  pub extends : Extends rs rs'
  pub part : Part a' n' a n
  pub more : (x : ℕ) → S x → S' x
  pub only : (x : ℕ) → S' x → S x ⊎ Inside a n x
  pub free : (x : ℕ) → S' x → Outside a' n' x
  pub reads : ReadsOnly W cs rs' S' E t

-- The cells that a command may write, Z, and read, R: its room, and of R those relied on.
pub record Allows (S : CellSet) (a n : ℕ) (Z R : CellSet) : Type 0 where
  pub room_written : (x : ℕ) → Inside a n x → Z x
  pub room_read : (x : ℕ) → Inside a n x → R x
  pub relied : (x : ℕ) → S x → R x

pub allows_part : {S S' Z R : CellSet} {a n b m : ℕ}
    → Allows S a n Z R → Part b m a n → ((x : ℕ) → S' x → S x ⊎ Inside a n x) → Allows S' b m Z R
allows_part H p only = record {
  relied = λ x sx. ⊎_elim (λ s. H.relied x s) (λ i. H.room_read x i) (only x sx);
  room_read = λ x i. H.room_read x (inside_part p i);
  room_written = λ x i. H.room_written x (inside_part p i);
}

-- `useE` is orderly if its continuation is.
abbrev pub UsesOrderly : (W : Setting) → ℕ → Use → List DataType → DataType → Type 1
UsesOrderly W L useE Γ t =
    (Δ : List Expression) (cs rs : List ℕ) (S : CellSet) (a : ℕ) (C : Expression → ℕ → Command) (Z R : CellSet)
    → Footing W cs rs S Γ Δ a (room (useE Γ Δ (length cs) (length rs) C)) L
    → Allows S a (room (useE Γ Δ (length cs) (length rs) C)) Z R
    → ((rs' : List ℕ) (S' : CellSet) (a' : ℕ) (E : Expression)
    → Handed W cs rs S a (room (useE Γ Δ (length cs) (length rs) C)) E t rs' S' a' (room (C E (length rs')))
    → Orderly Z R (C E (length rs')) (environment W cs rs') a')
    → Orderly Z R (useE Γ Δ (length cs) (length rs) C) (environment W cs rs) a

-- `writeE` is orderly, and writes no cells but its place's and its room's.
abbrev pub WritesOrderly : (W : Setting) → ℕ → Write → List DataType → DataType → Type 1
WritesOrderly W L writeE Γ t =
    (Δ : List Expression) (cs rs : List ℕ) (S : CellSet) (a : ℕ) (P : Acceptor) (g : Path ℕ → ℕ) (Z R : CellSet)
    → Footing W cs rs S Γ Δ a (room (writeE Γ Δ (length cs) (length rs) P)) L
    → Into W cs rs P t g S L
    → ((p : Path ℕ) → PathOf t p → Outside a (room (writeE Γ Δ (length cs) (length rs) P)) (g p))
    → Allows S a (room (writeE Γ Δ (length cs) (length rs) P)) Z R
    → ((p : Path ℕ) → PathOf t p → Z (g p))
    → Orderly Z R (writeE Γ Δ (length cs) (length rs) P) (environment W cs rs) a

-- What is handed on

module _ {W : Setting} {cs rs : List ℕ} {S : CellSet} {a n : ℕ} where
  pub handed_nothing : {E : Expression} {t : DataType}
      → ReadsOnly W cs rs S E t → ((x : ℕ) → S x → Outside a n x) → Handed W cs rs S a n E t rs S a n
  handed_nothing h free = record {
    extends = extends_refl rs;
    part = part_refl a n;
    more = λ x sx. sx;
    only = λ x sx. inl sx;
    free = free;
    reads = h;
  }

  module _ {E : Expression} {t : DataType} {rs₁ : List ℕ} {S₁ : CellSet} {a₁ n₁ : ℕ} where
    pub handed_making : {E' : Expression} {t' : DataType}
        → Handed W cs rs S a n E t rs₁ S₁ a₁ n₁ → ReadsOnly W cs rs₁ S₁ E' t'
        → Handed W cs rs S a n E' t' rs₁ S₁ a₁ n₁
    handed_making H h = record {
      extends = H.extends;
      part = H.part;
      more = H.more;
      only = H.only;
      free = H.free;
      reads = h;
    }

    pub handed_both : {E' : Expression} {t' : DataType} {rs₂ : List ℕ} {S₂ : CellSet} {a₂ n₂ : ℕ}
        → Handed W cs rs S a n E t rs₁ S₁ a₁ n₁ → Handed W cs rs₁ S₁ a₁ n₁ E' t' rs₂ S₂ a₂ n₂
        → Handed W cs rs S a n E' t' rs₂ S₂ a₂ n₂
    handed_both G H = record {
      extends = extends_trans G.extends H.extends;
      part = part_trans H.part G.part;
      more = λ x sx. H.more x (G.more x sx);
      only = λ x sx. ⊎_elim (λ s₁. G.only x s₁) (λ i. inr (inside_part G.part i)) (H.only x sx);
      free = H.free;
      reads = H.reads;
    }

    pub footing_after : {Γ : List DataType} {Δ : List Expression} {L : ℕ}
        → Footing W cs rs S Γ Δ a n L → Handed W cs rs S a n E t rs₁ S₁ a₁ n₁ → Footing W cs rs₁ S₁ Γ Δ a₁ n₁ L
    footing_after G H =
        footing_on G (extends_refl cs) H.extends H.more H.free (omega (arith, H.part.below, G.fits))

    pub allows_after : {Z R : CellSet}
        → Allows S a n Z R → Handed W cs rs S a n E t rs₁ S₁ a₁ n₁ → Allows S₁ a₁ n₁ Z R
    allows_after A H = allows_part A H.part H.only

    pub into_after : {P : Acceptor} {t' : DataType} {g : Path ℕ → ℕ} {L : ℕ}
        → Into W cs rs P t' g S L → ((p : Path ℕ) → PathOf t' p → Outside a n (g p))
        → Handed W cs rs S a n E t rs₁ S₁ a₁ n₁ → Into W cs rs₁ P t' g S₁ L
    into_after {L = L} I clear H =
        into_on I (extends_refl cs) H.extends (le_refl L)
        (λ not x sx.
        ⊎_elim (λ s₀. I.apart not x s₀) (λ i p ok e. not_both (subst (Inside a n) (sym e) i) (clear p ok))
        (H.only x sx))

-- a region that was opened and written: see `Regions` of `meaning`
pub handed_region : {W : Setting} {cs rs : List ℕ} {S : CellSet} {a N b e m x n : ℕ} (t : DataType)
    → Part b (cells t) a N → Part e m a N → Apart b (cells t) e m → Part x n e m
    → ((y : ℕ) → S y → Outside a N y)
    → Handed W cs rs S a N (Expression.region (length rs) t) t (b ∷ rs) (Added S b (cells t)) x n
handed_region {W} {cs} {rs} {S} {a} {N} {b} t region body apart onward free = record {
  extends = extends_push b rs;
  part = (region_onward t region body apart onward free).0;
  more = λ y sy. inl sy;
  only = (region_onward t region body apart onward free).1;
  free = (region_onward t region body apart onward free).2;
  reads = reads_region (length rs) b (innermost_region b rs) (λ p ok. inr (whole_inside b t p ok));
}

-- How uses and writes join

module _ {W : Setting} {L : ℕ} {Γ : List DataType} where
  pub use_one_orderly : (useE : Use) (t t' : DataType) (make : Expression → Expression)
      → ((cs rs : List ℕ) (S : CellSet) (E : Expression) → ReadsOnly W cs rs S E t → ReadsOnly W cs rs S (make E) t')
      → UsesOrderly W L useE Γ t
      → UsesOrderly W L (λ G D c r C. useE G D c r (λ E r'. C (make E) r')) Γ t'
  use_one_orderly useE t t' make keeps uses Δ cs rs S a C Z R G A K =
      uses Δ cs rs S a (λ E r'. C (make E) r') Z R G A
      (λ rs' S' a' E H. K rs' S' a' (make E) (handed_making H (keeps cs rs' S' E H.reads)))

  pub use_two_orderly : (useE useF : Use) (t₁ t₂ t' : DataType) (make : Expression → Expression → Expression)
      → ((cs rs : List ℕ) (S : CellSet) (E F : Expression)
      → ReadsOnly W cs rs S E t₁ → ReadsOnly W cs rs S F t₂ → ReadsOnly W cs rs S (make E F) t')
      → UsesOrderly W L useE Γ t₁ → UsesOrderly W L useF Γ t₂
      → UsesOrderly W L (λ G D c r C. useE G D c r (λ E r'. useF G D c r' (λ F r''. C (make E F) r''))) Γ t'
  use_two_orderly useE useF t₁ t₂ t' make keeps uses₁ uses₂ Δ cs rs S a C Z R G A K =
      uses₁ Δ cs rs S a (λ E r'. useF Γ Δ (length cs) r' (λ F r''. C (make E F) r'')) Z R G A
      (λ rs₁ S₁ a₁ E H₁.
      uses₂ Δ cs rs₁ S₁ a₁ (λ F r''. C (make E F) r'') Z R (footing_after G H₁) (allows_after A H₁)
      (λ rs₂ S₂ a₂ F H₂.
      K rs₂ S₂ a₂ (make E F)
      (handed_both H₁
      (handed_making H₂
      (keeps cs rs₂ S₂ E F (reads_on H₁.reads (extends_refl cs) H₂.extends H₂.more) H₂.reads)))))

  -- in another type that the same paths lead into
  pub uses_same_orderly : (useE : Use) (t t' : DataType)
      → SamePaths t t' → UsesOrderly W L useE Γ t → UsesOrderly W L useE Γ t'
  uses_same_orderly useE t t' same uses =
      use_one_orderly useE t t' (λ E. E) (λ cs rs S E h. reads_only_same same h) uses

  pub writes_same_orderly : (writeE : Write) (t t' : DataType)
      → SamePaths t t' → WritesOrderly W L writeE Γ t → WritesOrderly W L writeE Γ t'
  writes_same_orderly writeE t t' same writes Δ cs rs S a P g Z R G I clear A into =
      writes Δ cs rs S a P g Z R G (into_same (same_sym same) I) (λ p ok. clear p (same.to p ok)) A
      (λ p ok. into p (same.to p ok))

  -- a use, then an assignment of what was used
  pub assign_used_orderly : (useE : Use) (t : DataType)
      → UsesOrderly W L useE Γ t
      → WritesOrderly W L (λ G D c r P. useE G D c r (λ E r'. assign t E P c r')) Γ t
  assign_used_orderly useE t uses Δ cs rs S a P g Z R G I clear A into =
      uses Δ cs rs S a (λ E r'. assign t E P (length cs) r') Z R G A
      (λ rs' S' a' E H.
      assign_orderly t {cs = cs} a' H.reads (into_after I clear H) into (allows_after A H).relied)

  -- [6.13] a map: opened, written, and then used
  pub use_written_orderly : (writeE : Write) (t : DataType)
      → WritesOrderly W L writeE Γ t → UsesOrderly W L (use_written t writeE) Γ t
  unfolding use_written
  use_written_orderly writeE t writes Δ cs rs S a C Z R G A K =
      let w : Command = writeE Γ Δ (length cs) (suc (length rs)) (Acceptor.region (length rs) t) in
      let d : Command = C (Expression.region (length rs) t) (suc (length rs)) in
      let b : ℕ = region_room a (cells t) (seq w d) in
      let e : ℕ = body_room a (cells t) (seq w d) in
      let one : Part (first_room e w d) (room w) e (room (seq w d)) = first_inside e w d in
      let two : Part (second_room e w d) (room d) e (room (seq w d)) = second_inside e w d in
      let body : Part e (room (seq w d)) a (room (new (cells t) (seq w d))) = body_inside a (cells t) (seq w d) in
      let region : Part b (cells t) a (room (new (cells t) (seq w d))) = region_inside a (cells t) (seq w d) in
      let clear : (x : ℕ) → Inside b (cells t) x → Outside e (room (seq w d)) x =
      λ x i. apart_outside (region_apart a (cells t) (seq w d)) i in
      orderly_new
      (orderly_seq
      (writes Δ cs (b ∷ rs) S (first_room e w d) (Acceptor.region (length rs) t) (λ p. b + cell_of t p) Z R
      (footing_part
      (footing_on G (extends_refl cs) (extends_push b rs) (λ x sx. sx) G.free G.fits)
      (part_trans one body))
      (into_region (length rs) b t (innermost_region b rs) (omega (arith, region.below, G.fits))
      (λ not x sx. outside_part region (G.free x sx)))
      (λ p ok. outside_part one (clear (b + cell_of t p) (whole_inside b t p ok)))
      (allows_part A (part_trans one body) (λ x sx. inl sx))
      (λ p ok. A.room_written (b + cell_of t p) (inside_part region (whole_inside b t p ok))))
      (K (b ∷ rs) (Added S b (cells t)) (second_room e w d) (Expression.region (length rs) t)
      (handed_region t region body (region_apart a (cells t) (seq w d)) two G.free)))
