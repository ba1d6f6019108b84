-- A loop whose every round writes its element has written the array, in whatever order the rounds are taken.
use Rattle.std.specs.Prelude.{◌≡◌, refl, ◌⊎◌, ℕ, suc, ◌+◌, ◌*◌, ◌<◌, length}
use Rattle.std.proofs.Common.{sym, ap, ◌∙◌, subst, inl, inr, ⊎_elim, suc-mul, arith}
use mathlib.Core.List.Memᴰ
use mathlib.Core.List.{List, [], ◌∷◌, Memᴰ}
use Rattle.std.proofs.Math.Decide.{ℕ_discrete}
use Rattle.meaning.specs.Types.{DataType, array}
use Rattle.meaning.specs.Terms.{LoopKind}
use Rattle.meaning.specs.Sequence.{in_turn}
use Rattle.meaning.specs.Runs.{Order, rounds_in}
use Rattle.meaning.specs.Paths.{Path, head_index, index}
use Rattle.meaning.proofs.Laws.Orders.{rounds_below, rounds_all, rounds_length}
use Rattle.meaning.proofs.Laws.Layout.{Outside}
use Rattle.meaning.proofs.Laws.Paths.{PathOf, on_array}
use Rattle.meaning.proofs.Laws.PathValues.{element_at}
use Rattle.meaning.proofs.Laws.Holds.{Setting, StoreOf, StateOf, Contents, cell_at, CellSet, Agree}
use Rattle.meaning.proofs.Laws.Into.{NotAt}
use Rattle.meaning.proofs.Laws.Wrote.{Wrote}

-- element i of the value f stands at its cells
abbrev ElementStands : (W : Setting) → (Path ℕ → ℕ) → DataType → Contents W → ℕ → StateOf W → Type 0
ElementStands W g t f i st = (p : Path ℕ) → PathOf t p → cell_at W st.store (g (index i ∷ p)) ≡ f (index i ∷ p)

-- after the rounds `is`: their elements stand, and those that stood before
record RoundsWrote (W : Setting) (n : ℕ) (t : DataType) (g : Path ℕ → ℕ) (f : Contents W) (a m k : ℕ) (is : List ℕ)
    (st st' : StateOf W) : Type 0 where
  each : (i : ℕ) → i < n → Memᴰ i is ⊎ ElementStands W g t f i st → ElementStands W g t f i st'
  kept : (x : ℕ) → NotAt (array n t) g x → Outside a m x → cell_at W st'.store x ≡ cell_at W st.store x
  same_length : length st'.store ≡ length st.store
  counted : st'.writes ≡ st.writes + length is * k

module _ (W : Setting) (n : ℕ) (t : DataType) (g : Path ℕ → ℕ) (f : Contents W) (a m k : ℕ)
    (distinct : (p r : Path ℕ) → PathOf (array n t) p → PathOf (array n t) r → g p ≡ g r → p ≡ r)
    (clear : (p : Path ℕ) → PathOf (array n t) p → Outside a m (g p)) where
  -- what round i is to do
  abbrev RoundWrote : ℕ → StateOf W → StateOf W → Type 0
  RoundWrote i st st' = Wrote W (λ p. g (index i ∷ p)) t (element_at W.domain f i) a m k st st'

  other_stands : (i j : ℕ) → i < n → j < n → {st st₁ : StateOf W}
      → RoundWrote i st st₁ → ElementStands W g t f j st → ElementStands W g t f j st₁
  other_stands i j li lj {st} {st₁} H h p ok = go (ℕ_discrete i j)
    where
      go : Dec (i ≡ j) → cell_at W st₁.store (g (index j ∷ p)) ≡ f (index j ∷ p)
      go (yes e) =
          subst (λ (l : ℕ). cell_at W st₁.store (g (index l ∷ p)) ≡ f (index l ∷ p)) e (H.written p ok)
      go (no ne) =
          H.kept (g (index j ∷ p))
          (λ r okr e. ne (ap (head_index 0) (distinct (index i ∷ r) (index j ∷ p) (li, okr) (lj, ok) e)))
          (clear (index j ∷ p) (lj, ok))
          ∙ h p ok

  rounds_cons : (i : ℕ) (is : List ℕ) → i < n → {st st₁ st₂ : StateOf W}
      → RoundWrote i st st₁ → RoundsWrote W n t g f a m k is st₁ st₂ → RoundsWrote W n t g f a m k (i ∷ is) st st₂
  rounds_cons i is li {st} {st₁} {st₂} H R = record {
    each = λ j lj.
        ⊎_elim
        (λ member.
        ⊎_elim
        (λ e.
        R.each j lj
        (inr (λ p ok.
        subst (λ (l : ℕ). cell_at W st₁.store (g (index l ∷ p)) ≡ f (index l ∷ p)) (sym e) (H.written p ok))))
        (λ later. R.each j lj (inl later))
        (Memᴰ.cases_cons member))
        (λ h. R.each j lj (inr (other_stands i j li lj H h)));
    kept = λ x h o. R.kept x h o ∙ H.kept x (λ p ok. h (index i ∷ p) (li, ok)) o;
    same_length = R.same_length ∙ H.same_length;
    counted =
        let x : st₂.writes ≡ st₁.writes + length is * k = R.counted in
        let y : st₁.writes ≡ st.writes + k = H.counted in
        let z : suc (length is) * k ≡ length is * k + k = suc-mul (length is) k in
        omega arith;
  }

  module _ (S : CellSet) (s₀ : StoreOf W) (apart : (x : ℕ) → S x → NotAt (array n t) g x)
      (free : (x : ℕ) → S x → Outside a m x) (R : ℕ → StateOf W → StateOf W)
      (step : (i : ℕ) → i < n → (st : StateOf W)
      → Agree W S s₀ st.store → length st.store ≡ length s₀ → RoundWrote i st (R i st)) where
    rounds_run : (is : List ℕ) → ((i : ℕ) → Memᴰ i is → i < n)
        → (st : StateOf W) → Agree W S s₀ st.store → length st.store ≡ length s₀
        → RoundsWrote W n t g f a m k is st (in_turn is R st)
    rounds_run [] b st ag ln = record {
      each = λ i l. ⊎_elim (λ member. absurd (Memᴰ.not-nil member)) (λ h. h);
      kept = λ x h o. refl;
      same_length = refl;
      counted = omega arith;
    }
    rounds_run (i ∷ is) b st ag ln =
        let li : i < n = b i (Memᴰ.head refl) in
        let H : RoundWrote i st (R i st) = step i li st ag ln in
        rounds_cons i is li H
        (rounds_run is (λ j member. b j (Memᴰ.tail member)) (R i st)
        (λ x sx. H.kept x (λ p ok. apart x sx (index i ∷ p) (li, ok)) (free x sx) ∙ ag x sx)
        (H.same_length ∙ ln))

    -- A loop whose every round writes its element has written the array, whatever the order.
    pub loop_wrote : (kind : LoopKind) (o : Order kind n) (st : StateOf W)
        → Agree W S s₀ st.store → length st.store ≡ length s₀
        → Wrote W g (array n t) f a m (n * k) st (in_turn (rounds_in kind n o) R st)
    loop_wrote kind o st ag ln =
        let st' : StateOf W = in_turn (rounds_in kind n o) R st in
        let X : RoundsWrote W n t g f a m k (rounds_in kind n o) st st' =
        rounds_run (rounds_in kind n o) (rounds_below kind n o) st ag ln in
        record {
          written =
              on_array n t (λ p. cell_at W st'.store (g p) ≡ f p)
              (λ i p l ok. X.each i l (inl (rounds_all kind n o i l)) p ok);
          kept = X.kept;
          same_length = X.same_length;
          counted = X.counted ∙ ap (λ (j : ℕ). st.writes + j * k) (rounds_length kind n o);
        }
