-- What a write has done: by one `set`, by two writes one after the other, into a regrouped place.
use Rattle.std.specs.Prelude.{◌≡◌, refl, ◌≢◌, List, [], ◌∷◌, ℕ, suc, ◌+◌, ◌*◌, ◌≤◌, ◌<◌, length, set as put}
use Rattle.std.proofs.Common.{sym, ap, ap₂, ◌∙◌, arith, length-set, get_or-set_same, get_or-set_other}
use Rattle.std.proofs.Math.Nat.{div-add-mod}
use Rattle.meaning.specs.Types.{DataType, number, array}
use Rattle.meaning.specs.Values.{no_number}
use Rattle.meaning.specs.Runs.{Orders, entry, address_of, value_in, run}
use Rattle.meaning.specs.Paths.{Path, tail, index, first, second}
use Rattle.meaning.specs.Expressions.{Expression, Acceptor}
use Rattle.meaning.specs.Offsets.{read_at, write_at, value_from_innermost, place_from_innermost}
use Rattle.meaning.specs.Translation.{assign}
use Rattle.meaning.proofs.Laws.Groups.{group_below, quotient_below, remainder_below, quotient_of_group}
use Rattle.meaning.proofs.Laws.Groups.{remainder_of_group}
use Rattle.meaning.proofs.Laws.Layout.{Outside, Part, outside_part}
use Rattle.meaning.proofs.Laws.Paths.{PathOf, SamePaths, on_number_holds, on_array, on_pair, on_groups, flat_path, group_path}
use Rattle.meaning.proofs.Laws.Paths.{zipped_path, second_not_first}
use Rattle.meaning.proofs.Laws.Levels.{extends_refl, place_from_innermost_holds, value_from_innermost_holds}
use Rattle.meaning.proofs.Laws.Holds.{Setting, StoreOf, StateOf, Contents, cell_at, environment, CellSet, Holds}
use Rattle.meaning.proofs.Laws.Into.{NotAt, Into}

-- From st to st' the value f of type t has been written to the cells at g, by k writes; nothing else has changed
-- but some of the n cells from a on.
pub record Wrote (W : Setting) (g : Path ℕ → ℕ) (t : DataType) (f : Contents W) (a n k : ℕ)
    (st st' : StateOf W) : Type 0 where
  pub written : (p : Path ℕ) → PathOf t p → cell_at W st'.store (g p) ≡ f p
  pub kept : (x : ℕ) → NotAt t g x → Outside a n x → cell_at W st'.store x ≡ cell_at W st.store x
  pub same_length : length st'.store ≡ length st.store
  pub counted : st'.writes ≡ st.writes + k

pub wrote_inside : {W : Setting} {g : Path ℕ → ℕ} {t : DataType} {f : Contents W} {a n b m k : ℕ} {st st' : StateOf W}
    → Part b m a n → Wrote W g t f b m k st st' → Wrote W g t f a n k st st'
wrote_inside p H = record {
  written = H.written;
  kept = λ x h o. H.kept x h (outside_part p o);
  same_length = H.same_length;
  counted = H.counted;
}

-- in another type that the same paths lead into, by as many writes
pub wrote_same : {W : Setting} {g : Path ℕ → ℕ} {t t' : DataType} {f : Contents W} {a n k k' : ℕ} {st st' : StateOf W}
    → SamePaths t t' → k ≡ k' → Wrote W g t f a n k st st' → Wrote W g t' f a n k' st st'
wrote_same same e H = record {
  written = λ p ok. H.written p (same.from p ok);
  kept = λ x h o. H.kept x (λ p ok. h p (same.to p ok)) o;
  same_length = H.same_length;
  counted = omega (arith, H.counted);
}

-- One `set`

put_wrote : {W : Setting} (s : StoreOf W) (m x a : ℕ) (z : W.domain.Number) (g : Path ℕ → ℕ) (f : Contents W)
    → x ≡ g [] → z ≡ f [] → g [] < length s
    → Wrote W g number f a 0 1 (record { store = s; writes = m }) (record { store = put s x z; writes = suc m })
put_wrote {W} s m x a z g f ex ez l = record {
  written =
      on_number_holds (λ p. cell_at W (put s x z) (g p) ≡ f p)
      (ap₂ (λ (i : ℕ) (v : W.domain.Number). cell_at W (put s i v) (g [])) ex ez
      ∙ get_or-set_same s (g []) (f []) (no_number W.domain) l);
  kept = λ i h o. get_or-set_other s x i z (no_number W.domain) (λ e. h [] tt (sym ex ∙ sym e));
  same_length = length-set s x z;
  counted = omega arith;
}

pub set_wrote : {W : Setting} {E : Expression} {P : Acceptor} {f : Contents W} {g : Path ℕ → ℕ} {cs rs : List ℕ}
    {S : CellSet} {L : ℕ} (a b : ℕ) (st : StateOf W)
    → Holds W cs rs st.store S E number f → Into W cs rs P number g S L → L ≤ length st.store
    → (ch : Orders (assign number E P (length cs) (length rs)))
    → Wrote W g number f b 0 1 st
    (run W.domain (assign number E P (length cs) (length rs)) ch (environment W cs rs) a st)
unfolding run assign
set_wrote {W} {E} {P} {f} {g} {cs} {rs} a b st h k l ch =
    put_wrote st.store st.writes
    (address_of W.out (entry cs) (entry rs) (place_from_innermost (length cs) (length rs) (write_at P [])))
    b
    (value_in W.domain W.bases (entry cs) (entry rs) st.store
    (value_from_innermost (length cs) (length rs) (read_at E [])))
    g f
    (place_from_innermost_holds W.out cs rs (write_at P []) ∙ k.lies cs rs (extends_refl cs) (extends_refl rs) [] tt)
    (value_from_innermost_holds W.domain W.bases cs rs st.store (read_at E [])
    ∙ h.read cs rs st.store (extends_refl cs) (extends_refl rs) (λ x sx. refl) [] tt)
    (let q = k.in_store [] tt in omega arith)

-- Two writes, one after the other

pub pair_wrote : {W : Setting} {s t : DataType} {g : Path ℕ → ℕ} {f : Contents W} {a n k₁ k₂ : ℕ}
    {st st₁ st₂ : StateOf W}
    → ((p r : Path ℕ) → PathOf (DataType.pair s t) p → PathOf (DataType.pair s t) r → g p ≡ g r → p ≡ r)
    → ((p : Path ℕ) → PathOf (DataType.pair s t) p → Outside a n (g p))
    → Wrote W (λ p. g (first ∷ p)) s (λ p. f (first ∷ p)) a n k₁ st st₁
    → Wrote W (λ p. g (second ∷ p)) t (λ p. f (second ∷ p)) a n k₂ st₁ st₂
    → Wrote W g (DataType.pair s t) f a n (k₁ + k₂) st st₂
pair_wrote {W} {s} {t} {g} {f} {st₂} distinct clear H K = record {
  written =
      on_pair s t (λ p. cell_at W st₂.store (g p) ≡ f p)
      (λ p ok.
      K.kept (g (first ∷ p)) (λ r okr e. second_not_first (distinct (second ∷ r) (first ∷ p) okr ok e))
      (clear (first ∷ p) ok)
      ∙ H.written p ok)
      (λ p ok. K.written p ok);
  kept = λ x h o. K.kept x (λ p ok. h (second ∷ p) ok) o ∙ H.kept x (λ p ok. h (first ∷ p) ok) o;
  same_length = K.same_length ∙ H.same_length;
  counted = omega (arith, K.counted, H.counted);
}

pub zip_wrote : {W : Setting} {n : ℕ} {s t : DataType} {g : Path ℕ → ℕ} {f f₁ f₂ : Contents W} {a m k₁ k₂ : ℕ}
    {st st₁ st₂ : StateOf W}
    → ((p r : Path ℕ)
    → PathOf (array n (DataType.pair s t)) p → PathOf (array n (DataType.pair s t)) r → g p ≡ g r → p ≡ r)
    → ((p : Path ℕ) → PathOf (array n (DataType.pair s t)) p → Outside a m (g p))
    → ((i : ℕ) (p : Path ℕ) → f (index i ∷ first ∷ p) ≡ f₁ (index i ∷ p))
    → ((i : ℕ) (p : Path ℕ) → f (index i ∷ second ∷ p) ≡ f₂ (index i ∷ p))
    → Wrote W (λ p. g (zipped_path first p)) (array n s) f₁ a m k₁ st st₁
    → Wrote W (λ p. g (zipped_path second p)) (array n t) f₂ a m k₂ st₁ st₂
    → Wrote W g (array n (DataType.pair s t)) f a m (k₁ + k₂) st st₂
zip_wrote {W} {n} {s} {t} {g} {f} {st₂} distinct clear e₁ e₂ H K = record {
  written =
      on_array n (DataType.pair s t) (λ p. cell_at W st₂.store (g p) ≡ f p)
      (λ i r l.
      on_pair s t (λ p. cell_at W st₂.store (g (index i ∷ p)) ≡ f (index i ∷ p))
      (λ p ok.
      K.kept (g (index i ∷ first ∷ p))
      (on_array n t (λ r. g (zipped_path second r) ≢ g (index i ∷ first ∷ p))
      (λ j r lj okr e.
      second_not_first (ap tail (distinct (index j ∷ second ∷ r) (index i ∷ first ∷ p) (lj, okr) (l, ok) e))))
      (clear (index i ∷ first ∷ p) (l, ok))
      ∙ H.written (index i ∷ p) (l, ok)
      ∙ sym (e₁ i p))
      (λ p ok. K.written (index i ∷ p) (l, ok) ∙ sym (e₂ i p))
      r);
  kept = λ x h o.
      K.kept x
      (on_array n t (λ r. g (zipped_path second r) ≢ x) (λ i p l ok. h (index i ∷ second ∷ p) (l, ok))) o
      ∙ H.kept x (on_array n s (λ r. g (zipped_path first r) ≢ x) (λ i p l ok. h (index i ∷ first ∷ p) (l, ok))) o;
  same_length = K.same_length ∙ H.same_length;
  counted = omega (arith, K.counted, H.counted);
}

-- Writes into a regrouped place

pub split_wrote : {W : Setting} {t : DataType} {g : Path ℕ → ℕ} {f : Contents W} {a l k : ℕ} {st st' : StateOf W}
    (m n : ℕ)
    → Wrote W (λ p. g (group_path n p)) (array (m * n) t) f a l k st st'
    → Wrote W g (array m (array n t)) (λ p. f (flat_path n p)) a l k st st'
split_wrote {W} {t} {g} {f} {st'} m n H = record {
  written =
      on_groups m n t (λ p. cell_at W st'.store (g p) ≡ f (flat_path n p))
      (λ i j p l l₂ ok.
      ap₂ (λ (x y : ℕ). cell_at W st'.store (g (index x ∷ index y ∷ p)))
      (sym (quotient_of_group n i j l₂))
      (sym (remainder_of_group n i j l₂))
      ∙ H.written (index (n * i + j) ∷ p) (group_below l l₂, ok));
  kept = λ x h o.
      H.kept x
      (on_array (m * n) t (λ p. g (group_path n p) ≢ x)
      (λ i p l ok. h (group_path n (index i ∷ p)) (quotient_below i m n l, (remainder_below i m n l, ok))))
      o;
  same_length = H.same_length;
  counted = H.counted;
}

pub join_wrote : {W : Setting} {t : DataType} {g : Path ℕ → ℕ} {f : Contents W} {a l k : ℕ} {st st' : StateOf W}
    (m n : ℕ)
    → Wrote W (λ p. g (flat_path n p)) (array m (array n t)) f a l k st st'
    → Wrote W g (array (m * n) t) (λ p. f (group_path n p)) a l k st st'
join_wrote {W} {t} {g} {f} {st'} m n H = record {
  written =
      on_array (m * n) t (λ p. cell_at W st'.store (g p) ≡ f (group_path n p))
      (λ i p l ok.
      ap (λ (x : ℕ). cell_at W st'.store (g (index x ∷ p))) (sym (div-add-mod i n))
      ∙ H.written (group_path n (index i ∷ p)) (quotient_below i m n l, (remainder_below i m n l, ok)));
  kept = λ x h o.
      H.kept x
      (on_groups m n t (λ p. g (flat_path n p) ≢ x)
      (λ i j p l l₂ ok. h (index (n * i + j) ∷ p) (group_below l l₂, ok)))
      o;
  same_length = H.same_length;
  counted = H.counted;
}
