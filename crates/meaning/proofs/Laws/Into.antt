-- What it is for an acceptor to have its cells somewhere, and that each way of making an acceptor keeps it.
use Rattle.std.specs.Prelude.{◌≡◌, refl, ◌≢◌, false, List, [], ◌∷◌, ℕ, ◌+◌, ◌*◌, ◌≤◌, ◌<◌}
use Rattle.std.proofs.Common.{sym, ap, ap₂, ◌∙◌, subst, true≢false, le_trans, arith}
use Rattle.meaning.specs.Types.{DataType, is_number, cells, number, array, vector}
use Rattle.meaning.specs.Loops.{Offset, plus, times, over, rest}
use Rattle.meaning.specs.Runs.{address_of}
use Rattle.meaning.specs.Paths.{Step, Path, tail, index, first, second}
use Rattle.meaning.specs.Expressions.{Acceptor}
use Rattle.meaning.specs.Offsets.{zipped_at, write_at}
use Rattle.meaning.proofs.Laws.Groups.{group_below, quotient_below, remainder_below}
use Rattle.meaning.proofs.Laws.Layout.{Inside, Outside, not_both}
use Rattle.meaning.proofs.Laws.Paths.{PathOf, SamePaths, cell_of, on_array, on_groups, flat_path, group_path}
use Rattle.meaning.proofs.Laws.Paths.{unzipped_path}
use Rattle.meaning.proofs.Laws.Paths.{zipped_path, group_path_injective, flat_path_injective, cell_of_below}
use Rattle.meaning.proofs.Laws.Paths.{cell_of_injective}
use Rattle.meaning.proofs.Laws.Evaluation.{along_array, offset_is_cell}
use Rattle.meaning.proofs.Laws.Levels.{at_level, Extends, extends_trans, number_under, path_under, number_additive}
use Rattle.meaning.proofs.Laws.Holds.{Setting, CellSet, OffsetIs, RegionIs}

-- the cell of an acceptor written at a path
abbrev pub writing : Setting → List ℕ → List ℕ → Acceptor → Path Offset → ℕ
writing W cs rs P p = address_of W.out (at_level cs) (at_level rs) (write_at P p)

-- x is no cell of a value of type t whose cells are at g
abbrev pub NotAt : DataType → (Path ℕ → ℕ) → ℕ → Type 0
NotAt t g x = (p : Path ℕ) → PathOf t p → g p ≢ x

-- of two types that the same paths lead into either both are numbers or neither is
not_number_same : (t t' : DataType) → SamePaths t t' → is_number t' ≡ false → is_number t ≡ false
not_number_same number t' same h = absurd (none t' h (same.to [] tt))
  where
    none : (t : DataType) → is_number t ≡ false → PathOf t [] → ⊥
    none number h ok = true≢false h
    none (array n t) h ok = ok
    none (DataType.pair s t) h ok = ok
    none (vector w) h ok = ok
not_number_same (array n t) t' same h = refl
not_number_same (DataType.pair s t) t' same h = refl
not_number_same (vector w) t' same h = refl

-- Acceptor P has its cells of type t at g, under all further counters and regions. They are distinct, lie in a
-- store of L cells, and are apart from the cells of S. A number need not be apart: the one `set` into its cell is
-- the last, and what is read of the cells of S is read by then.
pub record Into (W : Setting) (cs rs : List ℕ) (P : Acceptor) (t : DataType) (g : Path ℕ → ℕ) (S : CellSet)
    (L : ℕ) : Type 0 where
  pub lies : (cs' rs' : List ℕ) → Extends cs cs' → Extends rs rs'
      → (p : Path Offset) → PathOf t (path_under cs' p) → writing W cs' rs' P p ≡ g (path_under cs' p)
  pub distinct : (p r : Path ℕ) → PathOf t p → PathOf t r → g p ≡ g r → p ≡ r
  pub in_store : (p : Path ℕ) → PathOf t p → g p < L
  pub apart : is_number t ≡ false → (x : ℕ) → S x → NotAt t g x

pub into_on : {W : Setting} {cs rs cs' rs' : List ℕ} {P : Acceptor} {t : DataType} {g : Path ℕ → ℕ} {S S' : CellSet}
    {L L' : ℕ}
    → Into W cs rs P t g S L → Extends cs cs' → Extends rs rs' → L ≤ L'
    → (is_number t ≡ false → (x : ℕ) → S' x → NotAt t g x)
    → Into W cs' rs' P t g S' L'
into_on h ec er l k = record {
  lies = λ cs'' rs'' ec' er' p ok. h.lies cs'' rs'' (extends_trans ec ec') (extends_trans er er') p ok;
  distinct = h.distinct;
  in_store = λ p ok. le_trans (h.in_store p ok) l;
  apart = k;
}

-- in another type that the same paths lead into
pub into_same : {W : Setting} {cs rs : List ℕ} {P : Acceptor} {t t' : DataType} {g : Path ℕ → ℕ} {S : CellSet} {L : ℕ}
    → SamePaths t t' → Into W cs rs P t g S L → Into W cs rs P t' g S L
into_same {t = t} {t' = t'} same h = record {
  lies = λ cs' rs' ec er p ok. h.lies cs' rs' ec er p (same.from (path_under cs' p) ok);
  distinct = λ p r ok ok' e. h.distinct p r (same.from p ok) (same.from r ok') e;
  in_store = λ p ok. h.in_store p (same.from p ok);
  apart = λ c x sx p ok. h.apart (not_number_same t t' same c) x sx p (same.from p ok);
}

module _ {W : Setting} {cs rs : List ℕ} {P : Acceptor} {S : CellSet} {L : ℕ} where
  pub into_index : {n : ℕ} {t : DataType} {g : Path ℕ → ℕ} (o : Offset) (i : ℕ)
      → OffsetIs cs o i → i < n → Into W cs rs P (array n t) g S L
      → Into W cs rs (Acceptor.index P o) t (λ p. g (index i ∷ p)) S L
  into_index {n} {t} {g} o i io l h = record {
    lies = λ cs' rs' ec er p ok.
        h.lies cs' rs' ec er (index o ∷ p) (subst (λ (j : ℕ). j < n) (sym (io cs' ec)) l, ok)
        ∙ ap (λ (j : ℕ). g (index j ∷ path_under cs' p)) (io cs' ec);
    distinct = λ p r ok ok' e. ap tail (h.distinct (index i ∷ p) (index i ∷ r) (l, ok) (l, ok') e);
    in_store = λ p ok. h.in_store (index i ∷ p) (l, ok);
    apart = λ not x sx p ok. h.apart refl x sx (index i ∷ p) (l, ok);
  }

  pub into_first : {t₁ t₂ : DataType} {g : Path ℕ → ℕ}
      → Into W cs rs P (DataType.pair t₁ t₂) g S L → Into W cs rs (Acceptor.first P) t₁ (λ p. g (first ∷ p)) S L
  into_first h = record {
    lies = λ cs' rs' ec er p ok. h.lies cs' rs' ec er (first ∷ p) ok;
    distinct = λ p r ok ok' e. ap tail (h.distinct (first ∷ p) (first ∷ r) ok ok' e);
    in_store = λ p ok. h.in_store (first ∷ p) ok;
    apart = λ not x sx p ok. h.apart refl x sx (first ∷ p) ok;
  }

  pub into_second : {t₁ t₂ : DataType} {g : Path ℕ → ℕ}
      → Into W cs rs P (DataType.pair t₁ t₂) g S L → Into W cs rs (Acceptor.second P) t₂ (λ p. g (second ∷ p)) S L
  into_second h = record {
    lies = λ cs' rs' ec er p ok. h.lies cs' rs' ec er (second ∷ p) ok;
    distinct = λ p r ok ok' e. ap tail (h.distinct (second ∷ p) (second ∷ r) ok ok' e);
    in_store = λ p ok. h.in_store (second ∷ p) ok;
    apart = λ not x sx p ok. h.apart refl x sx (second ∷ p) ok;
  }

  -- the first parts, or the second parts, of an array of pairs: `part` is that part's step, s its type
  into_zipped : {n : ℕ} {s u : DataType} {Q : Acceptor} {g : Path ℕ → ℕ} (part : Step ℕ) (step : Step Offset)
      → ((p : Path ℕ) → PathOf s p → PathOf u (part ∷ p))
      → ((cs' : List ℕ) (p : Path Offset) → path_under cs' (step ∷ p) ≡ part ∷ path_under cs' p)
      → ((p : Path Offset) → write_at Q p ≡ write_at P (zipped_at step p))
      → Into W cs rs P (array n u) g S L
      → Into W cs rs Q (array n s) (λ p. g (zipped_path part p)) S L
  into_zipped {n} {s} {u} {Q} {g} part step path under same h = record {
    lies = λ cs' rs' ec er.
        along_array (number_under cs') n s (λ p. writing W cs' rs' Q p ≡ g (zipped_path part (path_under cs' p)))
        (λ o p l ok.
        let e : path_under cs' (step ∷ p) ≡ part ∷ path_under cs' p = under cs' p in
        ap (address_of W.out (at_level cs') (at_level rs')) (same (index o ∷ p))
        ∙ h.lies cs' rs' ec er (index o ∷ step ∷ p) (l, subst (PathOf u) (sym e) (path (path_under cs' p) ok))
        ∙ ap (λ (π : Path ℕ). g (index (number_under cs' o) ∷ π)) e);
    distinct = λ p r ok ok'.
        on_array n s (λ y. g (zipped_path part y) ≡ g (zipped_path part r) → y ≡ r)
        (λ i y l k.
        on_array n s (λ z. g (index i ∷ part ∷ y) ≡ g (zipped_path part z) → index i ∷ y ≡ z)
        (λ j z l₂ k₂ e.
        ap (λ (π : Path ℕ). unzipped_path π)
        (h.distinct (index i ∷ part ∷ y) (index j ∷ part ∷ z) (l, path y k) (l₂, path z k₂) e))
        r ok')
        p ok;
    in_store =
        on_array n s (λ p. g (zipped_path part p) < L) (λ i p l ok. h.in_store (index i ∷ part ∷ p) (l, path p ok));
    apart = λ not x sx.
        on_array n s (λ p. g (zipped_path part p) ≢ x) (λ i p l ok. h.apart refl x sx (index i ∷ part ∷ p) (l, path p ok));
  }

  pub into_zip_first : {n : ℕ} {t₁ t₂ : DataType} {g : Path ℕ → ℕ}
      → Into W cs rs P (array n (DataType.pair t₁ t₂)) g S L
      → Into W cs rs (Acceptor.zip_first P) (array n t₁) (λ p. g (zipped_path first p)) S L
  into_zip_first h = into_zipped first first (λ p ok. ok) (λ cs' p. refl) (λ p. refl) h

  pub into_zip_second : {n : ℕ} {t₁ t₂ : DataType} {g : Path ℕ → ℕ}
      → Into W cs rs P (array n (DataType.pair t₁ t₂)) g S L
      → Into W cs rs (Acceptor.zip_second P) (array n t₂) (λ p. g (zipped_path second p)) S L
  into_zip_second h = into_zipped second second (λ p ok. ok) (λ cs' p. refl) (λ p. refl) h

  -- the flat array's place, from the place of its groups
  pub into_split : {t : DataType} {g : Path ℕ → ℕ} (m n : ℕ)
      → Into W cs rs P (array m (array n t)) g S L
      → Into W cs rs (Acceptor.split n P) (array (m * n) t) (λ p. g (group_path n p)) S L
  into_split {t} {g} m n h = record {
    lies = λ cs' rs' ec er.
        along_array (number_under cs') (m * n) t
        (λ p. writing W cs' rs' (Acceptor.split n P) p ≡ g (group_path n (path_under cs' p)))
        (λ o p l ok.
        h.lies cs' rs' ec er (index (over n o) ∷ index (rest n o) ∷ p)
        (quotient_below (number_under cs' o) m n l, (remainder_below (number_under cs' o) m n l, ok)));
    distinct = λ p r ok ok'.
        on_array (m * n) t (λ y. g (group_path n y) ≡ g (group_path n r) → y ≡ r)
        (λ i y l k.
        on_array (m * n) t (λ z. g (group_path n (index i ∷ y)) ≡ g (group_path n z) → index i ∷ y ≡ z)
        (λ j z l₂ k₂ e.
        group_path_injective n i j y z
        (h.distinct (group_path n (index i ∷ y)) (group_path n (index j ∷ z)) (in_groups i y l k) (in_groups j z l₂ k₂) e))
        r ok')
        p ok;
    in_store = on_array (m * n) t (λ p. g (group_path n p) < L)
        (λ i p l ok. h.in_store (group_path n (index i ∷ p)) (in_groups i p l ok));
    apart = λ not x sx.
        on_array (m * n) t (λ p. g (group_path n p) ≢ x)
        (λ i p l ok. h.apart refl x sx (group_path n (index i ∷ p)) (in_groups i p l ok));
  }
    where
      in_groups : (i : ℕ) (p : Path ℕ) → i < m * n → PathOf t p
          → PathOf (array m (array n t)) (group_path n (index i ∷ p))
      in_groups i p l ok = (quotient_below i m n l, (remainder_below i m n l, ok))

  -- the groups' place, from the place of the flat array
  pub into_join : {t : DataType} {g : Path ℕ → ℕ} (m n : ℕ)
      → Into W cs rs P (array (m * n) t) g S L
      → Into W cs rs (Acceptor.join n P) (array m (array n t)) (λ p. g (flat_path n p)) S L
  into_join {t} {g} m n h = record {
    lies = λ cs' rs' ec er.
        along_array (number_under cs') m (array n t)
        (λ p. writing W cs' rs' (Acceptor.join n P) p ≡ g (flat_path n (path_under cs' p)))
        (λ o r l.
        along_array (number_under cs') n t
        (λ p.
        writing W cs' rs' (Acceptor.join n P) (index o ∷ p)
        ≡ g (flat_path n (index (number_under cs' o) ∷ path_under cs' p)))
        (λ o₂ p l₂ ok. h.lies cs' rs' ec er (index (plus (times n o) o₂) ∷ p) (group_below l l₂, ok))
        r);
    distinct = λ p r ok ok'.
        on_groups m n t (λ y. g (flat_path n y) ≡ g (flat_path n r) → y ≡ r)
        (λ i j y l l₂ k.
        on_groups m n t (λ z. g (flat_path n (index i ∷ index j ∷ y)) ≡ g (flat_path n z) → index i ∷ index j ∷ y ≡ z)
        (λ i' j' z l' l₂' k' e.
        flat_path_injective n i j i' j' y z l₂ l₂'
        (h.distinct (index (n * i + j) ∷ y) (index (n * i' + j') ∷ z) (group_below l l₂, k)
        (group_below l' l₂', k') e))
        r ok')
        p ok;
    in_store = on_groups m n t (λ p. g (flat_path n p) < L)
        (λ i j p l l₂ ok. h.in_store (index (n * i + j) ∷ p) (group_below l l₂, ok));
    apart = λ not x sx.
        on_groups m n t (λ p. g (flat_path n p) ≢ x)
        (λ i j p l l₂ ok. h.apart refl x sx (index (n * i + j) ∷ p) (group_below l l₂, ok));
  }

-- a whole value of type t, from cell b on
whole_distinct : (b : ℕ) (t : DataType) (p r : Path ℕ)
    → PathOf t p → PathOf t r → b + cell_of t p ≡ b + cell_of t r → p ≡ r
whole_distinct b t p r ok ok' e = cell_of_injective t p r ok ok' (omega arith)

pub whole_inside : (b : ℕ) (t : DataType) (p : Path ℕ) → PathOf t p → Inside b (cells t) (b + cell_of t p)
whole_inside b t p ok = record { from = omega arith; below = (let h = cell_of_below t p ok in omega arith) }

pub whole_apart : (b : ℕ) (t : DataType) (x : ℕ) → Outside b (cells t) x → NotAt t (λ p. b + cell_of t p) x
whole_apart b t x o p ok e = not_both (whole_inside b t p ok) (subst (Outside b (cells t)) (sym e) o)

pub into_region : {W : Setting} {cs rs : List ℕ} {S : CellSet} {L : ℕ} (l b : ℕ) (t : DataType)
    → RegionIs rs l b → b + cells t ≤ L → (is_number t ≡ false → (x : ℕ) → S x → Outside b (cells t) x)
    → Into W cs rs (Acceptor.region l t) t (λ p. b + cell_of t p) S L
into_region l b t ir le apart = record {
  lies = λ cs' rs' ec er p ok. ap₂ ◌+◌ (ir rs' er) (offset_is_cell (number_under cs') (number_additive cs') t p ok);
  distinct = whole_distinct b t;
  in_store = λ p ok. let h = cell_of_below t p ok in omega arith;
  apart = λ not x sx. whole_apart b t x (apart not x sx);
}

pub into_output : {W : Setting} {cs rs : List ℕ} {S : CellSet} {L : ℕ} (t : DataType)
    → W.out + cells t ≤ L → ((x : ℕ) → S x → Outside W.out (cells t) x)
    → Into W cs rs (Acceptor.output t) t (λ p. W.out + cell_of t p) S L
into_output {W} t le apart = record {
  lies =
      λ cs' rs' ec er p ok. ap (λ (j : ℕ). W.out + j) (offset_is_cell (number_under cs') (number_additive cs') t p ok);
  distinct = whole_distinct W.out t;
  in_store = λ p ok. let h = cell_of_below t p ok in omega arith;
  apart = λ not x sx. whole_apart W.out t x (apart x sx);
}
