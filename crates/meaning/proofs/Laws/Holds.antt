-- What it is for an expression to hold a value, and that each way of making an expression keeps it.
use Rattle.std.specs.Prelude.{◌≡◌, refl, List, ◌∷◌, ℕ, ◌+◌, ◌*◌, ◌<◌, length, ℤ}
use Rattle.std.proofs.Common.{sym, ap, ap₂, ◌∙◌, subst, arith}
use Rattle.arithmetic.specs.Arithmetic.{Operation}
use Rattle.meaning.specs.Types.{DataType, number, array}
use Rattle.meaning.specs.Numbers.{NumberDomain}
use Rattle.meaning.specs.Loops.{Offset, plus, times, over, rest}
use Rattle.meaning.specs.Runs.{entry, Environment, Store, State, cell, value_in}
use Rattle.meaning.specs.Paths.{Path, tail, by_part, index, first, second}
use Rattle.meaning.specs.Expressions.{Expression}
use Rattle.meaning.specs.Offsets.{read_at}
use Rattle.meaning.proofs.Laws.Groups.{group_below, quotient_below, remainder_below}
use Rattle.meaning.proofs.Laws.Paths.{PathOf, SamePaths, cell_of, flat_path, group_path, unzipped_path}
use Rattle.meaning.proofs.Laws.Evaluation.{along_array, along_pair, offset_is_cell}
use Rattle.meaning.proofs.Laws.Levels.{at_level, Extends, extends_trans, level_top, number_under, path_under}
use Rattle.meaning.proofs.Laws.Levels.{number_additive}
use Rattle.meaning.proofs.Laws.PathValues.{PathValue, element_at}

-- Under what a command runs: the numbers, where the inputs and the output begin, the inputs' types and what they
-- hold.
pub record Setting : Type 1 where
  pub domain : NumberDomain
  pub bases : List ℕ
  pub out : ℕ
  pub input_types : List DataType
  pub input_values : ℕ → PathValue domain

abbrev pub StoreOf : Setting → Type 0
StoreOf W = Store W.domain

abbrev pub StateOf : Setting → Type 0
StateOf W = State W.domain

abbrev pub Contents : Setting → Type 0
Contents W = PathValue W.domain

abbrev pub cell_at : (W : Setting) → StoreOf W → ℕ → W.domain.Number
cell_at W s x = cell W.domain s x

abbrev pub environment : Setting → List ℕ → List ℕ → Environment
environment W cs rs = record { input_bases = W.bases; output_base = W.out; counters = cs; regions = rs }

-- a set of cells, and stores that agree on it
abbrev pub CellSet : Type 1
CellSet = ℕ → Type 0

abbrev pub Agree : (W : Setting) → CellSet → StoreOf W → StoreOf W → Type 0
Agree W S s s' = (x : ℕ) → S x → cell_at W s' x ≡ cell_at W s x

-- the number of an expression read at a path
abbrev pub reading : (W : Setting) → List ℕ → List ℕ → StoreOf W → Expression → Path Offset → W.domain.Number
reading W cs rs s E p = value_in W.domain W.bases (at_level cs) (at_level rs) s (read_at E p)

-- In store s, under counters cs and regions rs, expression E holds the value f of type t, relying on the cells of
-- S: it does in every store that agrees with s on S, and under all further counters and regions.
pub record Holds (W : Setting) (cs rs : List ℕ) (s : StoreOf W) (S : CellSet) (E : Expression) (t : DataType)
    (f : Contents W) : Type 0 where
  pub read : (cs' rs' : List ℕ) (s' : StoreOf W)
      → Extends cs cs' → Extends rs rs' → Agree W S s s'
      → (p : Path Offset) → PathOf t (path_under cs' p)
      → reading W cs' rs' s' E p ≡ f (path_under cs' p)

-- offset o has the number i; region l begins at cell b
abbrev pub OffsetIs : List ℕ → Offset → ℕ → Type 0
OffsetIs cs o i = (cs' : List ℕ) → Extends cs cs' → number_under cs' o ≡ i

abbrev pub RegionIs : List ℕ → ℕ → ℕ → Type 0
RegionIs rs l b = (rs' : List ℕ) → Extends rs rs' → at_level rs' l ≡ b

pub innermost_counter : (i : ℕ) (cs : List ℕ) → OffsetIs (i ∷ cs) (Offset.counter (length cs)) i
innermost_counter i cs cs' e = e.same (length cs) (omega arith) ∙ level_top i cs

pub innermost_region : (b : ℕ) (rs : List ℕ) → RegionIs (b ∷ rs) (length rs) b
innermost_region b rs rs' e = e.same (length rs) (omega arith) ∙ level_top b rs

pub region_extends : (l b : ℕ) {rs rs' : List ℕ} → RegionIs rs l b → Extends rs rs' → RegionIs rs' l b
region_extends l b h e rs'' e' = h rs'' (extends_trans e e')

-- what holds goes on holding: under more counters and regions, in a store that agrees, relying on more cells
pub holds_on : {W : Setting} {cs rs cs' rs' : List ℕ} {s s' : StoreOf W} {S S' : CellSet} {E : Expression}
    {t : DataType} {f : Contents W}
    → Holds W cs rs s S E t f → Extends cs cs' → Extends rs rs' → Agree W S s s' → ((x : ℕ) → S x → S' x)
    → Holds W cs' rs' s' S' E t f
holds_on h ec er ag sub = record {
  read = λ cs'' rs'' s'' ec' er' ag' p ok.
      h.read cs'' rs'' s'' (extends_trans ec ec') (extends_trans er er') (λ x k. ag' x (sub x k) ∙ ag x k) p ok;
}

-- in another type that the same paths lead into
pub holds_same : {W : Setting} {cs rs : List ℕ} {s : StoreOf W} {S : CellSet} {E : Expression} {t t' : DataType}
    {f : Contents W}
    → SamePaths t t' → Holds W cs rs s S E t f → Holds W cs rs s S E t' f
holds_same same h = record {
  read = λ cs' rs' s' ec er ag p ok. h.read cs' rs' s' ec er ag p (same.from (path_under cs' p) ok);
}

module _ {W : Setting} {cs rs : List ℕ} {s : StoreOf W} {S : CellSet} where
  pub holds_literal : (z : ℤ) → Holds W cs rs s S (Expression.literal z) number (λ p. W.domain.literal z)
  holds_literal z = record { read = λ cs' rs' s' ec er ag p ok. refl }

  pub holds_negate : {E : Expression} {f : Contents W}
      → Holds W cs rs s S E number f → Holds W cs rs s S (Expression.negate E) number (λ p. W.domain.negate (f p))
  holds_negate h =
      record { read = λ cs' rs' s' ec er ag p ok. ap W.domain.negate (h.read cs' rs' s' ec er ag p ok) }

  pub holds_operation : (o : Operation) {E F : Expression} {f g : Contents W}
      → Holds W cs rs s S E number f → Holds W cs rs s S F number g
      → Holds W cs rs s S (Expression.operation o E F) number (λ p. W.domain.operate o (f p) (g p))
  holds_operation o h k = record {
    read = λ cs' rs' s' ec er ag p ok.
        ap₂ (W.domain.operate o) (h.read cs' rs' s' ec er ag p ok) (k.read cs' rs' s' ec er ag p ok);
  }

  pub holds_index : {E : Expression} {n : ℕ} {t : DataType} {f : Contents W} (o : Offset) (i : ℕ)
      → Holds W cs rs s S E (array n t) f → OffsetIs cs o i → i < n
      → Holds W cs rs s S (Expression.index E o) t (element_at W.domain f i)
  holds_index {n} {f} o i h io l = record {
    read = λ cs' rs' s' ec er ag p ok.
        h.read cs' rs' s' ec er ag (index o ∷ p) (subst (λ (j : ℕ). j < n) (sym (io cs' ec)) l, ok)
        ∙ ap (λ (j : ℕ). f (index j ∷ path_under cs' p)) (io cs' ec);
  }

  pub holds_first : {E : Expression} {a b : DataType} {f : Contents W}
      → Holds W cs rs s S E (DataType.pair a b) f → Holds W cs rs s S (Expression.first E) a (λ p. f (first ∷ p))
  holds_first h = record { read = λ cs' rs' s' ec er ag p ok. h.read cs' rs' s' ec er ag (first ∷ p) ok }

  pub holds_second : {E : Expression} {a b : DataType} {f : Contents W}
      → Holds W cs rs s S E (DataType.pair a b) f → Holds W cs rs s S (Expression.second E) b (λ p. f (second ∷ p))
  holds_second h = record { read = λ cs' rs' s' ec er ag p ok. h.read cs' rs' s' ec er ag (second ∷ p) ok }

  pub holds_pair : {E F : Expression} {a b : DataType} {f g : Contents W}
      → Holds W cs rs s S E a f → Holds W cs rs s S F b g
      → Holds W cs rs s S (Expression.pair E F) (DataType.pair a b) (λ p. by_part p (f (tail p)) (g (tail p)))
  holds_pair {E} {F} {a} {b} {f} {g} h k = record {
    read = λ cs' rs' s' ec er ag.
        along_pair (number_under cs') a b
        (λ p.
        reading W cs' rs' s' (Expression.pair E F) p
        ≡ by_part (path_under cs' p) (f (tail (path_under cs' p))) (g (tail (path_under cs' p))))
        (λ p ok. h.read cs' rs' s' ec er ag p ok)
        (λ p ok. k.read cs' rs' s' ec er ag p ok);
  }

  pub holds_zip : {E F : Expression} {n : ℕ} {a b : DataType} {f g : Contents W}
      → Holds W cs rs s S E (array n a) f → Holds W cs rs s S F (array n b) g
      → Holds W cs rs s S (Expression.zip E F) (array n (DataType.pair a b))
      (λ p. by_part (tail p) (f (unzipped_path p)) (g (unzipped_path p)))
  holds_zip {E} {F} {n} {a} {b} {f} {g} h k = record {
    read = λ cs' rs' s' ec er ag.
        along_array (number_under cs') n (DataType.pair a b)
        (λ p.
        reading W cs' rs' s' (Expression.zip E F) p
        ≡ by_part (tail (path_under cs' p)) (f (unzipped_path (path_under cs' p))) (g (unzipped_path (path_under cs' p))))
        (λ o r l.
        along_pair (number_under cs') a b
        (λ p.
        reading W cs' rs' s' (Expression.zip E F) (index o ∷ p)
        ≡ by_part (path_under cs' p)
        (f (index (number_under cs' o) ∷ tail (path_under cs' p)))
        (g (index (number_under cs' o) ∷ tail (path_under cs' p))))
        (λ p ok. h.read cs' rs' s' ec er ag (index o ∷ p) (l, ok))
        (λ p ok. k.read cs' rs' s' ec er ag (index o ∷ p) (l, ok))
        r);
  }

  pub holds_split : {E : Expression} {t : DataType} {f : Contents W} (m n : ℕ)
      → Holds W cs rs s S E (array (m * n) t) f
      → Holds W cs rs s S (Expression.split n E) (array m (array n t)) (λ p. f (flat_path n p))
  holds_split {E} {t} {f} m n h = record {
    read = λ cs' rs' s' ec er ag.
        along_array (number_under cs') m (array n t)
        (λ p. reading W cs' rs' s' (Expression.split n E) p ≡ f (flat_path n (path_under cs' p)))
        (λ o r l.
        along_array (number_under cs') n t
        (λ p.
        reading W cs' rs' s' (Expression.split n E) (index o ∷ p)
        ≡ f (flat_path n (index (number_under cs' o) ∷ path_under cs' p)))
        (λ o₂ p l₂ ok. h.read cs' rs' s' ec er ag (index (plus (times n o) o₂) ∷ p) (group_below l l₂, ok))
        r);
  }

  pub holds_join : {E : Expression} {t : DataType} {f : Contents W} (m n : ℕ)
      → Holds W cs rs s S E (array m (array n t)) f
      → Holds W cs rs s S (Expression.join n E) (array (m * n) t) (λ p. f (group_path n p))
  holds_join {E} {t} {f} m n h = record {
    read = λ cs' rs' s' ec er ag.
        along_array (number_under cs') (m * n) t
        (λ p. reading W cs' rs' s' (Expression.join n E) p ≡ f (group_path n (path_under cs' p)))
        (λ o r l ok.
        h.read cs' rs' s' ec er ag (index (over n o) ∷ index (rest n o) ∷ r)
        (quotient_below (number_under cs' o) m n l, (remainder_below (number_under cs' o) m n l, ok)));
  }

  -- a region, and an input, whose cells hold a value
  pub holds_region : {t : DataType} {f : Contents W} (l b : ℕ)
      → RegionIs rs l b
      → ((p : Path ℕ) → PathOf t p → cell_at W s (b + cell_of t p) ≡ f p)
      → ((p : Path ℕ) → PathOf t p → S (b + cell_of t p))
      → Holds W cs rs s S (Expression.region l t) t f
  holds_region {t} {f} l b ir h k = record {
    read = λ cs' rs' s' ec er ag p ok.
        ap₂ (λ (x y : ℕ). cell_at W s' (x + y)) (ir rs' er)
        (offset_is_cell (number_under cs') (number_additive cs') t p ok)
        ∙ ag (b + cell_of t (path_under cs' p)) (k (path_under cs' p) ok)
        ∙ h (path_under cs' p) ok;
  }

  pub holds_input : {t : DataType} {f : Contents W} (k : ℕ)
      → ((p : Path ℕ) → PathOf t p → cell_at W s (entry W.bases k + cell_of t p) ≡ f p)
      → ((p : Path ℕ) → PathOf t p → S (entry W.bases k + cell_of t p))
      → Holds W cs rs s S (Expression.input k t) t f
  holds_input {t} {f} k h g = record {
    read = λ cs' rs' s' ec er ag p ok.
        ap (λ (y : ℕ). cell_at W s' (entry W.bases k + y))
        (offset_is_cell (number_under cs') (number_additive cs') t p ok)
        ∙ ag (entry W.bases k + cell_of t (path_under cs' p)) (g (path_under cs' p) ok)
        ∙ h (path_under cs' p) ok;
  }
