-- What it is for an expression to read only some cells, and that each way of making an expression keeps it.
use Rattle.std.proofs.Common.{sym, ap, ap₂, subst}
use Rattle.std.specs.Prelude.{List, ◌∷◌, ℕ, ◌+◌, ◌*◌, ◌<◌, length, ℤ}
use Rattle.arithmetic.specs.Arithmetic.{Operation}
use Rattle.meaning.specs.Types.{DataType, number, array}
use Rattle.meaning.specs.Loops.{Offset, Value, plus, times, over, rest}
use Rattle.meaning.specs.Runs.{entry}
use Rattle.meaning.specs.Paths.{Path, index, first, second}
use Rattle.meaning.specs.Expressions.{Expression}
use Rattle.meaning.specs.Offsets.{read_at, value_from_innermost}
use Rattle.meaning.specs.Limits.{ReadsIn}
use Rattle.meaning.proofs.Laws.Groups.{group_below, quotient_below, remainder_below}
use Rattle.meaning.proofs.Laws.Paths.{PathOf, SamePaths, cell_of}
use Rattle.meaning.proofs.Laws.Evaluation.{along_array, along_pair, offset_is_cell}
use Rattle.meaning.proofs.Laws.Levels.{at_level, Extends, extends_trans, number_under, path_under, number_additive}
use Rattle.meaning.proofs.Laws.Levels.{offset_from_innermost_holds}
use Rattle.meaning.proofs.Laws.Holds.{Setting, CellSet, OffsetIs, RegionIs}
use Rattle.mixing.proofs.Laws.Independence.{reads_more}

-- the expression, read at a path, reads cells of S only
abbrev pub ReadingIn : Setting → List ℕ → List ℕ → CellSet → Expression → Path Offset → Type 0
ReadingIn W cs rs S E p = ReadsIn S W.bases (at_level cs) (at_level rs) (read_at E p)

-- Under counters cs and regions rs, and all further ones, expression E of type t reads cells of S only.
pub record ReadsOnly (W : Setting) (cs rs : List ℕ) (S : CellSet) (E : Expression) (t : DataType) : Type 0 where
  pub read : (cs' rs' : List ℕ) → Extends cs cs' → Extends rs rs'
      → (p : Path Offset) → PathOf t (path_under cs' p) → ReadingIn W cs' rs' S E p

pub reads_on : {W : Setting} {cs rs cs' rs' : List ℕ} {S S' : CellSet} {E : Expression} {t : DataType}
    → ReadsOnly W cs rs S E t → Extends cs cs' → Extends rs rs' → ((x : ℕ) → S x → S' x)
    → ReadsOnly W cs' rs' S' E t
reads_on {W} {E = E} h ec er more = record {
  read = λ cs'' rs'' ec' er' p ok.
      reads_more more W.bases (at_level cs'') (at_level rs'') (read_at E p)
      (h.read cs'' rs'' (extends_trans ec ec') (extends_trans er er') p ok);
}

-- in another type that the same paths lead into
pub reads_only_same : {W : Setting} {cs rs : List ℕ} {S : CellSet} {E : Expression} {t t' : DataType}
    → SamePaths t t' → ReadsOnly W cs rs S E t → ReadsOnly W cs rs S E t'
reads_only_same same h =
    record { read = λ cs' rs' ec er p ok. h.read cs' rs' ec er p (same.from (path_under cs' p) ok) }

-- numbers from 0 innermost read the same cells as levels
pub reads_from_innermost : (S : CellSet) (ins cs rs : List ℕ) (v : Value) → ReadsIn S ins (at_level cs) (at_level rs) v
    → ReadsIn S ins (entry cs) (entry rs) (value_from_innermost (length cs) (length rs) v)
reads_from_innermost S ins cs rs (Value.input k o) h =
    subst S (ap (λ (j : ℕ). entry ins k + j) (sym (offset_from_innermost_holds cs o))) h
reads_from_innermost S ins cs rs (Value.region l o) h =
    subst S (ap (λ (j : ℕ). at_level rs l + j) (sym (offset_from_innermost_holds cs o))) h
reads_from_innermost S ins cs rs (Value.literal v) h = tt
reads_from_innermost S ins cs rs (Value.negate v) h = reads_from_innermost S ins cs rs v h
reads_from_innermost S ins cs rs (Value.operation o v w) h =
    (reads_from_innermost S ins cs rs v h.0, reads_from_innermost S ins cs rs w h.1)

module _ {W : Setting} {cs rs : List ℕ} {S : CellSet} where
  pub reads_literal : (z : ℤ) → ReadsOnly W cs rs S (Expression.literal z) number
  reads_literal z = record { read = λ cs' rs' ec er p ok. tt }

  pub reads_negate : {E : Expression}
      → ReadsOnly W cs rs S E number → ReadsOnly W cs rs S (Expression.negate E) number
  reads_negate h = record { read = λ cs' rs' ec er p ok. h.read cs' rs' ec er p ok }

  pub reads_operation : (o : Operation) {E F : Expression}
      → ReadsOnly W cs rs S E number → ReadsOnly W cs rs S F number
      → ReadsOnly W cs rs S (Expression.operation o E F) number
  reads_operation o h k =
      record { read = λ cs' rs' ec er p ok. (h.read cs' rs' ec er p ok, k.read cs' rs' ec er p ok) }

  pub reads_index : {E : Expression} {n : ℕ} {t : DataType} (o : Offset) (i : ℕ)
      → ReadsOnly W cs rs S E (array n t) → OffsetIs cs o i → i < n → ReadsOnly W cs rs S (Expression.index E o) t
  reads_index {n = n} o i h io l = record {
    read = λ cs' rs' ec er p ok.
        h.read cs' rs' ec er (index o ∷ p) (subst (λ (j : ℕ). j < n) (sym (io cs' ec)) l, ok);
  }

  pub reads_first : {E : Expression} {a b : DataType}
      → ReadsOnly W cs rs S E (DataType.pair a b) → ReadsOnly W cs rs S (Expression.first E) a
  reads_first h = record { read = λ cs' rs' ec er p ok. h.read cs' rs' ec er (first ∷ p) ok }

  pub reads_second : {E : Expression} {a b : DataType}
      → ReadsOnly W cs rs S E (DataType.pair a b) → ReadsOnly W cs rs S (Expression.second E) b
  reads_second h = record { read = λ cs' rs' ec er p ok. h.read cs' rs' ec er (second ∷ p) ok }

  pub reads_pair : {E F : Expression} {a b : DataType}
      → ReadsOnly W cs rs S E a → ReadsOnly W cs rs S F b
      → ReadsOnly W cs rs S (Expression.pair E F) (DataType.pair a b)
  reads_pair {E} {F} {a} {b} h k = record {
    read = λ cs' rs' ec er.
        along_pair (number_under cs') a b (ReadingIn W cs' rs' S (Expression.pair E F))
        (λ p ok. h.read cs' rs' ec er p ok)
        (λ p ok. k.read cs' rs' ec er p ok);
  }

  pub reads_zip : {E F : Expression} {n : ℕ} {a b : DataType}
      → ReadsOnly W cs rs S E (array n a) → ReadsOnly W cs rs S F (array n b)
      → ReadsOnly W cs rs S (Expression.zip E F) (array n (DataType.pair a b))
  reads_zip {E} {F} {n} {a} {b} h k = record {
    read = λ cs' rs' ec er.
        along_array (number_under cs') n (DataType.pair a b) (ReadingIn W cs' rs' S (Expression.zip E F))
        (λ o r l.
        along_pair (number_under cs') a b (λ p. ReadingIn W cs' rs' S (Expression.zip E F) (index o ∷ p))
        (λ p ok. h.read cs' rs' ec er (index o ∷ p) (l, ok))
        (λ p ok. k.read cs' rs' ec er (index o ∷ p) (l, ok))
        r);
  }

  pub reads_split : {E : Expression} {t : DataType} (m n : ℕ)
      → ReadsOnly W cs rs S E (array (m * n) t) → ReadsOnly W cs rs S (Expression.split n E) (array m (array n t))
  reads_split {E} {t} m n h = record {
    read = λ cs' rs' ec er.
        along_array (number_under cs') m (array n t) (ReadingIn W cs' rs' S (Expression.split n E))
        (λ o r l.
        along_array (number_under cs') n t (λ p. ReadingIn W cs' rs' S (Expression.split n E) (index o ∷ p))
        (λ o₂ p l₂ ok. h.read cs' rs' ec er (index (plus (times n o) o₂) ∷ p) (group_below l l₂, ok))
        r);
  }

  pub reads_join : {E : Expression} {t : DataType} (m n : ℕ)
      → ReadsOnly W cs rs S E (array m (array n t)) → ReadsOnly W cs rs S (Expression.join n E) (array (m * n) t)
  reads_join {E} {t} m n h = record {
    read = λ cs' rs' ec er.
        along_array (number_under cs') (m * n) t (ReadingIn W cs' rs' S (Expression.join n E))
        (λ o r l ok.
        h.read cs' rs' ec er (index (over n o) ∷ index (rest n o) ∷ r)
        (quotient_below (number_under cs' o) m n l, (remainder_below (number_under cs' o) m n l, ok)));
  }

  pub reads_region : {t : DataType} (l b : ℕ)
      → RegionIs rs l b
      → ((p : Path ℕ) → PathOf t p → S (b + cell_of t p))
      → ReadsOnly W cs rs S (Expression.region l t) t
  reads_region {t} l b ir k = record {
    read = λ cs' rs' ec er p ok.
        subst S
        (sym (ap₂ ◌+◌ (ir rs' er) (offset_is_cell (number_under cs') (number_additive cs') t p ok)))
        (k (path_under cs' p) ok);
  }

  pub reads_input : {t : DataType} (k : ℕ)
      → ((p : Path ℕ) → PathOf t p → S (entry W.bases k + cell_of t p))
      → ReadsOnly W cs rs S (Expression.input k t) t
  reads_input {t} k g = record {
    read = λ cs' rs' ec er p ok.
        subst S
        (sym
        (ap (λ (y : ℕ). entry W.bases k + y) (offset_is_cell (number_under cs') (number_additive cs') t p ok)))
        (g (path_under cs' p) ok);
  }
