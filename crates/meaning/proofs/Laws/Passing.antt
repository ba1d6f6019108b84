-- Expressions and acceptors that pass: every reading of the one, and every write to the other, passes [10.5] and [10.9].
use Rattle.std.specs.Prelude.{◌≡◌, List, ◌∷◌, ℕ, ◌*◌, ◌≤◌, ◌<◌, length, ℤ}
use Rattle.std.proofs.Common.{sym, ◌∙◌, subst, arith}
use Rattle.arithmetic.specs.Arithmetic.{Operation}
use Rattle.meaning.specs.Types.{DataType, cells, number, array}
use Rattle.meaning.specs.Loops.{Offset, Place, Value, plus, times, over, rest}
use Rattle.meaning.specs.Runs.{entry}
use Rattle.meaning.specs.Paths.{Path, index, first, second}
use Rattle.meaning.specs.Expressions.{Expression, Acceptor}
use Rattle.meaning.specs.Offsets.{offset_of, read_at, write_at, value_from_innermost, place_from_innermost}
use Rattle.meaning.specs.Limits.{IsCount, counter_bound, OffsetFits, ValuePasses, PlacePasses, CellsWithin}
use Rattle.meaning.proofs.Laws.Levels.{at_level, Extends, extends_trans, level_top}
use Rattle.meaning.proofs.Laws.Bounds.{level_bound, fits_from_innermost, PathWithin, within_array, within_pair}
use Rattle.meaning.proofs.Laws.Bounds.{SameWithin, offset_fits, group_fits, flat_fits, IndexFits}

-- expression E read at a path, and acceptor P written at one, under loops of ns rounds and regions of rs cells, by
-- level
abbrev pub ReadingPasses : List ℕ → List ℕ → List ℕ → Expression → Path Offset → Type 0
ReadingPasses ins ns rs E p = ValuePasses ins (length ns) (level_bound ns) (length rs) (at_level rs) (read_at E p)

abbrev pub WritingPasses : ℕ → List ℕ → List ℕ → Acceptor → Path Offset → Type 0
WritingPasses out ns rs P p = PlacePasses out (length ns) (level_bound ns) (length rs) (at_level rs) (write_at P p)

-- Every reading of expression E, of type t, passes: at every path within, under all further loops and regions.
pub record ReadsPass (ins ns rs : List ℕ) (E : Expression) (t : DataType) : Type 0 where
  pub read : (ns' rs' : List ℕ) → Extends ns ns' → Extends rs rs'
      → (p : Path Offset) → PathWithin ns' t p → ReadingPasses ins ns' rs' E p

-- Every write to acceptor P, of type t, passes, likewise.
pub record WritesPass (out : ℕ) (ns rs : List ℕ) (P : Acceptor) (t : DataType) : Type 0 where
  pub write : (ns' rs' : List ℕ) → Extends ns ns' → Extends rs rs'
      → (p : Path Offset) → PathWithin ns' t p → WritingPasses out ns' rs' P p

pub reads_on : {ins ns rs ns' rs' : List ℕ} {E : Expression} {t : DataType}
    → ReadsPass ins ns rs E t → Extends ns ns' → Extends rs rs' → ReadsPass ins ns' rs' E t
reads_on h a b = record { read = λ ns'' rs'' c d p i. h.read ns'' rs'' (extends_trans a c) (extends_trans b d) p i }

pub writes_on : {out : ℕ} {ns rs ns' rs' : List ℕ} {P : Acceptor} {t : DataType}
    → WritesPass out ns rs P t → Extends ns ns' → Extends rs rs' → WritesPass out ns' rs' P t
writes_on h a b = record { write = λ ns'' rs'' c d p i. h.write ns'' rs'' (extends_trans a c) (extends_trans b d) p i }

-- in another type that the same paths lead into
pub reads_same : {ins ns rs : List ℕ} {E : Expression} {t t' : DataType}
    → SameWithin t t' → ReadsPass ins ns rs E t → ReadsPass ins ns rs E t'
reads_same same h = record { read = λ ns' rs' a b p i. h.read ns' rs' a b p (same.from ns' p i) }

pub writes_same : {out : ℕ} {ns rs : List ℕ} {P : Acceptor} {t t' : DataType}
    → SameWithin t t' → WritesPass out ns rs P t → WritesPass out ns rs P t'
writes_same same h = record { write = λ ns' rs' a b p i. h.write ns' rs' a b p (same.from ns' p i) }

-- What passes by level passes from 0 innermost

pub value_passes_innermost : (ins ns rs : List ℕ) (v : Value)
    → ValuePasses ins (length ns) (level_bound ns) (length rs) (at_level rs) v
    → ValuePasses ins (length ns) (counter_bound ns) (length rs) (entry rs)
    (value_from_innermost (length ns) (length rs) v)
value_passes_innermost ins ns rs (Value.input k o) h = (h.0, fits_from_innermost ns o (entry ins k) h.1)
value_passes_innermost ins ns rs (Value.region l o) h =
    (omega (arith, h.0), fits_from_innermost ns o (at_level rs l) h.1)
value_passes_innermost ins ns rs (Value.literal v) h = tt
value_passes_innermost ins ns rs (Value.negate v) h = value_passes_innermost ins ns rs v h
value_passes_innermost ins ns rs (Value.operation o v w) h =
    (value_passes_innermost ins ns rs v h.0, value_passes_innermost ins ns rs w h.1)

pub place_passes_innermost : (out : ℕ) (ns rs : List ℕ) (p : Place)
    → PlacePasses out (length ns) (level_bound ns) (length rs) (at_level rs) p
    → PlacePasses out (length ns) (counter_bound ns) (length rs) (entry rs)
    (place_from_innermost (length ns) (length rs) p)
place_passes_innermost out ns rs (Place.output o) h = fits_from_innermost ns o out h
place_passes_innermost out ns rs (Place.region l o) h =
    (omega (arith, h.0), fits_from_innermost ns o (at_level rs l) h.1)

-- Expressions

module _ {ins ns rs : List ℕ} where
  pub reads_literal : (z : ℤ) → ReadsPass ins ns rs (Expression.literal z) number
  reads_literal z = record { read = λ ns' rs' a b p i. tt }

  pub reads_negate : {E : Expression}
      → ReadsPass ins ns rs E number → ReadsPass ins ns rs (Expression.negate E) number
  reads_negate h = record { read = λ ns' rs' a b p i. h.read ns' rs' a b p i }

  pub reads_operation : (o : Operation) {E F : Expression}
      → ReadsPass ins ns rs E number → ReadsPass ins ns rs F number
      → ReadsPass ins ns rs (Expression.operation o E F) number
  reads_operation o h k =
      record { read = λ ns' rs' a b p i. (h.read ns' rs' a b p i, k.read ns' rs' a b p i) }

  pub reads_index : {E : Expression} {n : ℕ} {t : DataType} (o : Offset)
      → ReadsPass ins ns rs E (array n t) → IndexFits ns o n → ReadsPass ins ns rs (Expression.index E o) t
  reads_index o h s = record { read = λ ns' rs' a b p i. h.read ns' rs' a b (index o ∷ p) (s ns' a, i) }

  pub reads_first : {E : Expression} {s t : DataType}
      → ReadsPass ins ns rs E (DataType.pair s t) → ReadsPass ins ns rs (Expression.first E) s
  reads_first h = record { read = λ ns' rs' a b p i. h.read ns' rs' a b (first ∷ p) i }

  pub reads_second : {E : Expression} {s t : DataType}
      → ReadsPass ins ns rs E (DataType.pair s t) → ReadsPass ins ns rs (Expression.second E) t
  reads_second h = record { read = λ ns' rs' a b p i. h.read ns' rs' a b (second ∷ p) i }

  pub reads_pair : {E F : Expression} {s t : DataType}
      → ReadsPass ins ns rs E s → ReadsPass ins ns rs F t
      → ReadsPass ins ns rs (Expression.pair E F) (DataType.pair s t)
  reads_pair {E} {F} {s} {t} h k = record {
    read = λ ns' rs' a b.
        within_pair ns' s t (ReadingPasses ins ns' rs' (Expression.pair E F))
        (λ p i. h.read ns' rs' a b p i)
        (λ p i. k.read ns' rs' a b p i);
  }

  pub reads_zip : {E F : Expression} {n : ℕ} {s t : DataType}
      → ReadsPass ins ns rs E (array n s) → ReadsPass ins ns rs F (array n t)
      → ReadsPass ins ns rs (Expression.zip E F) (array n (DataType.pair s t))
  reads_zip {E} {F} {n} {s} {t} h k = record {
    read = λ ns' rs' a b.
        within_array ns' n (DataType.pair s t) (ReadingPasses ins ns' rs' (Expression.zip E F))
        (λ o r l.
        within_pair ns' s t (λ p. ReadingPasses ins ns' rs' (Expression.zip E F) (index o ∷ p))
        (λ p i. h.read ns' rs' a b (index o ∷ p) (l, i))
        (λ p i. k.read ns' rs' a b (index o ∷ p) (l, i))
        r);
  }

  pub reads_split : {E : Expression} {t : DataType} (m n : ℕ) → IsCount n → m * n ≤ 4096
      → ReadsPass ins ns rs E (array (m * n) t)
      → ReadsPass ins ns rs (Expression.split n E) (array m (array n t))
  reads_split {E} {t} m n count all h = record {
    read = λ ns' rs' a b.
        within_array ns' m (array n t) (ReadingPasses ins ns' rs' (Expression.split n E))
        (λ o r k.
        within_array ns' n t (λ p. ReadingPasses ins ns' rs' (Expression.split n E) (index o ∷ p))
        (λ o₂ p k₂ i.
        h.read ns' rs' a b (index (plus (times n o) o₂) ∷ p)
        (group_fits (length ns') (level_bound ns') m n o o₂ count all k k₂, i))
        r);
  }

  pub reads_join : {E : Expression} {t : DataType} (m n : ℕ) → IsCount n → m * n ≤ 4096
      → ReadsPass ins ns rs E (array m (array n t))
      → ReadsPass ins ns rs (Expression.join n E) (array (m * n) t)
  reads_join {E} {t} m n count all h = record {
    read = λ ns' rs' a b.
        within_array ns' (m * n) t (ReadingPasses ins ns' rs' (Expression.join n E))
        (λ o p k i.
        h.read ns' rs' a b (index (over n o) ∷ index (rest n o) ∷ p) (
          (flat_fits (length ns') (level_bound ns') m n o count all k).0,
          ((flat_fits (length ns') (level_bound ns') m n o count all k).1, i),
        ));
  }

-- Acceptors

module _ {out : ℕ} {ns rs : List ℕ} where
  pub writes_index : {P : Acceptor} {n : ℕ} {t : DataType} (o : Offset)
      → WritesPass out ns rs P (array n t) → IndexFits ns o n → WritesPass out ns rs (Acceptor.index P o) t
  writes_index o h s = record { write = λ ns' rs' a b p i. h.write ns' rs' a b (index o ∷ p) (s ns' a, i) }

  pub writes_first : {P : Acceptor} {s t : DataType}
      → WritesPass out ns rs P (DataType.pair s t) → WritesPass out ns rs (Acceptor.first P) s
  writes_first h = record { write = λ ns' rs' a b p i. h.write ns' rs' a b (first ∷ p) i }

  pub writes_second : {P : Acceptor} {s t : DataType}
      → WritesPass out ns rs P (DataType.pair s t) → WritesPass out ns rs (Acceptor.second P) t
  writes_second h = record { write = λ ns' rs' a b p i. h.write ns' rs' a b (second ∷ p) i }

  pub writes_zip_first : {P : Acceptor} {n : ℕ} {s t : DataType}
      → WritesPass out ns rs P (array n (DataType.pair s t))
      → WritesPass out ns rs (Acceptor.zip_first P) (array n s)
  writes_zip_first {P} {n} {s} h = record {
    write = λ ns' rs' a b.
        within_array ns' n s (WritingPasses out ns' rs' (Acceptor.zip_first P))
        (λ o p k i. h.write ns' rs' a b (index o ∷ first ∷ p) (k, i));
  }

  pub writes_zip_second : {P : Acceptor} {n : ℕ} {s t : DataType}
      → WritesPass out ns rs P (array n (DataType.pair s t))
      → WritesPass out ns rs (Acceptor.zip_second P) (array n t)
  writes_zip_second {P} {n} {t} h = record {
    write = λ ns' rs' a b.
        within_array ns' n t (WritingPasses out ns' rs' (Acceptor.zip_second P))
        (λ o p k i. h.write ns' rs' a b (index o ∷ second ∷ p) (k, i));
  }

  pub writes_split : {P : Acceptor} {t : DataType} (m n : ℕ) → IsCount n → m * n ≤ 4096
      → WritesPass out ns rs P (array m (array n t))
      → WritesPass out ns rs (Acceptor.split n P) (array (m * n) t)
  writes_split {P} {t} m n count all h = record {
    write = λ ns' rs' a b.
        within_array ns' (m * n) t (WritingPasses out ns' rs' (Acceptor.split n P))
        (λ o p k i.
        h.write ns' rs' a b (index (over n o) ∷ index (rest n o) ∷ p) (
          (flat_fits (length ns') (level_bound ns') m n o count all k).0,
          ((flat_fits (length ns') (level_bound ns') m n o count all k).1, i),
        ));
  }

  pub writes_join : {P : Acceptor} {t : DataType} (m n : ℕ) → IsCount n → m * n ≤ 4096
      → WritesPass out ns rs P (array (m * n) t)
      → WritesPass out ns rs (Acceptor.join n P) (array m (array n t))
  writes_join {P} {t} m n count all h = record {
    write = λ ns' rs' a b.
        within_array ns' m (array n t) (WritingPasses out ns' rs' (Acceptor.join n P))
        (λ o r k.
        within_array ns' n t (λ p. WritingPasses out ns' rs' (Acceptor.join n P) (index o ∷ p))
        (λ o₂ p k₂ i.
        h.write ns' rs' a b (index (plus (times n o) o₂) ∷ p)
        (group_fits (length ns') (level_bound ns') m n o o₂ count all k k₂, i))
        r);
  }

-- The innermost region, of a type within the limits

region_top : (t : DataType) (rs rs' : List ℕ)
    → Extends (cells t ∷ rs) rs' → (length rs < length rs') × (at_level rs' (length rs) ≡ cells t)
region_top t rs rs' e = (omega (arith, e.longer), e.same (length rs) (omega arith) ∙ level_top (cells t) rs)

region_fits : (ns rs rs' : List ℕ) (t : DataType) (p : Path Offset)
    → CellsWithin t → PathWithin ns t p → Extends (cells t ∷ rs) rs'
    → OffsetFits (length ns) (level_bound ns) (offset_of t p) (at_level rs' (length rs))
region_fits ns rs rs' t p f i e =
    subst (λ (n : ℕ). OffsetFits (length ns) (level_bound ns) (offset_of t p) n) (sym (region_top t rs rs' e).1)
    (offset_fits ns t p f i)

pub reads_region : {ins ns : List ℕ} (rs : List ℕ) (t : DataType)
    → CellsWithin t → ReadsPass ins ns (cells t ∷ rs) (Expression.region (length rs) t) t
reads_region rs t f =
    record { read = λ ns' rs' a b p i. ((region_top t rs rs' b).0, region_fits ns' rs rs' t p f i b) }

pub writes_region : {out : ℕ} {ns : List ℕ} (rs : List ℕ) (t : DataType)
    → CellsWithin t → WritesPass out ns (cells t ∷ rs) (Acceptor.region (length rs) t) t
writes_region rs t f =
    record { write = λ ns' rs' a b p i. ((region_top t rs rs' b).0, region_fits ns' rs rs' t p f i b) }
