-- Counters and regions by level: a level keeps its meaning when loops and blocks are entered, and a `set` row's
-- numbers from 0 innermost mean the same.
use Rattle.std.specs.Prelude.{◌≡◌, refl, List, ◌∷◌, ℕ, suc, ◌+◌, ◌*◌, ◌-◌, ◌/◌, ◌%◌, ◌≤◌, ◌<◌, length, get_or}
use Rattle.std.proofs.Common.{ap, ap₂, ◌∙◌, le_trans, le_refl, arith}
use Rattle.meaning.specs.Numbers.{NumberDomain}
use Rattle.meaning.specs.Loops.{Offset, Place, Value, plus, times, over, rest}
use Rattle.meaning.specs.Runs.{offset_at, entry, address_of, Store, cell, value_in}
use Rattle.meaning.specs.Paths.{Path}
use Rattle.meaning.specs.Offsets.{offset_from_innermost, value_from_innermost, place_from_innermost}
use Rattle.meaning.proofs.Laws.Evaluation.{path_by, Additive}

-- entry l of a list, counted from the outermost
abbrev pub at_level : List ℕ → ℕ → ℕ
at_level l k = entry l (length l - suc k)

-- further entries in front leave the levels as they were
pub record Extends (l l' : List ℕ) : Type 0 where
  pub longer : length l ≤ length l'
  pub same : (k : ℕ) → k < length l → at_level l' k ≡ at_level l k

pub extends_refl : (l : List ℕ) → Extends l l
extends_refl l = record { longer = le_refl (length l); same = λ k h. refl }

pub extends_trans : {l m n : List ℕ} → Extends l m → Extends m n → Extends l n
extends_trans e f =
    record { longer = le_trans e.longer f.longer; same = λ k h. f.same k (le_trans h e.longer) ∙ e.same k h }

pub extends_push : (x : ℕ) (l : List ℕ) → Extends l (x ∷ l)
extends_push x l = record { longer = omega arith; same = λ k h. go k (suc (length l) - suc k) (omega arith) }
  where
    go : (k m : ℕ) → m ≡ suc (length l - suc k) → get_or (x ∷ l) m 0 ≡ get_or l (length l - suc k) 0
    go k m e = ap (λ (j : ℕ). get_or (x ∷ l) j 0) e

pub level_top : (x : ℕ) (l : List ℕ) → at_level (x ∷ l) (length l) ≡ x
level_top x l = go (suc (length l) - suc (length l)) (omega arith)
  where
    go : (m : ℕ) → m ≡ 0 → get_or (x ∷ l) m 0 ≡ x
    go m e = ap (λ (j : ℕ). get_or (x ∷ l) j 0) e

-- Offsets and paths under these counters

abbrev pub number_under : List ℕ → Offset → ℕ
number_under cs o = offset_at (at_level cs) o

abbrev pub path_under : List ℕ → Path Offset → Path ℕ
path_under cs p = path_by (number_under cs) p

pub number_additive : (cs : List ℕ) → Additive (number_under cs)
number_additive cs = record { of_literal = λ v. refl; of_plus = λ x y. refl; of_times = λ n x. refl }

-- Numbers from 0 innermost mean the same as levels

pub offset_from_innermost_holds : (cs : List ℕ) (o : Offset)
    → offset_at (entry cs) (offset_from_innermost (length cs) o) ≡ number_under cs o
offset_from_innermost_holds cs (Offset.literal v) = refl
offset_from_innermost_holds cs (Offset.counter l) = refl
offset_from_innermost_holds cs (plus x y) = ap₂ ◌+◌ (offset_from_innermost_holds cs x) (offset_from_innermost_holds cs y)
offset_from_innermost_holds cs (times n x) = ap (λ (j : ℕ). n * j) (offset_from_innermost_holds cs x)
offset_from_innermost_holds cs (over n x) = ap (λ (j : ℕ). j / n) (offset_from_innermost_holds cs x)
offset_from_innermost_holds cs (rest n x) = ap (λ (j : ℕ). j % n) (offset_from_innermost_holds cs x)

pub place_from_innermost_holds : (out : ℕ) (cs rs : List ℕ) (p : Place)
    → address_of out (entry cs) (entry rs) (place_from_innermost (length cs) (length rs) p)
    ≡ address_of out (at_level cs) (at_level rs) p
place_from_innermost_holds out cs rs (Place.output o) = ap (λ (j : ℕ). out + j) (offset_from_innermost_holds cs o)
place_from_innermost_holds out cs rs (Place.region l o) = ap (λ (j : ℕ). at_level rs l + j) (offset_from_innermost_holds cs o)

pub value_from_innermost_holds : (𝓝 : NumberDomain) (ins cs rs : List ℕ) (s : Store 𝓝) (v : Value)
    → value_in 𝓝 ins (entry cs) (entry rs) s (value_from_innermost (length cs) (length rs) v)
    ≡ value_in 𝓝 ins (at_level cs) (at_level rs) s v
value_from_innermost_holds 𝓝 ins cs rs s (Value.input k o) =
    ap (λ (j : ℕ). cell 𝓝 s (entry ins k + j)) (offset_from_innermost_holds cs o)
value_from_innermost_holds 𝓝 ins cs rs s (Value.region l o) =
    ap (λ (j : ℕ). cell 𝓝 s (at_level rs l + j)) (offset_from_innermost_holds cs o)
value_from_innermost_holds 𝓝 ins cs rs s (Value.literal v) = refl
value_from_innermost_holds 𝓝 ins cs rs s (Value.negate v) = ap 𝓝.negate (value_from_innermost_holds 𝓝 ins cs rs s v)
value_from_innermost_holds 𝓝 ins cs rs s (Value.operation o v w) =
    ap₂ (𝓝.operate o) (value_from_innermost_holds 𝓝 ins cs rs s v) (value_from_innermost_holds 𝓝 ins cs rs s w)
