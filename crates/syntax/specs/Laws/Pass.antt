-- Rows that answer for what is due in front of them, whatever is due behind. Assumes nothing.
use Rattle.std.specs.Prelude.{◌≡◌, Bool, true, ◌&&◌, List, [], ◌∷◌, ◌++◌, ℕ, suc, ◌+◌, leb, ℤ, length, Ok, Some}
use Rattle.std.proofs.Common.{sym, ap, ◌∙◌, ⊎_elim, append_assoc, add-zero, arith, le-leb, length-append}
use Rattle.words.specs.Kinds.{Row}
use Rattle.words.specs.Words.{operands_of}
use Rattle.words.specs.Groups.{one_of}
use Rattle.meaning.specs.Limits.{IsCount, IsWidth}
use Rattle.syntax.specs.declared.names.Names.{Names}
use Rattle.syntax.specs.declared.operands.Due.{Due}
use Rattle.syntax.specs.Ranges.{as_natural, widths, in_range}
use Rattle.syntax.specs.Names.{names, opened_by, Bounded}
use Rattle.syntax.specs.Operands.{inputs_counted, operands_due}
use Rattle.syntax.specs.Walk.{ask_row, walk_from}
use Rattle.syntax.specs.Laws.Ask.{ask_passed, bounded_fit, bounded_apart}

-- ---- rows that answer for what is due in front of them

abbrev pub Passes : List Due → List Row → Type 0
Passes os a = (p : ℕ) (ds : List Due) (R : List Row) → walk_from p (os ++ ds) (a ++ R) ≡ walk_from (p + length a) ds R

pub none : Passes [] []
none p ds R = ap (λ (q : ℕ). walk_from q ds R) (sym (add-zero p))

pub both : (d : Due) (os : List Due) (a b : List Row) → Passes (d ∷ []) a → Passes os b → Passes (d ∷ os) (a ++ b)
both d os a b f g p ds R =
    let e : p + length a + length b ≡ p + length (a ++ b) = simp length-append (omega arith) in
    ap (walk_from p (d ∷ (os ++ ds))) (append_assoc a b R) ∙ f p (os ++ ds) (b ++ R) ∙ g (p + length a) ds R ∙ ap (λ (q : ℕ). walk_from q ds R) e

row_asked : (d : Due) (k : ℕ) (z : ℤ) (m : ℕ) (a : List Row) → ((line : ℕ) → ask_row d k (as_natural z) line ≡ Ok m) → Passes (operands_due d k (as_natural z) m) a → Passes (d ∷ []) ((k, z) ∷ a)
unfolding walk_from
row_asked d k z m a h f p ds R =
    rw (h (suc p)) (f (suc p) ds R ∙ ap (λ (q : ℕ). walk_from q ds R) (omega arith))

-- a row of a word with c operands that is in range and whose names fit
pub row : (d : Due) (k : ℕ) (z : ℤ) (c : ℕ) (a : List Row) → operands_of k d.sort ≡ Some c → in_range d.sort d.names k (as_natural z) ≡ true → Bounded (opened_by k (as_natural z) d.names)
    → Passes (operands_due d k (as_natural z) (inputs_counted d.sort (as_natural z) + c)) a → Passes (d ∷ []) ((k, z) ∷ a)
row d k z c a of r b f =
    row_asked d k z (inputs_counted d.sort (as_natural z) + c) a
    (λ line. sym (ask_passed d k (as_natural z) line of r (bounded_fit (opened_by k (as_natural z) d.names) b)
    (bounded_apart (opened_by k (as_natural z) d.names) b))) f

pub count_in_holds : (n : ℕ) → IsCount n → leb 1 n && leb n 4096 ≡ true
count_in_holds n h = simp (le-leb 1 n h.0, le-leb n 4096 h.1)

pub width_in : (n : ℕ) → IsWidth n → one_of n widths ≡ true
unfolding one_of
width_in n h =
    ⊎_elim (λ e. ap test e) (λ h. ⊎_elim (λ e. ap test e) (λ h. ⊎_elim (λ e. ap test e) (λ e. ap test e) h) h) h
  where
    test : ℕ → Bool
    test i = one_of i widths

-- ---- the names in force in a table

abbrev pub inputs_only : ℕ → Names
inputs_only K = names K 0 0 0 0

pub small : (K : ℕ) → Bounded (inputs_only K)
small K = record { variables_fit = omega arith; counters_fit = omega arith; regions_fit = omega arith; lanes_fit = omega arith }
