-- What `put_values` knows as it goes, and that in the end each cell holds the value of its line. Assumes nothing.
use mathlib.Core.Path.{◌≡◌, refl, sym, ap, ap₂, ◌∙◌}
use mathlib.Core.Bool.{Bool, true, false, cond}
use mathlib.Core.List.{List, [], ◌∷◌, ◌++◌, map}
use Prim.Native.Nat.{ℕ, zero, suc, ◌+◌, ◌-◌, ◌≤◌, ◌<◌}
use native.Mathlib.Nat.{zero-add, le_of_suc-le-suc}
use native.Mathlib.Omega.{arith}
use borrow.Author.Tests.{eq-eqb, ne_eqb, leb-true, leb-false}
use lib.Dec.{leb}
use lib.IntN.{ℤ, pos}
use lib.ListN.{length, get_or, set, drop, length-append, length-drop, length-set, length-map, get_or-append}
use lib.Seq.{ext_get_or, get_or-append-add, get_or-drop, get_or-set_same, get_or-set_other}
use Rattle.words.specs.Kinds.{Row, rows_of}
use Rattle.lines.specs.Reading.{kinds_of}
use Rattle.lines.proofs.TableLaws.{rows_ended}
use Rattle.std.specs.Prelude.{◌⊎◌}
use Rattle.meaning.specs.Sequence.{up_from}
use Rattle.meaning.proofs.Laws.Orders.{up_from_length}
use Rattle.values.specs.Values.{lines_for, value_of}
use Rattle.values.specs.Stored.{stored}
use Rattle.values.specs.Laws.{OneLineEach, cell_cases, lines_here, lines_other}

-- ---- a turn of the loop, and its end: cs and vs are what is left of the two columns

pub stored_next : {cs cs' : List ℕ} {vs vs' : List ℤ} {c : ℕ} {v : ℤ} (s : List ℤ) {s' all : List ℤ} → cs ≡ c ∷ cs' → vs ≡ v ∷ vs' → s' ≡ set s c v
    → stored (rows_of cs vs) s ≡ all → stored (rows_of cs' vs') s' ≡ all
unfolding rows_of stored
stored_next {cs} {cs'} {vs} {vs'} s cell value put so_far =
    ap (stored (rows_of cs' vs')) put ∙ sym (ap₂ (λ (x : List ℕ) (y : List ℤ). stored (rows_of x y) s) cell value) ∙ so_far

pub stored_end : (cs : List ℕ) (vs : List ℤ) (s : List ℤ) {all : List ℤ} → (length cs ≡ 0) ⊎ (length vs ≡ 0) → stored (rows_of cs vs) s ≡ all → s ≡ all
unfolding stored
stored_end cs vs s ended so_far = sym (ap (λ (rs : List Row). stored rs s) (rows_ended cs vs ended)) ∙ so_far

-- ---- what is stored

pub length_stored : (rs : List Row) (s : List ℤ) → length (stored rs s) ≡ length s
unfolding stored
length_stored [] s = refl
length_stored (r ∷ rs) s = length_stored rs (set s r.0 r.1) ∙ length-set s r.0 r.1

-- a cell that no line names
stored_none : (rs : List Row) (s : List ℤ) (k : ℕ) → lines_for k (kinds_of rs) ≡ 0 → get_or (stored rs s) k (pos 0) ≡ get_or s k (pos 0)
unfolding stored
stored_none [] s k h = refl
stored_none (r ∷ rs) s k h =
    cell_cases r.0 k
    (λ e. absurd (omega (arith, lines_here k r.0 (kinds_of rs) e)))
    (λ e. stored_none rs (set s r.0 r.1) k (sym (lines_other k r.0 (kinds_of rs) e) ∙ h)
    ∙ get_or-set_other s r.0 k r.1 (pos 0) (λ f. e (sym f)))

-- a cell that one line names
stored_one : (rs : List Row) (s : List ℤ) (k : ℕ) → k < length s → lines_for k (kinds_of rs) ≡ 1 → get_or (stored rs s) k (pos 0) ≡ value_of rs k
unfolding stored value_of lines_for
stored_one [] s k g h = absurd (omega arith)
stored_one (r ∷ rs) s k g h =
    cell_cases r.0 k
    (λ e. stored_none rs (set s r.0 r.1) k (omega (arith, lines_here k r.0 (kinds_of rs) e))
    ∙ ap (λ (j : ℕ). get_or (set s j r.1) k (pos 0)) e
    ∙ get_or-set_same s k r.1 (pos 0) g
    ∙ ap (λ (b : Bool). cond b r.1 (value_of rs k)) (sym (eq-eqb r.0 k e)))
    (λ e. stored_one rs (set s r.0 r.1) k (omega (arith, length-set s r.0 r.1)) (sym (lines_other k r.0 (kinds_of rs) e) ∙ h)
    ∙ ap (λ (b : Bool). cond b r.1 (value_of rs k)) (sym (ne_eqb r.0 k e)))

-- ---- the values in the order of their cells

value_at_holds : (f : ℕ → ℤ) (from n k : ℕ) → k < n → get_or (map f (up_from from n)) k (pos 0) ≡ f (from + k)
value_at_holds f from zero k h = absurd (omega arith)
value_at_holds f from (suc n) zero h = ap f (omega arith)
value_at_holds f from (suc n) (suc k) h = value_at_holds f (suc from) n k (le_of_suc-le-suc h) ∙ ap f (omega arith)

module _ (rs : List Row) (s : List ℤ) (n : ℕ) (each : OneLineEach n (kinds_of rs)) (room : n ≤ length s) where
  abbrev values : List ℤ
  values = map (value_of rs) (up_from 0 n)

  values_length : length values ≡ n
  values_length = length-map (up_from 0 n) (value_of rs) ∙ up_from_length 0 n

  in_cell : (k : ℕ) → k < length s → (b : Bool) → leb n k ≡ b → get_or (stored rs s) k (pos 0) ≡ get_or (values ++ drop n s) k (pos 0)
  in_cell k g true e =
      let from : n ≤ k = leb-true n k e in
      let back : length values + (k - n) ≡ k = omega (arith, values_length) in
      let forth : n + (k - n) ≡ k = omega arith in
      stored_none rs s k (each.none k from)
      ∙ ap (λ (j : ℕ). get_or s j (pos 0)) (sym forth)
      ∙ sym (get_or-drop n s (k - n) (pos 0))
      ∙ sym (get_or-append-add values (drop n s) (k - n) (pos 0))
      ∙ ap (λ (j : ℕ). get_or (values ++ drop n s) j (pos 0)) back
  in_cell k g false e =
      let inside : k < n = leb-false n k e in
      stored_one rs s k g (each.one k inside)
      ∙ ap (value_of rs) (sym (zero-add k))
      ∙ sym (value_at_holds (value_of rs) 0 n k inside)
      ∙ sym (get_or-append values (drop n s) (pos 0) k (omega (arith, values_length)))

  pub values_stored : stored rs s ≡ values ++ drop (length values) s
  values_stored =
      ext_get_or (pos 0) (stored rs s) (values ++ drop n s)
      (omega (arith, length_stored rs s, length-append values (drop n s), length-drop n s, values_length))
      (λ k g. in_cell k (omega (arith, length_stored rs s)) (leb n k) refl)
      ∙ ap (λ (j : ℕ). values ++ drop j s) (sym values_length)
