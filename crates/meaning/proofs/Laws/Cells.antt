-- Values in cells: the value read from cells is the one whose paths lead to those cells, and cells that hold a
-- value by paths are that value flattened.
use Rattle.std.specs.Prelude.{◌≡◌, length, take, drop}
use Rattle.std.proofs.Math.Path.{refl, ap, subst, fun_ext}
use Rattle.std.proofs.Common.{sym, ap₂, ◌∙◌, add-zero, add_assoc, suc-mul, mul-suc, mul-zero, zero-mul, not-suc-le-zero, le_of_suc-le-suc, mul_comm}
use Rattle.std.proofs.Common.{mul-le-mul_right, arith, take-add, drop-drop, drop-cons}
use mathlib.Core.List.{List, [], ◌∷◌, ◌++◌, map}
use Prim.Native.Nat.{ℕ, zero, suc, ◌+◌, ◌*◌, ◌≤◌, ◌<◌, suc-le-suc}
use Rattle.std.proofs.Math.Nat.{zero-add}
use Rattle.std.proofs.Math.ListN.{get_or, length-map}
use Rattle.meaning.specs.Types.{DataType, cells, number, array, vector}
use Rattle.meaning.specs.Numbers.{NumberDomain}
use Rattle.meaning.specs.Sequence.{up_from}
use Rattle.meaning.specs.Values.{Datum, of_list, flatten, flatten_all, DatumOf, no_number, no_datum}
use Rattle.meaning.specs.Layout.{bases_from}
use Rattle.meaning.specs.Runs.{entry, Store, cell}
use Rattle.meaning.specs.Paths.{Path, index, first, second}
use Rattle.meaning.specs.Demand3.{datum_at, input_data}
use Rattle.meaning.proofs.Laws.Orders.{up_from_length}
use Rattle.meaning.proofs.Laws.Paths.{PathOf, cell_of}
use Rattle.meaning.proofs.Laws.PathValues.{PathValue, element_at}
use Rattle.meaning.proofs.Laws.Lists.{get_d_map}
use Rattle.meaning.proofs.Laws.Represents.{Represents}

get_d_up_from : (k n i d : ℕ) → i < n → get_or (up_from k n) i d ≡ k + i
get_d_up_from k zero i d h = absurd (not-suc-le-zero h)
get_d_up_from k (suc n) zero d h = omega arith
get_d_up_from k (suc n) (suc i) d h = let r = get_d_up_from (suc k) n i d (le_of_suc-le-suc h) in omega arith

module _ (𝓝 : NumberDomain) where
  -- The value that lies from cell b on is the one whose paths lead to its cells

  -- the same cells, counted from further on
  counted_on : (t : DataType) (s : Store 𝓝) (b c : ℕ) (v : DatumOf 𝓝)
      → Represents 𝓝 t (λ p. cell 𝓝 s (b + c + cell_of t p)) v
      → Represents 𝓝 t (λ p. cell 𝓝 s (b + (c + cell_of t p))) v
  counted_on t s b c v r =
      subst (λ (g : PathValue 𝓝). Represents 𝓝 t g v)
      (fun_ext (λ p. ap (cell 𝓝 s) (add_assoc b c (cell_of t p))))
      r

  datum_represented : (t : DataType) (s : Store 𝓝) (b : ℕ)
      → Represents 𝓝 t (λ p. cell 𝓝 s (b + cell_of t p)) (datum_at 𝓝 t s b)
  unfolding datum_at
  datum_represented number s b = ap (λ (x : ℕ). Datum.number (cell 𝓝 s x)) (sym (add-zero b))
  datum_represented (array n t) s b =
      let d : ℕ → DatumOf 𝓝 = λ i. datum_at 𝓝 t s (b + cells t * i) in (
        map d (up_from 0 n),
        refl,
        length-map (up_from 0 n) d ∙ up_from_length 0 n,
        λ i l.
            let e : get_or (map d (up_from 0 n)) i (no_datum 𝓝) ≡ d i =
            get_d_map d (up_from 0 n) i (no_datum 𝓝) 0 (omega (arith, up_from_length 0 n))
            ∙ ap d (get_d_up_from 0 n i 0 l ∙ zero-add i) in
            subst (λ (v : DatumOf 𝓝). Represents 𝓝 t (λ p. cell 𝓝 s (b + (cells t * i + cell_of t p))) v) (sym e)
            (counted_on t s b (cells t * i) (d i) (datum_represented t s (b + cells t * i))),
      )
  datum_represented (DataType.pair t₁ t₂) s b = (
    datum_at 𝓝 t₁ s b,
    datum_at 𝓝 t₂ s (b + cells t₁),
    refl,
    datum_represented t₁ s b,
    counted_on t₂ s b (cells t₁) (datum_at 𝓝 t₂ s (b + cells t₁)) (datum_represented t₂ s (b + cells t₁)),
  )
  datum_represented (vector w) s b =
      let d : ℕ → DatumOf 𝓝 = λ i. Datum.number (cell 𝓝 s (b + i)) in (
        map d (up_from 0 w),
        refl,
        length-map (up_from 0 w) d ∙ up_from_length 0 w,
        λ i l.
            get_d_map d (up_from 0 w) i (no_datum 𝓝) 0 (omega (arith, up_from_length 0 w))
            ∙ ap (λ (x : ℕ). Datum.number (cell 𝓝 s (b + x))) (get_d_up_from 0 w i 0 l ∙ omega arith),
      )

  pub inputs_represented : (I : List DataType) (b : ℕ) (s : Store 𝓝) (k : ℕ) → k < length I
      → Represents 𝓝 (get_or I k number)
      (λ p. cell 𝓝 s (entry (bases_from b (map cells I)) k + cell_of (get_or I k number) p))
      (get_or (input_data 𝓝 b I s) k (no_datum 𝓝))
  unfolding input_data
  inputs_represented [] b s k h = absurd (not-suc-le-zero h)
  inputs_represented (t ∷ I) b s zero h = datum_represented t s b
  inputs_represented (t ∷ I) b s (suc k) h = inputs_represented I (b + cells t) s k (le_of_suc-le-suc h)

  -- The cells from b on are a value flattened, if each path leads to the value's number there

  flat_list : (c : ℕ) (s : Store 𝓝) (l : List (DatumOf 𝓝)) (b : ℕ)
      → ((j : ℕ) → j < length l → take c (drop (b + c * j) s) ≡ flatten (get_or l j (no_datum 𝓝)))
      → take (length l * c) (drop b s) ≡ flatten_all (of_list l)
  flat_list c s [] b h = ap (λ (n : ℕ). take n (drop b s)) (zero-mul c)
  flat_list c s (v ∷ l) b h =
      let e : suc (length l) * c ≡ c + length l * c = omega (arith, suc-mul (length l) c) in
      let z : b + c * 0 ≡ b = omega (arith, mul-zero c) in
      let step : (j : ℕ) → b + c + c * j ≡ b + c * suc j = λ j. omega (arith, mul-suc c j) in
      ap (λ (n : ℕ). take n (drop b s)) e
      ∙ take-add c (length l * c) (drop b s)
      ∙ ap₂ ◌++◌
      (ap (λ (x : ℕ). take c (drop x s)) (sym z) ∙ h 0 (omega arith))
      (ap (λ (r : Store 𝓝). take (length l * c) r) (drop-drop c b s)
      ∙ flat_list c s l (b + c)
      (λ j lj. ap (λ (x : ℕ). take c (drop x s)) (step j) ∙ h (suc j) (suc-le-suc lj)))

  pub flat_value : (t : DataType) (f : PathValue 𝓝) (v : DatumOf 𝓝) (s : Store 𝓝) (b : ℕ)
      → Represents 𝓝 t f v
      → ((p : Path ℕ) → PathOf t p → cell 𝓝 s (b + cell_of t p) ≡ f p)
      → b + cells t ≤ length s
      → take (cells t) (drop b s) ≡ flatten v
  flat_value number f v s b r h l =
      ap (take 1) (drop-cons s b (no_number 𝓝) (omega arith))
      ∙ ap (λ (x : 𝓝.Number). x ∷ []) (ap (cell 𝓝 s) (sym (add-zero b)) ∙ h [] tt)
      ∙ sym (ap flatten r)
  flat_value (array n t) f v s b r h l =
      ap (λ (m : ℕ). take (m * cells t) (drop b s)) (sym r.2)
      ∙ flat_list (cells t) s r.0 b
      (λ j lj.
      let lj' : j < n = omega (arith, r.2) in
      let fit : suc j * cells t ≤ n * cells t = mul-le-mul_right (cells t) lj' in
      flat_value t (element_at 𝓝 f j) (get_or r.0 j (no_datum 𝓝)) s (b + cells t * j) (r.3 j lj')
      (λ p ok. ap (cell 𝓝 s) (add_assoc b (cells t * j) (cell_of t p)) ∙ h (index j ∷ p) (lj', ok))
      (omega (arith, suc-mul j (cells t), mul_comm j (cells t))))
      ∙ sym (ap flatten r.1)
  flat_value (DataType.pair t₁ t₂) f v s b r h l =
      take-add (cells t₁) (cells t₂) (drop b s)
      ∙ ap₂ ◌++◌
      (flat_value t₁ (λ p. f (first ∷ p)) r.0 s b r.3 (λ p ok. h (first ∷ p) ok) (omega arith))
      (ap (take (cells t₂)) (drop-drop (cells t₁) b s)
      ∙ flat_value t₂ (λ p. f (second ∷ p)) r.1 s (b + cells t₁) r.4
      (λ p ok. ap (cell 𝓝 s) (add_assoc b (cells t₁) (cell_of t₂ p)) ∙ h (second ∷ p) ok) (omega arith))
      ∙ sym (ap flatten r.2)
  flat_value (vector w) f v s b r h l =
      let e : length r.0 * 1 ≡ w = omega (arith, r.2) in
      ap (λ (m : ℕ). take m (drop b s)) (sym e)
      ∙ flat_list 1 s r.0 b
      (λ j lj.
      let lj' : j < w = omega (arith, r.2) in
      ap (take 1) (drop-cons s (b + 1 * j) (no_number 𝓝) (omega arith))
      ∙ ap (λ (x : 𝓝.Number). x ∷ [])
      (ap (cell 𝓝 s) (omega arith) ∙ h (index j ∷ []) (lj', tt))
      ∙ sym (ap flatten (r.3 j lj')))
      ∙ sym (ap flatten r.1)

  -- so a value read from cells, laid into cells, is those cells again
  pub read_flattened : (t : DataType) (s : Store 𝓝) (b : ℕ)
      → b + cells t ≤ length s → flatten (datum_at 𝓝 t s b) ≡ take (cells t) (drop b s)
  read_flattened t s b l =
      sym
      (flat_value t (λ p. cell 𝓝 s (b + cell_of t p)) (datum_at 𝓝 t s b) s b (datum_represented t s b) (λ p ok. refl) l)
