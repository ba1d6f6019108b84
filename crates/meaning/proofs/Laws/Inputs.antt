-- [8.1] A plan's value comes from the cells of its inputs and from no other.
use Rattle.std.specs.Prelude.{◌≡◌, take}
use Rattle.std.proofs.Math.Path.{refl, sym, ap, ap₂}
use Rattle.std.proofs.Common.{◌∙◌}
use mathlib.Core.List.{List, [], ◌∷◌, map, Memᴰ}
use Prim.Native.Nat.{ℕ, ◌+◌, ◌*◌, ◌≤◌, ◌<◌}
use Rattle.std.proofs.Math.Nat.{suc-mul, mul_comm, mul-le-mul_right}
use native.Mathlib.Omega.{arith}
use Rattle.std.proofs.Math.Seq.{get_or-take}
use Rattle.meaning.specs.Types.{DataType, cells, number, array, vector}
use Rattle.meaning.specs.Terms.{LoopKind, Plan}
use Rattle.meaning.specs.Numbers.{NumberDomain}
use Rattle.meaning.specs.Sequence.{up_from}
use Rattle.meaning.specs.Values.{Datum, array_of, DatumOf, no_number, value}
use Rattle.meaning.specs.Layout.{all_cells}
use Rattle.meaning.specs.Runs.{Store, cell}
use Rattle.meaning.specs.Demand3.{datum_at, input_data, plan_value}
use Rattle.meaning.proofs.Laws.Orders.{rounds_below}

map_same : {A B : Type 0} (f g : A → B) (l : List A) → ((x : A) → Memᴰ x l → f x ≡ g x) → map f l ≡ map g l
map_same f g [] h = refl
map_same {A} {B} f g (x ∷ l) h =
    ap₂ (λ (y : B) (r : List B). y ∷ r) (h x (Memᴰ.head refl))
    (map_same f g l (λ z m. h z (Memᴰ.tail m)))

module _ (𝓝 : NumberDomain) (s s' : Store 𝓝) where
  -- the n cells from b on are the same in both stores
  abbrev SameCells : ℕ → ℕ → Type 0
  SameCells b n = (x : ℕ) → b ≤ x → x < b + n → cell 𝓝 s x ≡ cell 𝓝 s' x

  same_datum : (t : DataType) (b : ℕ) → SameCells b (cells t) → datum_at 𝓝 t s b ≡ datum_at 𝓝 t s' b
  unfolding datum_at
  same_datum number b same = ap (λ (x : 𝓝.Number). Datum.number x) (same b (omega arith) (omega arith))
  same_datum (array n t) b same =
      ap (λ (l : List (DatumOf 𝓝)). array_of l)
      (map_same (λ i. datum_at 𝓝 t s (b + cells t * i)) (λ i. datum_at 𝓝 t s' (b + cells t * i)) (up_from 0 n)
      (λ i m.
      let fit = mul-le-mul_right (cells t) (rounds_below LoopKind.sequential n tt i m) in
      let all : b + cells t * i + cells t ≤ b + n * cells t =
      omega (arith, fit, suc-mul i (cells t), mul_comm i (cells t)) in
      same_datum t (b + cells t * i) (λ x low high. same x (omega arith) (omega (arith, all)))))
  same_datum (DataType.pair t₁ t₂) b same =
      ap₂ (λ (v w : DatumOf 𝓝). Datum.pair v w)
      (same_datum t₁ b (λ x low high. same x low (omega arith)))
      (same_datum t₂ (b + cells t₁) (λ x low high. same x (omega arith) (omega arith)))
  same_datum (vector w) b same =
      ap (λ (l : List (DatumOf 𝓝)). array_of l)
      (map_same (λ i. Datum.number (cell 𝓝 s (b + i))) (λ i. Datum.number (cell 𝓝 s' (b + i))) (up_from 0 w)
      (λ i m.
      let fit = rounds_below LoopKind.sequential w tt i m in
      ap (λ (x : 𝓝.Number). Datum.number x) (same (b + i) (omega arith) (omega (arith, fit)))))

  same_inputs : (I : List DataType) (b : ℕ) → SameCells b (all_cells (map cells I))
      → input_data 𝓝 b I s ≡ input_data 𝓝 b I s'
  unfolding input_data
  same_inputs [] b same = refl
  same_inputs (t ∷ I) b same =
      ap₂ (λ (v : DatumOf 𝓝) (vs : List (DatumOf 𝓝)). v ∷ vs)
      (same_datum t b (λ x low high. same x low (omega arith)))
      (same_inputs I (b + cells t) (λ x low high. same x (omega arith) (omega arith)))

  pub same_value : (P : Plan) → take (all_cells (map cells P.inputs)) s ≡ take (all_cells (map cells P.inputs)) s'
      → plan_value 𝓝 P s ≡ plan_value 𝓝 P s'
  unfolding plan_value
  same_value P e =
      let c : ℕ = all_cells (map cells P.inputs) in
      ap (λ (X : List (DatumOf 𝓝)). value 𝓝 X P.term [])
      (same_inputs P.inputs 0
      (λ x low high.
      let below : x < c = omega arith in
      sym (get_or-take c s x (no_number 𝓝) below)
      ∙ ap (λ (r : Store 𝓝). cell 𝓝 r x) e
      ∙ get_or-take c s' x (no_number 𝓝) below))
