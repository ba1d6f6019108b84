-- [8.1] The value of a plan that has a type has that type's shape, whatever lies in the store.
use Rattle.std.specs.Prelude.{◌≡◌, refl, length, get_or}
use Rattle.std.proofs.Common.{sym, subst, not-suc-le-zero, arith}
use mathlib.Core.List.{List, [], ◌∷◌, map}
use Prim.Native.Nat.{ℕ, suc, ◌+◌, ◌<◌, suc-le-suc}
use Rattle.meaning.specs.Types.{DataType, cells, number, array, vector}
use Rattle.meaning.specs.Terms.{Plan}
use Rattle.meaning.specs.Typing.{type_of}
use Rattle.meaning.specs.Numbers.{NumberDomain}
use Rattle.meaning.specs.Values.{to_list, of_list, DatumOf, no_datum}
use Rattle.meaning.specs.Layout.{bases_from}
use Rattle.meaning.specs.Runs.{entry, Store, cell}
use Rattle.meaning.specs.Paths.{first, second}
use Rattle.meaning.specs.Demand3.{input_data, plan_value}
use Rattle.meaning.specs.Shapes.{Every, OneNumber, Shaped}
use Rattle.meaning.proofs.Laws.Typing.{WellTyped}
use Rattle.meaning.proofs.Laws.Paths.{cell_of}
use Rattle.meaning.proofs.Laws.PathValues.{PathValue, element_at, value_at}
use Rattle.meaning.proofs.Laws.Lists.{elements_of}
use Rattle.meaning.proofs.Laws.Represents.{Represents}
use Rattle.meaning.proofs.Laws.Agreement.{value_represented}
use Rattle.meaning.proofs.Laws.Cells.{inputs_represented}

every_of : {A : Type 0} (Such : A → Type 0) (l : List A) (d : A)
    → ((i : ℕ) → i < length l → Such (get_or l i d)) → Every Such l
every_of Such [] d h = tt
every_of Such (x ∷ l) d h = (h 0 (omega arith), every_of Such l d (λ i k. h (suc i) (suc-le-suc k)))

module _ (𝓝 : NumberDomain) where
  -- a list of n, each of them such
  list_shaped : (n : ℕ) (Such : DatumOf 𝓝 → Type 0) (l : List (DatumOf 𝓝)) → length l ≡ n
      → ((i : ℕ) → i < n → Such (get_or l i (no_datum 𝓝)))
      → (length (to_list (of_list l)) ≡ n) × Every Such (to_list (of_list l))
  list_shaped n Such l long h =
      subst (λ (x : List (DatumOf 𝓝)). (length x ≡ n) × Every Such x) (sym (elements_of l refl)) (
        long,
        every_of Such l (no_datum 𝓝) (λ i k. h i (omega (arith, long))),
      )

  represented_shaped : (t : DataType) (f : PathValue 𝓝) (v : DatumOf 𝓝) → Represents 𝓝 t f v → Shaped t v
  represented_shaped number f v r = subst (λ (x : DatumOf 𝓝). Shaped number x) (sym r) tt
  represented_shaped (array n t) f v r =
      subst (λ (x : DatumOf 𝓝). Shaped (array n t) x) (sym r.1)
      (list_shaped n (λ x. Shaped t x) r.0 r.2
      (λ i k. represented_shaped t (element_at 𝓝 f i) (get_or r.0 i (no_datum 𝓝)) (r.3 i k)))
  represented_shaped (DataType.pair s t) f v r =
      subst (λ (x : DatumOf 𝓝). Shaped (DataType.pair s t) x) (sym r.2) (
        represented_shaped s (λ p. f (first ∷ p)) r.0 r.3,
        represented_shaped t (λ p. f (second ∷ p)) r.1 r.4,
      )
  represented_shaped (vector w) f v r =
      subst (λ (x : DatumOf 𝓝). Shaped (vector w) x) (sym r.1)
      (list_shaped w (λ x. OneNumber x) r.0 r.2
      (λ i k. subst (λ (x : DatumOf 𝓝). OneNumber x) (sym (r.3 i k)) tt))

  pub plan_shaped : (P : Plan) → WellTyped P.inputs [] P.term → (s : Store 𝓝)
      → Shaped (type_of P.inputs [] P.term) (plan_value 𝓝 P s)
  unfolding plan_value
  plan_shaped P wt s =
      let I : List DataType = P.inputs in
      let X : ℕ → PathValue 𝓝 =
      λ k p. cell 𝓝 s (entry (bases_from 0 (map cells I)) k + cell_of (get_or I k number) p) in
      represented_shaped (type_of I [] P.term) (value_at 𝓝 I X [] P.term []) (plan_value 𝓝 P s)
      (value_represented 𝓝 I X (input_data 𝓝 0 I s) (inputs_represented 𝓝 I 0 s) [] P.term wt [] []
      (λ d h. absurd (not-suc-le-zero h)))
