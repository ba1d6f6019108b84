-- The value of a well-typed term by lists represents its value by paths: an induction over terms.
use Rattle.std.specs.Prelude.{◌≡◌, length, get_or}
use Rattle.std.proofs.Math.Path.{refl, ap, ap₂, subst}
use Rattle.std.proofs.Common.{sym, zero-add, le_of_suc-le-suc, arith}
use mathlib.Core.List.{List, ◌∷◌}
use Prim.Native.Nat.{ℕ, zero, suc, ◌*◌, ◌/◌, ◌<◌}
use Rattle.meaning.specs.Types.{DataType, Series, array_length, element, first_type, second_type, series_of, number}
use Rattle.meaning.specs.Types.{array}
use Rattle.meaning.specs.Terms.{LoopKind, Term, series_in}
use Rattle.meaning.specs.Typing.{type_of}
use Rattle.meaning.specs.Numbers.{NumberDomain}
use Rattle.meaning.specs.Sequence.{up_from, in_turn}
use Rattle.meaning.specs.Values.{Datum, array_of, elements, first_of, second_of, groups, DatumOf, no_datum}
use Rattle.meaning.specs.Values.{number_of, value}
use Rattle.meaning.specs.Paths.{first, second}
use Rattle.meaning.proofs.Laws.Typing.{IsSeries, MayBeIn, WellTyped}
use Rattle.meaning.proofs.Laws.PathValues.{PathValue, no_path_value, element_at, value_at}
use Rattle.meaning.proofs.Laws.Represents.{Represents, Elements, represented_elements, represents_map}
use Rattle.meaning.proofs.Laws.Represents.{represents_reduce, represents_zip, represents_split, represents_join}
use Rattle.meaning.proofs.Laws.Represents.{represents_series, represents_elements, represents_groups}

-- X are the inputs' values by paths, Y by lists.
module _ (𝓝 : NumberDomain) (I : List DataType) (X : ℕ → PathValue 𝓝) (Y : List (DatumOf 𝓝))
    (inputs : (k : ℕ) → k < length I → Represents 𝓝 (get_or I k number) (X k) (get_or Y k (no_datum 𝓝))) where
  -- the variables' values
  abbrev RepresentsAll : List DataType → List (PathValue 𝓝) → List (DatumOf 𝓝) → Type 0
  RepresentsAll Γ fs vs =
      (d : ℕ) → d < length Γ → Represents 𝓝 (get_or Γ d number) (get_or fs d (no_path_value 𝓝)) (get_or vs d (no_datum 𝓝))

  represents_push : (Γ : List DataType) (fs : List (PathValue 𝓝)) (vs : List (DatumOf 𝓝)) (t : DataType)
      (f : PathValue 𝓝) (v : DatumOf 𝓝)
      → RepresentsAll Γ fs vs → Represents 𝓝 t f v → RepresentsAll (t ∷ Γ) (f ∷ fs) (v ∷ vs)
  represents_push Γ fs vs t f v E r zero h = r
  represents_push Γ fs vs t f v E r (suc d) h = E d (le_of_suc-le-suc h)

  -- a term's two values, and that the one represents the other
  abbrev at : List DataType → Term → List (PathValue 𝓝) → PathValue 𝓝
  at Γ e fs = value_at 𝓝 I X Γ e fs

  abbrev of : Term → List (DatumOf 𝓝) → DatumOf 𝓝
  of e vs = value 𝓝 Y e vs

  Agrees : List DataType → Term → List (PathValue 𝓝) → List (DatumOf 𝓝) → Type 0
  Agrees Γ e fs vs = Represents 𝓝 (type_of I Γ e) (at Γ e fs) (of e vs)

  agree_as : (Γ : List DataType) (e : Term) (fs : List (PathValue 𝓝)) (vs : List (DatumOf 𝓝)) (t : DataType)
      → type_of I Γ e ≡ t → Agrees Γ e fs vs → Represents 𝓝 t (at Γ e fs) (of e vs)
  unfolding Agrees
  agree_as Γ e fs vs t q r = subst (λ t. Represents 𝓝 t (at Γ e fs) (of e vs)) q r

  -- of an array or a vector: its elements agree
  agree_elements : (Γ : List DataType) (e : Term) (fs : List (PathValue 𝓝)) (vs : List (DatumOf 𝓝))
      → (series : Series) → IsSeries series (type_of I Γ e) → Agrees Γ e fs vs
      → Elements 𝓝 (array_length (type_of I Γ e)) (element (type_of I Γ e)) (at Γ e fs) (elements (of e vs))
  unfolding Agrees
  agree_elements Γ e fs vs series isa r = represented_elements 𝓝 series (type_of I Γ e) (at Γ e fs) (of e vs) isa r

  agree_map : (Γ : List DataType) (kind : LoopKind) (a b : Term) (fs : List (PathValue 𝓝)) (vs : List (DatumOf 𝓝))
      → Elements 𝓝 (array_length (type_of I Γ a)) (element (type_of I Γ a)) (at Γ a fs) (elements (of a vs))
      → ((f : PathValue 𝓝) (v : DatumOf 𝓝)
      → Represents 𝓝 (element (type_of I Γ a)) f v → Agrees (element (type_of I Γ a) ∷ Γ) b (f ∷ fs) (v ∷ vs))
      → MayBeIn (series_in kind) (type_of I (element (type_of I Γ a) ∷ Γ) b)
      → Agrees Γ (Term.map kind a b) fs vs
  unfolding Agrees value_at value
  agree_map Γ kind a b fs vs E body fit =
      represents_series 𝓝 (series_in kind) (array_length (type_of I Γ a)) (type_of I (element (type_of I Γ a) ∷ Γ) b)
      (at Γ (Term.map kind a b) fs) (of (Term.map kind a b) vs) fit
      (represents_map 𝓝 (array_length (type_of I Γ a)) (type_of I (element (type_of I Γ a) ∷ Γ) b)
      (at Γ (Term.map kind a b) fs) (λ x. of b (x ∷ vs)) (elements (of a vs)) E.counted
      (λ i l. body (element_at 𝓝 (at Γ a fs) i) (get_or (elements (of a vs)) i (no_datum 𝓝)) (E.each i l)))

  agree_reduce : (Γ : List DataType) (z a b : Term) (fs : List (PathValue 𝓝)) (vs : List (DatumOf 𝓝))
      → Agrees Γ z fs vs
      → Elements 𝓝 (array_length (type_of I Γ a)) (element (type_of I Γ a)) (at Γ a fs) (elements (of a vs))
      → ((f g : PathValue 𝓝) (v x : DatumOf 𝓝)
      → Represents 𝓝 (type_of I Γ z) f v → Represents 𝓝 (element (type_of I Γ a)) g x
      → Represents 𝓝 (type_of I Γ z) (at (type_of I Γ z ∷ element (type_of I Γ a) ∷ Γ) b (f ∷ g ∷ fs)) (of b (v ∷ x ∷ vs)))
      → Agrees Γ (Term.reduce z a b) fs vs
  unfolding Agrees value_at value
  agree_reduce Γ z a b fs vs start E body =
      let s : DataType = element (type_of I Γ a) in
      let t : DataType = type_of I Γ z in
      let Φ : PathValue 𝓝 → PathValue 𝓝 → PathValue 𝓝 = λ f g. at (t ∷ s ∷ Γ) b (f ∷ g ∷ fs) in
      subst
      (λ (n : ℕ).
      Represents 𝓝 t (in_turn (up_from 0 n) (λ m total. Φ total (element_at 𝓝 (at Γ a fs) m)) (at Γ z fs))
      (of (Term.reduce z a b) vs))
      E.counted
      (represents_reduce 𝓝 s t (at Γ a fs) Φ (λ x total. of b (total ∷ x ∷ vs)) body (elements (of a vs)) 0
      (λ j l.
      subst (λ (m : ℕ). Represents 𝓝 s (element_at 𝓝 (at Γ a fs) m) (get_or (elements (of a vs)) j (no_datum 𝓝)))
      (sym (zero-add j)) (E.each j (omega (arith, E.counted))))
      (at Γ z fs) (of z vs) start)

  agree_split : (Γ : List DataType) (series : Series) (n : ℕ) (e : Term) (fs : List (PathValue 𝓝)) (vs : List (DatumOf 𝓝))
      → array_length (type_of I Γ e) / n * n ≡ array_length (type_of I Γ e)
      → Elements 𝓝 (array_length (type_of I Γ e)) (element (type_of I Γ e)) (at Γ e fs) (elements (of e vs))
      → MayBeIn series (element (type_of I Γ e))
      → Agrees Γ (Term.split series n e) fs vs
  unfolding Agrees value_at value
  agree_split Γ series n e fs vs q E fit =
      let m : ℕ = array_length (type_of I Γ e) / n in
      let t : DataType = element (type_of I Γ e) in
      let l : List (DatumOf 𝓝) = elements (of e vs) in
      subst
      (λ (j : ℕ).
      Represents 𝓝 (array m (series_of series n t)) (at Γ (Term.split series n e) fs) (array_of (groups (j / n) n l)))
      (sym E.counted)
      (represents_groups 𝓝 series m n t (at Γ (Term.split series n e) fs) (array_of (groups m n l)) fit
      (represents_split 𝓝 m n t (at Γ e fs) l (subst (λ (j : ℕ). Elements 𝓝 j t (at Γ e fs) l) (sym q) E)))

  pub value_represented : (Γ : List DataType) (e : Term) → WellTyped I Γ e
      → (fs : List (PathValue 𝓝)) (vs : List (DatumOf 𝓝)) → RepresentsAll Γ fs vs
      → Represents 𝓝 (type_of I Γ e) (value_at 𝓝 I X Γ e fs) (value 𝓝 Y e vs)
  unfolding Agrees value_at value
  value_represented Γ (Term.input k) h fs vs E = inputs k h
  value_represented Γ (Term.variable d) h fs vs E = E d h
  value_represented Γ (Term.literal v) h fs vs E = refl
  value_represented Γ (Term.negate e) h fs vs E =
      ap (λ (x : DatumOf 𝓝). Datum.number (𝓝.negate (number_of 𝓝 x)))
      (agree_as Γ e fs vs number h.1 (value_represented Γ e h.0 fs vs E))
  value_represented Γ (Term.operation o e f) h fs vs E =
      ap₂ (λ (x y : DatumOf 𝓝). Datum.number (𝓝.operate o (number_of 𝓝 x) (number_of 𝓝 y)))
      (agree_as Γ e fs vs number h.2 (value_represented Γ e h.0 fs vs E))
      (agree_as Γ f fs vs number h.3 (value_represented Γ f h.1 fs vs E))
  value_represented Γ (Term.map kind a b) h fs vs E =
      agree_map Γ kind a b fs vs
      (agree_elements Γ a fs vs (series_in kind) h.1 (value_represented Γ a h.0 fs vs E))
      (λ f v r.
      value_represented (element (type_of I Γ a) ∷ Γ) b h.2 (f ∷ fs) (v ∷ vs)
      (represents_push Γ fs vs (element (type_of I Γ a)) f v E r))
      h.3
  value_represented Γ (Term.reduce z a b) h fs vs E =
      let s : DataType = element (type_of I Γ a) in
      let t : DataType = type_of I Γ z in
      agree_reduce Γ z a b fs vs (value_represented Γ z h.0 fs vs E)
      (agree_elements Γ a fs vs Series.arrays h.2 (value_represented Γ a h.1 fs vs E))
      (λ f g v x r q.
      agree_as (t ∷ s ∷ Γ) b (f ∷ g ∷ fs) (v ∷ x ∷ vs) t h.4
      (value_represented (t ∷ s ∷ Γ) b h.3 (f ∷ g ∷ fs) (v ∷ x ∷ vs)
      (represents_push (s ∷ Γ) (g ∷ fs) (x ∷ vs) t f v (represents_push Γ fs vs s g x E q) r)))
  value_represented Γ (Term.zip a b) h fs vs E =
      let n : ℕ = array_length (type_of I Γ a) in
      let s : DataType = element (type_of I Γ a) in
      let t : DataType = element (type_of I Γ b) in
      represents_zip 𝓝 n s t (at Γ a fs) (at Γ b fs) (elements (of a vs)) (elements (of b vs))
      (agree_elements Γ a fs vs Series.arrays h.2 (value_represented Γ a h.0 fs vs E))
      (subst (λ (m : ℕ). Elements 𝓝 m t (at Γ b fs) (elements (of b vs))) (sym h.4)
      (agree_elements Γ b fs vs Series.arrays h.3 (value_represented Γ b h.1 fs vs E)))
  value_represented Γ (Term.pair a b) h fs vs E =
      (of a vs, of b vs, refl, value_represented Γ a h.0 fs vs E, value_represented Γ b h.1 fs vs E)
  value_represented Γ (Term.split series n e) h fs vs E =
      agree_split Γ series n e fs vs h.2
      (agree_elements Γ e fs vs Series.arrays h.1 (value_represented Γ e h.0 fs vs E)) h.4
  value_represented Γ (Term.join series e) h fs vs E =
      let m : ℕ = array_length (type_of I Γ e) in
      let n : ℕ = array_length (element (type_of I Γ e)) in
      represents_join 𝓝 m n (element (element (type_of I Γ e))) (at Γ e fs) (elements (of e vs))
      (let E : Elements 𝓝 m (element (type_of I Γ e)) (at Γ e fs) (elements (of e vs)) =
      agree_elements Γ e fs vs Series.arrays h.1 (value_represented Γ e h.0 fs vs E) in
      record {
        counted = E.counted;
        each = λ i l.
            represents_elements 𝓝 series (element (type_of I Γ e)) (element_at 𝓝 (at Γ e fs) i)
            (get_or (elements (of e vs)) i (no_datum 𝓝)) h.2 (E.each i l);
      })
  value_represented Γ (Term.first e) h fs vs E =
      let t : DataType = first_type (type_of I Γ e) in
      let both : DataType = DataType.pair t (second_type (type_of I Γ e)) in
      let q = agree_as Γ e fs vs both h.1 (value_represented Γ e h.0 fs vs E) in
      subst (λ (v : DatumOf 𝓝). Represents 𝓝 t (λ p. at Γ e fs (first ∷ p)) v) (sym (ap first_of q.2)) q.3
  value_represented Γ (Term.second e) h fs vs E =
      let t : DataType = second_type (type_of I Γ e) in
      let both : DataType = DataType.pair (first_type (type_of I Γ e)) t in
      let q = agree_as Γ e fs vs both h.1 (value_represented Γ e h.0 fs vs E) in
      subst (λ (v : DatumOf 𝓝). Represents 𝓝 t (λ p. at Γ e fs (second ∷ p)) v) (sym (ap second_of q.2)) q.4
  value_represented Γ (Term.index series k e) h fs vs E =
      (agree_elements Γ e fs vs series h.1 (value_represented Γ e h.0 fs vs E)).each k h.2
