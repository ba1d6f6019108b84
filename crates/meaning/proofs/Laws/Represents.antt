-- A value by lists represents a value by paths, and each way of making a value keeps it.
use Rattle.std.specs.Prelude.{◌≡◌, refl, List, [], ◌∷◌, map, ℕ, suc, ◌+◌, ◌*◌, ◌/◌, ◌%◌, ◌≤◌, ◌<◌, length, get_or, take, drop}
use Rattle.std.proofs.Common.{sym, ap, ◌∙◌, subst, suc-le-suc, add-zero, mul_comm, suc-mul, mul-le-mul_right, arith, length-drop, get_or-take, get_or-drop, length-take-le}
use Rattle.std.proofs.Math.Nat.{div-add-mod}
use Rattle.std.proofs.lemmas.List.{length-map}
use Rattle.meaning.specs.Types.{DataType, Series, array_length, element, series_of, number, array, vector}
use Rattle.meaning.specs.Numbers.{NumberDomain}
use Rattle.meaning.specs.Sequence.{up_from, in_turn}
use Rattle.meaning.specs.Values.{Datum, array_of, elements, zipped, groups, joined, DatumOf, no_datum}
use Rattle.meaning.specs.Paths.{tail, by_part, index, first, second}
use Rattle.meaning.proofs.Laws.Typing.{IsSeries, MayBeIn}
use Rattle.meaning.proofs.Laws.Groups.{group_below, quotient_below, remainder_below}
use Rattle.meaning.proofs.Laws.Paths.{flat_path, group_path, unzipped_path}
use Rattle.meaning.proofs.Laws.PathValues.{PathValue, element_at}
use Rattle.meaning.proofs.Laws.Lists.{elements_of, length_zipped, get_d_zipped, length_groups, get_d_groups, Each}
use Rattle.meaning.proofs.Laws.Lists.{each_of, length_joined, get_d_joined, get_d_map}

module _ (𝓝 : NumberDomain) where
  -- value v of type t has at each path the number that f has there
  abbrev pub Represents : DataType → PathValue 𝓝 → DatumOf 𝓝 → Type 0
  Represents number f v = v ≡ Datum.number (f [])
  Represents (array n t) f v =
      (l : List (DatumOf 𝓝))
      × (v ≡ array_of l)
      × (length l ≡ n)
      × ((i : ℕ) → i < n → Represents t (element_at 𝓝 f i) (get_or l i (no_datum 𝓝)))
  Represents (DataType.pair s t) f v =
      (a : DatumOf 𝓝)
      × (b : DatumOf 𝓝)
      × (v ≡ Datum.pair a b)
      × Represents s (λ p. f (first ∷ p)) a
      × Represents t (λ p. f (second ∷ p)) b
  Represents (vector w) f v =
      (l : List (DatumOf 𝓝))
      × (v ≡ array_of l)
      × (length l ≡ w)
      × ((i : ℕ) → i < w → get_or l i (no_datum 𝓝) ≡ Datum.number (element_at 𝓝 f i []))

  -- a vector's value is that of an array of numbers
  pub represents_series : (series : Series) (n : ℕ) (t : DataType) (f : PathValue 𝓝) (v : DatumOf 𝓝)
      → MayBeIn series t → Represents (array n t) f v → Represents (series_of series n t) f v
  represents_series Series.arrays n t f v h r = r
  represents_series Series.vectors n t f v h r = subst (λ (s : DataType). Represents (array n s) f v) h r

  pub represents_elements : (series : Series) (t : DataType) (f : PathValue 𝓝) (v : DatumOf 𝓝)
      → IsSeries series t → Represents t f v → Represents (array (array_length t) (element t)) f v
  represents_elements series t f v h =
      subst (λ (s : DataType). Represents s f v → Represents (array (array_length s) (element s)) f v) (sym h)
      (go series (array_length t) (element t))
    where
      go : (series : Series) (n : ℕ) (t : DataType)
          → Represents (series_of series n t) f v
          → Represents (array (array_length (series_of series n t)) (element (series_of series n t))) f v
      go Series.arrays n t r = r
      go Series.vectors n t r = r

  -- the n elements of list l, of type t, are those of f
  pub record Elements (n : ℕ) (t : DataType) (f : PathValue 𝓝) (l : List (DatumOf 𝓝)) : Type 0 where
    pub counted : length l ≡ n
    pub each : (i : ℕ) → i < n → Represents t (element_at 𝓝 f i) (get_or l i (no_datum 𝓝))

  -- the elements of a value whose type is an array's, or a vector's
  pub represented_elements : (series : Series) (t : DataType) (f : PathValue 𝓝) (v : DatumOf 𝓝)
      → IsSeries series t → Represents t f v → Elements (array_length t) (element t) f (elements v)
  represented_elements series t f v isa r =
      let q : Represents (array (array_length t) (element t)) f v = represents_elements series t f v isa r in
      let e : elements v ≡ q.0 = elements_of q.0 q.1 in
      subst (Elements (array_length t) (element t) f) (sym e) (record { counted = q.2; each = q.3 })

  pub represents_map : (n : ℕ) (t : DataType) (f : PathValue 𝓝) (φ : DatumOf 𝓝 → DatumOf 𝓝) (l : List (DatumOf 𝓝))
      → length l ≡ n
      → ((i : ℕ) → i < n → Represents t (element_at 𝓝 f i) (φ (get_or l i (no_datum 𝓝))))
      → Represents (array n t) f (array_of (map φ l))
  represents_map n t f φ l e h = (
    map φ l,
    refl,
    length-map l φ ∙ e,
    λ i k.
        subst (λ (v : DatumOf 𝓝). Represents t (element_at 𝓝 f i) v)
        (sym (get_d_map φ l i (no_datum 𝓝) (no_datum 𝓝) (omega arith)))
        (h i k),
  )

  -- the total after each element in turn: Φ by paths, φ by lists
  pub represents_reduce : (s z : DataType) (fa : PathValue 𝓝) (Φ : PathValue 𝓝 → PathValue 𝓝 → PathValue 𝓝)
      (φ : DatumOf 𝓝 → DatumOf 𝓝 → DatumOf 𝓝)
      → ((f g : PathValue 𝓝) (v x : DatumOf 𝓝) → Represents z f v → Represents s g x → Represents z (Φ f g) (φ x v))
      → (l : List (DatumOf 𝓝)) (i : ℕ)
      → ((j : ℕ) → j < length l → Represents s (element_at 𝓝 fa (i + j)) (get_or l j (no_datum 𝓝)))
      → (f : PathValue 𝓝) (v : DatumOf 𝓝) → Represents z f v
      → Represents z (in_turn (up_from i (length l)) (λ m total. Φ total (element_at 𝓝 fa m)) f) (in_turn l φ v)
  represents_reduce s z fa Φ φ step [] i h f v r = r
  represents_reduce s z fa Φ φ step (x ∷ l) i h f v r =
      let now : Represents s (element_at 𝓝 fa i) x =
      subst (λ (m : ℕ). Represents s (element_at 𝓝 fa m) x) (add-zero i) (h 0 (omega arith)) in
      let later : (j : ℕ) → j < length l → Represents s (element_at 𝓝 fa (suc i + j)) (get_or l j (no_datum 𝓝)) =
      λ j k.
      subst (λ (m : ℕ). Represents s (element_at 𝓝 fa m) (get_or l j (no_datum 𝓝))) (omega arith)
      (h (suc j) (suc-le-suc k)) in
      represents_reduce s z fa Φ φ step l (suc i) later (Φ f (element_at 𝓝 fa i)) (φ x v)
      (step f (element_at 𝓝 fa i) v x r now)

  pub represents_zip : (n : ℕ) (s t : DataType) (f g : PathValue 𝓝) (l m : List (DatumOf 𝓝))
      → Elements n s f l → Elements n t g m
      → Represents (array n (DataType.pair s t)) (λ p. by_part (tail p) (f (unzipped_path p)) (g (unzipped_path p)))
      (array_of (zipped l m))
  represents_zip n s t f g l m h k =
      let e : length l ≡ length m = h.counted ∙ sym k.counted in (
        zipped l m,
        refl,
        length_zipped l m e ∙ h.counted,
        λ i li. (
          get_or l i (no_datum 𝓝),
          get_or m i (no_datum 𝓝),
          get_d_zipped l m i (no_datum 𝓝) e (omega (arith, h.counted)),
          h.each i li,
          k.each i li,
        ),
      )

  -- groups that are vectors, where arrays are represented
  pub represents_groups : (series : Series) (m n : ℕ) (t : DataType) (f : PathValue 𝓝) (v : DatumOf 𝓝)
      → MayBeIn series t → Represents (array m (array n t)) f v → Represents (array m (series_of series n t)) f v
  represents_groups series m n t f v h r = (
    r.0,
    r.1,
    r.2,
    λ i l. represents_series series n t (element_at 𝓝 f i) (get_or r.0 i (no_datum 𝓝)) h (r.3 i l),
  )

  pub represents_split : (m n : ℕ) (t : DataType) (f : PathValue 𝓝) (l : List (DatumOf 𝓝))
      → Elements (m * n) t f l
      → Represents (array m (array n t)) (λ p. f (flat_path n p)) (array_of (groups m n l))
  represents_split m n t f l h = (
    groups m n l,
    refl,
    length_groups m n l,
    λ i li. (
      take n (drop (n * i) l),
      get_d_groups m n l i (no_datum 𝓝) li,
      length-take-le n (drop (n * i) l) (fits i li),
      λ j lj.
          subst (λ (v : DatumOf 𝓝). Represents t (element_at 𝓝 f (n * i + j)) v)
          (sym (get_or-take n (drop (n * i) l) j (no_datum 𝓝) lj ∙ get_or-drop (n * i) l j (no_datum 𝓝)))
          (h.each (n * i + j) (group_below li lj)),
    ),
  )
    where
      fits : (i : ℕ) → i < m → n ≤ length (drop (n * i) l)
      fits i li =
          rw length-drop
          (let a : suc i * n ≤ m * n = mul-le-mul_right n li in
          let b = suc-mul i n in
          let c = mul_comm n i in
          omega (arith, h.counted))

  pub represents_join : (m n : ℕ) (t : DataType) (f : PathValue 𝓝) (l : List (DatumOf 𝓝))
      → Elements m (array n t) f l
      → Represents (array (m * n) t) (λ p. f (group_path n p)) (array_of (joined l))
  represents_join m n t f l h =
      let all : Each n l =
      each_of n l (no_datum 𝓝)
      (λ i k.
      let r = h.each i (omega (arith, h.counted)) in ap length (elements_of r.0 r.1) ∙ r.2) in (
        joined l,
        refl,
        length_joined n l all ∙ ap (λ (j : ℕ). j * n) h.counted,
        λ k lk.
            let li : k / n < m = quotient_below k m n lk in
            let lj : k % n < n = remainder_below k m n lk in
            let r = h.each (k / n) li in
            subst (λ (v : DatumOf 𝓝). Represents t (λ p. f (group_path n (index k ∷ p))) v)
            (sym (ap (λ (x : ℕ). get_or (joined l) x (no_datum 𝓝)) (sym (div-add-mod k n))
            ∙ get_d_joined n l (k / n) (k % n) (no_datum 𝓝) all (omega (arith, h.counted)) lj
            ∙ ap (λ (y : List (DatumOf 𝓝)). get_or y (k % n) (no_datum 𝓝)) (elements_of r.0 r.1)))
            (r.3 (k % n) lj),
      )
