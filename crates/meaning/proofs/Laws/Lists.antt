-- Lists of data: what zipping, grouping and joining do to lengths and to elements.
use Rattle.std.specs.Prelude.{◌≡◌, refl, length, take, drop}
use Rattle.std.proofs.Common.{sym, ◌∙◌, not-suc-le-zero, le_of_suc-le-suc, drop-drop}
use Rattle.std.proofs.Math.Path.{ap}
use mathlib.Core.List.{List, [], ◌∷◌, ◌++◌, map}
use Prim.Native.Nat.{ℕ, zero, suc, ◌+◌, ◌*◌, ◌<◌}
use Rattle.std.proofs.Math.Nat.{suc-mul, mul-suc, mul-zero}
use native.Mathlib.Omega.{arith}
use Rattle.std.proofs.Math.ListN.{get_or, length-append, get_or-append}
use Rattle.std.proofs.Math.Seq.{get_or-append-add}
use Rattle.meaning.specs.Values.{Datum, to_list, of_list, array_of, elements, zipped, groups, joined}

module _ {N : Type 0} where
  to_list_of_list : (l : List (Datum N)) → to_list (of_list l) ≡ l
  to_list_of_list [] = refl
  to_list_of_list (x ∷ l) = ap (λ (r : List (Datum N)). x ∷ r) (to_list_of_list l)

  pub elements_of : {v : Datum N} (l : List (Datum N)) → v ≡ array_of l → elements v ≡ l
  elements_of l e = ap elements e ∙ to_list_of_list l

  pub length_zipped : (l m : List (Datum N)) → length l ≡ length m → length (zipped l m) ≡ length l
  length_zipped [] m e = refl
  length_zipped (a ∷ l) [] e = absurd (omega arith)
  length_zipped (a ∷ l) (b ∷ m) e = ap suc (length_zipped l m (omega arith))

  pub get_d_zipped : (l m : List (Datum N)) (i : ℕ) (d : Datum N) → length l ≡ length m → i < length l
      → get_or (zipped l m) i d ≡ Datum.pair (get_or l i d) (get_or m i d)
  get_d_zipped [] m i d e h = absurd (not-suc-le-zero h)
  get_d_zipped (a ∷ l) [] i d e h = absurd (omega arith)
  get_d_zipped (a ∷ l) (b ∷ m) zero d e h = refl
  get_d_zipped (a ∷ l) (b ∷ m) (suc i) d e h = get_d_zipped l m i d (omega arith) (le_of_suc-le-suc h)

  pub length_groups : (k n : ℕ) (l : List (Datum N)) → length (groups k n l) ≡ k
  length_groups zero n l = refl
  length_groups (suc k) n l = ap suc (length_groups k n (drop n l))

  pub get_d_groups : (k n : ℕ) (l : List (Datum N)) (i : ℕ) (d : Datum N) → i < k
      → get_or (groups k n l) i d ≡ array_of (take n (drop (n * i) l))
  get_d_groups zero n l i d h = absurd (not-suc-le-zero h)
  get_d_groups (suc k) n l zero d h = ap (λ (j : ℕ). array_of (take n (drop j l))) (sym (mul-zero n))
  get_d_groups (suc k) n l (suc i) d h =
      let e : n + n * i ≡ n * suc i = omega (arith, mul-suc n i) in
      get_d_groups k n (drop n l) i d (le_of_suc-le-suc h)
      ∙ ap (λ (r : List (Datum N)). array_of (take n r)) (drop-drop (n * i) n l)
      ∙ ap (λ (j : ℕ). array_of (take n (drop j l))) e

  -- groups that are all of length n
  pub Each : ℕ → List (Datum N) → Type 0
  Each n [] = Unit {0}
  Each n (v ∷ l) = (length (elements v) ≡ n) × Each n l

  pub each_of : (n : ℕ) (l : List (Datum N)) (d : Datum N)
      → ((i : ℕ) → i < length l → length (elements (get_or l i d)) ≡ n)
      → Each n l
  unfolding Each
  each_of n [] d h = tt
  each_of n (v ∷ l) d h = (h 0 (omega arith), each_of n l d (λ i k. h (suc i) (omega arith)))

  pub length_joined : (n : ℕ) (l : List (Datum N)) → Each n l → length (joined l) ≡ length l * n
  unfolding Each
  length_joined n [] h = omega arith
  length_joined n (v ∷ l) h =
      length-append (elements v) (joined l)
      ∙ (let a = h.0 in let b = length_joined n l h.1 in let c = suc-mul (length l) n in omega arith)

  pub get_d_joined : (n : ℕ) (l : List (Datum N)) (i j : ℕ) (d : Datum N) → Each n l → i < length l → j < n
      → get_or (joined l) (n * i + j) d ≡ get_or (elements (get_or l i d)) j d
  unfolding Each
  get_d_joined n [] i j d h li lj = absurd (not-suc-le-zero li)
  get_d_joined n (v ∷ l) zero j d h li lj =
      ap (λ (x : ℕ). get_or (elements v ++ joined l) x d) (let e = mul-zero n in omega arith)
      ∙ get_or-append (elements v) (joined l) d j (omega (arith, h.0))
  get_d_joined n (v ∷ l) (suc i) j d h li lj =
      ap (λ (x : ℕ). get_or (elements v ++ joined l) x d) (let e = mul-suc n i in let a = h.0 in omega arith)
      ∙ get_or-append-add (elements v) (joined l) (n * i + j) d
      ∙ get_d_joined n l i j d h.1 (le_of_suc-le-suc li) lj

  pub get_d_map : {A : Type 0} (φ : A → Datum N) (l : List A) (i : ℕ) (d : Datum N) (d' : A) → i < length l
      → get_or (map φ l) i d ≡ φ (get_or l i d')
  get_d_map φ [] i d d' h = absurd (not-suc-le-zero h)
  get_d_map φ (x ∷ l) zero d d' h = refl
  get_d_map φ (x ∷ l) (suc i) d d' h = get_d_map φ l i d d' (le_of_suc-le-suc h)
