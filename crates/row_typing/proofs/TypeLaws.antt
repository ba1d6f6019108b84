-- The rows of a type, and the check of a type row after its operands.
use mathlib.Core.Path.{◌≡◌, refl, ap, ap₂, sym, subst, ◌∙◌}
use mathlib.Core.List.{List, [], ◌∷◌, ◌++◌, append_assoc}
use Prim.Native.Nat.{ℕ, suc, ◌+◌, ◌≤◌, ◌<◌}
use native.Mathlib.Omega.{arith}
use native.Mathlib.Numerals.{add-one}
use lib.IntN.{ℤ, pos}
use lib.ListN.{length, get_or, drop, length-append}
use lib.Seq.{drop_at}
use Rattle.refusals.specs.declared.Refusal.{Refusal}
use Rattle.words.specs.Kinds.{Row, word_num, word_arr, word_two, word_vec}
use Rattle.words.proofs.Laws.{rows_length}
use Rattle.meaning.specs.Types.{DataType, number, array, vector}
use Rattle.meaning.specs.Limits.{IsWidth}
use Rattle.meaning.specs.Rows.{type_rows}
use Rattle.syntax.specs.Ranges.{as_natural}
use Rattle.syntax.proofs.WalkSteps.{rows_part}
use Rattle.syntax.proofs.Front.{part, part_length, head_row}
use Rattle.type_table.specs.Table.{type_at, Put}
use Rattle.typing.specs.Check.{Verdict, typed, refused, sized, check_type, after_operand}
use Rattle.type_rules.specs.Rules.{Grown, Found, Room}
use Rattle.row_typing.specs.Terms.{TypeStands}
use Rattle.std.specs.Prelude.{Result, Err}
use Rattle.type_rules.specs.declared.Typed.{Typed}
use Rattle.type_rules.specs.Rules.{type_found}
use Rattle.type_rules.proofs.Found.{found_type, found_put, found_on, was_typed, was_refused, sized_typed, grown_on}

abbrev type_kind : DataType → ℕ
type_kind number = word_num
type_kind (array n t) = word_arr
type_kind (DataType.pair s t) = word_two
type_kind (vector w) = word_vec

abbrev type_number : DataType → ℕ
type_number number = 0
type_number (array n t) = n
type_number (DataType.pair s t) = 0
type_number (vector w) = w

abbrev type_tail : DataType → List Row
type_tail number = []
type_tail (array n t) = type_rows t
type_tail (DataType.pair s t) = type_rows s ++ type_rows t
type_tail (vector w) = []

type_head : (t : DataType) → type_rows t ≡ (type_kind t, pos (type_number t)) ∷ type_tail t
unfolding type_rows
type_head number = refl
type_head (array n t) = refl
type_head (DataType.pair s t) = refl
type_head (vector w) = refl

module _ (ks : List ℕ) (ns : List ℤ) where
  pub rows_within : (t : DataType) → TypeStands ks ns t → length (type_rows t) ≤ length ks
  rows_within t S =
      omega (arith, rows_length ks ns, S.sizes, ap length S.rows, length-append (type_rows t) S.rest)

  pub some_row : (t : DataType) → TypeStands ks ns t → 1 ≤ length ks
  some_row t S = let h = rows_within t S in omega (arith, ap length (type_head t), h)

  heads : (t : DataType) → TypeStands ks ns t → (get_or ks 0 0 ≡ type_kind t) × (get_or ns 0 (pos 0) ≡ pos (type_number t))
  heads t S = head_row ks ns _ _ (S.rows ∙ ap (λ (R : List Row). R ++ S.rest) (type_head t))

  pub its_kind : (t : DataType) → TypeStands ks ns t → get_or ks 0 0 ≡ type_kind t
  its_kind t S = (heads t S).0

  pub element_stands : (n : ℕ) (t : DataType) → TypeStands ks ns (array n t) → TypeStands (part 1 ks) (part 1 ns) t
  unfolding type_rows
  element_stands n t S = record {
    sizes = omega (arith, part_length 1 ks, part_length 1 ns, S.sizes);
    rest = S.rest;
    rows = rows_part 1 ks ns ∙ ap (drop 1) S.rows;
    in_range = S.in_range.1;
  }

  pub first_stands : (s t : DataType) → TypeStands ks ns (DataType.pair s t) → TypeStands (part 1 ks) (part 1 ns) s
  unfolding type_rows
  first_stands s t S = record {
    sizes = omega (arith, part_length 1 ks, part_length 1 ns, S.sizes);
    rest = type_rows t ++ S.rest;
    rows = rows_part 1 ks ns ∙ ap (drop 1) S.rows ∙ append_assoc (type_rows s) (type_rows t) S.rest;
    in_range = S.in_range.0;
  }

  pub second_stands : (s t : DataType) (a : ℕ) → TypeStands ks ns (DataType.pair s t) → a ≡ length (type_rows s)
      → TypeStands (part (1 + a) ks) (part (1 + a) ns) t
  unfolding type_rows
  second_stands s t a S e =
      let q : 1 + a ≡ suc a = omega arith in
      record {
        sizes = omega (arith, part_length (1 + a) ks, part_length (1 + a) ns, S.sizes);
        rest = S.rest;
        rows =
            rows_part (1 + a) ks ns ∙ ap (drop (1 + a)) S.rows
            ∙ ap (λ (i : ℕ). drop i (type_rows (DataType.pair s t) ++ S.rest)) q
            ∙ ap (drop a) (append_assoc (type_rows s) (type_rows t) S.rest)
            ∙ drop_at (type_rows s) (type_rows t ++ S.rest) a (sym e);
        in_range = S.in_range.1;
      }

-- what is accepted is the type that is spelt
after_typed : (v : Verdict) (f : DataType → Verdict) (u : DataType) → after_operand v f ≡ typed u → (s : DataType) × (v ≡ typed s) × (f s ≡ typed u)
after_typed (typed s) f u e = (s, refl, e)
after_typed (refused q) f u e = absurd (let z : ◌≡◌ {A = ℕ} 0 1 = cc in omega arith)

pub spelt : (t : DataType) (line : ℕ) (u : DataType) → check_type t line ≡ typed u → t ≡ u
unfolding check_type
spelt number line u e = sized_typed line number u e
spelt (array n t) line u e =
    sized_typed line (array n t) u (after_typed (check_type t (suc line)) (λ s. sized line (array n t)) u e).2
spelt (DataType.pair r t) line u e =
    let h = after_typed (check_type r (suc line)) (λ s. after_operand (check_type t (suc line + length (type_rows r))) (λ v. sized line (DataType.pair r t))) u e in
    sized_typed line (DataType.pair r t) u (after_typed (check_type t (suc line + length (type_rows r))) (λ v. sized line (DataType.pair r t)) u h.2).2
spelt (vector w) line u e = sized_typed line (vector w) u e

found_rows : (T : List ℕ) (m : ℕ) (U : List ℕ) (n a b : ℕ) (v : Verdict) (r : Result Typed Refusal) → a ≡ b → Found T m U n a v r → Found T m U n b v r
found_rows T m U n a b v r e F = subst (λ (x : ℕ). Found T m U n x v r) e F

next_line : (t : DataType) (line : ℕ) → check_type t (suc line) ≡ check_type t (line + 1)
next_line t line = ap (check_type t) (sym (add-one line))

-- a row that has operands: it is no number's, and no vector's
abbrev pub NotFlat : ℕ → Type 0
NotFlat k = (k ≡ word_num → ⊥) × (k ≡ word_vec → ⊥)

-- ---- the ways out of the recursion

module _ (ks : List ℕ) (ns : List ℤ) (T : List ℕ) (m line : ℕ) where
  pub number_row : (t : DataType) → TypeStands ks ns t → get_or ks 0 0 ≡ word_num → Room T m (length ks) → 1 ≤ m → type_at T 0 ≡ number
      → Found T m T (m + length (type_rows t)) (length (type_rows t)) (check_type t line) (type_found 0 1 m)
  unfolding type_rows check_type
  number_row number S e R h f =
      found_type T m (m + 1) 1 (sized line number) 0 R.sound h (omega arith) (ap typed (sym f))
  number_row (array n t) S e R h f = absurd (omega (arith, its_kind ks ns (array n t) S))
  number_row (DataType.pair s t) S e R h f = absurd (omega (arith, its_kind ks ns (DataType.pair s t) S))
  number_row (vector w) S e R h f = absurd (omega (arith, its_kind ks ns (vector w) S))

  -- [18.1] a vector
  pub vector_width : (t : DataType) (n : ℕ) → TypeStands ks ns t → get_or ks 0 0 ≡ word_vec → n ≡ as_natural (get_or ns 0 (pos 0)) → IsWidth n
  vector_width number n S h g = absurd (omega (arith, its_kind ks ns number S))
  vector_width (array k t) n S h g = absurd (omega (arith, its_kind ks ns (array k t) S))
  vector_width (DataType.pair s t) n S h g = absurd (omega (arith, its_kind ks ns (DataType.pair s t) S))
  vector_width (vector w) n S h g = subst IsWidth (sym (g ∙ ap as_natural (heads ks ns (vector w) S).1)) S.in_range

  pub vector_row : (t : DataType) (n : ℕ) (U : List ℕ) → TypeStands ks ns t → get_or ks 0 0 ≡ word_vec → n ≡ as_natural (get_or ns 0 (pos 0))
      → Put T U m (vector n) → Found T m U (m + length (type_rows t)) (length (type_rows t)) (check_type t line) (type_found m 1 (m + 1))
  unfolding type_rows check_type
  vector_row number n U S h g P = absurd (omega (arith, its_kind ks ns number S))
  vector_row (array k t) n U S h g P = absurd (omega (arith, its_kind ks ns (array k t) S))
  vector_row (DataType.pair s t) n U S h g P = absurd (omega (arith, its_kind ks ns (DataType.pair s t) S))
  vector_row (vector w) n U S h g P =
      found_put line 1 (subst (λ (x : ℕ). Put T U m (vector x)) (g ∙ ap as_natural (heads ks ns (vector w) S).1) P)

  pub first_some : (t : DataType) → TypeStands ks ns t → NotFlat (get_or ks 0 0) → (u : DataType) × TypeStands (part 1 ks) (part 1 ns) u
  first_some number S f = absurd (f.0 (its_kind ks ns number S))
  first_some (array n t) S f = (t, element_stands ks ns n t S)
  first_some (DataType.pair s t) S f = (s, first_stands ks ns s t S)
  first_some (vector w) S f = absurd (f.1 (its_kind ks ns (vector w) S))

  -- the first operand's answer
  module _ (U : List ℕ) (r : Result Typed Refusal)
      (F : (u : DataType) → TypeStands (part 1 ks) (part 1 ns) u → Found T m U (m + length (type_rows u)) (length (type_rows u)) (check_type u (line + 1)) r) where
    first_no_holds : (u : DataType) (q : Refusal) → TypeStands (part 1 ks) (part 1 ns) u → r ≡ Err q → check_type u (suc line) ≡ refused q
    first_no_holds u q S e =
        next_line u line ∙ was_refused T m U (m + length (type_rows u)) (length (type_rows u)) (check_type u (line + 1)) e (F u S)

    pub refused_first : (t : DataType) (q : Refusal) → TypeStands ks ns t → NotFlat (get_or ks 0 0) → r ≡ Err q → check_type t line ≡ refused q
    unfolding check_type
    refused_first number q S f e = absurd (f.0 (its_kind ks ns number S))
    refused_first (array n t) q S f e =
        ap (λ (v : Verdict). after_operand v (λ u. sized line (array n t))) (first_no_holds t q (element_stands ks ns n t S) e)
    refused_first (DataType.pair s t) q S f e =
        ap (λ (v : Verdict). after_operand v (λ u. after_operand (check_type t (suc line + length (type_rows s))) (λ w. sized line (DataType.pair s t))))
        (first_no_holds s q (first_stands ks ns s t S) e)
    refused_first (vector w) q S f e = absurd (f.1 (its_kind ks ns (vector w) S))

    module _ (p a l : ℕ) (e : r ≡ type_found p a l) where
      first_typed : (u : DataType) → TypeStands (part 1 ks) (part 1 ns) u
          → (u ≡ type_at U p) × (check_type u (suc line) ≡ typed (type_at U p)) × (a ≡ length (type_rows u)) × (p < l) × (l ≤ m + length (type_rows u)) × Grown T m U l
      first_typed u S =
          let w = was_typed T m U (m + length (type_rows u)) (length (type_rows u)) (check_type u (line + 1)) e (F u S) in
          (spelt u (line + 1) (type_at U p) w.0, next_line u line ∙ w.0, w.1, w.2, w.3, w.4)

      pub first_facts : (t : DataType) → TypeStands ks ns t → NotFlat (get_or ks 0 0)
          → (1 + a ≤ length ks) × (p < l) × (l ≤ m + a) × Grown T m U l
      first_facts t S f =
          let h = first_some t S f in
          let w = first_typed h.0 h.1 in
          let k = rows_within (part 1 ks) (part 1 ns) h.0 h.1 in
          (omega (arith, w.2, k, part_length 1 ks, some_row ks ns t S), w.3, omega (arith, w.2, w.4), w.5)

      pub count_bounds : (t : DataType) (n : ℕ) → TypeStands ks ns t → get_or ks 0 0 ≡ word_arr → n ≡ as_natural (get_or ns 0 (pos 0)) → (1 ≤ n) × (n ≤ 16777216)
      count_bounds number n S h g = absurd (omega (arith, its_kind ks ns number S))
      count_bounds (array k u) n S h g =
          let q : n ≡ k = g ∙ ap as_natural (heads ks ns (array k u) S).1 in
          (omega (arith, S.in_range.0.0), omega (arith, S.in_range.0.1))
      count_bounds (DataType.pair s u) n S h g = absurd (omega (arith, its_kind ks ns (DataType.pair s u) S))
      count_bounds (vector w) n S h g = absurd (omega (arith, its_kind ks ns (vector w) S))

      pub array_row : (t : DataType) (n : ℕ) (X : List ℕ) (r' : Result Typed Refusal) → TypeStands ks ns t → get_or ks 0 0 ≡ word_arr → n ≡ as_natural (get_or ns 0 (pos 0))
          → Found U l X (l + 1) (1 + a) (sized line (array n (type_at U p))) r'
          → Found T m X (m + length (type_rows t)) (length (type_rows t)) (check_type t line) r'
      unfolding type_rows check_type
      array_row number n X r' S h g F' = absurd (omega (arith, its_kind ks ns number S))
      array_row (array k u) n X r' S h g F' =
          let w = first_typed u (element_stands ks ns k u S) in
          let q : k ≡ n = sym (g ∙ ap as_natural (heads ks ns (array k u) S).1) in
          let rows : 1 + a ≡ suc (length (type_rows u)) = omega (arith, w.2) in
          found_rows T m X (m + suc (length (type_rows u))) (1 + a) (suc (length (type_rows u))) _ r' rows
          (found_on T m U l X (l + 1) (m + suc (length (type_rows u))) (1 + a) _ _ r' w.5 (omega (arith, w.4))
          (ap (λ (v : Verdict). after_operand v (λ x. sized line (array k u))) w.1 ∙ ap₂ (λ (i : ℕ) (x : DataType). sized line (array i x)) q w.0)
          F')
      array_row (DataType.pair s u) n X r' S h g F' = absurd (omega (arith, its_kind ks ns (DataType.pair s u) S))
      array_row (vector w) n X r' S h g F' = absurd (omega (arith, its_kind ks ns (vector w) S))

      pub second_some : (t : DataType) → TypeStands ks ns t → NotFlat (get_or ks 0 0) → (get_or ks 0 0 ≡ word_arr → ⊥)
          → (u : DataType) × TypeStands (part (1 + a) ks) (part (1 + a) ns) u
      second_some number S f g = absurd (f.0 (its_kind ks ns number S))
      second_some (array n t) S f g = absurd (g (its_kind ks ns (array n t) S))
      second_some (DataType.pair s t) S f g =
          (t, second_stands ks ns s t a S (first_typed s (first_stands ks ns s t S)).2)
      second_some (vector w) S f g = absurd (f.1 (its_kind ks ns (vector w) S))

      -- the second operand's answer, on a line behind the first's rows
      module _ (X : List ℕ) (r' : Result Typed Refusal) (line' : ℕ) (at : line' ≡ suc line + a)
          (G : (u : DataType) → TypeStands (part (1 + a) ks) (part (1 + a) ns) u
          → Found U l X (l + length (type_rows u)) (length (type_rows u)) (check_type u line') r') where
        pub refused_second : (t : DataType) (q : Refusal) → TypeStands ks ns t → NotFlat (get_or ks 0 0) → (get_or ks 0 0 ≡ word_arr → ⊥) → r' ≡ Err q
            → check_type t line ≡ refused q
        unfolding check_type
        refused_second number q S f g h = absurd (f.0 (its_kind ks ns number S))
        refused_second (array n t) q S f g h = absurd (g (its_kind ks ns (array n t) S))
        refused_second (DataType.pair s t) q S f g h =
            let w = first_typed s (first_stands ks ns s t S) in
            let k : suc line + length (type_rows s) ≡ line' = omega (arith, w.2) in
            ap (λ (v : Verdict). after_operand v (λ x. after_operand (check_type t (suc line + length (type_rows s))) (λ y. sized line (DataType.pair s t)))) w.1
            ∙ ap (λ (v : Verdict). after_operand v (λ y. sized line (DataType.pair s t)))
            (ap (check_type t) k
            ∙ was_refused U l X (l + length (type_rows t)) (length (type_rows t)) (check_type t line') h (G t (second_stands ks ns s t a S w.2)))
        refused_second (vector w) q S f g h = absurd (f.1 (its_kind ks ns (vector w) S))

        module _ (p' b l' : ℕ) (h : r' ≡ type_found p' b l') where
          second_typed : (u : DataType) → TypeStands (part (1 + a) ks) (part (1 + a) ns) u
              → (u ≡ type_at X p') × (check_type u line' ≡ typed (type_at X p')) × (b ≡ length (type_rows u)) × (p' < l') × (l' ≤ l + length (type_rows u)) × Grown U l X l'
          second_typed u S =
              let w = was_typed U l X (l + length (type_rows u)) (length (type_rows u)) (check_type u line') h (G u S) in
              (spelt u line' (type_at X p') w.0, w.0, w.1, w.2, w.3, w.4)

          pub second_facts : (t : DataType) → TypeStands ks ns t → NotFlat (get_or ks 0 0) → (get_or ks 0 0 ≡ word_arr → ⊥)
              → (1 + a + b ≤ length ks) × (p < l') × (p' < l') × (l' ≤ m + (a + b)) × Grown T m X l'
          second_facts t S f g =
              let c = first_facts t S f in
              let o = second_some t S f g in
              let w = second_typed o.0 o.1 in
              let k = rows_within (part (1 + a) ks) (part (1 + a) ns) o.0 o.1 in
              (omega (arith, w.2, k, part_length (1 + a) ks, c.0), omega (arith, c.1, w.5.more), w.3, omega (arith, w.2, w.4, c.2), grown_on c.3 w.5)

          pub pair_row : (t : DataType) (Y : List ℕ) (r'' : Result Typed Refusal) → TypeStands ks ns t → NotFlat (get_or ks 0 0) → (get_or ks 0 0 ≡ word_arr → ⊥)
              → Found X l' Y (l' + 1) (1 + a + b) (sized line (DataType.pair (type_at X p) (type_at X p'))) r''
              → Found T m Y (m + length (type_rows t)) (length (type_rows t)) (check_type t line) r''
          unfolding type_rows check_type
          pair_row number Y r'' S f g F' = absurd (f.0 (its_kind ks ns number S))
          pair_row (array n t) Y r'' S f g F' = absurd (g (its_kind ks ns (array n t) S))
          pair_row (DataType.pair s t) Y r'' S f g F' =
              let v = first_typed s (first_stands ks ns s t S) in
              let w = second_typed t (second_stands ks ns s t a S v.2) in
              let k : suc line + length (type_rows s) ≡ line' = omega (arith, v.2) in
              let size = length-append (type_rows s) (type_rows t) in
              let rows : 1 + a + b ≡ suc (length (type_rows s ++ type_rows t)) = omega (arith, v.2, w.2, size) in
              found_rows T m Y (m + suc (length (type_rows s ++ type_rows t))) (1 + a + b) (suc (length (type_rows s ++ type_rows t))) _ r'' rows
              (found_on T m X l' Y (l' + 1) (m + suc (length (type_rows s ++ type_rows t))) (1 + a + b) _ _ r'' (grown_on v.5 w.5) (omega (arith, v.4, w.4, size))
              (ap (λ (z : Verdict). after_operand z (λ x. after_operand (check_type t (suc line + length (type_rows s))) (λ y. sized line (DataType.pair s t)))) v.1
              ∙ ap (λ (z : Verdict). after_operand z (λ y. sized line (DataType.pair s t))) (ap (check_type t) k ∙ w.1)
              ∙ ap₂ (λ (x y : DataType). sized line (DataType.pair x y)) (v.0 ∙ sym (w.5.kept p v.3)) w.0)
              F')
          pair_row (vector w) Y r'' S f g F' = absurd (f.1 (its_kind ks ns (vector w) S))

-- the rows in front are a type's
pub type_there : {ks : List ℕ} {ns : List ℤ} → (t : DataType) × TypeStands ks ns t → (1 ≤ length ks) × (length ks ≡ length ns)
type_there {ks} {ns} s = (some_row ks ns s.0 s.1, s.1.sizes)
