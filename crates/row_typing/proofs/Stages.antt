-- The check of a term in stages: behind its first operand, and behind its second.
use mathlib.Core.Path.{◌≡◌, refl}
use mathlib.Core.Bool.{Bool, true, false, cond, ◌&&◌}
use mathlib.Core.List.{List, ◌∷◌}
use Prim.Native.Nat.{ℕ, suc, ◌≤◌}
use native.Mathlib.Omega.{arith}
use Rattle.refusals.specs.declared.Refusal.TheVariants.{TypeMisfit}
use Rattle.arithmetic.specs.Arithmetic.{Operation}
use Rattle.words.specs.Groups.{one_of}
use Rattle.meaning.specs.Types.{DataType, Series, array_length, element, series_of}
use Rattle.meaning.specs.Terms.{LoopKind, Term}
use Rattle.syntax.specs.Standing.{Shape, none, one, two, three, view_of, count_in, first_in, second_in, third_in}
use Rattle.syntax.specs.Standing.{term_kind, term_number, operand_count, first_operand, second_operand, third_operand}
use Rattle.typing.specs.Check.{Verdict, typed, refused, sized, fitted, after_operand, behind, check, is_array, is_series, may_be_in}
use Rattle.type_rules.specs.Rules.{unary_rule, binary_rule, map_rule}
use Rattle.type_rules.specs.Rules.{reduce_rule, opens_second, second_scope}

-- The check of a row of kind k and number n with these operands, the first of which has the type s: a map over no array, [18.6] or a
-- `mapvec` over no vector, is refused before its body is checked.
unfoldable pub behind_two_in : List DataType → List DataType → ℕ → Shape → ℕ → DataType → DataType → Verdict
behind_two_in I Γ k none line s t = binary_rule k line s t
behind_two_in I Γ k (one a) line s t = binary_rule k line s t
behind_two_in I Γ k (two a m b) line s t = binary_rule k line s t
behind_two_in I Γ k (three z a m b) line s t =
    cond (is_array t) (after_operand (check I (s ∷ element t ∷ Γ) b (behind a (behind z (suc line)))) λ u. reduce_rule line s u)
    (refused (TypeMisfit line))

unfoldable pub behind_one_in : List DataType → List DataType → ℕ → ℕ → Shape → ℕ → DataType → Verdict
behind_one_in I Γ k n none line s = sized line s
behind_one_in I Γ k n (one a) line s = unary_rule k n line s
behind_one_in I Γ k n (two a m b) line s =
    cond (opens_second k s) (after_operand (check I (second_scope k s Γ) b (behind a (suc line))) λ t. behind_two_in I Γ k (two a m b) line s t)
    (refused (TypeMisfit line))
behind_one_in I Γ k n (three z a m b) line s =
    cond (opens_second k s) (after_operand (check I (second_scope k s Γ) a (behind z (suc line))) λ t. behind_two_in I Γ k (three z a m b) line s t)
    (refused (TypeMisfit line))

abbrev pub behind_one : List DataType → List DataType → Term → ℕ → DataType → Verdict
behind_one I Γ e line s = behind_one_in I Γ (term_kind e) (term_number e) (view_of e).shape line s

abbrev pub behind_two : List DataType → List DataType → Term → ℕ → DataType → DataType → Verdict
behind_two I Γ e line s t = behind_two_in I Γ (term_kind e) (view_of e).shape line s t

each_after : (v : Verdict) (f g : DataType → Verdict) → ((s : DataType) → f s ≡ g s) → after_operand v f ≡ after_operand v g
each_after (typed t) f g h = h t
each_after (refused q) f g h = refl

-- a map's array, [18.6] or vector, is asked for once
series_once : (series : Series) (I Γ : List DataType) (b : Term) (line next : ℕ) (s : DataType)
    → cond (is_series series s)
    (after_operand (check I (element s ∷ Γ) b next) λ t. fitted line (may_be_in series t) (series_of series (array_length s) t))
    (refused (TypeMisfit line))
    ≡ cond (is_series series s) (after_operand (check I (element s ∷ Γ) b next) λ t. map_rule series line s t) (refused (TypeMisfit line))
series_once series I Γ b line next s = go (is_series series s)
  where
    go : (x : Bool)
        → cond x
        (after_operand (check I (element s ∷ Γ) b next) λ t. fitted line (may_be_in series t) (series_of series (array_length s) t))
        (refused (TypeMisfit line))
        ≡ cond x
        (after_operand (check I (element s ∷ Γ) b next) λ t. fitted line (x && may_be_in series t) (series_of series (array_length s) t))
        (refused (TypeMisfit line))
    go true = refl
    go false = refl

pub first_checked : (I Γ : List DataType) (e : Term) (line : ℕ) → 1 ≤ operand_count e
    → check I Γ e line ≡ after_operand (check I Γ (first_operand e) (suc line)) (λ s. behind_one I Γ e line s)
unfolding check behind_one_in behind_two_in unary_rule binary_rule one_of
first_checked I Γ (Term.input k) line h = absurd (omega arith)
first_checked I Γ (Term.variable d) line h = absurd (omega arith)
first_checked I Γ (Term.literal v) line h = absurd (omega arith)
first_checked I Γ (Term.negate e) line h = refl
first_checked I Γ (Term.operation Operation.addition e f) line h = refl
first_checked I Γ (Term.operation Operation.subtraction e f) line h = refl
first_checked I Γ (Term.operation Operation.multiplication e f) line h = refl
first_checked I Γ (Term.operation Operation.division e f) line h = refl
first_checked I Γ (Term.operation Operation.minimum e f) line h = refl
first_checked I Γ (Term.operation Operation.maximum e f) line h = refl
first_checked I Γ (Term.map LoopKind.parallel a b) line h =
    each_after (check I Γ a (suc line)) _ _ (λ s. series_once Series.arrays I Γ b line (behind a (suc line)) s)
first_checked I Γ (Term.map LoopKind.sequential a b) line h =
    each_after (check I Γ a (suc line)) _ _ (λ s. series_once Series.arrays I Γ b line (behind a (suc line)) s)
first_checked I Γ (Term.map LoopKind.lanes a b) line h =
    each_after (check I Γ a (suc line)) _ _ (λ s. series_once Series.vectors I Γ b line (behind a (suc line)) s)
first_checked I Γ (Term.reduce z a b) line h = refl
first_checked I Γ (Term.zip a b) line h = refl
first_checked I Γ (Term.pair a b) line h = refl
first_checked I Γ (Term.split Series.arrays n e) line h = refl
first_checked I Γ (Term.split Series.vectors n e) line h = refl
first_checked I Γ (Term.join Series.arrays e) line h = refl
first_checked I Γ (Term.join Series.vectors e) line h = refl
first_checked I Γ (Term.first e) line h = refl
first_checked I Γ (Term.second e) line h = refl
first_checked I Γ (Term.index Series.arrays k e) line h = refl
first_checked I Γ (Term.index Series.vectors k e) line h = refl

module _ (I Γ : List DataType) (k n line : ℕ) (s : DataType) where
  one_in : (S : Shape) → count_in S ≡ 1 → behind_one_in I Γ k n S line s ≡ unary_rule k n line s
  unfolding behind_one_in
  one_in none h = absurd (omega arith)
  one_in (one a) h = refl
  one_in (two a m b) h = absurd (omega arith)
  one_in (three z a m b) h = absurd (omega arith)

  two_in : (t : DataType) (S : Shape) → count_in S ≤ 2 → behind_two_in I Γ k S line s t ≡ binary_rule k line s t
  unfolding behind_two_in
  two_in t none h = refl
  two_in t (one a) h = refl
  two_in t (two a m b) h = refl
  two_in t (three z a m b) h = absurd (omega arith)

  closed_in : (S : Shape) → 2 ≤ count_in S → opens_second k s ≡ false → behind_one_in I Γ k n S line s ≡ refused (TypeMisfit line)
  unfolding behind_one_in
  closed_in none h g = absurd (omega arith)
  closed_in (one a) h g = absurd (omega arith)
  closed_in (two a m b) h g = rw g
  closed_in (three z a m b) h g = rw g

  open_in : (e : Term) (S : Shape) → 2 ≤ count_in S → opens_second k s ≡ true
      → behind_one_in I Γ k n S line s
      ≡ after_operand (check I (second_scope k s Γ) (second_in e S) (behind (first_in e S) (suc line))) (λ t. behind_two_in I Γ k S line s t)
  unfolding behind_one_in
  open_in e none h g = absurd (omega arith)
  open_in e (one a) h g = absurd (omega arith)
  open_in e (two a m b) h g = rw g
  open_in e (three z a m b) h g = rw g

  body_closed_in : (t : DataType) (S : Shape) → 3 ≤ count_in S → is_array t ≡ false → behind_two_in I Γ k S line s t ≡ refused (TypeMisfit line)
  unfolding behind_two_in
  body_closed_in t none h g = absurd (omega arith)
  body_closed_in t (one a) h g = absurd (omega arith)
  body_closed_in t (two a m b) h g = absurd (omega arith)
  body_closed_in t (three z a m b) h g = rw g

  body_open_in : (e : Term) (t : DataType) (S : Shape) → 3 ≤ count_in S → is_array t ≡ true
      → behind_two_in I Γ k S line s t
      ≡ after_operand (check I (s ∷ element t ∷ Γ) (third_in e S) (behind (second_in e S) (behind (first_in e S) (suc line)))) (λ u. reduce_rule line s u)
  unfolding behind_two_in
  body_open_in e t none h g = absurd (omega arith)
  body_open_in e t (one a) h g = absurd (omega arith)
  body_open_in e t (two a m b) h g = absurd (omega arith)
  body_open_in e t (three z a m b) h g = rw g

module _ (I Γ : List DataType) (e : Term) (line : ℕ) (s : DataType) where
  pub one_rest : operand_count e ≡ 1 → behind_one I Γ e line s ≡ unary_rule (term_kind e) (term_number e) line s
  one_rest h = one_in I Γ (term_kind e) (term_number e) line s (view_of e).shape h

  pub two_rest : (t : DataType) → operand_count e ≤ 2 → behind_two I Γ e line s t ≡ binary_rule (term_kind e) line s t
  two_rest t h = two_in I Γ (term_kind e) (term_number e) line s t (view_of e).shape h

  -- a map over no array is refused before its body is checked
  pub second_closed : 2 ≤ operand_count e → opens_second (term_kind e) s ≡ false → behind_one I Γ e line s ≡ refused (TypeMisfit line)
  second_closed h g = closed_in I Γ (term_kind e) (term_number e) line s (view_of e).shape h g

  -- the second operand is checked next
  pub second_open : 2 ≤ operand_count e → opens_second (term_kind e) s ≡ true
      → behind_one I Γ e line s
      ≡ after_operand (check I (second_scope (term_kind e) s Γ) (second_operand e) (behind (first_operand e) (suc line))) (λ t. behind_two I Γ e line s t)
  second_open h g = open_in I Γ (term_kind e) (term_number e) line s e (view_of e).shape h g

  -- and then the body of a reduction, over an array
  pub body_closed : (t : DataType) → 3 ≤ operand_count e → is_array t ≡ false → behind_two I Γ e line s t ≡ refused (TypeMisfit line)
  body_closed t h g = body_closed_in I Γ (term_kind e) (term_number e) line s t (view_of e).shape h g

  pub body_open : (t : DataType) → 3 ≤ operand_count e → is_array t ≡ true
      → behind_two I Γ e line s t
      ≡ after_operand (check I (s ∷ element t ∷ Γ) (third_operand e) (behind (second_operand e) (behind (first_operand e) (suc line)))) (λ u. reduce_rule line s u)
  body_open t h g = body_open_in I Γ (term_kind e) (term_number e) line s e t (view_of e).shape h g
