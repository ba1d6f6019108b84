-- The check of a term by the answers on its operands, one law for each way it goes.
use mathlib.Core.Path.{◌≡◌, ap, sym, ◌∙◌}
use mathlib.Core.Bool.{true, false}
use mathlib.Core.List.{List, ◌∷◌}
use Prim.Native.Nat.{ℕ, suc, ◌≤◌}
use native.Mathlib.Omega.{arith}
use Rattle.refusals.specs.declared.Refusal.{Refusal}
use Rattle.refusals.specs.declared.Refusal.TheVariants.{TypeMisfit}
use Rattle.meaning.specs.Types.{DataType, element}
use Rattle.meaning.specs.Terms.{Term}
use Rattle.meaning.specs.Typing.{type_of}
use Rattle.syntax.specs.Standing.{term_kind, term_number, operand_count, first_operand, second_operand, third_operand}
use Rattle.typing.specs.Check.{Verdict, typed, refused, after_operand, behind, check, is_array}
use Rattle.type_rules.specs.Rules.{unary_rule, binary_rule, reduce_rule, opens_second, second_scope}
use Rattle.typing.specs.TypeQuestions.{term_questions}
use Rattle.typing.proofs.Laws.TypeQuestions.{asked_typed, check_asks}
use Rattle.row_typing.proofs.Stages.{behind_one, first_checked, one_rest, behind_two, two_rest, second_closed, second_open, body_closed, body_open}

-- what is accepted is the term's type
pub checked_type : (I Γ : List DataType) (e : Term) (line : ℕ) (t : DataType) → check I Γ e line ≡ typed t → type_of I Γ e ≡ t
checked_type I Γ e line t h =
    (asked_typed (term_questions I Γ e line) (type_of I Γ e) t (sym (check_asks I Γ e line) ∙ h)).1

-- ---- the answers on its operands

after : {v w : Verdict} (f : DataType → Verdict) → v ≡ w → after_operand v f ≡ after_operand w f
after f e = ap (λ (x : Verdict). after_operand x f) e

module _ (I Γ : List DataType) (e : Term) (line : ℕ) where
  pub first_refused : (q : Refusal) → 1 ≤ operand_count e → check I Γ (first_operand e) (suc line) ≡ refused q → check I Γ e line ≡ refused q
  first_refused q h k = first_checked I Γ e line h ∙ after (behind_one I Γ e line) k

  module _ (s : DataType) (one : check I Γ (first_operand e) (suc line) ≡ typed s) where
    past_first : 1 ≤ operand_count e → check I Γ e line ≡ behind_one I Γ e line s
    past_first h = first_checked I Γ e line h ∙ after (behind_one I Γ e line) one

    pub row_of_one : operand_count e ≡ 1 → check I Γ e line ≡ unary_rule (term_kind e) (term_number e) line s
    row_of_one h = past_first (omega arith) ∙ one_rest I Γ e line s h

    pub second_misfit : 2 ≤ operand_count e → opens_second (term_kind e) s ≡ false → check I Γ e line ≡ refused (TypeMisfit line)
    second_misfit h g = past_first (omega arith) ∙ second_closed I Γ e line s h g

    module _ (opens : opens_second (term_kind e) s ≡ true) where
      at_second : 2 ≤ operand_count e → check I Γ e line
          ≡ after_operand (check I (second_scope (term_kind e) s Γ) (second_operand e) (behind (first_operand e) (suc line))) (λ t. behind_two I Γ e line s t)
      at_second h = past_first (omega arith) ∙ second_open I Γ e line s h opens

      pub second_refused : (q : Refusal) → 2 ≤ operand_count e
          → check I (second_scope (term_kind e) s Γ) (second_operand e) (behind (first_operand e) (suc line)) ≡ refused q → check I Γ e line ≡ refused q
      second_refused q h k = at_second h ∙ after (behind_two I Γ e line s) k

      module _ (t : DataType) (two : check I (second_scope (term_kind e) s Γ) (second_operand e) (behind (first_operand e) (suc line)) ≡ typed t) where
        pub row_of_two : operand_count e ≡ 2 → check I Γ e line ≡ binary_rule (term_kind e) line s t
        row_of_two h = at_second (omega arith) ∙ after (behind_two I Γ e line s) two ∙ two_rest I Γ e line s t (omega arith)

        module _ (h : 3 ≤ operand_count e) where
          pub body_misfit : is_array t ≡ false → check I Γ e line ≡ refused (TypeMisfit line)
          body_misfit g = at_second (omega arith) ∙ after (behind_two I Γ e line s) two ∙ body_closed I Γ e line s t h g

          at_body : is_array t ≡ true → check I Γ e line
              ≡ after_operand (check I (s ∷ element t ∷ Γ) (third_operand e) (behind (second_operand e) (behind (first_operand e) (suc line)))) (λ u. reduce_rule line s u)
          at_body g = at_second (omega arith) ∙ after (behind_two I Γ e line s) two ∙ body_open I Γ e line s t h g

          pub body_refused : (q : Refusal) → is_array t ≡ true
              → check I (s ∷ element t ∷ Γ) (third_operand e) (behind (second_operand e) (behind (first_operand e) (suc line))) ≡ refused q
              → check I Γ e line ≡ refused q
          body_refused q g k = at_body g ∙ after (reduce_rule line s) k

          pub row_of_three : (u : DataType) → is_array t ≡ true
              → check I (s ∷ element t ∷ Γ) (third_operand e) (behind (second_operand e) (behind (first_operand e) (suc line))) ≡ typed u
              → check I Γ e line ≡ reduce_rule line s u
          row_of_three u g k = at_body g ∙ after (reduce_rule line s) k
