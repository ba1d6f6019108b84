-- The value of a term by paths: which number stands at each path of it. For the proofs alone: regrouping is then a
-- change of path.
use Rattle.std.specs.Prelude.{List, ◌∷◌, ℕ, get_or}
use Rattle.meaning.specs.Types.{DataType, array_length, element}
use Rattle.meaning.specs.Terms.{Term}
use Rattle.meaning.specs.Typing.{type_of}
use Rattle.meaning.specs.Numbers.{NumberDomain}
use Rattle.meaning.specs.Sequence.{up_from, in_turn}
use Rattle.meaning.specs.Values.{no_number}
use Rattle.meaning.specs.Paths.{Path, head_index, tail, by_part, index, first, second}
use Rattle.meaning.proofs.Laws.Paths.{flat_path, group_path, unzipped_path}

module _ (𝓝 : NumberDomain) where
  abbrev pub PathValue : Type 0
  PathValue = Path ℕ → 𝓝.Number

  abbrev pub no_path_value : PathValue
  no_path_value p = no_number 𝓝

  abbrev pub element_at : PathValue → ℕ → PathValue
  element_at f i p = f (index i ∷ p)

  unfoldable pub value_at : List DataType → (ℕ → PathValue) → List DataType → Term → List PathValue → PathValue
  value_at I X Γ (Term.input k) env = X k
  value_at I X Γ (Term.variable d) env = get_or env d no_path_value
  value_at I X Γ (Term.literal v) env = λ p. 𝓝.literal v
  value_at I X Γ (Term.negate e) env = λ p. 𝓝.negate (value_at I X Γ e env p)
  value_at I X Γ (Term.operation o e f) env = λ p. 𝓝.operate o (value_at I X Γ e env p) (value_at I X Γ f env p)
  value_at I X Γ (Term.map kind a b) env =
      λ p. value_at I X (element (type_of I Γ a) ∷ Γ) b (element_at (value_at I X Γ a env) (head_index 0 p) ∷ env) (tail p)
  value_at I X Γ (Term.reduce z a b) env =
      in_turn (up_from 0 (array_length (type_of I Γ a)))
      (λ i tot. value_at I X (type_of I Γ z ∷ element (type_of I Γ a) ∷ Γ) b
      (tot ∷ element_at (value_at I X Γ a env) i ∷ env)) (value_at I X Γ z env)
  value_at I X Γ (Term.zip a b) env =
      λ p. by_part (tail p) (value_at I X Γ a env (unzipped_path p)) (value_at I X Γ b env (unzipped_path p))
  value_at I X Γ (Term.pair a b) env = λ p. by_part p (value_at I X Γ a env (tail p)) (value_at I X Γ b env (tail p))
  value_at I X Γ (Term.split series n e) env = λ p. value_at I X Γ e env (flat_path n p)
  value_at I X Γ (Term.join series e) env = λ p. value_at I X Γ e env (group_path (array_length (element (type_of I Γ e))) p)
  value_at I X Γ (Term.first e) env = λ p. value_at I X Γ e env (first ∷ p)
  value_at I X Γ (Term.second e) env = λ p. value_at I X Γ e env (second ∷ p)
  value_at I X Γ (Term.index series k e) env = λ p. value_at I X Γ e env (index k ∷ p)
