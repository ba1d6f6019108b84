-- Examples of the arithmetic of cells, found by computing: zero, both ends of the range, exact halves, and the numbers of the cards P5 and
-- P6 [15.2].
-- Facts about the definitions, none of them a definition to believe; assumes nothing.
use Rattle.std.specs.Prelude.{◌≡◌, refl, List, [], ◌∷◌, map, ℤ, pos, neg_ℤ}
use Rattle.arithmetic.specs.Arithmetic.{lowest, highest, clamp, sum, difference, product, negation, nearest, quotient, lesser, greater, Operation, operate}

lowest_is : lowest ≡ neg_ℤ (pos 2147483648)
lowest_is = refl

-- Two numbers, and what the operation gives of them.
abbrev examples : Operation → List (ℤ × ℤ × ℤ)
examples Operation.addition =
    (pos 0, pos 0, pos 0)
    ∷ (highest, pos 0, highest)
    ∷ (highest, pos 1, highest)
    ∷ (highest, highest, highest)
    ∷ (lowest, pos 0, lowest)
    ∷ (lowest, neg_ℤ (pos 1), lowest)
    ∷ (lowest, lowest, lowest)
    ∷ (lowest, highest, neg_ℤ (pos 1))
    ∷ []
examples Operation.subtraction =
    (pos 0, pos 0, pos 0)
    ∷ (pos 0, highest, neg_ℤ (pos 2147483647))
    ∷ (pos 0, lowest, highest)
    ∷ (lowest, pos 1, lowest)
    ∷ (lowest, highest, lowest)
    ∷ (lowest, lowest, pos 0)
    ∷ (highest, neg_ℤ (pos 1), highest)
    ∷ (highest, lowest, highest)
    ∷ []
examples Operation.multiplication =
    (pos 0, lowest, pos 0)
    ∷ (highest, pos 1, highest)
    ∷ (highest, highest, highest)
    ∷ (highest, lowest, lowest)
    ∷ (lowest, pos 1, lowest)
    ∷ (lowest, neg_ℤ (pos 1), highest)
    ∷ (lowest, lowest, highest)
    ∷ (pos 65536, neg_ℤ (pos 32768), lowest)
    ∷ (pos 65536, pos 32768, highest)
    ∷ []
examples Operation.division =
    (pos 5, pos 2, pos 2)
    ∷ (pos 7, pos 2, pos 4)
    ∷ (neg_ℤ (pos 5), pos 2, neg_ℤ (pos 2))
    ∷ (neg_ℤ (pos 7), pos 2, neg_ℤ (pos 4))
    ∷ (pos 5, neg_ℤ (pos 2), neg_ℤ (pos 2))
    ∷ (pos 7, neg_ℤ (pos 2), neg_ℤ (pos 4))
    ∷ (neg_ℤ (pos 7), neg_ℤ (pos 2), pos 4)
    ∷ (pos 1, pos 2, pos 0)
    ∷ (neg_ℤ (pos 1), pos 2, pos 0)
    ∷ (pos 4, pos 3, pos 1)
    ∷ (pos 5, pos 3, pos 2)
    ∷ (pos 7, pos 0, pos 0)
    ∷ (pos 0, pos 0, pos 0)
    ∷ (pos 0, highest, pos 0)
    ∷ (pos 0, lowest, pos 0)
    ∷ (lowest, pos 0, pos 0)
    ∷ (lowest, pos 1, lowest)
    ∷ (lowest, neg_ℤ (pos 1), highest)
    ∷ (lowest, highest, neg_ℤ (pos 1))
    ∷ (lowest, lowest, pos 1)
    ∷ (highest, neg_ℤ (pos 1), neg_ℤ (pos 2147483647))
    ∷ (highest, pos 2, pos 1073741824)
    ∷ (highest, lowest, neg_ℤ (pos 1))
    ∷ (pos 1073741824, lowest, pos 0)
    ∷ (pos 1073741825, lowest, neg_ℤ (pos 1))
    ∷ []
examples Operation.minimum =
    (pos 0, pos 0, pos 0)
    ∷ (neg_ℤ (pos 1), pos 0, neg_ℤ (pos 1))
    ∷ (lowest, highest, lowest)
    ∷ (highest, lowest, lowest)
    ∷ []
examples Operation.maximum =
    (pos 0, pos 0, pos 0)
    ∷ (neg_ℤ (pos 1), pos 0, pos 0)
    ∷ (lowest, highest, highest)
    ∷ (highest, lowest, highest)
    ∷ []

examples_hold : (o : Operation) → map (λ (e : ℤ × ℤ × ℤ). operate o e.0 e.1) (examples o) ≡ map (λ (e : ℤ × ℤ × ℤ). e.2) (examples o)
unfolding operate clamp sum difference product nearest quotient lesser greater
examples_hold Operation.addition = refl
examples_hold Operation.subtraction = refl
examples_hold Operation.multiplication = refl
examples_hold Operation.division = refl
examples_hold Operation.minimum = refl
examples_hold Operation.maximum = refl

negations : map negation (pos 0 ∷ highest ∷ neg_ℤ (pos 2147483647) ∷ lowest ∷ []) ≡ pos 0 ∷ neg_ℤ (pos 2147483647) ∷ highest ∷ highest ∷ []
unfolding negation clamp
negations = refl

-- One beyond each end, and each end.
clamped : map clamp (pos 2147483648 ∷ highest ∷ pos 0 ∷ lowest ∷ neg_ℤ (pos 2147483649) ∷ []) ≡ highest ∷ highest ∷ pos 0 ∷ lowest ∷ lowest ∷ []
unfolding clamp
clamped = refl

-- [4.5] Every operation clamps, not the last alone: 2147483647 + 1 - 1.
clamped_each_time : difference (sum highest (pos 1)) (pos 1) ≡ pos 2147483646
unfolding difference sum clamp
clamped_each_time = refl
