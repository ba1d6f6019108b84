-- `place_of` meets its contract: the first byte that the test holds of.
use Rattle.std.specs.Prelude.{Option, Some, None, unwrap_or}
use Rattle.std.specs.List.{position_or_len}
use Rattle.std.proofs.lemmas.Iterator.{YieldsList-from_slice}
use Rattle.std.proofs.lemmas.Iterator.Search.{position_from_yields_List}
use Rattle.std.proofs.lemmas.List.Recursion.{is_position_or_len}
use mathlib.Core.Path.{◌≡◌, refl, sym, ap, ◌∙◌}
use mathlib.Core.Bool.{Bool, true, false, cond}
use mathlib.Core.List.{List, [], ◌∷◌}
use Prim.Native.Nat.{ℕ, suc, ◌+◌, ◌≤◌}
use lib.Dec.{eqb, ltb}
use lib.ListN.{length}
use borrow.Author.Rules.{rules}
use borrow.Author.Tests.{tests, ltb-false}
use native.Mathlib.Omega.{arith}
use Rattle.texts.specs.Texts.{place_of}
use Rattle.texts.proofs.place_of.Goals as goal

place_first : (b : ℕ) (l : List ℕ) → place_of b l ≡ position_or_len (λ c. eqb c b) l
unfolding place_of
place_first b l =
    is_position_or_len (place_of b) (λ c. eqb c b) refl (λ x xs. ap (λ (n : ℕ). cond (eqb x b) 0 n) (one_more (place_of b xs))) l
  where
    one_more : (n : ℕ) → suc n ≡ 1 + n
    one_more n = omega arith

place_within : (b : ℕ) (l : List ℕ) → place_of b l ≤ length l
unfolding place_of
place_within b [] = omega arith
place_within b (c ∷ cs) = go (place_within b cs) (eqb c b)
  where
    go : place_of b cs ≤ length cs → (t : Bool) → cond t 0 (suc (place_of b cs)) ≤ length (c ∷ cs)
    go h true = omega arith
    go h false = omega (arith, h)

or_length : (n m : ℕ) → n ≤ m → unwrap_or (cond (ltb n m) (Some n) None) m ≡ n
or_length n m h = go (ltb n m) refl
  where
    go : (b : Bool) → ltb n m ≡ b → unwrap_or (cond b (Some n) None) m ≡ n
    go true e = refl
    go false e = omega (arith, h, ltb-false n m e)

pub returns : goal.returns
returns c =
    let l = c.args.bytes.now in
    let b = c.args.byte in
    let first = place_first b l in
    let within = place_within b l in
    let place =
    c.unwrap_or.ensures
    ∙ ap (λ (r : Option ℕ). unwrap_or r (length l)) (position_from_yields_List (λ c. eqb c b) _ _ c.position.result c.position.ensures.ran
    (YieldsList-from_slice l c.iter.ensures.rest) (λ x b q k. search (rules, tests)))
    ∙ or_length (position_or_len (λ c. eqb c b) l) (length l) (omega (arith, first, within))
    ∙ sym first in
    (place, omega (arith, place, within))
