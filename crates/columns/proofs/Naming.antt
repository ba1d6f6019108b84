-- The pass that names rows, turn by turn. Assumes nothing.
use mathlib.Core.Bool.{Bool, false}
use mathlib.Core.Path.{◌≡◌, refl, sym, ap, ap₂, subst, ◌∙◌}
use mathlib.Core.List.{List}
use mathlib.Core.Logic.{◌⊎◌, inl, inr}
use Prim.Native.Nat.{ℕ, suc, ◌+◌, ◌≤◌, ◌<◌}
use native.Mathlib.Omega.{arith}
use borrow.Author.Tests.{eq-eqb, ne_eqb}
use lib.Dec.{eqb}
use lib.IntN.{ℤ, pos}
use lib.ListN.{length, get_or, drop, drop_of_length-le}
use Rattle.words.specs.Kinds.{word_ctr, word_loc}
use Rattle.meaning.specs.Runs.{entry}
use Rattle.syntax.specs.Ranges.{as_natural}
use Rattle.words.specs.Groups.{one_of}
use Rattle.columns.specs.Names.{counter_words, region_words, closing, opens_by, push_if, framed, in_force, numbers_of, Passed, Noted, NamedAt}
use Rattle.columns.proofs.Puts.{here_or_later}

-- ---- the stack: what is in force is left when the ended rows on top are closed

pub record Stacked (ws ks es l : List ℕ) (q : ℕ) : Type 0 where
  pub force : closing es q l ≡ in_force ws ks es q

module _ (ws : List ℕ) (ks es : List ℕ) where
  pub stack_begin : (l : List ℕ) → Stacked ws ks es (drop (length l) l) 0
  unfolding in_force framed
  stack_begin l = record { force = ap (closing es 0) (drop_of_length-le l {i = length l} (omega arith)) }

  framed_is : (q : ℕ) → push_if (opens_by ws (get_or ks q 0)) q (in_force ws ks es q) ≡ framed ws ks es (suc q)
  unfolding framed in_force
  framed_is q = refl

  force_is : (q : ℕ) → closing es q (framed ws ks es q) ≡ in_force ws ks es q
  unfolding in_force
  force_is q = refl

  pub stack_again : {l m : List ℕ} {q : ℕ} {o : Bool} → o ≡ opens_by ws (get_or ks q 0) → Stacked ws ks es l q → Passed es q o l m
      → Stacked ws ks es m (q + 1)
  stack_again {l} {m} {q} {o} e i f =
      let s : suc q ≡ q + 1 = omega arith in
      let framed-here = ap₂ (λ (x : Bool) (y : List ℕ). push_if x q y) e i.force ∙ framed_is q ∙ ap (framed ws ks es) s in
      record { force = f.later (q + 1) (omega arith) ∙ ap (closing es (q + 1)) framed-here ∙ force_is (q + 1) }

-- ---- the column

-- what holds when the rows before row q have been passed
pub record NamedTo (ks : List ℕ) (ns : List ℤ) (es ms : List ℕ) (q : ℕ) : Type 0 where
  pub counter : (p : ℕ) → p < q → get_or ks p 0 ≡ word_ctr → NamedAt counter_words ks ns es ms p
  pub region : (p : ℕ) → p < q → get_or ks p 0 ≡ word_loc → NamedAt region_words ks ns es ms p

pub naming_begin : (ks : List ℕ) (ns : List ℤ) (es ms : List ℕ) → NamedTo ks ns es ms 0
naming_begin ks ns es ms = record { counter = λ p h e. absurd (omega (arith, h)); region = λ p h e. absurd (omega (arith, h)) }

-- one row more: the counters' part leaves ms, and then the regions' part vs
module _ (ks : List ℕ) (ns : List ℤ) (es : List ℕ) (q : ℕ) where
  -- the number that row q names, where the stack is l
  abbrev pub number : List ℕ → ℕ
  number l = entry (numbers_of ns (closing es q l)) (as_natural (get_or ns q (pos 0)))

  -- a row of the word w, which opens nothing
  noted_at : (ws : List ℕ) (w : ℕ) {l us ms : List ℕ} {o : Bool} → o ≡ opens_by ws (get_or ks q 0) → opens_by ws w ≡ false → get_or ks q 0 ≡ w
      → Stacked ws ks es l q → Noted (eqb (get_or ks q 0) w) o q (number l) us ms → NamedAt ws ks ns es ms q
  noted_at ws w f o e i n =
      n.there (eq-eqb (get_or ks q 0) w e) (f ∙ ap (opens_by ws) e ∙ o)
      ∙ ap (λ (x : List ℕ). entry (numbers_of ns x) (as_natural (get_or ns q (pos 0)))) i.force

  pub naming_again : {cs rs us ms vs : List ℕ} {o u : Bool} → NamedTo ks ns es us q
      → o ≡ opens_by counter_words (get_or ks q 0) → Stacked counter_words ks es cs q
      → Noted (eqb (get_or ks q 0) word_ctr) o q (number cs) us ms
      → u ≡ opens_by region_words (get_or ks q 0) → Stacked region_words ks es rs q
      → Noted (eqb (get_or ks q 0) word_loc) u q (number rs) ms vs → NamedTo ks ns es vs (q + 1)
  unfolding one_of
  naming_again {cs} {rs} {us} {ms} {vs} i o c counted u r noted = record {
    counter = λ p h e. at_counter_holds p e (here_or_later p q (omega (arith, h)));
    region = λ p h e. at_region p e (here_or_later p q (omega (arith, h)));
  }
    where
      before : (p : ℕ) → suc p ≤ q → get_or vs p 0 ≡ get_or us p 0
      before p s = noted.others p (λ x. absurd (omega (arith, s, x))) ∙ counted.others p (λ x. absurd (omega (arith, s, x)))

      at_counter_holds : (p : ℕ) → get_or ks p 0 ≡ word_ctr → (p ≡ q) ⊎ (suc p ≤ q) → NamedAt counter_words ks ns es vs p
      at_counter_holds p e (inl s) =
          let k : get_or ks q 0 ≡ word_ctr = ap (λ (j : ℕ). get_or ks j 0) (sym s) ∙ e in
          subst (NamedAt counter_words ks ns es vs) (sym s)
          (noted.here (ne_eqb (get_or ks q 0) word_loc (λ x. absurd (omega (arith, k, x)))) ∙ noted_at counter_words word_ctr o refl k c counted)
      at_counter_holds p e (inr s) = before p s ∙ i.counter p s e

      at_region : (p : ℕ) → get_or ks p 0 ≡ word_loc → (p ≡ q) ⊎ (suc p ≤ q) → NamedAt region_words ks ns es vs p
      at_region p e (inl s) =
          subst (NamedAt region_words ks ns es vs) (sym s)
          (noted_at region_words word_loc u refl (ap (λ (j : ℕ). get_or ks j 0) (sym s) ∙ e) r noted)
      at_region p e (inr s) = before p s ∙ i.region p s e
