-- Whether what stands behind the comma of a text's first line is `0`. Assumes nothing.
use Rattle.std.specs.Prelude.{Bool, not, ◌≡◌, List, [], ◌∷◌, ℕ, ◌+◌, ◌-◌, min, eqb, suc, leb, true, false, length, take, drop}
use Rattle.std.proofs.Common.{sym, ap, ap₂, ◌∙◌, arith, drop_of_length-le, length-drop, leb-true, refl}
use borrow.Author.Tests.{leb-false}
use Rattle.std.proofs.Math.Seq.{take_all}
use lib.Pointwise.{pointwise}
use Rattle.words.specs.Words.{bytes, same_letters}
use Rattle.words.proofs.Rows.{same_pointwise}
use Rattle.texts.specs.Texts.{place_of, after_comma}
use Rattle.programs.specs.Runner.{reads_values}

-- what stands behind the comma, or nothing
behind : (l : List ℕ) (comma number : ℕ) → comma ≡ place_of 44 l → number ≡ min (length l) (comma + 1) → drop number l ≡ after_comma l
behind l comma number is at = go (leb (suc comma) (length l)) refl
  where
    go : (b : Bool) → leb (suc comma) (length l) ≡ b → drop number l ≡ after_comma l
    go true h =
        let next : number ≡ suc (place_of 44 l) = omega (arith, leb-true (suc comma) (length l) h) in
        ap (λ (n : ℕ). drop n l) next
    go false h =
        let short = leb-false (suc comma) (length l) h in
        drop_of_length-le l {i = number} (omega (arith, short)) ∙ sym (drop_of_length-le l {i = suc (place_of 44 l)} (omega (arith, short)))

pub number_compared : (t : List ℕ) (end comma number : ℕ) {zero : List ℕ} {b : Bool} → end ≡ place_of 10 t → comma ≡ place_of 44 (take end t)
    → number ≡ min (length (take end t)) (comma + 1) → zero ≡ 48 ∷ []
    → b ≡ not (pointwise eqb (take (length (take end t) - number) (drop number (take end t))) zero) → b ≡ reads_values t
number_compared t end comma number e f g z h =
    let line = take end t in
    h
    ∙ ap₂ (λ (x y : List ℕ). not (pointwise eqb x y))
    (take_all (length line - number) (drop number line) (omega (arith, length-drop number line)) ∙ behind line comma number f g) z
    ∙ ap not (same_pointwise (after_comma line) (bytes "0"))
    ∙ ap (λ (n : ℕ). not (same_letters (after_comma (take n t)) (bytes "0"))) e
