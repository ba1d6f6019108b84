use mathlib.Core.Path.{◌≡◌, refl, sym, ap, ◌∙◌}
use mathlib.Core.Bool.{Bool, true, false}
use mathlib.Core.List.{List}
use Prim.Native.Nat.{ℕ, ◌<◌, ◌-◌}
use lib.ListN.{get_or, length}
use lib.Seq.{ext_get_or}
use borrow.Author.Count.{below_more}
use borrow.Author.Rules.{rules}
use borrow.Author.Tests.{eqb-true, eqb-false}
use lib.Dec.{eqb}
use native.Mathlib.Nat.{min-le_right}
use native.Mathlib.Omega.{arith}
use Rattle.words.proofs.Laws.{same_true, same_false}
use Rattle.words.specs.Tables.{letters_in, word_in}
use Rattle.words.specs.Words.{same_letters}
use Rattle.words.proofs.Rows.{row_letters, row_letter}
use Rattle.words.proofs.same.Goals as goal

-- by how many letters the row's word has, where all of `letters` are the row's
by_count : (letters row : List ℕ) → ((k : ℕ) → k < length letters → get_or letters k 0 ≡ get_or row k 0)
    → eqb (letters_in row) (length letters) ≡ same_letters letters (word_in row)
by_count letters row agree = go (eqb (letters_in row) (length letters)) refl
  where
    go : (b : Bool) → eqb (letters_in row) (length letters) ≡ b → b ≡ same_letters letters (word_in row)
    go true e =
        let n : letters_in row ≡ length letters = eqb-true (letters_in row) (length letters) e in
        same_true letters (word_in row) (ext_get_or 0 letters (word_in row) (omega (arith, n, row_letters row))
        (λ k h. agree k (omega (arith, h, row_letters row)) ∙ sym (row_letter row k (omega (arith, h, n)))))
    go false e = same_false letters (word_in row) (λ q. eqb-false (letters_in row) (length letters) e (omega (arith, ap length q, row_letters row)))

pub returns-then-i-ge8 : goal.returns-then-i-ge8
returns-then-i-ge8 c =
    let a = c.args in
    same_false _ _ (λ q. absurd (omega (arith, ap length q, row_letters a.row.now, min-le_right (get_or a.row.now 8 0 - 48) 8)))

pub returns-then-letters-i : goal.returns-then-letters-i
returns-then-letters-i c =
    let a = c.args in
    let i = c.loop-i.i in
    same_false _ _ (λ q. c.if-letters-i.true (ap (λ (l : List ℕ). get_or l i 0) q
    ∙ row_letter a.row.now i (omega (arith, ap length q, row_letters a.row.now))))

pub loop-i-preserved : goal.loop-i-preserved
loop-i-preserved c = below_more _ _ c.loop-i.invariant c.if-letters-i.false

pub returns : goal.returns
returns c =
    let a = c.args in
    let turn = c.loop-i in
    let i : turn.i ≡ length a.letters.now = search rules in
    ap (λ (n : ℕ). eqb n (length a.letters.now)) c.letter_count.ensures.0
    ∙ by_count a.letters.now a.row.now (λ k f. turn.invariant k (omega (arith, f, i)))
