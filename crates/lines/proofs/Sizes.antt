-- The size of the text of a table's rows, row by row. Assumes nothing.
use Rattle.std.specs.Prelude.{Ok, Err}
use Rattle.refusals.specs.Answers.{Answer}
use mathlib.Core.Path.{◌≡◌, refl, sym, ap, ap₂, ◌∙◌}
use mathlib.Core.Bool.{Bool, true, false, cond}
use mathlib.Core.List.{List, [], ◌∷◌, ◌++◌}
use Prim.Native.Nat.{ℕ, ◌+◌, ◌≤◌, ◌<◌}
use native.Mathlib.Nat.{zero-add}
use native.Mathlib.Numerals.{add-one}
use Rattle.std.specs.Prelude.{◌⊎◌}
use native.Mathlib.Omega.{arith}
use borrow.Author.Tests.{le-leb, lt-leb, leb-true}
use lib.Dec.{leb}
use lib.IntN.{ℤ}
use lib.ListN.{length, set, drop, length-append}
use lib.Seq.{sets, sets-eq}
use Rattle.refusals.specs.declared.Refusal.{Refusal}
use Rattle.refusals.specs.declared.Refusal.TheVariants.{LentSize}
use Rattle.words.specs.Kinds.{rows_of}
use Rattle.words.specs.Words.{word_at}
use Rattle.numerals.specs.Numerals.{decimal}
use Rattle.lines.specs.Printing.{written, text_of, fitting, printing}
use Rattle.lines.specs.Reading.{filled}
use Rattle.lines.proofs.Stores.{sets_append}
use Rattle.lines.proofs.TableLaws.{rows_ended}

-- the rows of two columns that are left, one after the other
module _ (ws : List (List ℕ)) {ks ks' : List ℕ} {ns ns' : List ℤ} {k : ℕ} {n : ℤ} (kind : ks ≡ k ∷ ks') (number : ns ≡ n ∷ ns') where
  text_from : text_of ws (rows_of ks ns) ≡ written ws (k, n) ++ text_of ws (rows_of ks' ns')
  unfolding rows_of text_of
  text_from = ap₂ (λ (x : List ℕ) (y : List ℤ). text_of ws (rows_of x y)) kind number

  pub size_from : length (text_of ws (rows_of ks ns)) ≡ length (written ws (k, n)) + length (text_of ws (rows_of ks' ns'))
  size_from = ap length text_from ∙ length-append (written ws (k, n)) (text_of ws (rows_of ks' ns'))

  -- a row put: a line in front of what is left
  pub text_put : (t u all : List ℕ) (at to : ℕ) → to ≡ at + length (written ws (k, n)) → u ≡ sets t at (written ws (k, n))
      → sets t at (text_of ws (rows_of ks ns)) ≡ all → sets u to (text_of ws (rows_of ks' ns')) ≡ all
  text_put t u all at to to_is put so_far =
      ap₂ (λ (x : List ℕ) (j : ℕ). sets x j (text_of ws (rows_of ks' ns'))) put to_is
      ∙ sym (sets_append t at (written ws (k, n)) (text_of ws (rows_of ks' ns')))
      ∙ ap (sets t at) (sym text_from)
      ∙ so_far

-- one of them ended
pub text_end : (ws : List (List ℕ)) (ks : List ℕ) (ns : List ℤ) → (length ks ≡ 0) ⊎ (length ns ≡ 0) → text_of ws (rows_of ks ns) ≡ []
unfolding text_of
text_end ws ks ns h = ap (text_of ws) (rows_ended ks ns h)

-- a line put in its parts: word, comma, number, byte 10
pub line_put : (ws : List (List ℕ)) (k : ℕ) (z : ℤ) (t : List ℕ) (at n m : ℕ) {t₁ t₂ t₃ t₄ : List ℕ}
    → n ≡ length (word_at ws k) → m ≡ length (decimal z) → t₁ ≡ sets t at (word_at ws k) → t₂ ≡ set t₁ (at + n) 44
    → t₃ ≡ sets t₂ (at + n + 1) (decimal z) → t₄ ≡ set t₃ (at + n + 1 + m) 10 → t₄ ≡ sets t at (written ws (k, z))
unfolding written
line_put ws k z t at n m e f e₁ e₂ e₃ e₄ =
    let w = word_at ws k in
    let d = decimal z in
    let inside : sets t at (w ++ (44 ∷ d)) ≡ sets (set (sets t at w) (at + n) 44) (at + n + 1) d =
    sets_append t at w (44 ∷ d)
    ∙ ap (λ (j : ℕ). sets (sets t at w) (at + j) (44 ∷ d)) (sym e)
    ∙ ap (λ (j : ℕ). sets (set (sets t at w) (at + n) 44) j d) (sym (add-one (at + n))) in
    let end : at + length (w ++ (44 ∷ d)) ≡ at + n + 1 + m = omega (arith, length-append w (44 ∷ d)) in
    e₄
    ∙ ap (λ (u : List ℕ). set u (at + n + 1 + m) 10) (e₃ ∙ ap (λ (u : List ℕ). sets u (at + n + 1) d) (e₂ ∙ ap (λ (u : List ℕ). set u (at + n) 44) e₁) ∙ sym inside)
    ∙ ap (λ (j : ℕ). set (sets t at (w ++ (44 ∷ d))) j 10) (sym end)
    ∙ sym (sets_append t at (w ++ (44 ∷ d)) (10 ∷ []))

pub too_long : (t : List ℕ) (room : ℕ) → room < length t → Err LentSize ≡ printing t room
unfolding printing
too_long t room h = ap (λ (b : Bool). cond b (Ok (length t)) (Err LentSize)) (sym (lt-leb (length t) room h))

pub fits_in : (t : List ℕ) (room n : ℕ) → n ≡ length t → n ≤ room → Ok n ≡ printing t room
unfolding printing
fits_in t room n e h = ap Ok e ∙ ap (λ (b : Bool). cond b (Ok (length t)) (Err LentSize)) (sym (le-leb (length t) room (omega arith)))

-- the answer tells whether the text fits
module _ (t : List ℕ) (held : List ℕ) {answer : Answer} (is : answer ≡ printing t (length held)) where
  pub bytes_fit : {n : ℕ} → answer ≡ Ok n → length t ≤ length held
  unfolding printing
  bytes_fit {n} e = go (leb (length t) (length held)) refl (sym is ∙ e)
    where
      go : (b : Bool) → leb (length t) (length held) ≡ b → cond b (Ok (length t)) (Err LentSize) ≡ Ok n → length t ≤ length held
      go true h f = leb-true (length t) (length held) h
      go false h f = let clash : ◌≡◌ {A = ℕ} 0 1 = cc in absurd (omega arith)

  pub unprinted : {r : Refusal} → answer ≡ Err r → held ≡ filled (fitting t (length held)) t held
  unfolding printing
  unprinted {r} e = go (leb (length t) (length held)) (sym is ∙ e)
    where
      go : (b : Bool) → cond b (Ok (length t)) (Err LentSize) ≡ Err r → held ≡ filled b t held
      go true f = let clash : ◌≡◌ {A = ℕ} 0 1 = cc in absurd (omega arith)
      go false f = refl

  pub printed : {n : ℕ} {after : List ℕ} → answer ≡ Ok n → after ≡ sets held 0 t → after ≡ filled (fitting t (length held)) t held
  printed e put =
      let fits : length t ≤ length held = bytes_fit e in
      put
      ∙ sets-eq t held 0 (omega arith)
      ∙ ap (λ (k : ℕ). t ++ drop k held) (zero-add (length t))
      ∙ simp (le-leb (length t) (length held) fits)
