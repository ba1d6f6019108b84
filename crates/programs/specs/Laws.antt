-- What the contracts of the entries give a caller. Assumes nothing.
use Rattle.std.specs.Prelude.{Bool, true, false, cond, ◌≡◌, refl, List, ℕ, ◌≤◌, leb, ℤ, length, drop, Ok, Err}
use Rattle.refusals.specs.Answers.{Answer}
use Rattle.std.proofs.Common.{sym, ap, ◌∙◌, arith, leb-true, length-append}
use Rattle.refusals.specs.declared.Refusal.TheVariants.{LentSize}
use Rattle.lines.specs.Printing.{printing}
use Rattle.lines.specs.Reading.{filled}
use Rattle.own_words.specs.Laws.{under_any}
use Rattle.programs.specs.Promises.{PrintsLoopsIn, PrintsRunIn}
use Rattle.programs.specs.Printed.{PutInto}
use Rattle.programs.specs.Runner.{room_for_all, ShownInto}

bytes_of : {m n : ℕ} (b : Bool) → Ok n ≡ cond b (Ok m) (Err LentSize) → (b ≡ true) × (n ≡ m)
bytes_of true e = (refl, cc)
bytes_of false e = absurd (let clash : ◌≡◌ {A = ℕ} 0 1 = cc in omega arith)

-- The bytes put are within the lent text.
pub put_within : (text lent : List ℕ) {r : Answer} {lent' : List ℕ} {n : ℕ} → PutInto text lent r lent' → r ≡ Ok n → n ≤ length lent
unfolding printing
put_within text lent I e =
    let b = bytes_of (leb (length text) (length lent)) (sym e ∙ I.answer) in
    omega (arith, b.1, leb-true (length text) (length lent) b.0)

pub shown_within : (text : List ℕ) (end s : List ℤ) (lent : List ℕ) {r : Answer} {s' : List ℤ} {lent' : List ℕ} {n : ℕ}
    → ShownInto text end s lent r s' lent' → length lent' ≡ length lent → r ≡ Ok n → n ≤ length lent
shown_within text end s lent {n = n} I h e =
    let b = bytes_of (room_for_all lent) (sym e ∙ I.answer) in
    let l = I.text_left ∙ ap (λ (x : Bool). filled x text lent) b.0 in
    omega (arith, b.1, ap length l, length-append text (drop (length text) lent), h)

-- The same under a words text.
pub put_within_in : (w t lent : List ℕ) {r : Answer} {lent' : List ℕ} {n : ℕ} → PrintsLoopsIn w t lent r lent' → r ≡ Ok n → n ≤ length lent
put_within_in w t lent u e = under_any u (λ I. put_within _ lent I e) (λ q I. put_within _ lent I e)

pub shown_within_in : (w t v : List ℕ) (s : List ℤ) (lent : List ℕ) {r : Answer} {s' : List ℤ} {lent' : List ℕ} {n : ℕ}
    → PrintsRunIn w t v s lent r s' lent' → length lent' ≡ length lent → r ≡ Ok n → n ≤ length lent
shown_within_in w t v s lent u h e = under_any u (λ I. shown_within _ _ s lent I h e) (λ q I. shown_within _ _ s lent I h e)
