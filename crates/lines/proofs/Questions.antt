-- What the readers know at each way out. Assumes nothing.
use Rattle.std.specs.Prelude.{Option, Ok, Err}
use Rattle.refusals.specs.Answers.{Answer}
use mathlib.Core.Path.{◌≡◌, refl, sym, ap, ◌∙◌}
use mathlib.Core.Bool.{Bool, true, false, cond, ◌&&◌}
use mathlib.Core.List.{List, ◌++◌, map}
use Prim.Native.Nat.{ℕ, ◌≤◌, ◌<◌}
use native.Mathlib.Nat.{zero-add}
use native.Mathlib.Omega.{arith}
use borrow.Author.Tests.{le-leb, lt-leb, leb-true}
use lib.Dec.{leb}
use lib.ListN.{length, drop, length-map}
use lib.Seq.{sets-eq}
use Rattle.words.specs.Kinds.{Row}
use Rattle.refusals.specs.declared.Refusal.{Refusal}
use Rattle.refusals.specs.declared.Refusal.TheVariants.{TextForm, LineCount}
use Rattle.texts.specs.Texts.{lines_of}
use Rattle.lines.specs.Reading.{rows_in, closed, formed, limited, reading, room_for, filled, Put}
use Rattle.lines.proofs.Laws.{rows_count}
use Rattle.lines.specs.declared.Limits.{Limits}

-- ---- the three in their order

module _ (head : List ℕ → Option ℕ) (limits : Limits) (t : List ℕ) where
  abbrev asked : Answer
  asked = limited limits.lines (formed head 0 (lines_of t))

  pub not_closed : closed limits.bytes t ≡ false → Err TextForm ≡ reading head limits t
  unfolding reading
  not_closed c = ap (λ (b : Bool). cond b asked (Err TextForm)) (sym c)

  module _ (c : closed limits.bytes t ≡ true) {a : Answer} (is : a ≡ formed head 0 (lines_of t)) where
    lines_asked : limited limits.lines a ≡ reading head limits t
    unfolding reading
    lines_asked = ap (limited limits.lines) is ∙ ap (λ (b : Bool). cond b asked (Err TextForm)) (sym c)

    pub line_refused : {r : Refusal} → a ≡ Err r → Err r ≡ reading head limits t
    line_refused e = ap (limited limits.lines) (sym e) ∙ lines_asked

    pub many_lines : {n : ℕ} → a ≡ Ok n → limits.lines < n → Err LineCount ≡ reading head limits t
    many_lines {n} e h =
        ap (λ (b : Bool). cond b (Ok n) (Err LineCount)) (sym (lt-leb n limits.lines h)) ∙ ap (limited limits.lines) (sym e) ∙ lines_asked

    pub few_lines : {n : ℕ} → a ≡ Ok n → n ≤ limits.lines → Ok n ≡ reading head limits t
    few_lines {n} e h =
        ap (λ (b : Bool). cond b (Ok n) (Err LineCount)) (sym (le-leb n limits.lines h)) ∙ ap (limited limits.lines) (sym e) ∙ lines_asked

-- ---- what the slices hold

-- room for n in slices of k and of m
room_says : (n k m : ℕ) → (leb n k && leb n m) ≡ true → (n ≤ k) × (n ≤ m)
room_says n k m h = go (leb n k) (leb n m) (leb-true n k) (leb-true n m) h
  where
    go : (a b : Bool) → (a ≡ true → n ≤ k) → (b ≡ true → n ≤ m) → (a && b) ≡ true → (n ≤ k) × (n ≤ m)
    go true b f g h = (f refl, g h)
    go false b f g h = absurd (let clash : ◌≡◌ {A = ℕ} 0 1 = cc in omega arith)

no_room : {A : Type 0} → false ≡ true → A
no_room h = absurd (let clash : ◌≡◌ {A = ℕ} 0 1 = cc in omega arith)

-- a column of a table that was put, where there is room for all its rows
pub column_read : (head : List ℕ → Option ℕ) (t : List ℕ) {a : Answer} {A : Type 0} (f : Row → A) (held : List A) {held' : List A} {n k m : ℕ}
    → a ≡ formed head 0 (lines_of t) → a ≡ Ok n → Put a held (map f (rows_in head (lines_of t))) held' → (n ≤ k → n ≤ m → n ≤ length held)
    → room_for (Ok n) k m ≡ true → held' ≡ filled true (map f (rows_in head (lines_of t))) held
column_read head t f held {held'} {n} {k} {m} is e stored fits h =
    let put = map f (rows_in head (lines_of t)) in
    let room = room_says n k m h in
    let count : length put ≡ n = omega (arith, length-map (rows_in head (lines_of t)) f, rows_count head 0 n (lines_of t) (sym is ∙ e)) in
    stored n e ∙ sets-eq put held 0 (omega (arith, fits room.0 room.1)) ∙ ap (λ (i : ℕ). put ++ drop i held) (zero-add (length put))
