-- Question 9 on an offset as a fact: with question 5 it is `OffsetFits` of `meaning`. Assumes nothing.
use Rattle.std.specs.Prelude.{Bool, true, false, cond, ◌&&◌, ◌≡◌, refl, ℕ, ◌≤◌, ltb}
use Rattle.std.proofs.Common.{ap, arith, leb-true, ltb-true, le-leb, lt-ltb}
use Rattle.std.proofs.Math.Option.{none, some}
use Rattle.refusals.specs.declared.Refusal.{Refusal}
use Rattle.refusals.specs.declared.Refusal.TheVariants.{OffsetBound}
use Rattle.meaning.specs.Loops.{Offset, plus, times, over, rest}
use Rattle.meaning.specs.Limits.{bound, OffsetPasses, OffsetFits}
use Rattle.syntax.specs.InRange.{OffsetInRange}
use Rattle.bounds.specs.Bounds.{every_row_bounded, ask_offset}

pub both_true : (a b : Bool) → (a && b) ≡ true → (a ≡ true) × (b ≡ true)
both_true true b e = (refl, e)
both_true false b e = absurd (let z : ◌≡◌ {A = ℕ} 0 1 = cc in omega arith)

pub both : (a b : Bool) → a ≡ true → b ≡ true → (a && b) ≡ true
both true b e f = f
both false b e f = e

-- the whole's bound, where that of every row is within
pub row_bounded : (c : ℕ → ℕ) (o : Offset) → every_row_bounded c o ≡ true → bound c o ≤ 65535
unfolding every_row_bounded
row_bounded c (Offset.literal v) e = leb-true v 65535 e
row_bounded c (Offset.counter d) e = leb-true (c d) 65535 e
row_bounded c (plus x y) e = leb-true _ _ (both_true (every_row_bounded c x && every_row_bounded c y) _ e).1
row_bounded c (times n x) e = leb-true _ _ (both_true (every_row_bounded c x) _ e).1
row_bounded c (over n x) e = leb-true _ _ (both_true (every_row_bounded c x) _ e).1
row_bounded c (rest n x) e = leb-true _ _ (both_true (every_row_bounded c x) _ e).1

-- "yes" is an offset that passes, and an offset that passes gives "yes"
pub rows_pass : (k : ℕ) (c : ℕ → ℕ) (o : Offset) → OffsetInRange k o → every_row_bounded c o ≡ true → OffsetPasses k c o
unfolding every_row_bounded
rows_pass k c (Offset.literal v) r e = r
rows_pass k c (Offset.counter d) r e = (r, leb-true (c d) 65535 e)
rows_pass k c (plus x y) r e =
    let h = both_true (every_row_bounded c x && every_row_bounded c y) _ e in
    let g = both_true (every_row_bounded c x) (every_row_bounded c y) h.0 in
    (rows_pass k c x r.0 g.0, rows_pass k c y r.1 g.1, leb-true _ _ h.1)
rows_pass k c (times n x) r e =
    let h = both_true (every_row_bounded c x) _ e in (rows_pass k c x r.1 h.0, r.0, leb-true _ _ h.1)
rows_pass k c (over n x) r e =
    let h = both_true (every_row_bounded c x) _ e in (rows_pass k c x r.1 h.0, r.0, leb-true _ _ h.1)
rows_pass k c (rest n x) r e =
    let h = both_true (every_row_bounded c x) _ e in (rows_pass k c x r.1 h.0, r.0, leb-true _ _ h.1)

pub rows_bounded : (k : ℕ) (c : ℕ → ℕ) (o : Offset) → OffsetPasses k c o → every_row_bounded c o ≡ true
unfolding every_row_bounded
rows_bounded k c (Offset.literal v) h = le-leb v 65535 (omega arith)
rows_bounded k c (Offset.counter d) h = le-leb (c d) 65535 h.1
rows_bounded k c (plus x y) h =
    both (every_row_bounded c x && every_row_bounded c y) _
    (both (every_row_bounded c x) (every_row_bounded c y) (rows_bounded k c x h.0) (rows_bounded k c y h.1))
    (le-leb _ _ h.2)
rows_bounded k c (times n x) h = both (every_row_bounded c x) _ (rows_bounded k c x h.0) (le-leb _ _ h.2)
rows_bounded k c (over n x) h = both (every_row_bounded c x) _ (rows_bounded k c x h.0) (le-leb _ _ h.2)
rows_bounded k c (rest n x) h = both (every_row_bounded c x) _ (rows_bounded k c x h.0) (le-leb _ _ h.2)

pub some_none : {A : Type 0} {q : Refusal} → some q ≡ none → A
some_none e = absurd (let z : ◌≡◌ {A = ℕ} 0 1 = cc in omega arith)

pub offset_fits : (k : ℕ) (c : ℕ → ℕ) (cells line : ℕ) (o : Offset) → OffsetInRange k o
    → ask_offset c cells line o ≡ none → OffsetFits k c o cells
unfolding ask_offset
offset_fits k c cells line o r e = go (every_row_bounded c o && ltb (bound c o) cells) refl e
  where
    go : (b : Bool) → (every_row_bounded c o && ltb (bound c o) cells) ≡ b → cond b none (some (OffsetBound line)) ≡ none → OffsetFits k c o cells
    go true h e = let g = both_true (every_row_bounded c o) (ltb (bound c o) cells) h in (rows_pass k c o r g.0, ltb-true _ _ g.1)
    go false h e = some_none e

pub offset_asked : (k : ℕ) (c : ℕ → ℕ) (cells line : ℕ) (o : Offset) → OffsetFits k c o cells → ask_offset c cells line o ≡ none
unfolding ask_offset
offset_asked k c cells line o h =
    ap (λ (b : Bool). cond b none (some (OffsetBound line))) (both (every_row_bounded c o) (ltb (bound c o) cells) (rows_bounded k c o h.0) (lt-ltb _ _ h.1))
