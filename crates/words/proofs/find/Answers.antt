use Rattle.std.specs.Prelude.{Some, None}
use mathlib.Core.Path.{◌≡◌, sym, ap, ◌∙◌}
use mathlib.Core.Bool.{Bool, true, false, cond}
use mathlib.Core.List.{List}
use Prim.Native.Nat.{ℕ, ◌+◌, ◌≤◌, ◌<◌}
use lib.ListN.{drop, length}
use native.Mathlib.Omega.{arith}
use Rattle.words.specs.Tables.{words_in}
use Rattle.words.specs.Words.{word_at, same_letters, look_from, look_up}
use Rattle.words.proofs.Laws.{look_next, look_end, compared_found, compared_missed, words_count, words_in_count}
use Rattle.words.proofs.Rows.{word_in_row}
use Rattle.words.proofs.find.Goals as goal

-- on from a word, by what comparing it answered
next : (ws : List (List ℕ)) (letters word : List ℕ) (k : ℕ) (b : Bool) → k < length ws → word_at ws k ≡ word → b ≡ same_letters letters word
    → look_from k (drop k ws) letters ≡ cond b (Some k) (look_from (k + 1) (drop (k + 1) ws) letters)
next ws letters word k b h e same =
    look_next ws letters k h
    ∙ ap (λ (x : Bool). cond x (Some k) (look_from (k + 1) (drop (k + 1) ws) letters)) (ap (same_letters letters) e ∙ sym same)

pub returns-then-same : goal.returns-then-same
returns-then-same c =
    let a = c.args in
    let turn = c.loop-place in
    let ws = words_in a.table.now in
    let hit : look_up ws a.letters.now ≡ Some turn.place =
    turn.invariant
    ∙ next ws a.letters.now _ turn.place true (omega (arith, words_count, words_in_count a.table.now))
    (word_in_row a.table.now turn.place (omega (arith, words_count)))
    (sym c.if-same.true ∙ c.same.ensures) in
    (sym hit, sym (compared_found ws a.letters.now turn.place hit))

pub loop-place-preserved : goal.loop-place-preserved
loop-place-preserved c =
    let a = c.args in
    let turn = c.loop-place in
    let ws = words_in a.table.now in
    turn.invariant
    ∙ next ws a.letters.now _ turn.place false (omega (arith, words_count, words_in_count a.table.now))
    (word_in_row a.table.now turn.place (omega (arith, words_count)))
    (sym c.if-same.false ∙ c.same.ensures)

pub returns : goal.returns
returns c =
    let a = c.args in
    let ws = words_in a.table.now in
    let end : length ws ≤ c.loop-place.place = omega (arith, words_count, words_in_count a.table.now) in
    let missed : look_up ws a.letters.now ≡ None =
    c.loop-place.invariant ∙ look_end ws a.letters.now c.loop-place.place end in
    (sym missed, omega (arith, compared_missed ws a.letters.now missed, words_count, words_in_count a.table.now))
