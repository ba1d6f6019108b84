-- `translate::translate_rows` meets its contract: the built-in table has the built-in words.
use mathlib.Core.Path.{subst}
use mathlib.Core.List.{List}
use Prim.Native.Nat.{ℕ}
use Rattle.translate.specs.Promises.{TranslatesRows}
use Rattle.translate.proofs.translate_rows.Goals as goal

pub returns : goal.returns
returns c =
    let a = c.args in
    let rows-with = c.rows_with in
    subst (λ (ws : List (List ℕ)). TranslatesRows ws a.text.now a.kinds.now a.numbers.now rows-with.result rows-with.new.kinds rows-with.new.numbers)
    c.built_in.ensures.words_in
    rows-with.ensures
