-- `words::look_up` meets its contract: the table searched has the built-in words.
use mathlib.Core.List.{List}
use mathlib.Core.Path.{subst}
use Prim.Native.Nat.{ℕ}
use Rattle.words.specs.Promises.{LooksUp}
use Rattle.words.proofs.look_up.Goals as goal

pub returns : goal.returns
returns c =
    let a = c.args in
    subst (λ (ws : List (List ℕ)). LooksUp ws a.word.now c.find.result) c.built_in-table.ensures.words_in c.find.ensures
