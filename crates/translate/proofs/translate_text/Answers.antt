-- `translate::translate_text` meets its contract: the built-in table has the built-in words.
use mathlib.Core.Path.{subst}
use mathlib.Core.List.{List}
use Prim.Native.Nat.{ℕ}
use Rattle.translate.specs.Promises.{TranslatesText}
use Rattle.translate.proofs.translate_text.Goals as goal

pub returns : goal.returns
returns c =
    let a = c.args in
    let text-with = c.text_with in
    subst (λ (ws : List (List ℕ)). TranslatesText ws a.text.now a.lent.now text-with.result text-with.new.lent) c.built_in.ensures.words_in
    text-with.ensures
