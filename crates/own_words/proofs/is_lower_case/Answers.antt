-- `is_lower_case` meets its contract: the test holds of every letter.
use Rattle.std.specs.List.{list_all}
use Rattle.std.proofs.lemmas.Iterator.{YieldsList-from_slice}
use Rattle.std.proofs.lemmas.Iterator.Search.{all_from_yields_List}
use mathlib.Core.Path.{◌≡◌, refl, ap, ◌∙◌}
use mathlib.Core.Bool.{Bool, ◌&&◌}
use mathlib.Core.List.{List, [], ◌∷◌}
use Prim.Native.Nat.{ℕ}
use lib.Dec.{leb}
use borrow.Author.Rules.{rules}
use borrow.Author.Tests.{tests}
use Rattle.words.specs.Good.{lower_case}
use Rattle.own_words.proofs.is_lower_case.Goals as goal

between : ℕ → Bool
between b = leb 97 b && leb b 122

all_between : (l : List ℕ) → list_all between l ≡ lower_case l
unfolding between
all_between [] = refl
all_between (b ∷ bs) = ap (λ (t : Bool). between b && t) (all_between bs)

pub returns : goal.returns
unfolding between
returns c =
    all_from_yields_List between _ _ c.all.result c.all.ensures.ran (YieldsList-from_slice c.args.letters.now c.iter.ensures.rest)
    (λ x b q k. search (rules, tests))
    ∙ all_between c.args.letters.now
