-- `words::groups::is_listed` meets its contract: the constant is the number of words.
use mathlib.Core.Path.{sym, ap}
use Prim.Native.Nat.{ℕ}
use lib.Dec.{ltb}
use Rattle.words.proofs.Laws.{words_count}
use Rattle.words.proofs.groups.is_listed.Goals as goal

pub returns : goal.returns
returns c = ap (λ (n : ℕ). ltb c.args.kind n) (sym words_count)
