-- `columns::names::called` meets its contract: the name is on the stack, or is not there.
use mathlib.Core.Path.{◌≡◌, sym, ap, ◌∙◌}
use mathlib.Core.List.{List}
use Prim.Native.Nat.{ℕ, ◌<◌, ◌≤◌}
use native.Mathlib.Omega.{arith}
use lib.IntN.{pos}
use lib.ListN.{length, get_or}
use Rattle.std.proofs.Common.{rules}
use Rattle.meaning.specs.Runs.{entry}
use Rattle.syntax.specs.Ranges.{as_natural}
use Rattle.syntax.proofs.Front.{part, part_all}
use Rattle.columns.specs.Names.{numbers_of}
use Rattle.columns.proofs.Stacks.{named_there, named_past}
use Rattle.columns.proofs.names.called.Goals as goal

pub returns-in-Some : goal.returns-in-Some
returns-in-Some c =
    let a = c.args in
    let here : c.from.result ≡ get_or (part a.top a.stack.now) a.d 0 = search rules in
    let within : a.d < length (part a.top a.stack.now) = search rules in (
      c.number_at.ensures.0 ∙ ap (λ (i : ℕ). as_natural (get_or a.numbers.now i (pos 0))) here
          ∙ sym (named_there a.numbers.now (part a.top a.stack.now) a.d within)
          ∙ ap (λ (l : List ℕ). entry (numbers_of a.numbers.now l) a.d) (part_all a.top a.stack.now),
      c.number_at.ensures.1,
    )

pub returns-in-None : goal.returns-in-None
returns-in-None c =
    let a = c.args in
    let past : length (part a.top a.stack.now) ≤ a.d = search rules in (
      sym (named_past a.numbers.now (part a.top a.stack.now) a.d past)
          ∙ ap (λ (l : List ℕ). entry (numbers_of a.numbers.now l) a.d) (part_all a.top a.stack.now),
      omega arith,
    )
