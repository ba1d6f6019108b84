-- `put_natural` meets its contract: the number, then the byte behind it.
use mathlib.Core.List.{[], ◌∷◌}
use native.Mathlib.Omega.{arith}
use lib.IntN.{pos}
use lib.ListN.{length-append}
use Rattle.numerals.specs.Numerals.{decimal}
use Rattle.programs.proofs.Putting.{number_put}
use Rattle.programs.proofs.parts.put_natural.Goals as goal

pub returns : goal.returns
returns c =
    let a = c.args in
    let natural-size = c.natural_size in
    let put-natural = c.put_natural in
    let d = decimal (pos a.value) in (
      omega (arith, natural-size.ensures.0, length-append d (a.closing ∷ [])),
      number_put d a.closing a.text.now a.at natural-size.result natural-size.ensures.0 put-natural.ensures c.put.ensures,
      omega arith,
    )
