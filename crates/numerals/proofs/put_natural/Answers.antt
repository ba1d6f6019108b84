-- `put_natural` meets its contract: past the end nothing is put. Assumes nothing.
use mathlib.Core.Path.{sym}
use lib.IntN.{pos}
use Rattle.numerals.specs.Numerals.{decimal}
use Rattle.numerals.proofs.PuttingLaws.{sets_out}
use Rattle.numerals.proofs.put_natural.Goals as goal

pub returns-then-text-at : goal.returns-then-text-at
returns-then-text-at c =
    let a = c.args in
    sym (sets_out a.text.now a.at (decimal (pos a.value)) c.if-text-at.true)
