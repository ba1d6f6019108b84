-- `refusal_size` meets its contract: the line is `no,`, a number, a comma, a number and byte 10.
use native.Mathlib.Omega.{arith}
use Rattle.programs.proofs.Putting.{refusal_sizes}
use Rattle.programs.proofs.parts.refusal_size.Goals as goal

pub returns : goal.returns
returns c =
    let number = c.number-number in
    let line = c.line-line in
    let s = refusal_sizes c.args.refusal number.result line.result number.ensures line.ensures in
    (omega (arith, s.0, s.1, s.2), omega arith, omega arith)
