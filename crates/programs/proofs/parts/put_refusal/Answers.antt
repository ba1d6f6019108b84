-- `put_refusal` meets its contract: the parts of the line one after the other, where they fit.
use Rattle.std.proofs.Common.{arith}
use Rattle.words.specs.Words.{bytes}
use Rattle.programs.specs.Printed.{refusal_text}
use Rattle.programs.proofs.Putting.{put_all, put_none, front_copied, refusal_sizes, refusal_put}
use Rattle.programs.proofs.parts.put_refusal.Goals as goal

pub returns-then-text-size : goal.returns-then-text-size
returns-then-text-size c =
    (put_none (refusal_text c.args.refusal) c.args.text.now (omega (arith, c.refusal_size-size.ensures.0)), omega arith)

pub put_natural-requires : goal.put_natural-requires
put_natural-requires c =
    let s = refusal_sizes c.args.refusal c.number-number.result c.line-line.result c.number-number.ensures c.line-line.ensures in
    omega (arith, s.0)

pub returns : goal.returns
returns c =
    let q = c.args.refusal in
    let t = c.args.text.now in
    let size = c.refusal_size-size in
    let number = c.number-number in
    let line = c.line-line in
    let comma = c.put_natural-comma in (
      put_all (refusal_text q) t size.result size.ensures.0 c.if-text-size.false
          (refusal_put q number.result line.result number.ensures line.ensures t comma.result
          (front_copied (bytes "no,") t c.copy_from_slice.ensures.after (omega arith)) comma.ensures.0 comma.ensures.1 c.put_natural.ensures.1),
      omega arith,
    )
