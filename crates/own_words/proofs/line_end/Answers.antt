-- `line_end` meets its contract.
use mathlib.Core.Path.{ap, ◌∙◌}
use Prim.Native.Nat.{ℕ, ◌+◌, ◌-◌}
use native.Mathlib.Omega.{arith}
use lib.ListN.{length, drop, length-take, length-drop}
use Rattle.texts.specs.Texts.{place_of}
use Rattle.own_words.proofs.Lines.{part_all}
use Rattle.own_words.proofs.line_end.Goals as goal

pub returns : goal.returns
returns c =
    let a = c.args in (
      ap (λ (n : ℕ). a.at + n) (c.line_length.ensures.0 ∙ ap (place_of 10) (part_all a.text.now a.at)),
      omega (
        arith,
        c.line_length.ensures.1,
        length-take (length a.text.now - a.at) (drop a.at a.text.now),
        length-drop a.at a.text.now,
      ),
    )
