-- `row_of_line` meets its contract.
use mathlib.Core.Path.{ap, ◌∙◌}
use mathlib.Core.List.{List}
use Prim.Native.Nat.{ℕ}
use native.Mathlib.Omega.{arith}
use lib.ListN.{length}
use Rattle.own_words.proofs.Lines.{behind_comma, comma_within}
use Rattle.own_words.proofs.row_of_line.Goals as goal

pub slice_bounds-row_with-count : goal.slice_bounds-row_with-count
slice_bounds-row_with-count c = comma_within c.args.line.now c.field_length-behind.result c.field_length-behind.ensures.0 c.requires.0

pub slice_bounds-row_with-start : goal.slice_bounds-row_with-start
slice_bounds-row_with-start c = comma_within c.args.line.now c.field_length-behind.result c.field_length-behind.ensures.0 c.requires.0

pub row_with-requires : goal.row_with-requires
row_with-requires c =
    omega (
      arith,
      c.requires.1,
      ap (λ (l : List ℕ). length l) (behind_comma c.args.line.now c.field_length-behind.result c.field_length-behind.ensures.0),
    )

pub returns : goal.returns
returns c =
    let field-length = c.field_length-behind in
    c.row_with.ensures ∙ behind_comma c.args.line.now field-length.result field-length.ensures.0
