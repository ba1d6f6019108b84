-- `values::fill` meets its contract: the arrays that were lent to the reader hold the rows of the file, and each way out is a law
-- of `Fills`.
use Rattle.std.specs.Prelude.{Err}
use Rattle.std.proofs.Common.{◌≡◌, arith, refl, rules, subst, sym}
use Rattle.refusals.specs.Answers.{Answer}
use Rattle.values.specs.Values.{FillInto}
use Rattle.values.proofs.Fills.{text_refused, rows_few, rows_fit, rows_front, store_short, lines_wrong, values_put}
use Rattle.values.proofs.fill.Goals as goal

pub returns-in_err-rows : goal.returns-in_err-rows
returns-in_err-rows c =
    let a = c.args in
    let gone : c.from_residual.result ≡ Err c.in_err-rows.field-0.0 = search rules in
    subst (λ (r : Answer). FillInto a.text.now a.count a.store.now r a.store.now) (sym gone)
    (text_refused a.text.now _ _ c.read_values.ensures a.count a.store.now c.in_err-rows.was)

pub returns-then-store-count : goal.returns-then-store-count
returns-then-store-count c =
    let a = c.args in
    store_short a.text.now _ _ c.read_values.ensures a.count a.store.now c.in_ok-rows.was c.if-store-count.true

pub slice_bounds-cells-end : goal.slice_bounds-cells-end
slice_bounds-cells-end c = rows_fit c.args.text.now _ _ c.read_values.ensures _ c.read_values.auto.cells c.in_ok-rows.was

pub slice_bounds-named-end : goal.slice_bounds-named-end
slice_bounds-named-end c = sym (rows_front c.args.text.now _ _ c.read_values.ensures _ c.read_values.auto.cells c.in_ok-rows.was)

pub one_line_each-requires : goal.one_line_each-requires
one_line_each-requires c = omega (
  arith,
  rows_few c.args.text.now _ _ c.read_values.ensures c.in_ok-rows.was,
  rows_front c.args.text.now _ _ c.read_values.ensures _ c.read_values.auto.cells c.in_ok-rows.was,
)

pub returns-then-not-one_line_each : goal.returns-then-not-one_line_each
returns-then-not-one_line_each c =
    let a = c.args in
    lines_wrong a.text.now _ _ c.read_values.ensures a.count a.store.now c.in_ok-rows.was c.if-store-count.false refl refl
    c.one_line_each.ensures c.if-not-one_line_each.true

pub slice_bounds-values-end : goal.slice_bounds-values-end
slice_bounds-values-end c = rows_fit c.args.text.now _ _ c.read_values.ensures _ c.read_values.auto.values c.in_ok-rows.was

pub slice_bounds-put_values-end : goal.slice_bounds-put_values-end
slice_bounds-put_values-end c = sym (rows_front c.args.text.now _ _ c.read_values.ensures _ c.read_values.auto.values c.in_ok-rows.was)

pub returns : goal.returns
returns c =
    let a = c.args in
    values_put a.text.now _ _ c.read_values.ensures a.count a.store.now c.in_ok-rows.was c.if-store-count.false refl refl
    c.one_line_each.ensures c.if-not-one_line_each.false c.put_values.ensures
