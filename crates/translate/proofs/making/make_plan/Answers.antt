-- `make_plan` meets its contract: the types that were found, the rows that were made, and what was handed over.
use Rattle.std.specs.Prelude.{Ok, Err}
use mathlib.Core.Path.{◌≡◌, sym, ◌∙◌}
use native.Mathlib.Omega.{arith}
use lib.ListN.{length}
use lib.Seq.{length-take-le}
use borrow.Author.Rules.{rules}
use Rattle.translate.proofs.MadeLaws as made
use Rattle.translate.proofs.making.make_plan.Goals as goal

pub slice_bounds-types-end : goal.slice_bounds-types-end
slice_bounds-types-end c =
    let typed : c.type_plan.result ≡ Ok c.in_ok-plan.plan = search rules in
    let found = made.types_found c.args.kinds.now c.args.numbers.now _ _ _ _ c.type_plan.result c.type_plan.ensures
    c.requires.2.0 c.requires.2.1 c.in_ok-plan.plan typed in
    omega (arith, found.2.few, found.2.types)

pub slice_bounds-put_loops-end : goal.slice_bounds-put_loops-end
slice_bounds-put_loops-end c =
    let typed : c.type_plan.result ≡ Ok c.in_ok-plan.plan = search rules in
    let found = made.types_found c.args.kinds.now c.args.numbers.now _ _ _ _ c.type_plan.result c.type_plan.ensures
    c.requires.2.0 c.requires.2.1 c.in_ok-plan.plan typed in
    let size : length c.type_plan.new.types ≡ 512 = found.2.types in
    sym (length-take-le c.in_ok-plan.plan.term.len c.type_plan.new.types (omega (arith, size, found.2.few)))

pub put_loops-requires : goal.put_loops-requires
put_loops-requires c =
    let typed : c.type_plan.result ≡ Ok c.in_ok-plan.plan = search rules in
    let found = made.types_found c.args.kinds.now c.args.numbers.now _ _ _ _ c.type_plan.result c.type_plan.ensures
    c.requires.2.0 c.requires.2.1 c.in_ok-plan.plan typed in
    let size : length c.type_plan.new.column ≡ 256 = found.2.column in
    record {
      sizes = c.requires.0;
      few = c.requires.1;
      column = omega (arith, size);
      places = search rules;
      plan = c.requires.2.0;
      noted = made.plan_noted c.args.kinds.now c.args.numbers.now c.requires.2.0 c.requires.2.1 c.requires.0 c.requires.1 found.0 found.1 _ _ _ _ _ _ _ _ found.2;
    }

pub returns-then-has_too_many : goal.returns-then-has_too_many
returns-then-has_too_many c P S =
    let typed : c.type_plan.result ≡ Ok c.in_ok-plan.plan = search rules in
    let found = made.types_found c.args.kinds.now c.args.numbers.now _ _ _ _ c.type_plan.result c.type_plan.ensures
    P S c.in_ok-plan.plan typed in
    let noted = made.plan_noted c.args.kinds.now c.args.numbers.now P S c.requires.0 c.requires.1 found.0 found.1 _ _ _ _ _ _ _ _ found.2 in
    made.loops_long c.args.kinds.now c.args.numbers.now P S c.requires.0 c.requires.1 found.0 found.1 _
    (c.put_loops.ensures P noted ∙ made.put_from_none _ _ c.new.ensures) _ _ (sym c.has_too_many.ensures ∙ c.if-has_too_many.true)

pub hand_over-requires : goal.hand_over-requires
hand_over-requires c =
    let typed : c.type_plan.result ≡ Ok c.in_ok-plan.plan = search rules in
    let found = made.types_found c.args.kinds.now c.args.numbers.now _ _ _ _ c.type_plan.result c.type_plan.ensures
    c.requires.2.0 c.requires.2.1 c.in_ok-plan.plan typed in
    let noted = made.plan_noted c.args.kinds.now c.args.numbers.now c.requires.2.0 c.requires.2.1 c.requires.0 c.requires.1 found.0 found.1 _ _ _ _ _ _ _ _ found.2 in
    rw (c.kinds.ensures, c.numbers.ensures)
    (made.same_length c.args.kinds.now c.args.numbers.now c.requires.2.0 c.requires.2.1 c.requires.0 c.requires.1 found.0 found.1 _
    (c.put_loops.ensures c.requires.2.0 noted ∙ made.put_from_none _ _ c.new.ensures) (sym c.has_too_many.ensures ∙ c.if-has_too_many.false))

pub returns-in_err-plan : goal.returns-in_err-plan
returns-in_err-plan c P S =
    let a = c.args in
    let no : c.type_plan.result ≡ Err c.in_err-plan.field-0.0 = search rules in
    let gone : c.from_residual.result ≡ Err c.in_err-plan.field-0.0 = search rules in
    rw gone (made.plan_refused a.kinds.now a.numbers.now _ _ _ _ c.type_plan.result c.type_plan.ensures P S _ _ _ no)

pub returns : goal.returns
returns c P S =
    let typed : c.type_plan.result ≡ Ok c.in_ok-plan.plan = search rules in
    let found = made.types_found c.args.kinds.now c.args.numbers.now _ _ _ _ c.type_plan.result c.type_plan.ensures
    P S c.in_ok-plan.plan typed in
    let noted = made.plan_noted c.args.kinds.now c.args.numbers.now P S c.requires.0 c.requires.1 found.0 found.1 _ _ _ _ _ _ _ _ found.2 in
    made.loops_made c.args.kinds.now c.args.numbers.now P S c.requires.0 c.requires.1 found.0 found.1 _
    (c.put_loops.ensures P noted ∙ made.put_from_none _ _ c.new.ensures) (sym c.has_too_many.ensures ∙ c.if-has_too_many.false)
    (rw (c.kinds.ensures, c.numbers.ensures) at c.hand_over.ensures)
