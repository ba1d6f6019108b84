-- `print_run` meets its contract: the run is the loops' own, and its output cells lie in the store.
use Rattle.std.proofs.Common.{◌+◌, ◌-◌, arith, length, length-drop, length-take}
use Rattle.words.specs.Kinds.{rows_of}
use Rattle.syntax.specs.Reading.{loops_of}
use Rattle.programs.proofs.Tables.{output_within, pass, run_state, run_writes}
use Rattle.programs.proofs.Outcomes.{run_into}
use Rattle.programs.proofs.table.print_run.Goals as goal

pub overflow_add-end : goal.overflow_add-end
overflow_add-end c =
    let a = c.args in
    record { fits = omega (arith, output_within a.kinds.now a.numbers.now (length a.store.now) c.requires.0, c.requires.1.inputs_all, c.requires.1.output_all) }

pub offset_bounds-store-layout : goal.offset_bounds-store-layout
offset_bounds-store-layout c =
    let a = c.args in
    record { fits = omega (arith, output_within a.kinds.now a.numbers.now (length a.store.now) c.requires.0, c.requires.1.inputs_all, c.requires.1.output_all) }

pub slice_bounds-put_output-end : goal.slice_bounds-put_output-end
slice_bounds-put_output-end c =
    let a = c.args in
    omega (arith, output_within a.kinds.now a.numbers.now (length a.store.now) c.requires.0, c.requires.1.inputs_all, c.requires.1.output_all, c.run_loops-writes.auto.cells)

pub put_output-requires : goal.put_output-requires
put_output-requires c =
    let a = c.args in
    let run = c.run_loops-writes in
    let size = (pass a.kinds.now a.numbers.now (length a.store.now) c.requires.0).within.output_cells.1 in (
      simp (length-take, length-drop) (omega (arith, size, c.requires.1.output_all)),
      run_writes a.kinds.now a.numbers.now (length a.store.now) c.requires.0 a.store.now run.new.cells run.new.bytes run.result run.ensures.frame run.ensures.result,
      c.requires.2,
    )

pub returns : goal.returns
returns c =
    let a = c.args in
    let run = c.run_loops-writes in
    let layout = a.layout in
    let put = c.put_output.ensures in
    run_into (loops_of (rows_of a.kinds.now a.numbers.now)) a.store.now run.new.cells run.result layout.inputs (layout.inputs + layout.output - layout.inputs)
    c.put_output.result a.lent.now
    (run_state a.kinds.now a.numbers.now (length a.store.now) c.requires.0 a.store.now run.new.cells run.new.bytes run.result run.ensures.frame run.ensures.result)
    c.requires.1.inputs_all (omega (arith, c.requires.1.output_all)) put.0 put.1 c.requires.2 put.2
