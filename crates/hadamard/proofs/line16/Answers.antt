-- `hadamard::line16` meets its contract: its 16 entries are four rows of four, whose columns and then rows are transformed. Assumes nothing.
use mathlib.Core.Path.{ap, ◌∙◌}
use Prim.Native.Nat.{◌*◌}
use native.Mathlib.Omega.{arith}
use Rattle.hadamard.specs.Transform.{entry_most}
use Rattle.hadamard.specs.Steps.{all_lined, line_most}
use Rattle.hadamard.proofs.Grid.{columns_in, rows_in, grid}
use Rattle.hadamard.proofs.Places.{lines_more}
use Rattle.hadamard.proofs.line16.Goals as goal

pub overflow_mul-step : goal.overflow_mul-step
overflow_mul-step c = omega (arith, c.requires.line_in.room 4 (omega arith), c.well_formed.0.0)

pub lines-requires : goal.lines-requires
lines-requires c =
    let l = c.args.block.now in
    let u = c.args.step in
    lines_more 4 4 u (4 * u) entry_most line_most l (omega arith) (columns_in 4 u c.requires.step_nonzero entry_most l c.requires.line_in)

pub overflow_mul-step-2 : goal.overflow_mul-step-2
overflow_mul-step-2 c = omega (arith, c.requires.line_in.room 4 (omega arith), c.well_formed.0.0)

pub lines-requires-2 : goal.lines-requires-2
lines-requires-2 c =
    let l = c.args.block.now in
    let u = c.args.step in
    rw c.lines.ensures
    (lines_more 4 4 (4 * u) u (4 * entry_most) line_most (all_lined 4 u (4 * u) 4 l) (omega arith) (rows_in 4 u c.requires.step_nonzero entry_most l c.requires.line_in))

pub returns : goal.returns
returns c =
    let u = c.args.step in
    c.lines-2.ensures ∙ ap (all_lined 4 (4 * u) u 4) c.lines.ensures ∙ grid 4 u c.requires.step_nonzero entry_most c.args.block.now c.requires.line_in
