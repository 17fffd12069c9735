-- `hadamard::rows` meets its contract: two stages of all rows are their transforms, and the first leaves small numbers. Assumes nothing.
use mathlib.Core.Path.{ap, ◌∙◌}
use native.Mathlib.Omega.{arith}
use Rattle.hadamard.specs.Steps.{stage_of, all_lined_by, line_most, stage_most}
use Rattle.hadamard.proofs.Places.{lines_more}
use Rattle.hadamard.proofs.StageLaws.{stage_in, rows_twice}
use Rattle.hadamard.proofs.rows.Goals as goal

pub stage_rows-requires : goal.stage_rows-requires
stage_rows-requires c = lines_more 4 16 4 1 line_most stage_most c.args.block.now (omega arith) c.requires.lines_in

pub stage_rows-requires-2 : goal.stage_rows-requires-2
stage_rows-requires-2 c =
    rw c.stage_rows.ensures (stage_in 16 line_most c.args.block.now c.requires.block_len c.requires.lines_in)

pub returns : goal.returns
returns c =
    c.stage_rows-2.ensures ∙ ap (all_lined_by stage_of 4 4 1 16) c.stage_rows.ensures ∙ rows_twice 16 line_most c.args.block.now c.requires.block_len c.requires.lines_in
