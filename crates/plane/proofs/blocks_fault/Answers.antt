-- `plane::blocks_fault` meets its contract: of planes that are not refused the block count fits. Assumes nothing.
use native.Mathlib.Omega.{arith}
use mathlib.Core.Path.{sym}
use Rattle.plane.proofs.BlockLaws.{shapes_count}
use Rattle.plane.proofs.blocks_fault.Goals as goal

pub overflow_mul-p : goal.overflow_mul-p
overflow_mul-p g c =
    let s = c.args in
    omega (arith, shapes_count g.S.Depths.word s.depth s.p s.n s.q s.m (sym (c.in_ok-shapes_fault.ensures)))
