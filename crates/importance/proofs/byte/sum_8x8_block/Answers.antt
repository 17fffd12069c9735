-- `importance::byte::sum_8x8_block` meets its contract. After j turns the sum is that of the first j rows, each a part of the samples. Assumes nothing.
use native.Mathlib.Omega.{arith}
use Rattle.sums.proofs.SumLaws.{sum_none}
use Rattle.importance.proofs.BlockSums.{row_in, square_more}
use Rattle.importance.proofs.byte.sum_8x8_block.Goals as goal

pub loop-j-init : goal.loop-j-init
loop-j-init c = (omega arith, omega arith, sum_none _)

pub loop-j-preserved : goal.loop-j-preserved
loop-j-preserved c =
    let s = c.args in
    let inside = row_in s.s.now s.start s.stride c.loop-j.j c.requires (omega arith) in
    (omega arith, omega arith, square_more s.s.now s.start s.stride c.loop-j.j _ _ c.loop-j.invariant.2 inside c.sum_row-sum.ensures.is)
