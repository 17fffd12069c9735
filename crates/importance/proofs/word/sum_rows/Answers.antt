-- `importance::word::sum_rows` meets its contract. After i turns the sum is that of the first i sums of four, each of which fits 16 bits. Assumes nothing.
use native.Mathlib.Omega.{arith}
use Rattle.sums.proofs.SumLaws.{sum_none}
use Rattle.importance.proofs.FourRows.{four_more, four_small, fours_are}
use Rattle.importance.proofs.word.sum_rows.Goals as goal

pub loop-i-init : goal.loop-i-init
loop-i-init c = (omega arith, omega arith, sum_none _)

pub loop-i-preserved : goal.loop-i-preserved
loop-i-preserved c =
    let s = c.args in
    (omega arith, omega (arith, four_small s.s.now s.at s.stride c.requires.small_rows c.loop-i.i (omega arith)), four_more s.s.now s.at s.stride c.loop-i.i _ c.loop-i.invariant.2)

pub returns : goal.returns
returns c = let s = c.args in fours_are s.s.now s.at s.stride _ c.loop-i.i c.loop-i.invariant.2 (omega arith)
