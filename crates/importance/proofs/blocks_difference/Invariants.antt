-- `importance::blocks_difference` meets its contract. After x turns the total is that of the first x blocks, and a block that is whole lies within the samples. Assumes nothing.
use Prim.Native.Nat.{◌*◌, ◌≤◌, ◌^◌}
use Rattle.importance.proofs.BlockSums.{GapSum}
use Rattle.importance.proofs.blocks_difference.Given as goal

abbrev pub invariant-loop-x : goal.invariant-loop-x
invariant-loop-x g l =
    let values = g.S.Sample.values in
    (l.x ≤ l.x-end) × (l.total ≤ l.x * 2 ^ 16) × GapSum (values l.pair.a.now) l.start l.step (values l.pair.b.now) l.start2 l.step2 l.total l.x
