-- `importance::all_differences` meets its contract. After y turns the total is that of the first y rows of blocks, and none of their samples is too large. Assumes nothing.
use Rattle.importance.proofs.RowLooks.{LookSum}
use Rattle.importance.proofs.all_differences.Given as goal

abbrev pub invariant-loop-y : goal.invariant-loop-y
invariant-loop-y g l = let values = g.S.Sample.values in LookSum l.depth l.pair.p (values l.pair.a.now) l.pair.q (values l.pair.b.now) l.total l.y
