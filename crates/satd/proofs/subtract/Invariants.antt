-- `satd::subtract` meets its contract. The loop's invariant: the places passed hold the differences. Assumes nothing.
use Rattle.satd.proofs.SatdLaws.{Subtracted}
use Rattle.satd.proofs.subtract.Given as goal

abbrev pub invariant-loop-i : goal.invariant-loop-i
invariant-loop-i g l = let values = g.S.Sample.values in Subtracted (values l.first) (values l.second) l.i l.block
