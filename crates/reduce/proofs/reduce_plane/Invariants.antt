-- `reduce::reduce_plane` meets its contract. After y turns the first y rows of the lent plane have the means of their squares. Assumes nothing.
use Rattle.reduce.proofs.RowLaws.{RowsWrote}
use Rattle.reduce.proofs.reduce_plane.Given as goal

abbrev pub invariant-loop-y : goal.invariant-loop-y
invariant-loop-y g l = let values = g.S.Sample.values in RowsWrote l.factor (values l.s) (values l.initial.reduced) l.stride l.origin l.stride2 l.origin2 l.width l.y (values l.reduced)
