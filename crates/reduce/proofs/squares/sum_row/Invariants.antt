-- `reduce::squares::sum_row` meets its contract: the samples passed are added. Assumes nothing.
use Rattle.std.proofs.Common.{◌≡◌}
use Rattle.std.specs.Prelude.{slice_index}
use Rattle.sums.specs.Sums.{sum_below}
use Rattle.reduce.proofs.squares.sum_row.Given as goal

abbrev pub invariant-loop-x : goal.invariant-loop-x
invariant-loop-x g l = l.sum ≡ sum_below l.x-index (slice_index (g.S.Sample.values l.row))
