-- `reduce::squares::sum_square` meets its contract. After j turns the sum is that of the first j rows. Assumes nothing.
use Rattle.std.proofs.Common.{◌≡◌}
use Rattle.plane.specs.Needs.{row_from}
use Rattle.sums.specs.Sums.{sum_below}
use Rattle.reduce.proofs.squares.sum_square.Given as goal

abbrev pub invariant-loop-j : goal.invariant-loop-j
invariant-loop-j g l = l.sum ≡ sum_below l.j (row_from l.n (g.S.Sample.values l.s) l.start l.stride)
