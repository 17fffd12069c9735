-- `reduce::byte::add_all` meets its contract. After j turns each sum is that of its pair in the first 2 * j rows. Assumes nothing.
use Rattle.std.proofs.Common.{◌≡◌, ◌*◌}
use Rattle.sums.specs.Table.{table}
use Rattle.reduce.specs.Needs.{sum_count, pairs_from}
use Rattle.reduce.proofs.byte.add_all.Given as goal

abbrev pub invariant-loop-j : goal.invariant-loop-j
invariant-loop-j l = l.sums ≡ table sum_count (pairs_from l.s l.start l.stride (2 * l.j))
