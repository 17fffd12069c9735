-- `sad::byte::chunk_sad` meets its contract: the sum is that of the pairs so far, which by the bound on a sample fits. Assumes nothing.
use mathlib.Core.Path.{◌≡◌}
use lib.ListN.{length}
use Rattle.sums.specs.Sums.{sum_below}
use Rattle.sad.specs.Needs.{gap_at}
use Rattle.sad.proofs.byte.chunk_sad.Given as goal

abbrev pub invariant-loop-x : goal.invariant-loop-x
invariant-loop-x l = l.sum ≡ sum_below (length l.yielded) (gap_at l.a l.b)
