-- `sad::word::chunk_sad` meets its contract: the sums and the bits are those of the pairs so far. Assumes nothing.
use mathlib.Core.Path.{◌≡◌}
use lib.ListN.{length}
use Rattle.plane.proofs.SampleLaws.{Reach}
use Rattle.sums.specs.Sums.{sum_below}
use Rattle.sad.specs.Needs.{large_from}
use Rattle.sad.proofs.ByteLaws.{low_at, high_at}
use Rattle.sad.proofs.word.chunk_sad.Given as goal

abbrev pub invariant-loop-x : goal.invariant-loop-x
invariant-loop-x l =
    let n = length l.yielded in
    (l.low ≡ sum_below n (low_at l.a l.b)) × (l.high ≡ sum_below n (high_at l.a l.b)) × Reach l.bits n (large_from l.a l.b 0)
