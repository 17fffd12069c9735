-- `sad::byte::chunks_sad` meets its contract: the sum so far and that of what is left are the whole sum. Assumes nothing.
use mathlib.Core.Path.{◌≡◌}
use Prim.Native.Nat.{◌+◌, ◌%◌}
use lib.ListN.{length}
use Rattle.std.specs.Slice.Iter.{chunks_exact_rest, chunks_exact_size}
use Rattle.sums.specs.Sums.{sum_below}
use Rattle.sad.specs.Needs.{gap_at}
use Rattle.sad.proofs.byte.chunks_sad.Given as goal

abbrev pub invariant-loop-x : goal.invariant-loop-x
invariant-loop-x l =
    let r = chunks_exact_rest l.x-iterator.a in
    let t = chunks_exact_rest l.x-iterator.b in
    (goal.iterator-loop-x).can_next l.x-iterator × (goal.iterator-loop-x).is_finite l.x-iterator
    × (chunks_exact_size l.x-iterator.a ≡ l.n) × (chunks_exact_size l.x-iterator.b ≡ l.n)
    × (length r ≡ length t) × (length r % l.n ≡ 0)
    × (l.sum + sum_below (length r) (gap_at r t) ≡ sum_below (length l.a) (gap_at l.a l.b))
