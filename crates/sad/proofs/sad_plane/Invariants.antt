-- `sad::sad_plane` meets its contract: after y turns the total and the bits are those of the first y rows. Assumes nothing.
use mathlib.Core.Path.{◌≡◌}
use Prim.Native.Nat.{◌*◌, ◌≤◌, ◌^◌}
use lib.Dec.{leb}
use Rattle.sums.specs.Any.{any_below}
use Rattle.sums.specs.Sums.{sum_below}
use Rattle.sad.specs.Difference.{row_sad}
use Rattle.sad.proofs.ByteLaws.{large_rows}
use Rattle.sad.proofs.sad_plane.Given as goal

abbrev pub invariant-loop-y : goal.invariant-loop-y
invariant-loop-y g l =
    let values = g.S.Sample.values in
    (l.y ≤ l.pair.p.height) × (l.total ≤ l.y * 2 ^ 32) × (l.total ≡ sum_below l.y (row_sad l.pair.p (values l.pair.a.now) l.pair.q (values l.pair.b.now)))
    × (leb (2 ^ l.depth) l.bits ≡ any_below l.y (large_rows l.pair.p (values l.pair.a.now) l.pair.q (values l.pair.b.now) l.depth))
