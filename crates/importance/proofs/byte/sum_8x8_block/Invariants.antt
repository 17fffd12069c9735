-- `importance::byte::sum_8x8_block` meets its contract. After j turns the sum is that of the first j rows, each a part of the samples. Assumes nothing.
use mathlib.Core.Path.{◌≡◌}
use Prim.Native.Nat.{◌*◌, ◌≤◌}
use Rattle.plane.specs.Blocks.{block_side}
use Rattle.plane.specs.Needs.{row_from}
use Rattle.sums.specs.Needs.{byte_most}
use Rattle.sums.specs.Sums.{sum_below}
use Rattle.importance.proofs.byte.sum_8x8_block.Given as goal

abbrev pub invariant-loop-j : goal.invariant-loop-j
invariant-loop-j l = (l.j ≤ block_side) × (l.sum ≤ l.j * (8 * byte_most)) × (l.sum ≡ sum_below l.j (row_from block_side l.s l.start l.stride))
