-- `importance::byte::sum_row` meets its contract. After i turns the sum is that of the first i samples. Assumes nothing.
use mathlib.Core.Path.{◌≡◌}
use Prim.Native.Nat.{ℕ, ◌*◌, ◌≤◌}
use lib.ListN.{get_or}
use Rattle.plane.specs.Blocks.{block_side}
use Rattle.sums.specs.Needs.{byte_most}
use Rattle.sums.specs.Sums.{sum_below}
use Rattle.importance.proofs.byte.sum_row.Given as goal

abbrev pub invariant-loop-x : goal.invariant-loop-x
invariant-loop-x l = (l.x-index ≤ block_side) × (l.sum ≤ l.x-index * byte_most) × (l.sum ≡ sum_below l.x-index (λ (n : ℕ). get_or l.s n 0))
