-- `importance::word::sum_rows` meets its contract. After i turns the sum is that of the first i sums of four, each of which fits 16 bits. Assumes nothing.
use mathlib.Core.Path.{◌≡◌}
use Prim.Native.Nat.{◌*◌, ◌≤◌}
use Rattle.plane.specs.Blocks.{block_side}
use Rattle.sums.specs.Sums.{sum_below}
use Rattle.importance.specs.Needs.{deep_most}
use Rattle.importance.proofs.FourRows.{four_at}
use Rattle.importance.proofs.word.sum_rows.Given as goal

abbrev pub invariant-loop-i : goal.invariant-loop-i
invariant-loop-i l = (l.i ≤ block_side) × (l.sum ≤ l.i * (4 * deep_most)) × (l.sum ≡ sum_below l.i (four_at l.s l.at l.stride))
