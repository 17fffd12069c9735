-- `hadamard::stage_rows` meets its contract. The loop's invariant: the rows passed have had their stage; those to come are as they were, since no
-- two share a place. Assumes nothing.
use mathlib.Core.Path.{◌≡◌}
use Prim.Native.Nat.{◌-◌, ◌≤◌}
use Rattle.hadamard.specs.Steps.{stage_of, all_lined_by}
use Rattle.hadamard.proofs.stage_rows.Given as goal

abbrev pub invariant-loop-i : goal.invariant-loop-i
invariant-loop-i l = (l.i ≤ 16) × (l.block ≡ all_lined_by stage_of 4 4 1 l.i l.initial.block)

abbrev pub decreases-loop-i : goal.decreases-loop-i
decreases-loop-i l = 16 - l.i
