-- `hadamard::lines` meets its contract. The loop's invariant: the lines passed are transformed; those to come are as they were, since no
-- two lines share a place. Assumes nothing.
use mathlib.Core.Path.{◌≡◌}
use Prim.Native.Nat.{◌-◌, ◌≤◌}
use Rattle.hadamard.specs.Steps.{all_lined}
use Rattle.hadamard.proofs.lines.Given as goal

abbrev pub invariant-loop-i : goal.invariant-loop-i
invariant-loop-i l = (l.i ≤ 4) × (l.block ≡ all_lined 4 l.first l.step l.i l.initial.block)

abbrev pub decreases-loop-i : goal.decreases-loop-i
decreases-loop-i l = 4 - l.i
