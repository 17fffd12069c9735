-- `hadamard::columns` meets its contract. The loop's invariant: the columns passed are transformed; those to come are as they were, since no
-- two share a place. Assumes nothing.
use mathlib.Core.Path.{◌≡◌}
use Prim.Native.Nat.{◌-◌, ◌≤◌}
use Rattle.hadamard.specs.Steps.{all_lined}
use Rattle.hadamard.proofs.columns.Given as goal

abbrev pub invariant-loop-i : goal.invariant-loop-i
invariant-loop-i l = (l.i ≤ 4) × (l.block ≡ all_lined 16 1 4 l.i l.initial.block)

abbrev pub decreases-loop-i : goal.decreases-loop-i
decreases-loop-i l = 4 - l.i
