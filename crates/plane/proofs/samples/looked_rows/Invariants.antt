-- `plane::looked_rows` meets its contract: after so many turns the bits are those of as many rows. Assumes nothing.
use mathlib.Core.Bool.{Bool}
use mathlib.Core.List.{List}
use Prim.Native.Nat.{ℕ, ◌+◌, ◌≤◌, ◌-◌}
use Rattle.plane.specs.declared.Plane.{Plane}
use Rattle.plane.specs.Planes.{row_large}
use Rattle.plane.proofs.SampleLaws.{Reach}
use Rattle.plane.proofs.samples.looked_rows.Given as goal

-- whether row j from one on reaches 2 to the n
abbrev pub large : Plane → List ℕ → ℕ → ℕ → ℕ → Bool
large p s from n j = row_large n p s (from + j)

abbrev pub invariant-loop-y : goal.invariant-loop-y
invariant-loop-y g l = let it = g.S.Sample in (l.from ≤ l.y) × (l.y - l.from ≤ l.to - l.from) × Reach (it.value l.bits) (l.y - l.from) (large l.p (it.values l.s) l.from)
