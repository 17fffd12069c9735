-- `Plane::fault` meets its contract: a bad shape is refused with 1, and of another there is a last row. Assumes nothing.
use mathlib.Core.Path.{sym}
use Rattle.plane.proofs.PlaneLaws.{fault_shape, shape}
use Rattle.plane.proofs.Plane.fault.Goals as goal

pub returns-then-is_bad : goal.returns-then-is_bad
returns-then-is_bad c = fault_shape _ _ (sym c.if-is_bad.ensures)

pub overflow_sub-self : goal.overflow_sub-self
overflow_sub-self c = (shape _ (sym c.if-is_bad.ensures)).1.0
