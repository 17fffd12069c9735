-- `strips::shape::strip_fault` meets its contract: a strip with rows is a plane, and one without shows nothing. Assumes nothing.
use mathlib.Core.Path.{◌∙◌}
use Rattle.strips.proofs.ShapeLaws.{some_rows, no_rows_bad, no_rows_good}
use Rattle.strips.proofs.shape.strip_fault.Goals as goal

pub returns-then-p-ne0 : goal.returns-then-p-ne0
returns-then-p-ne0 c = let s = c.args in c.fault.ensures ∙ some_rows s.p s.n c.if-p-ne0.true

pub returns-then-bad_side-p : goal.returns-then-bad_side-p
returns-then-bad_side-p c = no_rows_bad _ _ c.if-p-ne0.false (rw (← c.bad_side.ensures) c.if-bad_side-p.true)

pub returns : goal.returns
returns c = no_rows_good _ _ c.if-p-ne0.false (rw (← c.bad_side.ensures) c.if-bad_side-p.false)
