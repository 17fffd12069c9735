-- `strips::carry::carry_unfit` meets its contract: sides and rows first, so that the totals' limit fits. Assumes nothing.
use mathlib.Core.Bool.{false, ◌||◌}
use mathlib.Core.Path.{◌≡◌, ◌∙◌}
use native.Mathlib.Omega.{arith}
use lib.Dec.{ltb}
use Rattle.plane.specs.Planes.{bad_side}
use Rattle.strips.proofs.CarryLaws.{unfit_by, unfit_is, sides_fit}
use Rattle.strips.proofs.carry.carry_unfit.Goals as goal

pub returns-then-bad_side-height : goal.returns-then-bad_side-height
returns-then-bad_side-height c =
    unfit_by c.args.c (rw (← c.bad_side.ensures, ← c.bad_side-2.ensures) c.if-bad_side-height.true)

pub totals_past-requires : goal.totals_past-requires
totals_past-requires c =
    -- past the test the sides and the rows fit
    let sides : let d = c.args.c in bad_side d.width || bad_side d.height || ltb d.height d.rows ≡ false = rw (← c.bad_side.ensures, ← c.bad_side-2.ensures) c.if-bad_side-height.false in
    let f = sides_fit c.args.c sides in (omega (arith, f.1.1, f.2), f.0.1)

pub returns : goal.returns
returns c =
    let sides : let d = c.args.c in bad_side d.width || bad_side d.height || ltb d.height d.rows ≡ false = rw (← c.bad_side.ensures, ← c.bad_side-2.ensures) c.if-bad_side-height.false in
    c.totals_past.ensures ∙ unfit_is c.args.c sides
