-- `strips::shape::shape_fault` meets its contract: each refusal in its order. Assumes nothing.
use mathlib.Core.Bool.{false, ◌||◌}
use mathlib.Core.Path.{◌≡◌, sym, ◌∙◌}
use Rattle.strips.specs.Strips.{too_many_rows}
use Rattle.strips.proofs.CarryLaws.{fit}
use Rattle.strips.proofs.ShapeLaws.{many_refused, match_decides}
use Rattle.strips.proofs.shape.shape_fault.Goals as goal

pub too_many_rows-requires : goal.too_many_rows-requires
too_many_rows-requires g c = (fit c.args.c c.requires).come

pub too_many_rows-requires-2 : goal.too_many_rows-requires-2
too_many_rows-requires-2 g c = (fit c.args.c c.requires).come

pub returns-then-too_many_rows : goal.returns-then-too_many_rows
returns-then-too_many_rows g c =
    many_refused _ _ _ _ _ _ _ _ (rw (← c.too_many_rows.ensures, ← c.too_many_rows-2.ensures) c.if-too_many_rows.true)

pub match_fault-requires : goal.match_fault-requires
match_fault-requires g c = let f = fit c.args.c c.requires in (f.width_most, f.height_most)
