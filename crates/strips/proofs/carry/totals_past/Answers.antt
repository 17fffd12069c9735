-- `strips::carry::totals_past` meets its contract: three depths, each with its own largest sample, and a depth that is none. Assumes nothing.
use mathlib.Core.Path.{refl, ◌∙◌}
use native.Mathlib.Omega.{arith}
use Rattle.strips.proofs.CarryLaws.{eight, ten, twelve, area_most, past_at, past_none}
use Rattle.strips.proofs.carry.totals_past.Goals as goal

pub overflow_mul-area : goal.overflow_mul-area
overflow_mul-area c = omega (arith, area_most c.args.c c.requires)

pub overflow_mul-area-then-depth-eq8 : goal.overflow_mul-area-then-depth-eq8
overflow_mul-area-then-depth-eq8 c = omega (arith, area_most c.args.c c.requires)

pub returns-then-depth-eq8 : goal.returns-then-depth-eq8
returns-then-depth-eq8 c = c.is_above.ensures ∙ past_at c.args.c 8 255 c.if-depth-eq8.true eight refl

pub overflow_mul-area-then-depth-eq10 : goal.overflow_mul-area-then-depth-eq10
overflow_mul-area-then-depth-eq10 c = omega (arith, area_most c.args.c c.requires)

pub returns-then-depth-eq10 : goal.returns-then-depth-eq10
returns-then-depth-eq10 c = c.is_above-then-depth-eq10.ensures ∙ past_at c.args.c 10 1023 c.if-depth-eq10.true ten refl

pub overflow_mul-area-then-depth-eq12 : goal.overflow_mul-area-then-depth-eq12
overflow_mul-area-then-depth-eq12 c = omega (arith, area_most c.args.c c.requires)

pub returns-then-depth-eq12 : goal.returns-then-depth-eq12
returns-then-depth-eq12 c = c.is_above-then-depth-eq12.ensures ∙ past_at c.args.c 12 4095 c.if-depth-eq12.true twelve refl

pub returns : goal.returns
returns c = past_none c.args.c c.if-depth-eq8.false c.if-depth-eq10.false c.if-depth-eq12.false
