-- `plane::reaches` meets its contract: a sample shifted down by the depth is 0 exactly where it is below that power of two, and none has more
-- bits than its word. Assumes nothing.
use native.Mathlib.Omega.{arith}
use Rattle.plane.proofs.SampleLaws.{reach_shift, reach_past}
use Rattle.plane.proofs.samples.reaches.Goals as goal

pub overflow_cast-result : goal.overflow_cast-result
overflow_cast-result g c = omega (arith, g.met.S.Depths.narrow)

pub overflow_shr-result : goal.overflow_shr-result
overflow_shr-result g c = omega (arith, g.met.S.Depths.narrow)

pub returns-then-depth-BITS : goal.returns-then-depth-BITS
returns-then-depth-BITS g c = rw (← c.widened-v.ensures.is) (reach_shift c.args.depth c.widened-v.result)

pub returns : goal.returns
returns g c =
    reach_past g.S.Depths.BITS c.args.depth _ (omega (arith, c.BITS.ensures)) (omega (arith, c.widened-v.ensures, g.met.S.Depths.fits))
