-- `plane::rows_large` meets its contract: no row reaches what no sample of the word does, and others are looked at. Assumes nothing.
use native.Mathlib.Omega.{arith}
use Rattle.plane.proofs.SampleLaws.{rows_past}
use Rattle.plane.proofs.samples.rows_large.Goals as goal

pub returns-then-BITS-depth : goal.returns-then-BITS-depth
returns-then-BITS-depth g c =
    let s = c.args in
    rows_past g.S.Depths.BITS g.S.Sample.most s.depth s.p _ s.from s.to (omega (arith, c.BITS.ensures)) g.met.S.Depths.fits c.bounded.ensures
