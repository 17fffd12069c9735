-- `plane::bits_of` meets its contract: after x turns the bits are those of the first x samples. Assumes nothing.
use mathlib.Core.Path.{ap, ◌∙◌}
use Prim.Native.Nat.{◌+◌, ◌^◌}
use native.Mathlib.Nat.{zero-mod}
use native.Mathlib.Omega.{arith}
use lib.Dec.{leb}
use Rattle.plane.proofs.SampleLaws.{reach_none, reach_more, reach_to}
use Rattle.plane.proofs.samples.bits_of.Invariants.{large}
use Rattle.plane.proofs.samples.bits_of.Goals as goal
use Rattle.sums.proofs.SampleLaws.{length_values, value_read}

pub loop-x-init : goal.loop-x-init
loop-x-init g c = rw (c.narrowed-bits.ensures.is ∙ zero-mod (g.S.Sample.most + 1)) (reach_none _)

pub loop-x-preserved : goal.loop-x-preserved
loop-x-preserved g c =
    let it = g.S.Sample in
    rw c.or-bits.ensures
    (reach_more (large (it.values c.args.row.now)) _ c.loop-x.x-index _ c.loop-x.invariant
    (λ n. ap (leb (2 ^ n)) (value_read g.met.S.Sample.each c.args.row.now _ _ c.loop-x-test.true c.x-item.is)))

pub returns : goal.returns
returns g c = reach_to (large (g.S.Sample.values c.args.row.now)) _ _ _ c.loop-x.invariant (omega (arith, length_values g.met.S.Sample.each c.args.row.now))
