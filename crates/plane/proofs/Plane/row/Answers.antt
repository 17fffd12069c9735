-- `Plane::row` meets its contract: the span is the row. Assumes nothing.
use Prim.Native.Nat.{◌-◌}
use lib.ListN.{drop}
use Rattle.plane.proofs.Plane.row.Goals as goal
use Rattle.sums.proofs.SampleLaws.{length_values, values_take, values_drop}

pub returns : goal.returns
returns g c =
    let each = g.met.S.Sample.each in
    let s = c.args.s.now in
    let at = c.span-part.result in
    rw (values_take each (at.end - at.start) (drop at.start s), values_drop each at.start s) (c.span-part.ensures.part _ (length_values each s))
