-- `sums::copy` meets its contract. After k turns the first k places are copied and every other is as it was. Assumes nothing.
use Rattle.std.proofs.Common.{arith, rules}
use Rattle.sums.proofs.SampleLaws.{length_values, value_read, front_sample}
use Rattle.sums.proofs.Wrote.{front_none, copy_done}
use Rattle.sums.proofs.copy.Goals as goal

pub loop-k-init : goal.loop-k-init
loop-k-init g c = front_none _ _

pub loop-k-preserved : goal.loop-k-preserved
loop-k-preserved g c =
    let each = g.met.S.Sample.each in
    front_sample each c.loop-k.invariant _ (omega (arith, c.min-n.ensures))
    (value_read each c.args.from.now c.loop-k.k _ (omega (arith, c.min-n.ensures)) (search rules))

pub returns : goal.returns
returns g c =
    let s = c.args in
    let as_long = length_values g.met.S.Sample.each in
    copy_done _ _ c.min-n.result (rw (as_long s.to.now, as_long s.from.now) c.min-n.ensures) c.loop-k.k _ c.loop-k.invariant (omega arith)
