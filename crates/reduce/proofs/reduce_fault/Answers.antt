-- `reduce::reduce_fault` meets its contract: the sides come first, and the samples where none of them is refused. Assumes nothing.
use Rattle.std.proofs.Common.{arith}
use Rattle.answer.proofs.Laws.{refusals}
use Rattle.sums.proofs.SampleLaws.{length_values}
use Rattle.reduce.specs.Reduce.{reduce_fault}
use Rattle.reduce.proofs.ReduceLaws.{samples_decide}
use Rattle.reduce.proofs.reduce_fault.Goals as goal

pub returns-in_err-sides_fault : goal.returns-in_err-sides_fault
unfolding reduce_fault
returns-in_err-sides_fault g c =
    let as_long = length_values g.met.S.Sample.each in rw (as_long c.args.s.now, as_long c.args.reduced.now) (grind (arith, refusals))

pub returns : goal.returns
returns g c =
    let as_long = length_values g.met.S.Sample.each in
    samples_decide _ _ _ _ _ _ _ (rw (as_long c.args.s.now, as_long c.args.reduced.now) c.in_ok-sides_fault.ensures) _ c.sample_fault.ensures
