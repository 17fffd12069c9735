-- `plane::sample_fault` meets its contract: each refusal is given once those before it are known to be none. Assumes nothing.
use native.Mathlib.Omega.{arith}
use Rattle.answer.proofs.Laws.{refusals}
use Rattle.plane.specs.Planes.{sample_fault}
use Rattle.plane.proofs.samples.sample_fault.Goals as goal
use Rattle.sums.proofs.SampleLaws.{length_values}

pub returns-in_err-fault : goal.returns-in_err-fault
unfolding sample_fault
returns-in_err-fault g c = rw (length_values g.met.S.Sample.each c.args.s.now) (grind (arith, refusals))

pub returns-then-too_large : goal.returns-then-too_large
unfolding sample_fault
returns-then-too_large g c = rw (length_values g.met.S.Sample.each c.args.s.now) (grind (arith, refusals))

pub returns : goal.returns
unfolding sample_fault
returns g c = rw (length_values g.met.S.Sample.each c.args.s.now) (grind (arith, refusals))
