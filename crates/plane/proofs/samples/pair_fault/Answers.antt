-- `plane::pair_fault` meets its contract: the shapes' refusal comes first, and 16 where there is none. Assumes nothing.
use mathlib.Core.Path.{sym}
use native.Mathlib.Omega.{arith}
use Rattle.answer.proofs.Laws.{refusals}
use Rattle.plane.specs.Planes.{pair_fault}
use Rattle.plane.proofs.SampleLaws.{by_shapes, each_passes}
use Rattle.plane.proofs.samples.pair_fault.Goals as goal
use Rattle.sums.proofs.SampleLaws.{length_values}

pub returns-in_err-shapes_fault : goal.returns-in_err-shapes_fault
unfolding pair_fault
returns-in_err-shapes_fault g c =
    let as_long = length_values g.met.S.Sample.each in
    rw (as_long c.args.a.now, as_long c.args.b.now) (grind (arith, refusals))

pub invariant_of-first : goal.invariant_of-first
invariant_of-first g c = record { lies = (each_passes _ _ _ _ (by_shapes _ _ _ _ _ _ (sym c.in_ok-shapes_fault.ensures)).1).0 }

pub invariant_of-second : goal.invariant_of-second
invariant_of-second g c = record { lies = (each_passes _ _ _ _ (by_shapes _ _ _ _ _ _ (sym c.in_ok-shapes_fault.ensures)).1).1 }

pub returns-then-any_large : goal.returns-then-any_large
unfolding pair_fault
returns-then-any_large g c =
    let as_long = length_values g.met.S.Sample.each in
    rw (as_long c.args.a.now, as_long c.args.b.now) (grind (arith, refusals))

pub returns : goal.returns
unfolding pair_fault
returns g c =
    let as_long = length_values g.met.S.Sample.each in
    rw (as_long c.args.a.now, as_long c.args.b.now) (grind (arith, refusals))
