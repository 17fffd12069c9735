-- `intra::intra_fault` meets its contract: the refusal of shapes and blocks comes first, then 4, and then the samples decide. Assumes nothing.
use Rattle.std.proofs.Common.{sym, length, arith}
use Rattle.answer.proofs.Laws.{refusals}
use Rattle.plane.proofs.BlockLaws.{by_blocks, shapes_count}
use Rattle.sums.proofs.SampleLaws.{length_values}
use Rattle.intra.specs.Costs.{room_fault, intra_fault}
use Rattle.intra.proofs.CostLaws.{no_room, samples_decide}
use Rattle.intra.proofs.intra_fault.Goals as goal

pub returns-in_err-blocks_fault : goal.returns-in_err-blocks_fault
unfolding intra_fault room_fault
returns-in_err-blocks_fault g c =
    let as_long = length_values g.met.S.Sample.each in
    rw (as_long c.args.s.now, as_long c.args.work.now) (grind (arith, refusals))

pub overflow_mul-p : goal.overflow_mul-p
overflow_mul-p g c =
    let s = c.args in
    let none = sym c.in_ok-blocks_fault.ensures in
    omega (arith, shapes_count g.S.Depths.word s.depth s.p (length s.s.now) s.w (length s.work.now) (by_blocks _ _ _ _ _ _ none).0)

pub returns-then-room-p : goal.returns-then-room-p
returns-then-room-p g c =
    let as_long = length_values g.met.S.Sample.each in
    no_room _ _ _ _ _ _ _ (rw (as_long c.args.s.now, as_long c.args.work.now) c.in_ok-blocks_fault.ensures) c.if-room-p.true

pub returns : goal.returns
returns g c =
    let as_long = length_values g.met.S.Sample.each in
    samples_decide _ _ _ _ _ _ _ (rw (as_long c.args.s.now, as_long c.args.work.now) c.in_ok-blocks_fault.ensures) c.if-room-p.false _ c.sample_fault.ensures
