-- `importance::importance_total` meets its contract: a refusal of the shapes is handed on, then one of the blocks, and else the answer is that of the samples. Assumes nothing.
use Rattle.std.proofs.Common.{◌≡◌, sym, ap, ◌∙◌, arith, rules}
use Rattle.std.specs.Prelude.{Err}
use Rattle.answer.specs.Answer.{answer_of}
use Rattle.answer.proofs.Laws.{answer_handed, number_some}
use Rattle.plane.proofs.BlockLaws.{shapes_count, shapes_first, blocks_next}
use Rattle.plane.proofs.SampleLaws.{by_shapes, suited}
use Rattle.sums.proofs.SampleLaws.{length_values}
use Rattle.importance.proofs.Refusals.{shapes_refused}
use Rattle.importance.proofs.RowLooks.{shapes_passed}
use Rattle.importance.proofs.importance_total.Goals as goal

pub returns-in_err-shapes_fault : goal.returns-in_err-shapes_fault
returns-in_err-shapes_fault g c =
    let s = c.args in
    let word = g.S.Depths.word in
    let as_long = length_values g.met.S.Sample.each in
    let e = c.in_err-shapes_fault.field-0.0 in
    let is : c.from_residual.result ≡ Err e = search rules in
    let found = shapes_first word s.depth s.p _ s.q _ _ (rw (as_long s.a.now, as_long s.b.now) c.in_err-shapes_fault.ensures) (number_some e) in
    ap answer_of is ∙ answer_handed e _ _ (shapes_refused word s.depth s.p _ s.q _ _ found (number_some e))

pub overflow_mul-p : goal.overflow_mul-p
overflow_mul-p g c =
    let s = c.args in
    omega (arith, shapes_count g.S.Depths.word s.depth s.p _ s.q _ (sym c.in_ok-shapes_fault.ensures))

pub returns-in_err-block_fault : goal.returns-in_err-block_fault
returns-in_err-block_fault g c =
    let s = c.args in
    let word = g.S.Depths.word in
    let as_long = length_values g.met.S.Sample.each in
    let e = c.in_err-block_fault.field-0.0 in
    let is : c.from_residual-in_err-block_fault.result ≡ Err e = search rules in
    let found = blocks_next word s.depth s.p _ s.q _ _ (rw (as_long s.a.now, as_long s.b.now) c.in_ok-shapes_fault.ensures) c.in_err-block_fault.ensures in
    ap answer_of is ∙ answer_handed e _ _ (shapes_refused word s.depth s.p _ s.q _ _ found (number_some e))

pub all_differences-requires : goal.all_differences-requires
all_differences-requires g c =
    let s = c.args in
    suited g.S.Depths.word s.depth (by_shapes g.S.Depths.word s.depth s.p _ s.q _ (sym c.in_ok-shapes_fault.ensures)).0

pub returns : goal.returns
returns g c =
    let s = c.args in
    let word = g.S.Depths.word in
    let as_long = length_values g.met.S.Sample.each in
    shapes_passed s.depth s.p _ s.q _ word _ _
    (blocks_next word s.depth s.p _ s.q _ _ (rw (as_long s.a.now, as_long s.b.now) c.in_ok-shapes_fault.ensures) c.in_ok-block_fault.ensures) c.all_differences.ensures

pub invariant_of-all_differences : goal.invariant_of-all_differences
invariant_of-all_differences g c =
    let s = c.args in
    record { one_size = (by_shapes g.S.Depths.word s.depth s.p _ s.q _ (sym c.in_ok-shapes_fault.ensures)).1 }
