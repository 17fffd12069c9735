-- `sad::plane_difference` meets its contract: a refused shape is handed on, and else the samples decide. Assumes nothing.
use Rattle.std.proofs.Common.{◌≡◌, ℕ, sym, ap, ◌∙◌, rules}
use Rattle.std.specs.Prelude.{Err}
use Rattle.answer.specs.Answer.{answered, answer_of}
use Rattle.answer.proofs.Laws.{answer_handed, number_some}
use Rattle.plane.proofs.SampleLaws.{by_shapes, suited, pair_refused, pair_fault_is}
use Rattle.sad.specs.Difference.{plane_sad}
use Rattle.sums.proofs.SampleLaws.{length_values}
use Rattle.sad.proofs.plane_difference.Goals as goal

pub returns-in_err-shapes_fault : goal.returns-in_err-shapes_fault
returns-in_err-shapes_fault g c =
    let s = c.args in
    let as_long = length_values g.met.S.Sample.each in
    let e = c.in_err-shapes_fault.field-0.0 in
    let is : c.from_residual.result ≡ Err e = search rules in
    ap answer_of is ∙ answer_handed e _ _ (pair_refused g.S.Depths.word s.depth s.p _ s.q _ _ (rw (as_long s.a.now, as_long s.b.now) c.in_err-shapes_fault.ensures) (number_some e))

pub sad_plane-requires : goal.sad_plane-requires
sad_plane-requires g c =
    let s = c.args in
    suited g.S.Depths.word s.depth (by_shapes g.S.Depths.word s.depth s.p _ s.q _ (sym c.in_ok-shapes_fault.ensures)).0

pub invariant_of-sad_plane : goal.invariant_of-sad_plane
invariant_of-sad_plane g c =
    let s = c.args in
    record { one_size = (by_shapes g.S.Depths.word s.depth s.p _ s.q _ (sym c.in_ok-shapes_fault.ensures)).1 }

pub returns : goal.returns
returns g c =
    let s = c.args in
    let values = g.S.Sample.values in
    let as_long = length_values g.met.S.Sample.each in
    c.sad_plane.ensures
    ∙ ap (λ (fault : ℕ). answered fault (plane_sad s.p (values s.a.now) s.q (values s.b.now)))
    (pair_fault_is g.S.Depths.word s.depth s.p (values s.a.now) s.q (values s.b.now) (rw (as_long s.a.now, as_long s.b.now) c.in_ok-shapes_fault.ensures))
