-- `sad::delta_in_planes` meets its contract: a refusal is handed on, and else the sides' product fits. Assumes nothing.
use Rattle.std.proofs.Common.{◌≡◌, ℕ, ◌*◌, mul-le-mul, sym, ap, ◌∙◌, arith, rules}
use Rattle.std.specs.Prelude.{Err}
use Rattle.answer.specs.Answer.{answer_of}
use Rattle.answer.proofs.Laws.{answer_given, handed_on, given_by}
use Rattle.plane.proofs.PlaneLaws.{pair}
use Rattle.plane.proofs.SampleLaws.{measured}
use Rattle.sums.specs.Quotient.{quotient_of}
use Rattle.sad.proofs.delta_in_planes.Goals as goal

pub returns-in_err-total : goal.returns-in_err-total
returns-in_err-total g c =
    let is : c.from_residual.result ≡ Err c.in_err-total.field-0.0 = search rules in
    ap answer_of is ∙ handed_on _ _ _ _ c.in_err-total.ensures

pub overflow_mul-p : goal.overflow_mul-p
overflow_mul-p g c =
    let s = c.args in
    let values = g.S.Sample.values in
    let n = given_by _ _ _ c.in_ok-total.ensures in
    let f = (pair _ _ _ _ (measured g.S.Depths.word s.depth s.p (values s.a.now) s.q (values s.b.now) n.0)).first in
    record { fits = omega (arith, mul-le-mul f.width_most f.height_most) }

pub returns : goal.returns
returns g c =
    let p = c.args.p in
    let n = given_by _ _ _ c.in_ok-total.ensures in
    answer_given _ _ _ (sym n.0) (c.quotient.ensures ∙ ap (λ (total : ℕ). quotient_of total (p.width * p.height)) n.1)
