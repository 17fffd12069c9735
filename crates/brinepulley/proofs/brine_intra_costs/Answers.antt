-- `brinepulley::brine_intra_costs` meets its contract: the blocks of planes that are not refused are few. Assumes nothing.
use mathlib.Core.Path.{ap, ◌∙◌}
use borrow.Author.Rules.{sfits_of}
use mir.Syntax.{w64}
use mir.Facts.{to_z-of_z}
use Rattle.brinepulley.specs.Coded.{coded, plane_by}
use Rattle.brinepulley.proofs.Measures.{blocks_small}
use Rattle.brinepulley.proofs.brine_intra_costs.Goals as goal

pub whole-requires : goal.whole-requires
whole-requires g c =
    let values = g.S.Sample.values in
    let s = c.args in
    rw (c.estimate_intra_costs.ensures.result_value, c.plane_by-p.ensures, c.plane_by-w.ensures)
    (blocks_small g.S.Depths.word s.depth (plane_by s.width s.height s.stride s.origin) (values s.samples.now)
    (plane_by s.width2 s.height2 s.stride2 s.origin2) (values s.work.now) s.costs.now)

pub returns : goal.returns
returns g c =
    let e = rw (c.plane_by-p.ensures, c.plane_by-w.ensures) at c.estimate_intra_costs.ensures in
    record { value = to_z-of_z {w = w64} (sfits_of c.whole.type_inv) ∙ c.whole.ensures ∙ ap coded e.result_value; work_after = e.work_after; costs_after = e.costs_after }
