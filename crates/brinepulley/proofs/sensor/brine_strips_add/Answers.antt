-- `brinepulley::sensor::brine_strips_add` meets its contract: the rows that have come are few, and what is kept is as the strip leaves it. Assumes nothing.
use mathlib.Core.Path.{ap, ◌∙◌}
use borrow.Author.Rules.{sfits_of}
use mir.Syntax.{w64}
use mir.Facts.{to_z-of_z}
use Rattle.strips.specs.Strips.{kept, strip}
use Rattle.brinepulley.specs.Coded.{coded, plane_by}
use Rattle.brinepulley.proofs.Measures.{rows_come_small}
use Rattle.brinepulley.proofs.sensor.brine_strips_add.Goals as goal

pub whole-requires : goal.whole-requires
whole-requires g c =
    let values = g.S.Sample.values in
    let s = c.args in
    rw (c.add.ensures.result_value, c.plane_by-p.ensures, c.plane_by-q.ensures)
    (rows_come_small g.S.Depths.word (kept s.carry.now (values s.room.now) s.costs.now)
    (strip (plane_by s.width s.height s.stride s.origin) (values s.first.now) (plane_by s.width2 s.height2 s.stride2 s.origin2) (values s.second.now)))

pub returns : goal.returns
returns g c =
    let e = rw (c.plane_by-p.ensures, c.plane_by-q.ensures) at c.add.ensures in
    record { value = to_z-of_z {w = w64} (sfits_of c.whole.type_inv) ∙ c.whole.ensures ∙ ap coded e.result_value; costs_after = e.costs_after }
