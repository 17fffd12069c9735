-- `brinepulley::brine_plane_difference` meets its contract: the sum of two planes that are not refused is small. Assumes nothing.
use mathlib.Core.Path.{ap, ◌∙◌}
use native.Mathlib.Omega.{arith}
use borrow.Author.Rules.{sfits_of}
use mir.Syntax.{w64}
use mir.Facts.{to_z-of_z}
use Rattle.brinepulley.specs.Coded.{coded, plane_by}
use Rattle.brinepulley.proofs.Measures.{difference_small}
use Rattle.brinepulley.proofs.brine_plane_difference.Goals as goal

pub whole-requires : goal.whole-requires
whole-requires g c =
    let values = g.S.Sample.values in
    let s = c.args in
    rw (c.plane_difference.ensures, c.plane_by-p.ensures, c.plane_by-q.ensures)
    (difference_small g.S.Sample.most (omega (arith, g.met.S.Sample.narrow)) (values s.first.now) (values s.second.now) c.bounded.ensures c.bounded-2.ensures
    g.S.Depths.word s.depth (plane_by s.width s.height s.stride s.origin) (plane_by s.width2 s.height2 s.stride2 s.origin2))

pub returns : goal.returns
returns g c =
    to_z-of_z {w = w64} (sfits_of c.whole.type_inv) ∙ c.whole.ensures ∙ ap coded (rw (← c.plane_by-p.ensures, ← c.plane_by-q.ensures) c.plane_difference.ensures)
