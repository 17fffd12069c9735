-- `brinepulley::brine_satd8x8` meets its contract: the SATD of two blocks is small. Assumes nothing.
use mathlib.Core.Path.{ap, ◌∙◌}
use native.Mathlib.Omega.{arith}
use borrow.Author.Rules.{sfits_of}
use mir.Syntax.{w64}
use mir.Facts.{to_z-of_z}
use Rattle.brinepulley.specs.Coded.{coded}
use Rattle.brinepulley.proofs.Measures.{satd_small}
use Rattle.brinepulley.proofs.brine_satd8x8.Goals as goal

pub whole-requires : goal.whole-requires
whole-requires g c =
    let values = g.S.Sample.values in
    let s = c.args in
    rw c.satd8x8.ensures
    (satd_small g.S.Sample.most (omega (arith, g.met.S.Sample.narrow)) (values s.first.now) (values s.second.now) c.bounded.ensures c.bounded-2.ensures)

pub returns : goal.returns
returns g c = to_z-of_z {w = w64} (sfits_of c.whole.type_inv) ∙ c.whole.ensures ∙ ap coded c.satd8x8.ensures
