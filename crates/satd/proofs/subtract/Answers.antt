-- `satd::subtract` meets its contract. The loop's invariant: the places passed hold the differences. Assumes nothing.
use Rattle.std.proofs.Common.{◌∙◌, arith, rules, w32}
use Rattle.std.proofs.Math.Facts.{to_z-of_z}
use borrow.Author.Rules.{sfits_of}
use Rattle.satd.proofs.SatdLaws.{subtracted_none, subtracted_gap, subtracted_all}
use Rattle.satd.proofs.subtract.Goals as goal

pub loop-i-init : goal.loop-i-init
loop-i-init g c = subtracted_none _ _ _ (search rules)

pub loop-i-preserved : goal.loop-i-preserved
loop-i-preserved g c =
    subtracted_gap g.met.S.Sample.each c.loop-i.invariant _ (to_z-of_z {w = w32} (sfits_of c.gap.type_inv) ∙ c.gap.ensures)
    (search rules) (search rules) (search rules) (search rules) (search rules)

pub returns : goal.returns
returns g c = subtracted_all _ _ _ _ c.loop-i.invariant (omega arith)
