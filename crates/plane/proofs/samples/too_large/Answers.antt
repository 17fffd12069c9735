-- `plane::too_large` meets its contract: a look at all rows. Assumes nothing.
use mathlib.Core.Path.{◌∙◌}
use Rattle.plane.proofs.PlaneLaws.{lies}
use Rattle.plane.proofs.SampleLaws.{all_rows}
use Rattle.plane.proofs.samples.too_large.Goals as goal
use Rattle.sums.proofs.SampleLaws.{length_values}

pub returns : goal.returns
returns g c =
    let view = c.args.view.now in
    c.rows_large.ensures ∙ all_rows c.args.depth view.plane _ (lies _ _ (rw (length_values g.met.S.Sample.each view.samples.now) view.lies))
