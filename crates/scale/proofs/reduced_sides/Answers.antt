-- `scale::reduced_sides` meets its contract: the factor is never 0, and each side is divided by it. Assumes nothing.
use Rattle.scale.proofs.ScaleLaws.{some_factor}
use Rattle.scale.proofs.reduced_sides.Goals as goal

pub nonzero_div-result : goal.nonzero_div-result
nonzero_div-result c = rw c.factor-by.ensures (some_factor _ _ _)

pub nonzero_div-result-2 : goal.nonzero_div-result-2
nonzero_div-result-2 c = rw c.factor-by.ensures (some_factor _ _ _)
