-- `intra::costs_fault` meets its contract. Assumes nothing.
use Rattle.intra.proofs.CostLaws.{alone}
use Rattle.intra.proofs.costs_fault.Goals as goal

pub returns : goal.returns
returns g c = alone _ _ _ _ _ _ c.intra_fault.ensures
