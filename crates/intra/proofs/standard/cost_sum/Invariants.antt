-- `standard::cost_sum` meets its contract. The loop's invariant: the costs passed are added. Assumes nothing.
use Rattle.std.proofs.Common.{◌≡◌, ℕ, get_or}
use Rattle.sums.specs.Sums.{sum_below}
use Rattle.intra.proofs.standard.cost_sum.Given as goal

abbrev pub invariant-loop-cost : goal.invariant-loop-cost
invariant-loop-cost l = l.sum ≡ sum_below l.cost-index (λ (n : ℕ). get_or l.costs n 0)
