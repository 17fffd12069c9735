-- `standard::cost_sum` meets its contract. The loop's invariant: the costs passed are added, and 2 ^ 32 of them fit a u64. Assumes nothing.
use Rattle.std.proofs.Common.{ℕ, ◌^◌, length, get_or, arith}
use Rattle.sums.proofs.SumLaws.{sum_none, sum_to, NextSum, next_sum}
use Rattle.intra.specs.Threshold.{cost_sum}
use Rattle.intra.proofs.standard.cost_sum.Goals as goal

pub loop-cost-init : goal.loop-cost-init
loop-cost-init c = sum_none _

-- the next sum, and that it fits: no cost is above the largest u32
next : (c : goal.After-from-sum) → let l = c.args.costs.now in NextSum (2 ^ 64) c.loop-cost.cost-index c.loop-cost.sum c.from-sum.result (λ (n : ℕ). get_or l n 0)
next c =
    next_sum 4294967295 (length c.args.costs.now) (2 ^ 64) (λ (n : ℕ). get_or c.args.costs.now n 0) (λ i _. omega (arith, c.type_inv.costs i)) (omega (arith, c.requires))
    c.loop-cost.cost-index _ _ c.loop-cost-test.true c.loop-cost.invariant c.from-sum.ensures

pub overflow_add-sum : goal.overflow_add-sum
overflow_add-sum c = let n = next c in omega (arith, n.1)

pub loop-cost-preserved : goal.loop-cost-preserved
loop-cost-preserved c = let n = next c in n.0

pub returns : goal.returns
unfolding cost_sum
returns c = sum_to _ _ _ _ c.loop-cost.invariant (omega arith)
