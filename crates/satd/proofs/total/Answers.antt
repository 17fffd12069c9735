-- `satd::total` meets its contract. The loop's invariant: the absolute values passed are added, and each is small enough that the sum fits.
-- Assumes nothing.
use Rattle.std.proofs.Common.{ℕ, ◌*◌, ◌^◌, nat_abs, pos, get_or, arith, ap, ◌∙◌}
use Rattle.sums.proofs.SumLaws.{sum_none, sum_to, NextSum, next_sum}
use Rattle.hadamard.specs.Transform.{entry_most}
use Rattle.hadamard.proofs.SignedLaws.{read_back}
use Rattle.plane.specs.Blocks.{block_side}
use Rattle.satd.specs.Satd.{block_size}
use Rattle.satd.proofs.total.Goals as goal

pub loop-v-init : goal.loop-v-init
loop-v-init c = sum_none _

-- the next sum, and that it fits
next : (c : goal.After-unsigned_abs-sum) → NextSum (2 ^ 32) c.loop-v.v-index c.loop-v.sum c.unsigned_abs-sum.result (λ (t : ℕ). nat_abs (get_or c.args.block.now t (pos 0)))
next c =
    let small = c.requires.most in
    next_sum (block_side * (block_side * entry_most)) block_size (2 ^ 32) _ (λ t _. small t) (omega arith) c.loop-v.v-index _ _ (omega (arith, c.told-block)) c.loop-v.invariant
    (c.unsigned_abs-sum.ensures.value ∙ ap nat_abs (read_back (get_or c.args.block.now c.loop-v.v-index (pos 0)) (omega (arith, small c.loop-v.v-index))))

pub overflow_add-sum : goal.overflow_add-sum
overflow_add-sum c = let n = next c in omega (arith, n.1)

pub loop-v-preserved : goal.loop-v-preserved
loop-v-preserved c = let n = next c in n.0

pub returns : goal.returns
returns c = sum_to _ _ _ _ c.loop-v.invariant (omega (arith, c.told-block))
