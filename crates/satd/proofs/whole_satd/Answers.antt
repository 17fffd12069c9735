-- `satd::whole_satd` meets its contract: differences of samples are within the transform's range, so that it is not refused, and the sum of its
-- entries fits. Assumes nothing.
use Rattle.std.proofs.Common.{◌∙◌, arith}
use Rattle.answer.proofs.Laws.{fault_ok}
use Rattle.satd.proofs.SatdLaws.{Left, left, left_satd, unrefused}
use Rattle.satd.proofs.whole_satd.Given as given
use Rattle.satd.proofs.whole_satd.Goals as goal
use Rattle.satd.proofs.whole_satd.Goals.{After-hadamard8x8}

pub unwrap-requires : goal.unwrap-requires
unwrap-requires g c =
    fault_ok c.hadamard8x8.result
    (c.hadamard8x8.ensures.value ∙ unrefused g.S.Sample.most _ _ c.bounded.ensures c.bounded-2.ensures g.met.S.Sample.narrow _ c.subtract.ensures)

-- what the transform leaves
changed : (g : given.Over) (c : After-hadamard8x8 g) → let values = g.S.Sample.values in Left (values c.args.first.now) (values c.args.second.now) c.hadamard8x8.new.block
changed g c = left g.S.Sample.most _ _ c.bounded.ensures c.bounded-2.ensures g.met.S.Sample.narrow _ _ c.subtract.ensures c.hadamard8x8.ensures.block_after

pub total-sum-requires : goal.total-sum-requires
total-sum-requires g c = (changed g (goal.at.total-sum-requires g c).After-hadamard8x8).within

pub overflow_add-result : goal.overflow_add-result
overflow_add-result g c =
    let x = changed g (goal.at.overflow_add-result g c).After-hadamard8x8 in
    omega (arith, x.sum_most, c.total-sum.ensures)

pub returns : goal.returns
returns g c = left_satd (changed g (goal.at.returns g c).After-hadamard8x8) _ c.total-sum.ensures
