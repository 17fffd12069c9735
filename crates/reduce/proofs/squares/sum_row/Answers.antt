-- `reduce::squares::sum_row` meets its contract. After a turn one sample more is added, and the sum fits. Assumes nothing.
use Rattle.std.proofs.Common.{ℕ, ◌^◌, length, get_or, ◌∙◌, arith}
use Rattle.sums.proofs.SampleLaws.{value_read}
use Rattle.sums.proofs.SumLaws.{NextSum, sum_none}
use Rattle.reduce.proofs.ReduceLaws.{row_turn}
use Rattle.reduce.proofs.squares.sum_row.Given as given
use Rattle.reduce.proofs.squares.sum_row.Goals as goal

pub loop-x-init : goal.loop-x-init
loop-x-init g c = sum_none _

-- a turn of the sum
next : (g : given.Over) (c : goal.After-widened-sum g) → NextSum (2 ^ 32) c.loop-x.x-index c.loop-x.sum c.widened-sum.result (λ (m : ℕ). get_or (g.S.Sample.values c.args.row.now) m 0)
next g c =
    let row = c.args.row.now in
    row_turn g.S.Sample.most (length row) (g.S.Sample.values row) c.bounded.ensures g.met.S.Sample.narrow c.requires.few c.loop-x.x-index c.loop-x.sum c.widened-sum.result
    c.loop-x-test.true c.loop-x.invariant (c.widened-sum.ensures.is ∙ value_read g.met.S.Sample.each row _ _ c.loop-x-test.true c.x-item.is)

pub overflow_add-sum : goal.overflow_add-sum
overflow_add-sum g c = let n = next g c in omega (arith, n.1)

pub loop-x-preserved : goal.loop-x-preserved
loop-x-preserved g c = let n = next g c in n.0
