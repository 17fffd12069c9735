-- `reduce::byte::put_means` meets its contract. After a turn one place more has the mean of its group. Assumes nothing.
use Rattle.std.proofs.Common.{◌≡◌, ◌+◌, ◌*◌, ◌≤◌, ◌∙◌, ap, refl, arith}
use native.Mathlib.Nat.{mul-le-mul_right, add-mul}
use Rattle.sums.specs.Means.{mean_of}
use Rattle.sums.specs.Needs.{byte_most}
use Rattle.sums.proofs.MeanLaws.{mean_most}
use Rattle.sums.proofs.Wrote.{front_none, front_more}
use Rattle.reduce.specs.Needs.{group_of}
use Rattle.reduce.proofs.ReduceLaws.{lent_sum}
use Rattle.reduce.proofs.byte.put_means.Goals as goal
use Rattle.reduce.proofs.byte.put_means.Goals.{After-sum_row-sum}

pub loop-x-init : goal.loop-x-init
loop-x-init c = front_none _ _

-- the turn's sum is that of its group, and not above that of so many bytes
group : (c : After-sum_row-sum) → c.sum_row-sum.result ≡ group_of c.args.sums.now c.args.n c.loop-x.x
group c =
    let s = c.args in
    let x = c.loop-x.x in
    let next : x + 1 ≤ s.count = omega (arith, c.loop-x-test.true) in
    c.sum_row-sum.ensures ∙ lent_sum s.sums.now (x * s.n) s.n (omega (arith, c.requires.n_in_bounds, mul-le-mul_right s.n next, add-mul x 1 s.n)) _ refl

small : (c : After-sum_row-sum) → c.sum_row-sum.result ≤ c.args.samples * byte_most
small c = rw (group c) (c.requires.by_index c.loop-x.x c.loop-x-test.true)

pub overflow_add-out : goal.overflow_add-out
overflow_add-out c = omega (arith, small c, c.requires.samples_nonzero)

pub overflow_cast-out : goal.overflow_cast-out
overflow_cast-out c = omega (arith, mean_most byte_most c.args.samples c.sum_row-sum.result c.requires.samples_nonzero.0 (small c))

pub loop-x-preserved : goal.loop-x-preserved
loop-x-preserved c = front_more c.loop-x.invariant _ (omega (arith, c.loop-x-test.true, c.requires.count_in_bounds)) (ap (mean_of c.args.samples) (group c))
