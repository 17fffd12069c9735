-- `reduce::squares::put_squares` meets its contract. After a turn one place more has the mean of its square. Assumes nothing.
use Rattle.std.proofs.Common.{ℕ, ◌+◌, ◌*◌, ◌/◌, ◌^◌, ◌≤◌, ◌<◌, ltb, length, ap, ◌∙◌, arith}
use native.Mathlib.Nat.{mod-eq_of_lt}
use Rattle.sums.specs.Means.{mean_of}
use Rattle.sums.proofs.SampleLaws.{length_values, front_sample}
use Rattle.sums.proofs.WrittenLaws.{prefix_all}
use Rattle.sums.proofs.Wrote.{wrote_all, front_none}
use Rattle.reduce.proofs.ReduceLaws.{mean_turn}
use Rattle.reduce.proofs.RowLaws.{square_in, first_in}
use Rattle.reduce.proofs.squares.put_squares.Given as given
use Rattle.reduce.proofs.squares.put_squares.Goals as goal

pub loop-x-init : goal.loop-x-init
loop-x-init g c = front_none _ _

-- where the turn's square starts
starts : (g : given.Over) (c : goal.After-index-out-x g) → let s = c.args in s.start + c.loop-x.x * s.factor + s.factor ≤ length s.s.now
starts g c =
    let s = c.args in
    first_in _ s.stride s.factor s.factor _ c.requires.factor_nonzero.0 (square_in s.factor s.start s.stride _ c.loop-x.x _ c.loop-x-test.true c.requires.rows_in)

pub overflow_mul-x : goal.overflow_mul-x
overflow_mul-x g c = omega (arith, starts g c)

pub overflow_add-start : goal.overflow_add-start
overflow_add-start g c = omega (arith, starts g c)

-- its sum has room for the rounding, and its mean is not above a sample
mean : (g : given.Over) (c : goal.After-sum_square-sum g) → let f = c.args.factor in let sum = c.sum_square-sum.result in (sum + f * f / 2 < 2 ^ 32) × ((0 < f * f) × (mean_of (f * f) sum ≤ g.S.Sample.most))
mean g c =
    mean_turn g.S.Sample.most c.args.factor (g.S.Sample.values c.args.s.now) c.bounded.ensures g.met.S.Sample.narrow c.requires.factor_nonzero.1 _ c.args.stride c.sum_square-sum.result
    c.requires.factor_nonzero.0 c.sum_square-sum.ensures

pub overflow_add-sum : goal.overflow_add-sum
overflow_add-sum g c = let m = mean g c in omega (arith, m.0)

pub loop-x-preserved : goal.loop-x-preserved
loop-x-preserved g c =
    let f = c.args.factor in
    let m = mean g c.before in
    front_sample g.met.S.Sample.each c.loop-x.invariant _ c.loop-x-test.true
    (c.narrowed.ensures.is ∙ mod-eq_of_lt (omega (arith, m.1.1)) ∙ ap (mean_of (f * f)) c.sum_square-sum.ensures)

pub returns : goal.returns
returns g c =
    wrote_all (λ (n k : ℕ). ltb k n) c.loop-x.x _ c.loop-x.invariant (omega arith) ∙ prefix_all _ _ _ (length_values g.met.S.Sample.each c.args.out.now)
