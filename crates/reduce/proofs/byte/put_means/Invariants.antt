-- `reduce::byte::put_means` meets its contract. After x turns the first x places have the means of their groups. Assumes nothing.
use Rattle.std.proofs.Common.{ℕ, ltb}
use Rattle.sums.specs.Means.{mean_of}
use Rattle.sums.proofs.Wrote.{Wrote}
use Rattle.reduce.specs.Needs.{group_of}
use Rattle.reduce.proofs.byte.put_means.Given as goal

abbrev pub invariant-loop-x : goal.invariant-loop-x
invariant-loop-x l = Wrote (λ (k : ℕ). ltb k l.x) (λ (x : ℕ). mean_of l.samples (group_of l.sums l.n x)) l.initial.out l.out
