-- The mean of whole numbers, of any number of them and over the largest. Assumes nothing.
use Rattle.std.proofs.Common.{ℕ, ◌+◌, ◌*◌, ◌/◌, ◌<◌, ◌≤◌, mul_comm, div-lt_iff_lt-mul, add-mul, arith}
use Rattle.sums.specs.Means.{mean_of}

-- numbers of at most k have such a mean
pub mean_most : (k count sum : ℕ) → 0 < count → sum ≤ count * k → mean_of count sum ≤ k
mean_most k count sum some h =
    let below : sum + count / 2 < (k + 1) * count = omega (arith, add-mul k 1 count, mul_comm k count) in
    let small : mean_of count sum < k + 1 = (div-lt_iff_lt-mul some).1 below in
    omega arith
