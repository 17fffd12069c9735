-- What the private functions ask and leave, by places. Contracts of private functions alone cite this file; no public contract does.
use Rattle.std.specs.Prelude.{ℕ, ◌+◌, ◌*◌, ◌/◌, ◌≤◌, ◌<◌, ◌≡◌, List, get_or}
use Rattle.plane.specs.Needs.{square_from}
use Rattle.sums.specs.Means.{mean_of}
use Rattle.sums.specs.Sums.{sum_below}

-- how many sums a chunk has, each of two columns side by side; how many are taken at once, and in how many turns
abbrev pub sum_count : ℕ
sum_count = 64

abbrev pub lane_count : ℕ
lane_count = 8

abbrev pub turn_count : ℕ
turn_count = 8

-- m rows of n samples, a stride apart from place `start` on, lie within a list of so many samples
pub record RowsIn (start stride m n most : ℕ) : Type 0 where
  pub rows : (j : ℕ) → j < m → start + j * stride + n ≤ most

-- the sum of two neighbours: pair k of a list, and from a place on
abbrev pub pair_at : List ℕ → ℕ → ℕ
pair_at s k = get_or s (2 * k) 0 + get_or s (2 * k + 1) 0

abbrev pub pair_from : List ℕ → ℕ → ℕ → ℕ
pair_from s at k = get_or s (at + 2 * k) 0 + get_or s (at + (2 * k + 1)) 0

-- pair k of n rows, a stride apart
abbrev pub pairs_from : List ℕ → ℕ → ℕ → ℕ → ℕ → ℕ
pairs_from s start stride n k = sum_below n (λ (j : ℕ). pair_from s (start + j * stride) k)

-- the sum of n neighbours, group x of a list
abbrev pub group_of : List ℕ → ℕ → ℕ → ℕ
group_of l n x = sum_below n (λ (i : ℕ). get_or l (x * n + i) 0)

-- the mean of square x of those that stand side by side from a place on
abbrev pub mean_from : ℕ → List ℕ → ℕ → ℕ → ℕ → ℕ
mean_from f s start stride x = mean_of (f * f) (square_from f s (start + x * f) stride)

-- half a factor above 1: the chunk's sums are whole squares of it
pub record Half (h : ℕ) : Type 0 where
  pub some : 0 < h
  pub most : h ≤ 16
  pub whole : sum_count / h * h ≡ sum_count
