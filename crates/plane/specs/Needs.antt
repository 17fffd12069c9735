-- What only proofs and private contracts cite. No public contract names any of this.
use Rattle.std.specs.Prelude.{ℕ, ◌+◌, ◌-◌, ◌*◌, ◌≤◌, List, ◌≡◌, length, get_or, take, drop}
use Rattle.sums.specs.Sums.{sum_below}
use Rattle.plane.specs.declared.Plane.{Plane}
use Rattle.plane.specs.Blocks.{block_side, blocks_start}
use Rattle.plane.specs.Planes.{row_of}

-- row y of a plane is the places from `start` to `end` of any n lent samples
pub record SpanOf (p : Plane) (n y start end : ℕ) : Type 0 where
  pub order : start ≤ end
  pub within : end ≤ n
  pub part : (s : List ℕ) → length s ≡ n → take (end - start) (drop start s) ≡ row_of p s y

-- where block (x, y) starts, counted from the first lent sample
abbrev pub block_start : Plane → ℕ → ℕ → ℕ
block_start p y x = blocks_start p y + x * block_side

-- the sum of n samples, j strides from a place on; and of n such rows: a square by its place
abbrev pub row_from : ℕ → List ℕ → ℕ → ℕ → ℕ → ℕ
row_from n s start stride j = sum_below n (λ (i : ℕ). get_or s (start + j * stride + i) 0)

abbrev pub square_from : ℕ → List ℕ → ℕ → ℕ → ℕ
square_from n s start stride = sum_below n (row_from n s start stride)
