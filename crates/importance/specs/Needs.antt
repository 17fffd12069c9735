-- What only contracts of sums cite: samples of which four fit a word of 16 bits together.
use Rattle.std.specs.Prelude.{ℕ, ◌+◌, ◌*◌, ◌≤◌, ◌<◌, List, get_or}
use Rattle.plane.specs.Blocks.{block_side}
use Rattle.plane.specs.Planes.{sample_at}
use Rattle.plane.specs.declared.Plane.{Plane}

-- the largest sample of 12 bits
abbrev pub deep_most : ℕ
deep_most = 4095

-- n rows of eight samples, a stride apart from a place on, are no larger
pub record SmallRows (s : List ℕ) (at stride n : ℕ) : Type 0 where
  pub most : (j i : ℕ) → j < n → i < block_side → get_or s (at + j * stride + i) 0 ≤ deep_most

-- nor are the visible samples of row y of blocks
pub record SmallBlocks (p : Plane) (s : List ℕ) (y : ℕ) : Type 0 where
  pub most : (j x : ℕ) → j < block_side → x < p.width → sample_at p s (y * block_side + j) x ≤ deep_most
