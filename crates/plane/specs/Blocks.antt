-- Document 01, "Importance" and "Intra cost": the whole 8×8 blocks of a plane. Block (x, y) is in row y of blocks and column x. A block is a
-- square of side 8; a plane is reduced by its squares of any side. And document 02's refusal 19: there is no whole block.
use Rattle.std.specs.Prelude.{ℕ, ◌+◌, ◌*◌, ◌/◌, ◌&&◌, cond, List, ltb, leb, eqb}
use Rattle.answer.specs.Refusal.{refusal, ◌or_else◌}
use Rattle.sums.specs.Sums.{sum_below}
use Rattle.plane.specs.declared.Plane.{Plane}
use Rattle.plane.specs.Planes.{sample_at, row_end, Word, shapes_fault}

-- ---- squares

-- sample (i, j) of square (x, y), where a square has n samples on each side
abbrev pub square_sample : ℕ → Plane → List ℕ → ℕ → ℕ → ℕ → ℕ → ℕ
square_sample n p s y x j i = sample_at p s (y * n + j) (x * n + i)

-- the sum of its samples
abbrev pub square_sum : ℕ → Plane → List ℕ → ℕ → ℕ → ℕ
square_sum n p s y x = sum_below n (λ (j : ℕ). sum_below n (λ (i : ℕ). square_sample n p s y x j i))

-- ---- blocks

abbrev pub block_side : ℕ
block_side = 8

-- how many whole blocks stand side by side, how many below one another, and in all
abbrev pub blocks_across : Plane → ℕ
blocks_across p = p.width / block_side

abbrev pub blocks_down : Plane → ℕ
blocks_down p = p.height / block_side

abbrev pub block_count : Plane → ℕ
block_count p = blocks_down p * blocks_across p

-- sample (i, j) of block (x, y)
abbrev pub block_sample : Plane → List ℕ → ℕ → ℕ → ℕ → ℕ → ℕ
block_sample = square_sample block_side

-- where row y of blocks starts, counted from the first lent sample
abbrev pub blocks_start : Plane → ℕ → ℕ
blocks_start p y = p.origin + y * block_side * p.stride

-- where row y of blocks starts over n samples: n where there is no such row, or where its first row of samples does not lie within them
unfoldable pub block_row : Plane → ℕ → ℕ → ℕ
block_row p n y = cond (ltb y (blocks_down p) && leb (row_end p (y * block_side)) n) (blocks_start p y) n

-- ---- 19

-- "no block", by the number of whole ones
unfoldable pub block_fault : ℕ → ℕ
block_fault count = refusal 19 (eqb count 0)

-- two planes that are measured by their whole blocks, by their shapes: 19 is "tested after 3"
unfoldable pub blocks_fault : Word → ℕ → Plane → ℕ → Plane → ℕ → ℕ
blocks_fault word depth p n q m = shapes_fault word depth p n q m or_else block_fault (block_count p)
