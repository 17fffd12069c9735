-- Document 01, "Importance": how far the rounded means of two planes' whole blocks lie apart. Where there is no whole block, document 02's 19.
use Rattle.std.specs.Prelude.{ℕ, ◌*◌, ◌||◌, List, Float, length}
use Rattle.answer.specs.Answer.{Answer, answered}
use Rattle.answer.specs.Refusal.{refusal, ◌or_else◌}
use Rattle.plane.specs.Blocks.{block_side, blocks_across, blocks_down, block_count, blocks_fault, square_sum}
use Rattle.plane.specs.Planes.{Word, too_large}
use Rattle.plane.specs.declared.Plane.{Plane}
use Rattle.sums.specs.Means.{mean_of}
use Rattle.sums.specs.Quotient.{quotient_of}
use Rattle.sums.specs.Sums.{sum_below, apart}

-- "Per whole 8×8 block": the sum of its samples
abbrev pub block_sum : Plane → List ℕ → ℕ → ℕ → ℕ
block_sum = square_sum block_side

-- "(sum + 32) / 64 rounded down in each plane"
abbrev pub mean : ℕ → ℕ
mean = mean_of (block_side * block_side)

-- "then the absolute difference"
abbrev pub block_difference : Plane → List ℕ → Plane → List ℕ → ℕ → ℕ → ℕ
block_difference p a q b y x = apart (mean (block_sum p a y x)) (mean (block_sum q b y x))

-- the total over a row of blocks, and over all of them
abbrev pub blocks_difference : Plane → List ℕ → Plane → List ℕ → ℕ → ℕ
blocks_difference p a q b y = sum_below (blocks_across p) (block_difference p a q b y)

unfoldable pub importance_total : Plane → List ℕ → Plane → List ℕ → ℕ
importance_total p a q b = sum_below (blocks_down p) (blocks_difference p a q b)

-- 5, the first plane's 1 and 2, the second's, 3, 19; and 16, which comes last
unfoldable pub importance_fault : Word → ℕ → Plane → List ℕ → Plane → List ℕ → ℕ
importance_fault word depth p a q b =
    blocks_fault word depth p (length a) q (length b) or_else refusal 16 (too_large depth p a || too_large depth q b)

abbrev pub total_of : Word → ℕ → Plane → List ℕ → Plane → List ℕ → Answer ℕ
total_of word depth p a q b = answered (importance_fault word depth p a q b) (importance_total p a q b)

-- "the total over the number of blocks"
abbrev pub importance_of : Word → ℕ → Plane → List ℕ → Plane → List ℕ → Answer Float
importance_of word depth p a q b = answered (importance_fault word depth p a q b) (quotient_of (importance_total p a q b) (block_count p))
