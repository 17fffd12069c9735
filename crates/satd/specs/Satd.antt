-- Document 01, "SATD of an 8×8 block": "transform the 64 differences, add absolute values, add 4, divide by 8, drop the fraction".
-- A list of samples is one of whole numbers, whatever their depth.
use Rattle.std.specs.Prelude.{List, not, ℕ, ◌+◌, ◌*◌, ◌/◌, eqb, ℤ, pos, ◌-ℤ◌, nat_abs, length, get_or}
use Rattle.answer.specs.Refusal.{refusal, ◌or_else◌}
use Rattle.answer.specs.Answer.{Answer, answered}
use Rattle.sums.specs.Sums.{sum_below}
use Rattle.sums.specs.Table.{table}
use Rattle.plane.specs.Blocks.{block_side}
use Rattle.hadamard.specs.Transform.{transformed}

-- a block has eight rows of eight samples
abbrev pub block_size : ℕ
block_size = block_side * block_side

-- "the 64 differences", the first block's sample less the second's
abbrev pub difference : List ℕ → List ℕ → ℕ → ℤ
difference first second i = pos (get_or first i 0) -ℤ pos (get_or second i 0)

abbrev pub differences : List ℕ → List ℕ → List ℤ
differences first second = table block_size (difference first second)

-- "add absolute values", of a block's entries
abbrev pub abs_sum : List ℤ → ℕ
abs_sum l = sum_below block_size (λ (i : ℕ). nat_abs (get_or l i (pos 0)))

-- "add 4, divide by 8, drop the fraction"
unfoldable pub satd_value : List ℕ → List ℕ → ℕ
satd_value first second = (abs_sum (transformed block_side (differences first second)) + 4) / 8

-- 2: a block hasn't its 64 samples
abbrev pub block_fault : List ℕ → ℕ
block_fault l = refusal 2 (not (eqb (length l) block_size))

abbrev pub satd_of : List ℕ → List ℕ → Answer ℕ
satd_of first second = answered (block_fault first or_else block_fault second) (satd_value first second)
