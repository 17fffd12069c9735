-- The mean of whole numbers as a whole number. Importance has it of 64 samples, a reduced plane of the samples of each square.
use Rattle.std.specs.Prelude.{ℕ, ◌+◌, ◌/◌}

-- the mean of `count` numbers by their sum, rounded to the nearest, a half up; of 64 it is document 01's "(sum + 32) / 64 rounded down"
abbrev pub mean_of : ℕ → ℕ → ℕ
mean_of count sum = (sum + count / 2) / count
