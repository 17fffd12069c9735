-- What contracts of rows cite: how far two numbers lie apart, and whether one is too large.
use Rattle.std.specs.Prelude.{List, Bool, ◌||◌, ℕ, ◌+◌, ◌^◌, leb, get_or}
use Rattle.sums.specs.Sums.{apart}

-- how far the numbers at place x of two rows lie apart
abbrev pub gap_at : List ℕ → List ℕ → ℕ → ℕ
gap_at a b x = apart (get_or a x 0) (get_or b x 0)

-- whether a number at place i from a place on, of either row, reaches 2 to the m
abbrev pub large_from : List ℕ → List ℕ → ℕ → ℕ → ℕ → Bool
large_from a b at m i = leb (2 ^ m) (get_or a (at + i) 0) || leb (2 ^ m) (get_or b (at + i) 0)
