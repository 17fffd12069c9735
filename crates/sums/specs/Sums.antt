-- Sums over an index range, and how far two numbers lie apart. Every measure is stated by these.
use Rattle.std.specs.Prelude.{ℕ, zero, suc, ◌+◌, ◌-◌}

-- f 0 + f 1 + .. + f (n - 1)
unfoldable pub sum_below : ℕ → (ℕ → ℕ) → ℕ
sum_below zero f = 0
sum_below (suc n) f = sum_below n f + f n

-- |x - y|: one of the two differences of natural numbers is 0
abbrev pub apart : ℕ → ℕ → ℕ
apart x y = (x - y) + (y - x)
