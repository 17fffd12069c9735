-- Document 02, L1: numbers as bytes, "low byte first". A list of bytes is a list of whole numbers below 256.
use Rattle.std.specs.Prelude.{Bool, cond, List, [], ◌∷◌, ◌++◌, ℕ, zero, suc, ◌+◌, ◌*◌, ◌/◌, ◌%◌, leb, eqb, Float, length, take, drop}
use Rattle.std.specs.Float.{binary64}
use Rattle.std.specs.Float.Ieee.{is_nan, nan_bits, to_bits}

-- the n low bytes of a number, the lowest first
unfoldable pub bytes_of : ℕ → ℕ → List ℕ
bytes_of zero x = []
bytes_of (suc n) x = x % 256 ∷ bytes_of n (x / 256)

-- the number that bytes stand for, the lowest first
unfoldable pub number_of : List ℕ → ℕ
number_of [] = 0
number_of (b ∷ bs) = b + 256 * number_of bs

-- a list with other bytes from a place on, as far as these go
unfoldable pub overwritten : ℕ → List ℕ → List ℕ → List ℕ
overwritten at bs s = take at s ++ bs ++ drop (at + length bs) s

-- whether n bytes lie within a list from a place on
abbrev pub lies : ℕ → ℕ → List ℕ → Bool
lies n at s = leb (at + n) (length s)

-- the number in n bytes of a list from a place on; 0 where they do not all lie there
unfoldable pub number_at : ℕ → ℕ → List ℕ → ℕ
number_at n at s = cond (lies n at s) (number_of (take n (drop at s))) 0

-- a list with a number in n of its bytes from a place on; the list as it was where they do not all lie there
unfoldable pub with_number : ℕ → ℕ → ℕ → List ℕ → List ℕ
with_number n at x s = cond (lies n at s) (overwritten at (bytes_of n x) s) s

-- "Any two NaNs count as equal; other floats are equal when their bits are": whether a float is the one that has these bits
abbrev pub has_bits : Float → ℕ → Bool
has_bits x bits = cond (is_nan x) (nan_bits binary64 bits) (eqb (to_bits binary64 x) bits)
