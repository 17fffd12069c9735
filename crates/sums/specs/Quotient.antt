-- Document 01: "IEEE 754 binary64, each operation rounded once in the order written".
use Rattle.std.specs.Prelude.{ℕ, pos, Float}
use Rattle.std.specs.Float.{binary64}
use Rattle.std.specs.Float.Ieee.{div, of_int}

-- a total over a count: both rounded to floats (exact below 2 ^ 53), then one rounded division; 0 over 0 is a NaN
abbrev pub quotient_of : ℕ → ℕ → Float
quotient_of total count = div binary64 (of_int binary64 (pos total)) (of_int binary64 (pos count))
