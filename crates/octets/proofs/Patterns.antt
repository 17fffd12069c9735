-- Which floats and which patterns are NaN's. Assumes nothing.
use mathlib.Core.Path.{◌≡◌, refl, sym, ◌∙◌}
use mathlib.Core.Bool.{true}
use Prim.Native.Nat.{ℕ}
use lib.Ieee.{Float, nan, inf, fin, is_nan, nan_bits, of_bits, binary64}
use lib.Ieee.Bits.{nan_bits_is}

-- there is one NaN
pub only_nan : (x : Float) → is_nan x ≡ true → x ≡ nan
unfolding is_nan
only_nan nan e = refl
only_nan (inf s) e = cc
only_nan (fin s m k) e = cc

-- a pattern that is a NaN's
pub reads_nan : (b : ℕ) → nan_bits binary64 b ≡ true → of_bits binary64 b ≡ nan
reads_nan b e = only_nan (of_bits binary64 b) (sym (nan_bits_is binary64 b) ∙ e)
