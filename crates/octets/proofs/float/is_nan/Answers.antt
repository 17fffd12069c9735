-- `octets::float::is_nan` meets its contract: an exponent of ones, and a fraction that is not 0. Assumes nothing.
use mathlib.Core.Path.{refl}
use lib.Ieee.{nan_bits}
use Rattle.octets.proofs.float.is_nan.Goals as goal

pub returns : goal.returns
unfolding nan_bits
returns c = refl
