-- `octets::float::of_bits` meets its contract: the pattern of a NaN gives a NaN. Assumes nothing.
use mathlib.Core.Path.{refl, sym, ◌∙◌}
use lib.Ieee.{nan_bits}
use Rattle.octets.proofs.Patterns.{reads_nan}
use Rattle.octets.proofs.float.of_bits.Goals as goal

pub returns-then-is_nan : goal.returns-then-is_nan
unfolding nan_bits
returns-then-is_nan c = reads_nan _ refl ∙ sym (reads_nan c.args.bits (sym c.is_nan.ensures ∙ c.if-is_nan.true))
