-- `octets::float::bits_of` meets its contract: of every NaN `to_bits` gives the one pattern. Assumes nothing.
use mathlib.Core.Path.{sym, ◌∙◌}
use Rattle.octets.proofs.Laws.{nan_pattern}
use Rattle.octets.proofs.Patterns.{only_nan}
use Rattle.octets.proofs.float.bits_of.Goals as goal

pub returns-then-is_nan : goal.returns-then-is_nan
returns-then-is_nan c = rw (only_nan c.args.x (sym c.is_nan.ensures.value ∙ c.if-is_nan.true)) (sym nan_pattern)
