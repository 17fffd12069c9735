-- `octets::put_u64` meets its contract: the library's bytes of a number are the number's. Assumes nothing.
use mathlib.Core.Path.{◌∙◌}
use Rattle.octets.proofs.Words.{was_written}
use Rattle.octets.proofs.put_u64.Goals as goal

pub returns : goal.returns
returns c = c.put_bytes.ensures ∙ was_written 8 c.args.at c.args.x c.to_le_bytes.result c.args.s.now c.to_le_bytes.ensures
