-- `octets::u32_at` meets its contract: the library's number of the bytes that lie there, else 0. Assumes nothing.
use mathlib.Core.Path.{sym, ◌∙◌}
use Rattle.octets.proofs.Laws.{number_lacks}
use Rattle.octets.proofs.Words.{was_read}
use Rattle.octets.proofs.u32_at.Goals as goal

pub returns-in-Some : goal.returns-in-Some
returns-in-Some c = c.from_le_bytes.ensures ∙ was_read 3 c.args.at _ c.args.s.now c.in-Some.ensures.0 c.in-Some.ensures.1

pub returns-in-None : goal.returns-in-None
returns-in-None c = sym (number_lacks 4 c.args.at c.args.s.now c.in-None.ensures)
