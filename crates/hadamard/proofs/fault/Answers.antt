-- `hadamard::fault` meets its contract: the length is tested first, and then the entries are. Assumes nothing.
use mathlib.Core.Path.{sym, ◌∙◌}
use Rattle.hadamard.proofs.Range.{wrong_length_lem, too_large, accepted}
use Rattle.hadamard.proofs.fault.Goals as goal

pub returns-then-block-n : goal.returns-then-block-n
returns-then-block-n c = wrong_length_lem c.args.n c.args.block.now c.if-block-n.true

pub returns-then-some_beyond : goal.returns-then-some_beyond
returns-then-some_beyond c = too_large c.args.n c.args.block.now c.if-block-n.false (sym c.some_beyond.ensures ∙ c.if-some_beyond.true)

pub returns : goal.returns
returns c = (accepted c.args.n c.args.block.now c.if-block-n.false (sym c.some_beyond.ensures ∙ c.if-some_beyond.false)).0
