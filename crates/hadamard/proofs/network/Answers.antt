-- `hadamard::network` meets its contract: two stages are the transform, and the first leaves small numbers. Assumes nothing.
use mathlib.Core.Path.{◌∙◌}
use Rattle.hadamard.specs.Steps.{nth, line_most}
use Rattle.hadamard.proofs.FourLaws.{four_within}
use Rattle.hadamard.proofs.StageLaws.{stage_within, two_stages}
use Rattle.hadamard.proofs.network.Goals as goal

pub paired-requires-2 : goal.paired-requires-2
paired-requires-2 c =
    rw c.paired.ensures (stage_within line_most (nth c.args.x) (four_within line_most (nth c.args.x) (λ j _. c.requires.most j)))

pub returns : goal.returns
returns c = rw c.paired.ensures at c.paired-2.ensures ∙ two_stages (nth c.args.x)
