-- `intra::block_cost` meets its contract: the block is the square's, and its prediction is flat. Assumes nothing.
use mathlib.Core.Path.{ap₂, ◌∙◌}
use Rattle.satd.specs.Satd.{block_size, satd_value}
use Rattle.intra.specs.Costs.{prediction}
use Rattle.intra.proofs.CostLaws.{flat_values}
use Rattle.intra.proofs.block_cost.Goals as goal

pub returns : goal.returns
unfolding prediction
returns g c = c.whole_satd.ensures ∙ ap₂ satd_value c.load_block.ensures (flat_values g.met.S.Sample.each block_size c.args.flat)
