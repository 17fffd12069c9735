-- `brinepulley::sensor::brine_strips_start` meets its contract: 0 or a refusal, and the carry as the start leaves it. Assumes nothing.
use mathlib.Core.Path.{ap, ◌∙◌}
use borrow.Author.Rules.{sfits_of}
use mir.Syntax.{w64}
use mir.Facts.{to_z-of_z}
use Rattle.brinepulley.specs.Coded.{coded}
use Rattle.brinepulley.proofs.Measures.{start_small}
use Rattle.brinepulley.proofs.sensor.brine_strips_start.Goals as goal

pub whole-requires : goal.whole-requires
whole-requires c =
    let g = c.args in
    rw c.start.ensures.result_value (start_small g.depth g.width g.height g.carry.now)

pub returns : goal.returns
returns c =
    record { value = to_z-of_z {w = w64} (sfits_of c.whole.type_inv) ∙ c.whole.ensures ∙ ap coded c.start.ensures.result_value; carry_after = c.start.ensures.carry_after }
