-- `brinepulley::brine_scale_factor` meets its contract: a factor is at most 32. Assumes nothing.
use mathlib.Core.Path.{ap, ◌∙◌}
use native.Mathlib.Omega.{arith}
use borrow.Author.Rules.{sfits_of}
use mir.Syntax.{w64}
use mir.Facts.{to_z-of_z}
use Rattle.scale.proofs.ScaleLaws.{factor_most}
use Rattle.brinepulley.specs.Coded.{coded}
use Rattle.brinepulley.proofs.Numbers.{codable_answer}
use Rattle.brinepulley.proofs.brine_scale_factor.Goals as goal

pub whole-requires : goal.whole-requires
whole-requires c =
    let s = c.args in
    rw c.detect_scale_factor.ensures (codable_answer _ _ (λ e. omega (arith, factor_most s.width s.height s.mode)))

pub returns : goal.returns
returns c = to_z-of_z {w = w64} (sfits_of c.whole.type_inv) ∙ c.whole.ensures ∙ ap coded c.detect_scale_factor.ensures
