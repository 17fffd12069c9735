-- `brinepulley::card::brine_log_scan` meets its contract: a log has fewer records than bytes, so an i64 holds their number. Assumes nothing.
use mathlib.Core.Path.{ap, ◌∙◌}
use native.Mathlib.Omega.{arith}
use borrow.Author.Rules.{sfits_of}
use mir.Syntax.{w64}
use mir.Facts.{to_z-of_z}
use Rattle.brinepulley.specs.Coded.{coded}
use Rattle.brinepulley.proofs.Numbers.{codable_answer}
use Rattle.brinepulley.proofs.card.brine_log_scan.Goals as goal

pub whole-requires : goal.whole-requires
whole-requires c = rw c.scan.ensures.result_value (codable_answer _ _ (λ e. omega arith))

pub returns : goal.returns
returns c = record { value = to_z-of_z {w = w64} (sfits_of c.whole.type_inv) ∙ c.whole.ensures ∙ ap coded c.scan.ensures.result_value; torn_after = c.scan.ensures.torn_after }
