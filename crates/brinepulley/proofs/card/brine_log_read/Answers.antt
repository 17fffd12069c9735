-- `brinepulley::card::brine_log_read` meets its contract: the number as in `brine_log_scan`, and each lent list as the read leaves it. Assumes
-- nothing.
use mathlib.Core.Path.{ap, ◌∙◌}
use native.Mathlib.Omega.{arith}
use borrow.Author.Rules.{sfits_of}
use mir.Syntax.{w64}
use mir.Facts.{to_z-of_z}
use Rattle.brinepulley.specs.Coded.{coded}
use Rattle.brinepulley.proofs.Numbers.{codable_answer}
use Rattle.brinepulley.proofs.card.brine_log_read.Goals as goal

pub whole-requires : goal.whole-requires
whole-requires c =
    rw c.read.ensures.result_value (codable_answer _ _ (λ e. omega arith))

pub returns : goal.returns
returns c =
    record { value = to_z-of_z {w = w64} (sfits_of c.whole.type_inv) ∙ c.whole.ensures ∙ ap coded c.read.ensures.result_value; numbers_after = c.read.ensures.numbers_after; bits_after = c.read.ensures.bits_after; cuts_after = c.read.ensures.cuts_after; torn_after = c.read.ensures.torn_after }
