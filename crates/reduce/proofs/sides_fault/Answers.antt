-- `reduce::sides_fault` meets its contract: each refusal is given once those before it are known to be none. Assumes nothing.
use Rattle.std.proofs.Common.{sym, ◌∙◌}
use Rattle.answer.proofs.Laws.{or_later, test_first, test_later}
use Rattle.reduce.specs.Reduce.{sides_fault}
use Rattle.reduce.proofs.sides_fault.Goals as goal

pub returns-then-bad_factor : goal.returns-then-bad_factor
unfolding sides_fault
returns-then-bad_factor g c = test_first 5 _ _ (sym c.bad_factor.ensures ∙ c.if-bad_factor.true)

pub returns-then-too_small : goal.returns-then-too_small
unfolding sides_fault
returns-then-too_small g c =
    test_later 6 _ _ _ (sym c.bad_factor.ensures ∙ c.if-bad_factor.false)
    (or_later _ _ _ c.in_ok-word_fault.ensures (test_first 0 _ _ (sym c.too_small.ensures ∙ c.if-too_small.true)))
