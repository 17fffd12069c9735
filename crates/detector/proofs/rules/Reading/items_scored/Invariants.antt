-- `items_scored` meets its contract: after i turns the deque holds the list with items 0 to i - 1 scored, which the room has place for.
-- Assumes nothing.
use mathlib.Core.Path.{◌≡◌}
use Rattle.score.specs.Deque.{content, held, holding}
use Rattle.state.specs.State.{call_of}
use Rattle.detector.specs.Rules.{items_of}
use Rattle.detector.specs.Step.{item_in}
use Rattle.detector.proofs.rules.Reading.items_scored.Given as goal

abbrev pub invariant-loop-i : goal.invariant-loop-i
invariant-loop-i l =
    held l.out ≡ holding (items_of l.fast l.level l.o l.n (item_in l.self.settings (call_of l.self.call)) l.i (content l.initial.out))
