-- `is_misnumbered` meets its contract: as long as no two neighbours that were looked at were astray, the search from the start is the search
-- among those that are left, and the whole count of equal neighbours is the count so far and the count of those.
-- Assumes nothing.
use mathlib.Core.Path.{◌≡◌}
use Rattle.score.specs.Deque.{content}
use Rattle.score.proofs.Neighbours.{Looked}
use Rattle.score.proofs.numbers.is_misnumbered.Given as goal

abbrev pub invariant-loop-two : goal.invariant-loop-two
invariant-loop-two l =
    (goal.iterator-loop-two).can_next l.two-iterator
    × (goal.iterator-loop-two).is_finite l.two-iterator
    × (l.two-iterator.size ≡ 2)
    × Looked (content l.fn.d) l.two-iterator.rest.now l.equal
