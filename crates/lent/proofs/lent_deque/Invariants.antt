-- `lent::lent_deque` meets its contract. After i turns the first i entries are the first i scores. Assumes nothing.
use mathlib.Core.Path.{◌≡◌}
use lib.ListN.{length, take, drop}
use Rattle.settings.specs.Settings.{room}
use Rattle.lent.specs.Places.{pairs_place, scores_of}
use Rattle.lent.proofs.lent_deque.Given as goal

abbrev pub invariant-loop-i : goal.invariant-loop-i
invariant-loop-i l =
    (take l.i l.out.entries ≡ take l.i (scores_of room (drop pairs_place l.numbers) l.scores))
    × (length l.out.entries ≡ room)
    × (l.out.count ≡ l.count)
