-- `lent::put_deque` meets its contract. After i turns the first i entries are placed; each is put through the part that starts at its
-- place. Assumes nothing.
use mathlib.Core.Path.{◌≡◌}
use lib.ListN.{length, take}
use Rattle.lent.specs.Places.{scores_long, placed}
use Rattle.lent.proofs.put_deque.Given as goal

abbrev pub invariant-loop-i : goal.invariant-loop-i
invariant-loop-i l = (length l.scores ≡ scores_long) × (l.scores ≡ placed (take l.i l.entries) l.initial.scores)
