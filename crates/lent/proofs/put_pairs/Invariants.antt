-- `lent::put_pairs` meets its contract. After i turns the first i entries' pair numbers are placed, and what stands before them stayed.
-- Assumes nothing.
use mathlib.Core.Path.{◌≡◌}
use lib.ListN.{length, take, drop}
use Rattle.lent.specs.Places.{numbers_long, pairs_place, pairs_placed}
use Rattle.lent.proofs.put_pairs.Given as goal

abbrev pub invariant-loop-i : goal.invariant-loop-i
invariant-loop-i l =
    (length l.numbers ≡ numbers_long)
    × (take pairs_place l.numbers ≡ take pairs_place l.initial.numbers)
    × (drop pairs_place l.numbers ≡ pairs_placed (take l.i l.entries) (drop pairs_place l.initial.numbers))
