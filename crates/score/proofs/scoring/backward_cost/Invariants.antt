-- `backward_cost` meets its contract: the walk over all the costs is the walk over those from e on, with the least so far.
-- Assumes nothing.
use mathlib.Core.Path.{◌≡◌}
use lib.ListN.{drop}
use Rattle.score.specs.Scores.{walk_back}
use Rattle.score.proofs.Walk.{costs}
use Rattle.score.proofs.scoring.backward_cost.Given as goal

abbrev pub invariant-loop-e : goal.invariant-loop-e
invariant-loop-e l = walk_back l.own l.initial.least (costs l.e-items) ≡ walk_back l.own l.least (costs (drop l.e-index l.e-items))
