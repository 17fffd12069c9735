-- `update` meets its contract: after i turns the first entries are those with the first i updated.
-- Assumes nothing.
use mathlib.Core.Path.{◌≡◌}
use Rattle.score.specs.Scores.{updated_of}
use Rattle.score.proofs.scoring.update.Given as goal

abbrev pub invariant-loop-i : goal.invariant-loop-i
invariant-loop-i l = l.first ≡ updated_of l.i l.new l.initial.first
