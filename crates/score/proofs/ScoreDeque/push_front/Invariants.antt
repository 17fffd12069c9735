-- `push_front` meets its contract: each turn puts the carried entry down and takes up the one that stood there, so that after i turns
-- the first i slots are those of the list with s in front.
-- Assumes nothing.
use Rattle.score.proofs.Shift.{Shifting}
use Rattle.score.proofs.ScoreDeque.push_front.Given as goal

abbrev pub invariant-loop-i : goal.invariant-loop-i
invariant-loop-i l = Shifting l.initial.carried l.initial.self.entries l.self.entries l.carried l.i
