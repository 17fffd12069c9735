-- `score_log::take_patterns` meets its contract: after j turns the first j patterns stand in the list. Assumes nothing.
use Rattle.score_log.specs.Log.{joined}
use Rattle.score_log.proofs.Places.{pattern_one}
use Rattle.score_log.proofs.Filled.{Filled}
use Rattle.score_log.proofs.take_patterns.Given as goal

abbrev pub invariant-loop-j : goal.invariant-loop-j
invariant-loop-j l = Filled l.initial.bits l.bits (joined l.j (pattern_one l.bytes))
