-- `score_log::take_records` meets its contract: after k turns the lists hold the first k records. Assumes nothing.
use Rattle.score_log.specs.Log.{joined, number_one, patterns_one, cut_one}
use Rattle.score_log.proofs.Filled.{Filled}
use Rattle.score_log.proofs.take_records.Given as goal

abbrev pub invariant-loop-k : goal.invariant-loop-k
invariant-loop-k l =
    Filled l.initial.numbers l.numbers (joined l.k (number_one l.log))
    × Filled l.initial.bits l.bits (joined l.k (patterns_one l.log))
    × Filled l.initial.cuts l.cuts (joined l.k (cut_one l.log))
