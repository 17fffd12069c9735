-- `score_log::checked` meets its contract: none of the records passed is at fault. Assumes nothing.
use Rattle.std.proofs.Common.{◌≡◌}
use Rattle.score_log.specs.Log.{least_after, record_fault, earliest}
use Rattle.score_log.proofs.checked.Given as goal

abbrev pub invariant-loop-record : goal.invariant-loop-record
invariant-loop-record l =
    (l.least ≡ least_after l.log l.record-index) × (earliest l.record-index (record_fault l.log) ≡ 0)
