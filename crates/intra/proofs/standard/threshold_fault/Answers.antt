-- `standard::threshold_fault` meets its contract: a count that is too large is refused first. Assumes nothing.
use Rattle.std.proofs.Common.{◌^◌, leb, ltb, le-leb, lt-ltb}
use mathlib.Core.Bool.{◌&&◌}
use Rattle.answer.proofs.Laws.{test_first}
use Rattle.intra.specs.Threshold.{threshold_fault}
use Rattle.intra.proofs.standard.threshold_fault.Goals as goal

pub returns-then-count-gt-MOST : goal.returns-then-count-gt-MOST
unfolding threshold_fault
returns-then-count-gt-MOST c =
    let s = c.args in
    test_first 0 _ (leb s.count s.n && ltb (2 ^ 32) s.count) (rw (le-leb s.count s.n c.if-count-n.true, lt-ltb (2 ^ 32) s.count c.if-count-gt-MOST.true))
