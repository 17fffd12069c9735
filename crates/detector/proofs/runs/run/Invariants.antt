-- `run` meets its contract: the run from the start is the run of what is left of the lists, from where the calls before ended.
-- Assumes nothing.
use mathlib.Core.Path.{◌≡◌}
use lib.ListN.{drop}
use Rattle.detector.specs.Step.{outcome}
use Rattle.detector.specs.Runs.{calls_of, run_of}
use Rattle.detector.proofs.runs.run.Given as goal

abbrev pub invariant-loop-j : goal.invariant-loop-j
invariant-loop-j l =
    let it = l.j-iterator in
    run_of (outcome l.initial.last) (calls_of l.numbers l.lengths l.keyframes l.inter l.importance l.threshold)
    ≡ run_of (outcome l.last) (calls_of it.iter.a.a.rest.now it.iter.a.b.rest.now it.iter.b.rest.now (drop it.count l.inter) (drop it.count l.importance) (drop it.count l.threshold))
