-- `backward_cost` meets its contract: the walk over all the costs is the walk over those from e on, with the least so far.
-- Assumes nothing.
use mathlib.Core.Path.{sym, ◌∙◌}
use native.Mathlib.Omega.{arith}
use lib.ListN.{take}
use Rattle.score.proofs.Walk.{walk_end, walk_stop, walk_go, backward_within}
use Rattle.score.proofs.scoring.backward_cost.Goals as goal
use Rattle.score.proofs.scoring.backward_cost.Goals.{then-difference-least, else-difference-least}

pub loop-e-preserved : goal.loop-e-preserved
loop-e-preserved c =
    let go = walk_go c.args.own c.loop-e.least (take c.min.result c.args.scores.now) c.loop-e.e-index c.loop-e-test.true c.if-difference.false in
    c.loop-e.invariant ∙ go ∙ elim c.if-difference-least.branch [
      | then-difference-least w ↦ rw (w.if-difference-least.true, w.least-is)
      | else-difference-least w ↦ rw (w.if-difference-least.false, w.least-is)
    ]

pub returns-then-difference : goal.returns-then-difference
returns-then-difference c =
    let a = c.args in
    let stop = walk_stop a.own c.loop-e.least (take c.min.result a.scores.now) c.loop-e.e-index c.loop-e-test.true c.if-difference.true in
    sym (backward_within a.o a.own a.scores.now ∙ rw (← c.min.ensures) (c.loop-e.invariant ∙ stop))

pub returns : goal.returns
returns c =
    let a = c.args in
    let end = walk_end a.own c.loop-e.least (take c.min.result a.scores.now) c.loop-e.e-index (omega arith) in
    sym (backward_within a.o a.own a.scores.now ∙ rw (← c.min.ensures) (c.loop-e.invariant ∙ end))
