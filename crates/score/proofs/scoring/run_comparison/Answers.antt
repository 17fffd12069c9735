-- `run_comparison` meets its contract: the score that the definition puts in front is pushed, and in Standard the entries behind it are
-- updated first.
-- Assumes nothing.
use mathlib.Core.Bool.{true}
use Rattle.score.proofs.Update.{update_take}
use Rattle.score.proofs.scoring.run_comparison.Goals as goal

pub returns-else-fast : goal.returns-else-fast
returns-else-fast c =
    let d = c.args.d in
    rw (c.if-fast.false, c.push_front-else-fast.ensures, c.standard_score.ensures, c.back_cost-back.ensures, c.scores.ensures, c.update.ensures, update_take c.args.m.inter true c.args.o d.count d.entries)
