-- `update` meets its contract: after i turns the first entries are those with the first i updated, and the others stand behind them.
-- Assumes nothing.
use mathlib.Core.Path.{◌≡◌, sym}
use mathlib.Core.Bool.{true}
use native.Mathlib.Omega.{arith}
use lib.ListN.{length, take}
use Rattle.score.specs.Deque.{no_score}
use Rattle.score.proofs.Update.{update_more, update_front, update_min}
use Rattle.score.proofs.scoring.update.Goals as goal

pub loop-i-preserved : goal.loop-i-preserved
loop-i-preserved c =
    rw (c.with_forward.ensures, c.loop-i.invariant) (sym (update_more _ no_score c.loop-i.i (take c.min-n.result c.args.entries.now) (omega arith)))

pub returns : goal.returns
returns c =
    let a = c.args in
    let all : c.loop-i.i ≡ length (take c.min-n.result a.entries.now) = omega arith in
    rw (c.loop-i.invariant, all, update_front a.new true c.min-n.result a.entries.now, c.min-n.ensures) (update_min a.new true a.o a.entries.now)
