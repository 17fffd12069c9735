-- `advanced` meets its contract: item o is scored with the offset as it is, and there is room for it; else the offset falls.
-- Assumes nothing.
use mathlib.Core.Path.{◌≡◌, ◌∙◌}
use mathlib.Core.Bool.{◌&&◌}
use Prim.Native.Nat.{◌+◌}
use borrow.Author.Tests.{lt-ltb}
use Rattle.settings.specs.Settings.{is_fast, is_scaled, fast_threshold}
use Rattle.score.specs.Deque.{content}
use Rattle.score.specs.Scores.{score_of}
use Rattle.score.proofs.Scored.{score_kept}
use Rattle.score.proofs.Room.{entries_of_lem}
use Rattle.state.specs.State.{call_of}
use Rattle.detector.specs.Rules.{again_of}
use Rattle.detector.specs.Step.{item_in}
use Rattle.detector.proofs.rules.Reading.advanced.Goals as goal

pub returns-then-o-self : goal.returns-then-o-self
returns-then-o-self c =
    let q = c.args.q in
    let g = c.args.self.now.settings in
    let n = c.args.self.now.call.number + q.offset in
    let l = content q.deque in
    let m = again_of (q.again && is_scaled g) (item_in g (call_of c.args.self.now.call) q.offset) in
    let e : content c.run_comparison-deque.result ≡ score_of (is_fast g) (fast_threshold g) q.offset n m l
    = entries_of_lem c.run_comparison-deque.result _ c.run_comparison-deque.ensures
    ∙ rw (c.measured_again-m.ensures, c.fast_threshold-level.ensures) (score_kept (fast_threshold g) q.offset n m l (is_fast g) c.requires.few) in
    rw (lt-ltb _ _ c.if-o-self.true, e)
