-- `items_scored` meets its contract: after i turns the deque holds the list with items 0 to i - 1 scored, which the room has place for.
-- Assumes nothing.
use mathlib.Core.Path.{◌∙◌, ap}
use Prim.Native.Nat.{◌+◌, ◌<◌}
use native.Mathlib.Numerals.{add-one}
use native.Mathlib.Omega.{arith}
use lib.ListN.{length, length-take}
use Rattle.settings.specs.Settings.{room, is_fast}
use Rattle.score.specs.Deque.{content, holding}
use Rattle.score.proofs.Scored.{score_kept}
use Rattle.score.proofs.Room.{entries_of_lem}
use Rattle.state.specs.State.{call_of}
use Rattle.detector.specs.Rules.{items_of}
use Rattle.detector.specs.Step.{item_in}
use Rattle.detector.proofs.Items.{items_long}
use Rattle.detector.proofs.rules.Reading.items_scored.Goals as goal

pub loop-i-preserved : goal.loop-i-preserved
loop-i-preserved c =
    let a = c.args in
    let r = a.self.now in
    let i = c.loop-i.i in
    let n = r.call.number in
    let fast = is_fast r.settings in
    let level = c.fast_threshold-level.result in
    let item = item_in r.settings (call_of r.call) in
    let x = items_of fast level a.o n item i (content a.d) in
    let e = entries_of_lem c.loop-i.out x c.loop-i.invariant in
    let h = items_long fast level a.o n item (content a.d) i in
    let room_left : length x < room = omega (arith, length-take a.d.count a.d.entries, c.requires) in
    rw add-one (c.run_comparison-out.ensures ∙ rw (c.measure_at-m.ensures, e) (ap holding (score_kept level a.o (n + i) (item i) x fast room_left)))
