-- `push_front` meets its contract: each turn puts the carried entry down and takes up the one that stood there, so that after i turns
-- the first i slots are those of the list with s in front.
-- Assumes nothing.
use mathlib.Core.Path.{◌≡◌, sym, ◌∙◌, ap}
use mathlib.Core.List.{List, ◌∷◌}
use Prim.Native.Nat.{suc, ◌-◌, min}
use native.Mathlib.Omega.{arith}
use native.Mathlib.Numerals.{add-one}
use lib.ListN.{length, take, length-take}
use Rattle.settings.specs.Settings.{room}
use Rattle.score.specs.declared.ScenecutResult.{ScenecutResult}
use Rattle.score.proofs.Room.{held_is}
use Rattle.score.proofs.Shift.{begin, more}
use Rattle.score.proofs.Window.{take_min}
use Rattle.score.proofs.ScoreDeque.push_front.Goals as goal

pub loop-i-init : goal.loop-i-init
loop-i-init c = begin _ _

pub loop-i-preserved : goal.loop-i-preserved
loop-i-preserved c = more _ _ _ _ _ _ (omega arith) c.loop-i.invariant

pub returns : goal.returns
returns c =
    let s = c.args.s in
    let l = c.args.self.now.entries in
    let count = c.args.self.now.count in
    let kept = c.min-kept.result in
    let long : length l ≡ room = omega arith in
    let fits : kept ≡ min (room - 1) count = omega (arith, c.min-kept.ensures) in
    let end : c.loop-i.i ≡ suc kept = omega arith in
    let front : take (suc kept) c.loop-i.self.entries ≡ s ∷ take kept l = rw end at c.loop-i.invariant.front in
    rw add-one
    (held_is (suc kept) c.loop-i.self.entries (take room (s ∷ take count l))
    (front ∙ ap (λ (t : List ScenecutResult). s ∷ t) (rw fits (sym (take_min (room - 1) count l))))
    (omega (arith, length-take room (s ∷ take count l), length-take count l)))
