-- A state's deque has as many entries as there is room, and a count above them is refused as their number is.
-- Assumes nothing.
use mathlib.Core.Path.{◌≡◌, refl}
use mathlib.Core.Bool.{Bool, true, false, ◌||◌}
use mathlib.Core.List.{List}
use Prim.Native.Nat.{ℕ, ◌-◌, ◌≤◌, ◌<◌, min}
use native.Mathlib.Omega.{arith}
use borrow.Author.Tests.{ltb-true, ltb-false, lt-ltb}
use lib.Dec.{ltb}
use lib.ListN.{length}
use mir.Val.{Val}
use denote.Laws.{Is}
use Rattle.settings.specs.declared.Settings.{Settings}
use Rattle.settings.specs.Settings.{room}
use Rattle.score.proofs.Room.{roomy, long_min}
use Rattle.state.specs.declared.State.{State}
use Rattle.score.specs.Deque.{content}
use Rattle.score.specs.Numbers.{misnumbered}
use Rattle.answer.specs.Refusal.{refusal}
use Rattle.state.specs.State.{view}
use Rattle.state.specs.Refusals.{unfit, cost_forbidden, front_astray, state_fault}
use Rattle.state.specs.contracts.State as state

pub state_room : (s : State) (vs : List Val) → Is state.the_row s vs → length s.deque.entries ≡ room
state_room s vs g = roomy s.deque _ g.1.1.1.0

module _ (g : Settings) (count o last : ℕ) where
  by_case : (b : Bool) → ltb room count ≡ b → unfit g (min count room) o last ≡ unfit g count o last
  by_case true e =
      let h : room < count = ltb-true room count e in
      let n : min count room ≡ room = omega arith in
      rw (n, lt-ltb (room - 1) count (omega arith))
  by_case false e =
      let h : count ≤ room = ltb-false room count e in
      let n : min count room ≡ count = omega arith in
      rw n

  pub unfit_min : unfit g (min count room) o last ≡ unfit g count o last
  unfit_min = by_case (ltb room count) refl

-- 11 by the deque's own count, as the code looks at it
pub by_count : (s : State) → length s.deque.entries ≡ room → state_fault (view s)
    ≡ refusal 11 (unfit s.settings s.deque.count s.offset s.last_number
    || (cost_forbidden (content s.deque) || (misnumbered (content s.deque) || front_astray s.settings s.last_number s.last_length s.offset (content s.deque))))
unfolding state_fault
by_count s r =
    let same : unfit s.settings (length (content s.deque)) s.offset s.last_number ≡ unfit s.settings s.deque.count s.offset s.last_number
    = rw (long_min s.deque r) (unfit_min s.settings s.deque.count s.offset s.last_number) in
    rw same
