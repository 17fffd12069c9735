-- What the functions of the rules ask of their callers, and tell them. No public contract names any of this.
use Rattle.std.specs.Prelude.{◌≡◌, false, ℕ, ◌+◌, ◌-◌, ◌≤◌, ◌<◌, length}
use Rattle.settings.specs.declared.Settings.{Settings}
use Rattle.settings.specs.Settings.{room, set_limit, is_fast}
use Rattle.state.specs.State.{Call}
use Rattle.score.specs.Deque.{content}
use Rattle.state.specs.Refusals.{number_limit}
use Rattle.detector.specs.declared.rules.Progress.{Progress}
use Rattle.detector.specs.Rules.{Turn}

abbrev pub turn : Progress → Turn
turn q = record { entries = content q.deque; offset = q.offset; again = q.again }

-- what the refusals leave of a call: the lists that the mode reads have all its items
pub record Readable (g : Settings) (c : Call) : Type 0 where
  pub short : c.set_length ≤ set_limit
  pub small : c.number < number_limit
  pub costs : c.set_length - 1 ≤ length c.inter
  pub rest : is_fast g ≡ false → (c.set_length - 1 ≤ length c.importance) × (c.set_length - 1 ≤ length c.threshold)

-- a call that rule 4 can start from: where the deque is empty, o lies among two frames or more
abbrev pub Startable : ℕ → ℕ → ℕ → Type 0
Startable long o count = count ≡ 0 → (o < long) × (2 ≤ long)

-- what rule 4 leaves: room for one entry more, and an offset within the entries
pub record Ready (long : ℕ) (t : Turn) : Type 0 where
  pub few : length t.entries < room
  pub at : t.offset ≤ length t.entries
  pub falls : long ≤ t.offset + 1 → 0 < t.offset
