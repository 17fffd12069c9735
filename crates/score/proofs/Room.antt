-- A deque has as many slots as there is room, which is what owning one tells; so as many entries as it holds are its count, within the room.
-- Assumes nothing.
use mathlib.Core.Path.{◌≡◌, sym, ◌∙◌, ap}
use mathlib.Core.List.{List}
use Prim.Native.Nat.{ℕ, min, ◌≤◌}
use native.Mathlib.Omega.{arith}
use lib.ListN.{length, take, length-take}
use mir.Val.{Val}
use denote.Laws.{Is}
use Rattle.settings.specs.Settings.{room}
use Rattle.score.specs.declared.ScenecutResult.{ScenecutResult}
use Rattle.score.specs.declared.ScoreDeque.{ScoreDeque}
use Rattle.score.specs.Deque.{Held, content, held, holding}
use Rattle.score.specs.contracts.ScoreDeque as deque

pub roomy : (d : ScoreDeque) (vs : List Val) → Is deque.the_row d vs → length d.entries ≡ room
roomy d vs g = g.1.1.0.1.0.1

-- a deque by its first m slots, which are the list x
pub held_is : (m : ℕ) (l x : List ScenecutResult) → take m l ≡ x → m ≡ length x → ◌≡◌ {A = Held} (record { entries = take m l; count = m }) (holding x)
held_is m l x p q = rw p (ap (λ (n : ℕ). held_of n) q)
  where
    held_of : ℕ → Held
    held_of n = record { entries = x; count = n }

module _ (d : ScoreDeque) (r : length d.entries ≡ room) where
  pub long_min : length (content d) ≡ min d.count room
  long_min = rw (length-take, r)

  pub long : d.count ≤ room → length (content d) ≡ d.count
  long h = omega (arith, long_min)

-- the entries of a deque that holds a list are the list, and its count is the list's length
pub entries_of_lem : (d : ScoreDeque) (l : List ScenecutResult) → held d ≡ holding l → content d ≡ l
entries_of_lem d l e = ap (λ (h : Held). h.entries) e

pub count_of : (d : ScoreDeque) (l : List ScenecutResult) → held d ≡ holding l → d.count ≡ length l
count_of d l e = ap (λ (h : Held). h.count) e

pub exact_of : (d : ScoreDeque) (l : List ScenecutResult) → held d ≡ holding l → d.count ≡ length (content d)
exact_of d l e = count_of d l e ∙ ap length (sym (entries_of_lem d l e))
