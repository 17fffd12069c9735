-- Calls as their mode reads them, and the measurements in them.
use Rattle.std.specs.Prelude.{◌≡◌, List, [], ◌∷◌, cond, ℕ, suc, ◌+◌, ◌≤◌, ◌<◌}
use Rattle.settings.specs.declared.Settings.{Settings}
use Rattle.settings.specs.Settings.{normal_lookahead}
use Rattle.state.specs.State.{Call, call}
use Rattle.state.specs.Refusals.{reads_inter, reads_all}
use Rattle.detector.specs.Step.{item_in}

-- number, set length, previous keyframe, and the lists that the mode reads: "Fast reads only inter costs; None reads no list"
abbrev pub as_read : Settings → Call → Call
as_read g c =
    call c.set_length c.number c.keyframe (cond (reads_inter g) c.inter []) (cond (reads_all g) c.importance [])
    (cond (reads_all g) c.threshold [])

-- a call has item k: "each list has L − 1 items". Of the items behind the sixth nothing is asked: with a lookahead of five or more no call
-- with a full set scores one, and with less a run is given again as a whole
abbrev pub Has : Call → ℕ → Type 0
Has c k = (k ≤ normal_lookahead) × (suc k < c.set_length)

-- wherever two calls have an item of the same pair, it is the same: "Item k of a list is pair n + k"
abbrev pub Agree : Settings → Call → Call → Type 0
Agree g c d = (j k : ℕ) → Has c j → Has d k → c.number + j ≡ d.number + k → item_in g c j ≡ item_in g d k

-- what is said of every element of a list
abbrev pub All : {A : Type 0} → (A → Type 0) → List A → Type 0
All P [] = Unit {0}
All P (x ∷ l) = P x × All P l

-- "one measurement per pair of frames"
abbrev pub OneMeasurement : Settings → List Call → Type 0
OneMeasurement g cs = All (λ (c : Call). All (Agree g c) cs) cs

-- how many frames a set has at the least: "L ≥ 7"
abbrev pub full_set : ℕ
full_set = 7

abbrev pub FullSets : List Call → Type 0
FullSets cs = All (λ (c : Call). full_set ≤ c.set_length) cs
