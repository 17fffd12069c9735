-- The deque in closed form: what each entry holds, by the pairs scored before and after it. It is a device of the proofs: no statement
-- speaks of it, and that it stands for calls with A = 5 and full sets is proved (Settle.antt, `calls_closed`).
use mathlib.Core.List.{List, [], ◌∷◌, map}
use mathlib.Core.Bool.{Bool, true, false, cond}
use Prim.Native.Nat.{ℕ, zero, suc, ◌+◌}
use lib.Dec.{eqb}
use lib.ListN.{length, take}
use lib.Ieee.{Float}
use Rattle.settings.specs.declared.Settings.{Settings}
use Rattle.settings.specs.Settings.{normal_lookahead, is_fast, fast_threshold}
use Rattle.score.specs.declared.ScenecutResult.{ScenecutResult}
use Rattle.score.specs.declared.Measure.{Measure}
use Rattle.score.specs.Deque.{score_from}
use Rattle.score.specs.Scores.{zero_f, max_f, walk_back, forward_of, fast_score}
use Rattle.state.specs.State.{View, Call}
use Rattle.detector.specs.Step.{item_in}

-- how many pairs on each side an adjusted cost is taken over: o, which is A
abbrev pub span : ℕ
span = normal_lookahead

-- how many entries a deque keeps: rule 7's 5 + A
abbrev pub keeps : ℕ
keeps = normal_lookahead + span

-- a pair: its number and what was measured of it
pub record Item : Type 0 where
  pub pair : ℕ
  pub measure : Measure

abbrev pub cost : Item → Float
cost i = i.measure.inter

-- ---- the pairs that calls score, the newest first

-- item k of a call: "Item k of a list is pair n + k"
abbrev pub item_at : Settings → Call → ℕ → Item
item_at g c k = record { pair = c.number + k; measure = item_in g c k }

-- the first k items of a call
unfoldable pub first_items : Settings → Call → ℕ → List Item
first_items g c zero = []
first_items g c (suc k) = item_at g c k ∷ first_items g c k

-- each further call scores one pair
unfoldable pub scored_then : Settings → List Item → List Call → List Item
scored_then g past [] = past
scored_then g past (c ∷ cs) = scored_then g (item_at g c span ∷ past) cs

-- the last of some calls
abbrev pub last_call : Call → List Call → Call
last_call c [] = c
last_call c (d ∷ ds) = last_call d ds

-- ---- the entry of a pair

-- the forward cost after the later pairs' inter costs, the nearest first; `first` says that none came before these
abbrev pub forward_from : Float → Bool → Float → List Float → Float
forward_from own first forward [] = forward
forward_from own first forward (x ∷ xs) = forward_from own false (forward_of first x own forward) xs

-- a pair's backward cost, over the up to five pairs scored before it, the nearest first: "backward becomes 0 for pair 1; else the least .."
abbrev pub backward_cost : Item → List Item → Float
backward_cost i earlier = cond (eqb i.pair 1) zero_f (walk_back (cost i) max_f (take span (map cost earlier)))

-- a pair's forward cost, over the up to five pairs scored after it, the nearest first
abbrev pub forward_cost : Item → List Float → Float
forward_cost i later = forward_from (cost i) true zero_f (take span later)

-- the entry of a pair, by the later pairs' inter costs and the earlier pairs
abbrev pub entry_of : Bool → Float → List Float → Item → List Item → ScenecutResult
entry_of true level later i earlier = fast_score level i.pair (cost i)
entry_of false level later i earlier =
    score_from i.pair (cost i) i.measure.importance (backward_cost i earlier) (forward_cost i later) i.measure.threshold

-- the entries of all pairs that were scored, where `later` were scored after them
abbrev pub closed_entries_of : Bool → Float → List Float → List Item → List ScenecutResult
closed_entries_of fast level later [] = []
closed_entries_of fast level later (i ∷ earlier) = entry_of fast level later i earlier ∷ closed_entries_of fast level (cost i ∷ later) earlier

-- ---- what a detector keeps after a last call and the pairs scored until then, the first number and the release number apart

abbrev pub closed_deque : Settings → List Item → List ScenecutResult
closed_deque g past = take keeps (closed_entries_of (is_fast g) (fast_threshold g) [] past)

abbrev pub state_with : Settings → Call → List ScenecutResult → View
state_with g c l = record {
  settings = g;
  entries = l;
  count = length l;
  offset = span;
  last_number = c.number;
  last_length = c.set_length;
  first_number = 0;
  release = 0;
}
