-- Document 01, "The step", rules 2 to 7, and "Release number". Rule 1's A is `lookahead_offset` of the settings. `long` stands for L, n for
-- the frame number, o for the offset, l for the deque's entries.
use Rattle.std.specs.Prelude.{List, Bool, true, false, not, ◌&&◌, cond, ℕ, zero, suc, ◌+◌, ◌-◌, max, eqb, leb, ltb, length, get_or, Float}
use Rattle.std.specs.Float.{nan}
use Rattle.settings.specs.declared.Settings.{Settings}
use Rattle.settings.specs.Settings.{normal_lookahead, lookahead_offset, is_none, is_fast, is_scaled, fast_threshold, importance_threshold}
use Rattle.score.specs.declared.ScenecutResult.{ScenecutResult}
use Rattle.score.specs.declared.Measure.{Measure}
use Rattle.score.specs.Deque.{trimmed_to}
use Rattle.score.specs.Scores.{zero_f, score_of}
use Rattle.score.specs.Cut.{cut_of}
use Rattle.state.specs.State.{View}

-- ---- 2. "L ≤ A: no cut, no score, o and the deque unchanged."

abbrev pub rule2 : Settings → ℕ → Bool
rule2 g long = leb long (lookahead_offset g)

-- ---- 3. "None mode: cut exactly when n − p ≥ min and n − p ≥ max; no score."

abbrev pub rule3 : Settings → ℕ → Bool
rule3 g distance = leb g.min_key_frame_interval distance && leb g.max_key_frame_interval distance

-- ---- the items of a set

-- what the lists say of item k; "Fast reads only inter costs"
abbrev pub measure_of : Bool → List Float → List Float → List Float → ℕ → Measure
measure_of fast ds is ts k = record {
  inter = get_or ds k nan;
  importance = cond fast zero_f (get_or is k nan);
  threshold = cond fast zero_f (get_or ts k nan);
}

-- "score items 0 to k − 1": "Item k of a list is pair n + k"
abbrev pub items_of : Bool → Float → ℕ → ℕ → (ℕ → Measure) → ℕ → List ScenecutResult → List ScenecutResult
items_of fast level o n item zero l = l
items_of fast level o n item (suc k) l = score_of fast level o (n + k) (item k) (items_of fast level o n item k l)

-- the entries and the offset within a call, and whether rule 4 scored every item
pub record Turn : Type 0 where
  pub entries : List ScenecutResult
  pub offset : ℕ
  pub again : Bool

-- ---- 4. "Empty deque: if o > 0 and L > o + 1, score items 0 to o − 1. Otherwise score items 0 to L − 2 with o as it is, then set
-- o = L − 2."

-- "if o > 0 and L > o + 1"
abbrev pub starts_ahead : ℕ → ℕ → Bool
starts_ahead o long = ltb 0 o && ltb (o + 1) long

abbrev pub rule4 : Settings → ℕ → ℕ → (ℕ → Measure) → ℕ → List ScenecutResult → Turn
rule4 g long n item o l =
    let items = items_of (is_fast g) (fast_threshold g) o n item in
    cond (eqb (length l) 0)
    (cond (starts_ahead o long)
    (record { entries = items o l; offset = o; again = false })
    (record { entries = items (long - 1) l; offset = long - 2; again = true }))
    (record { entries = l; offset = o; again = false })

-- ---- 5. "If L > o + 1, score item o. Otherwise o falls by 1."

-- "the item scored twice by rules 4 and 5 has delta 0 the second time"
abbrev pub again_of : Bool → Measure → Measure
again_of again m = record { inter = cond again zero_f m.inter; importance = m.importance; threshold = m.threshold }

abbrev pub rule5 : Settings → ℕ → ℕ → (ℕ → Measure) → Turn → Turn
rule5 g long n item t =
    let o = t.offset in
    cond (ltb (o + 1) long)
    (record {
      entries = score_of (is_fast g) (fast_threshold g) o (n + o) (again_of (t.again && is_scaled g) (item o)) t.entries;
      offset = o;
      again = t.again;
    })
    (record { entries = t.entries; offset = o - 1; again = t.again })

-- ---- 6. "Decide on entry o. The interval rules override: n − p < min gives false first, then n − p ≥ max gives true."

abbrev pub interval_of : Settings → ℕ → Bool → Bool
interval_of g distance cut =
    cond (ltb distance g.min_key_frame_interval) false (cond (leb g.max_key_frame_interval distance) true cut)

abbrev pub rule6 : Settings → ℕ → Turn → Bool
rule6 g distance t = interval_of g distance (cut_of (is_fast g) (importance_threshold g) t.offset t.entries)

-- ---- 7. "If the deque has more than 5 + A entries, drop one, the last."

abbrev pub rule7 : Settings → List ScenecutResult → List ScenecutResult
rule7 g l = trimmed_to (normal_lookahead + lookahead_offset g) l

-- ---- "Release number"; document 02, L2: "From now on it is one less than document 01 says, but not below 0."

-- "With a the first accepted call's number": a last number of 0 says that there was no call
abbrev pub first_of : View → ℕ → ℕ
first_of s n = cond (eqb s.last_number 0) n s.first_number

-- "frames k and k + 1" of a set are a pair, and pair n's second frame is frame n: its first is one before, "not below 0"
abbrev pub left_frame : ℕ → ℕ
left_frame n = n - 1

-- the 7 and the 9 of the next rule
abbrev pub release_length : ℕ
release_length = 7

abbrev pub release_reach : ℕ
release_reach = 9

-- "After an accepted call n with L ≥ 7, A = 5, not None mode"
abbrev pub releases : Settings → ℕ → Bool
releases g long = leb release_length long && (eqb (lookahead_offset g) normal_lookahead && not (is_none g))

-- "it starts as a; both are 0 until then": ".. one less"
abbrev pub start_release : View → ℕ → ℕ
start_release s n = cond (eqb s.last_number 0) (left_frame n) s.release

-- ".. it is the larger of a and n − 9": ".. one less", since "call n − 9 compares frame n − 10 with frame n − 9, so frame n − 10 must
-- stay". "Other calls keep it."
abbrev pub release_of : View → ℕ → ℕ → ℕ
release_of s long n = cond (releases s.settings long) (left_frame (max (first_of s n) (n - release_reach))) (start_release s n)

-- the state after an accepted call, with the entries and the offset that it leaves; its count is theirs
abbrev pub next_of : View → ℕ → ℕ → List ScenecutResult → ℕ → View
next_of s long n l o = record {
  settings = s.settings;
  entries = l;
  count = length l;
  offset = o;
  last_number = n;
  last_length = long;
  first_number = first_of s n;
  release = release_of s long n;
}
