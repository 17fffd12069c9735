-- Demand 3, over the detectors that run: "in Standard or Fast mode, lookahead five or more, one measurement per pair of frames, equal
-- settings and, from the later start on, equal calls, each accepted by both detectors until the states meet: a detector begun afresh at a
-- later frame, with sets of seven or more frames throughout both runs until then, is after ten such calls in Standard mode, five in Fast,
-- in the same state as one that never stopped, first and release numbers apart; so every later decision, score and refusal is the same."
-- What a history is: `detector`, specs/Histories.antt. The proof: proofs/Demand3.antt.
use Rattle.std.specs.Prelude.{◌≡◌, List, map, Bool, false, cond, ℕ, ◌+◌, ◌≤◌, length, take, drop}
use Rattle.settings.specs.declared.Settings.{Settings}
use Rattle.settings.specs.Settings.{normal_lookahead, is_none, is_fast}
use Rattle.state.specs.State.{Call, view}
use Rattle.state.specs.declared.State.{State}
use Rattle.detector.specs.Runs.{compared}
use Rattle.detector.specs.Histories.{Detector, Made, Follows, kept_after, calls_in, replies_in, History, last_kept, accepted_calls, by_value}
use Rattle.lent.specs.Histories.{by_places, SamePlaces}
use Rattle.brinepulley.specs.Histories.{in_c}
use Rattle.meeting.specs.Calls.{as_read, OneMeasurement, FullSets}

-- "ten such calls in Standard mode, five in Fast"
abbrev pub calls_to_meet : Bool → ℕ
calls_to_meet fast = cond fast 5 10

-- The hypotheses. `old` and `new` are the accepted calls of two detectors with "equal settings" g, in their order. The fresh one begins
-- when the old one has accepted d calls; d may be any number, 0 too. What is asked of the calls of both "until the states meet" is asked
-- of the old one's: as the mode reads them, the fresh one's are among these (`same`).
pub record Restart (g : Settings) (d : ℕ) (old new : List Call) : Type 0 where
  -- "in Standard or Fast mode": every other number than None's is one of these, or refused
  pub mode : is_none g ≡ false
  -- "lookahead five or more"
  pub lookahead : normal_lookahead ≤ g.lookahead_distance
  -- "one measurement per pair of frames"
  pub measured : OneMeasurement g (take (d + calls_to_meet (is_fast g)) old)
  -- "from the later start on, equal calls, each accepted by both detectors"
  pub same : map (as_read g) (drop d old) ≡ map (as_read g) new
  -- "with sets of seven or more frames throughout both runs until then"
  pub full : FullSets (take (d + calls_to_meet (is_fast g)) old)
  -- "after ten such calls in Standard mode, five in Fast"
  pub enough : calls_to_meet (is_fast g) ≤ length new

-- The statements, of a detector D that runs. `Alike` says which of its states are the same, "first and release numbers apart".
module _ (D : Detector) (Alike : D.Kept → D.Kept → Type 0) where
  -- whatever calls are made to both of two states after that, refused ones among them, they get the same replies and leave such states
  -- again. This holds of all beginnings of `us` and `vs`, and so after each call
  abbrev pub SameOnwards : Settings → D.Kept → D.Kept → Type 0
  SameOnwards g k l =
      (us vs : List (Made D)) → Follows D k us → Follows D l vs → map (as_read g) (calls_in D us) ≡ map (as_read g) (calls_in D vs)
      → (replies_in D us ≡ replies_in D vs) × Alike (kept_after D k us) (kept_after D l vs)

  -- 1. "A detector begun afresh at a later frame .. is .. in the same state as one that never stopped."
  abbrev pub Meeting : Type 0
  Meeting =
      (g : Settings) (d : ℕ) (old new : History D g) → Restart g d (accepted_calls old) (accepted_calls new)
      → Alike (last_kept old) (last_kept new)

  -- 2. "So every later decision, score and refusal is the same."
  abbrev pub StayMet : Type 0
  StayMet =
      (g : Settings) (d : ℕ) (old new : History D g) → Restart g d (accepted_calls old) (accepted_calls new)
      → SameOnwards g (last_kept old) (last_kept new)

-- 3. A fresh detector that is given the old one's accepted calls again, from any of them on, accepts them all, where these sets are full.
abbrev pub Acceptance : Detector → Type 0
Acceptance D =
    (g : Settings) (d : ℕ) (old new : History D g) → FullSets (drop d (accepted_calls old))
    → map (as_read g) (drop d (accepted_calls old)) ≡ map (as_read g) (calls_in D new.made) → accepted_calls new ≡ calls_in D new.made

pub record Demand3 (D : Detector) (Alike : D.Kept → D.Kept → Type 0) : Type 0 where
  pub meeting : Meeting D Alike
  pub stay_met : StayMet D Alike
  pub acceptance : Acceptance D

-- the states that are the same, where they are handed on by value; for lent places it is `SamePlaces`
abbrev pub SameState : State → State → Type 0
SameState s t = compared (view s) ≡ compared (view t)

-- What is proved: of the detector by value, of the one over lent places, and of the functions for C.
pub record Proved : Type 0 where
  pub value : Demand3 by_value SameState
  pub places : Demand3 by_places SamePlaces
  pub for_c : Demand3 in_c SamePlaces
