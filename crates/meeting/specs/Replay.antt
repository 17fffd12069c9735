-- Document 02, L2: "take a Standard run from a fresh detector with one measurement per pair. A fresh detector given the run's accepted
-- calls again, from the call numbered one above the release number to the last, ends in the run's state, the first number apart." It is
-- stated of every mode, of any lookahead, and of a fresh detector that begins earlier than it must. And what the recorder needs of it: a
-- frame that was purged is never looked at again, and the release number never falls. What a history is: `detector`, specs/Histories.antt.
-- The proof: proofs/Replay.antt.
use Rattle.std.specs.Prelude.{◌≡◌, false, cond, List, [], ◌∷◌, ◌++◌, map, ℕ, suc, ◌+◌, ◌≤◌, leb}
use Rattle.settings.specs.declared.Settings.{Settings}
use Rattle.settings.specs.Settings.{is_none}
use Rattle.state.specs.State.{Call}
use Rattle.state.specs.declared.State.{State}
use Rattle.detector.specs.Histories.{Detector, Made, Follows, kept_after, calls_in, accepted_in, History, last_kept, accepted_calls, by_value}
use Rattle.lent.specs.Places.{release_place}
use Rattle.lent.specs.Histories.{by_places, number_at, SamePlaces}
use Rattle.brinepulley.specs.Histories.{in_c}
use Rattle.meeting.specs.Calls.{as_read, All, OneMeasurement}
use Rattle.meeting.specs.Meeting.{SameOnwards, SameState}

-- the calls numbered n or above
abbrev pub calls_from : ℕ → List Call → List Call
calls_from n [] = []
calls_from n (c ∷ cs) = cond (leb n c.number) (c ∷ calls_from n cs) (calls_from n cs)

-- "the call numbered one above the release number"
abbrev pub first_again : ℕ → ℕ
first_again release = suc release

-- The hypotheses. `old` are the accepted calls of a run with settings g, of any set lengths and keyframes, and `release` is its release
-- number at the end; `new` are the accepted calls of a fresh detector with these settings.
pub record Again (g : Settings) (release : ℕ) (old new : List Call) : Type 0 where
  -- "from the call numbered one above the release number", or from any before it
  pub from : ℕ
  pub early : from ≤ first_again release
  -- "given the run's accepted calls again .. to the last"
  pub same : map (as_read g) (calls_from from old) ≡ map (as_read g) new
  -- "with one measurement per pair"; None mode reads none
  pub measured : is_none g ≡ false → OneMeasurement g old

-- the frames of a call's set, n − 1 to n + L − 2: "n is the number of the set's second frame". The detector sees none of them: who
-- measures the lists looks at them
abbrev pub LooksAt : Call → ℕ → Type 0
LooksAt c f = (c.number ≤ f + 1) × (f + 2 ≤ c.number + c.set_length)

-- The statements, of a detector D that runs. `Alike` says which of its states are the same, "first and release numbers apart"; `release`
-- reads the release number.
module _ (D : Detector) (Alike : D.Kept → D.Kept → Type 0) (release : D.Kept → ℕ) where
  -- "the run's state, the first number apart"
  abbrev pub SameButFirst : D.Kept → D.Kept → Type 0
  SameButFirst k l = Alike k l × (release k ≡ release l)

  -- 1. "A fresh detector given the run's accepted calls again .. ends in the run's state."
  abbrev pub Replayed : Type 0
  Replayed =
      (g : Settings) (old new : History D g) → Again g (release (last_kept old)) (accepted_calls old) (accepted_calls new)
      → SameButFirst (last_kept old) (last_kept new)

  -- 2. So every later decision, score and refusal is the same, and every later release number.
  abbrev pub StayReplayed : Type 0
  StayReplayed =
      (g : Settings) (old new : History D g) → Again g (release (last_kept old)) (accepted_calls old) (accepted_calls new)
      → SameOnwards D SameButFirst g (last_kept old) (last_kept new)

module _ (D : Detector) (release : D.Kept → ℕ) where
  -- 3. The fresh detector accepts all these calls.
  abbrev pub AcceptedAgain : Type 0
  AcceptedAgain =
      (g : Settings) (from : ℕ) (old new : History D g) → from ≤ first_again (release (last_kept old))
      → map (as_read g) (calls_from from (accepted_calls old)) ≡ map (as_read g) (calls_in D new.made) → accepted_calls new ≡ calls_in D new.made

  -- 4. Every frame which those calls, and all that are accepted later, look at is numbered at or above the release number.
  abbrev pub FramesStay : Type 0
  FramesStay =
      (g : Settings) (run : History D g) (later : List (Made D)) → Follows D (last_kept run) later → let r = release (last_kept run) in
      All (λ (c : Call). (f : ℕ) → LooksAt c f → r ≤ f) (calls_from (first_again r) (accepted_calls run) ++ accepted_in D later)

  -- 5. The release number never falls.
  abbrev pub NeverFalls : Type 0
  NeverFalls =
      (g : Settings) (run : History D g) (later : List (Made D)) → Follows D (last_kept run) later
      → release (last_kept run) ≤ release (kept_after D (last_kept run) later)

pub record Replay (D : Detector) (Alike : D.Kept → D.Kept → Type 0) (release : D.Kept → ℕ) : Type 0 where
  pub replayed : Replayed D Alike release
  pub stay_replayed : StayReplayed D Alike release
  pub accepted_again : AcceptedAgain D release
  pub frames_stay : FramesStay D release
  pub never_falls : NeverFalls D release

-- What is proved: of the detector by value, of the one over lent places, and of the functions for C.
pub record ReplayProved : Type 0 where
  pub value : Replay by_value SameState (λ (s : State). s.release_number)
  pub places : Replay by_places SamePlaces (number_at release_place)
  pub for_c : Replay in_c SamePlaces (number_at release_place)
