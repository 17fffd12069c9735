-- Demand 3, of the three detectors that run: the state by value, the lent places, and the functions for C. Each keeps to the definitions,
-- so a history leaves what its accepted calls leave, and accepted calls meet (Meets.antt). The statements stand in specs/Meeting.antt.
-- Assumes nothing.
use mathlib.Core.Path.{◌≡◌, sym, ◌∙◌, ap}
use mathlib.Core.Bool.{true, false}
use mathlib.Core.List.{List}
use Prim.Native.Nat.{ℕ, ◌≤◌}
use native.Mathlib.Omega.{arith}
use lib.ListN.{drop}
use Rattle.settings.specs.declared.Settings.{Settings}
use Rattle.state.specs.State.{View, Call, view}
use Rattle.detector.specs.declared.Stepped.{Stepped}
use Rattle.detector.specs.Fresh.{fresh_view}
use Rattle.detector.specs.Step.{is_refused, step_answer, outcome}
use Rattle.detector.specs.Runs.{state_after, all_accepted, compared, run_of}
use Rattle.detector.specs.Histories.{Detector, kept_after, accepted_in, History, by_value}
use Rattle.detector.proofs.Account.{settings_after, code_after}
use Rattle.detector.proofs.Histories.{Shows, sound_after, value_shows}
use Rattle.lent.specs.Histories.{by_places, SamePlaces}
use Rattle.lent.proofs.Histories.{places_show, same_places}
use Rattle.brinepulley.specs.Histories.{in_c}
use Rattle.brinepulley.proofs.Histories.{c_shows}
use Rattle.meeting.specs.Calls.{full_set}
use Rattle.meeting.specs.Meeting.{Restart, Demand3, SameState, Proved}
use Rattle.meeting.proofs.Lists.{all_so}
use Rattle.meeting.proofs.Meets.{calls_meet}
use Rattle.meeting.proofs.Onwards.{left, sound, stay, Met, met_step}
use Rattle.meeting.proofs.Takes.{GoesOn, takes_behind}

-- ---- of any detector that runs

module _ (D : Detector) (S : Shows D) where
  -- the states meet
  met : (g : Settings) (d : ℕ) (old new : History D g) → Restart g d (accepted_in D old.made) (accepted_in D new.made)
      → Met g (S.seen (kept_after D old.begun old.made)) (S.seen (kept_after D new.begun new.made))
  met g d old new r =
      let x = left D S g old in
      let y = left D S g new in
      record {
        one = ap (λ (s : View). s.settings) x.0 ∙ settings_after (fresh_view g) (accepted_in D old.made);
        other = ap (λ (s : View). s.settings) y.0 ∙ settings_after (fresh_view g) (accepted_in D new.made);
        same = ap compared x.0 ∙ calls_meet g d (accepted_in D old.made) (accepted_in D new.made) r x.1 y.1 ∙ sym (ap compared y.0);
      }

  -- all three, where states that show the same but for the two numbers are alike
  demand3 : (Alike : D.Kept → D.Kept → Type 0)
      → ((k l : D.Kept) → S.Sound k → S.Sound l → compared (S.seen k) ≡ compared (S.seen l) → Alike k l) → Demand3 D Alike
  demand3 Alike alike = record {
    meeting = λ g d old new r. alike _ _ (sound D S g old) (sound D S g new) (met g d old new r).same;
    stay_met = λ g d old new r us vs f h same.
        let w = stay D S g (Met g) (met_step g) _ _ us vs (sound D S g old) (sound D S g new) (met g d old new r) f h same in
        (w.0, alike _ _ (sound_after D S _ us (sound D S g old) f) (sound_after D S _ vs (sound D S g new) h) w.1.same);
    acceptance = λ g d old new full same.
        takes_behind D S g (accepted_in D old.made) d new (left D S g old).1
        (all_so (λ (c : Call). full_set ≤ c.set_length) (GoesOn g) (λ c h one none. omega arith) (drop d (accepted_in D old.made)) full) same;
  }

-- ---- the detector whose state is handed on by value

pub value_demand3 : Demand3 by_value SameState
value_demand3 = demand3 by_value value_shows SameState (λ s t p q e. e)

-- ---- the detector over lent places, and the functions for C

pub places_demand3 : Demand3 by_places SamePlaces
places_demand3 = demand3 by_places places_show SamePlaces same_places

pub c_demand3 : Demand3 in_c SamePlaces
c_demand3 = demand3 in_c c_shows SamePlaces same_places

pub proved : Proved
proved = record { value = value_demand3; places = places_demand3; for_c = c_demand3 }

-- ---- the code's run: its contract says that `outcome r` is `run_of` of what stood before and the calls that it makes

abbrev Ran : Settings → List Call → Stepped → Stepped → Type 0
Ran g cs before r =
    (view before.state ≡ fresh_view g) × (is_refused (step_answer before.answer) ≡ false) × (outcome r ≡ run_of (outcome before) cs)
    × (all_accepted (fresh_view g) cs ≡ true)

ran : (g : Settings) (cs : List Call) (before r : Stepped) → Ran g cs before r → view r.state ≡ state_after (fresh_view g) cs
ran g cs before r w = code_after before r cs w.2 w.1 (rw w.0 w.3) ∙ ap (λ (s : View). state_after s cs) w.0

pub run_meets : (g : Settings) (d : ℕ) (old new : List Call) (before r before' r' : Stepped) → Ran g old before r → Ran g new before' r'
    → Restart g d old new → SameState r.state r'.state
run_meets g d old new before r before' r' w u s =
    ap compared (ran g old before r w) ∙ calls_meet g d old new s w.3 u.3 ∙ sym (ap compared (ran g new before' r' u))
