-- Every hypothesis of specs/Replay.antt holds of two histories, in each mode and of each of the three detectors: computed, call by call. In
-- Standard mode and in Fast the run has twelve sets of seven frames, a set of two, and refused calls strewn in. Its release number is 2,
-- and the fresh one begins with call 3, after a refused call. In None mode it is 0, and the fresh one begins with call 1. Lists that are
-- not read differ.
-- Assumes nothing.
use mathlib.Core.Path.{◌≡◌, refl, sym, ◌∙◌, ap}
use mathlib.Core.Bool.{true, true≢false}
use mathlib.Core.List.{List, [], ◌∷◌}
use Prim.Native.Nat.{ℕ, zero, suc, ◌+◌, ◌-◌, ◌<◌}
use native.Mathlib.Omega.{arith}
use lib.ListN.{drop}
use lib.Ieee.{Float, nan, of_bits, of_int, sub, mul, div, lt, le, eq}
use Rattle.answer.specs.Refusal.{◌or_else◌}
use Rattle.answer.specs.Answer.{answered}
use Rattle.sums.specs.Table.{table}
use Rattle.plane.specs.Planes.{bad_side, depth_fault}
use Rattle.scale.specs.Scale.{size_fault, factor_by, scale_of}
use Rattle.settings.specs.declared.Settings.{Settings}
use Rattle.settings.specs.Settings.{is_scaled, fast_threshold, settings_fault}
use Rattle.score.specs.Search.{any_of, count_of}
use Rattle.score.specs.Scores.{walk_back, backward_of}
use Rattle.state.specs.State.{View, Call, call}
use Rattle.state.specs.declared.State.{State}
use Rattle.state.specs.Refusals.{state_fault, number_fault, length_fault, stop_fault, lists_fault, step_fault}
use Rattle.detector.specs.Fresh.{fresh_view}
use Rattle.detector.specs.Step.{accepted_of, step_of}
use Rattle.detector.specs.Runs.{state_after}
use Rattle.detector.specs.Histories.{Detector, last_kept, by_value}
use Rattle.detector.proofs.Histories.{Shows, value_shows}
use Rattle.detector.proofs.Makes.{Makes, accepted_among, history_of, history_accepted, state_by, fresh_begins, value_makes}
use Rattle.lent.specs.Places.{release_place, is_state}
use Rattle.lent.specs.Lent.{fresh_fault}
use Rattle.lent.specs.Histories.{by_places, number_at, SamePlaces}
use Rattle.lent.proofs.Sizes.{fresh_state_lem}
use Rattle.lent.proofs.Histories.{places_show, places_make, places_begin, fresh_places}
use Rattle.brinepulley.specs.Histories.{in_c}
use Rattle.brinepulley.proofs.Histories.{c_shows, c_makes, c_begins}
use Rattle.meeting.specs.Meeting.{SameState}
use Rattle.meeting.specs.Replay.{Again, LooksAt, SameButFirst, Replay}
use Rattle.meeting.proofs.Lists.{all_join}
use Rattle.meeting.proofs.AsRead.{OfFilm, film_agrees}
use Rattle.meeting.proofs.Onwards.{left}
use Rattle.meeting.proofs.Replay.{replay_proved}
use Rattle.meeting.proofs.Witnesses.{whole, cost, successive, short_call, new_accepted, new_calls, old_accepted, old_calls, old_until, old_all, plain_settings, standard, fast, early_standard, late_standard, early_fast, old_fast, new_fast, standard_pairs, fast_pairs, standard_film, fast_film}

-- the last call: a set of two frames of the same film
abbrev last : ℕ → Call
last n = short_call cost whole n

abbrev standard_run : List Call
standard_run = old_accepted early_standard late_standard last 6

abbrev standard_again : List Call
standard_again = new_accepted late_standard last 6

abbrev fast_run : List Call
fast_run = old_accepted early_fast old_fast last 6

abbrev fast_again : List Call
fast_again = new_accepted new_fast last 6

-- None mode, whose number is 0: a first set of seventeen frames is refused, and two sets of seven are accepted, whatever their lists
abbrev none : Settings
none = plain_settings 0

abbrev none_calls : List Float → List Call
none_calls any = call 17 1 0 any any any ∷ call 7 1 0 any any any ∷ call 7 2 1 any any any ∷ []

abbrev none_run : List Float → List Call
none_run any = drop 1 (none_calls any)

-- of the calls that are made these are accepted, and leave this release number
abbrev Ends : Settings → List Call → List Call → ℕ → Type 0
Ends g calls some r = (accepted_among (fresh_view g) calls ≡ some) × ((state_after (fresh_view g) some).release ≡ r)

computed : Ends standard (old_calls early_standard late_standard last 6) standard_run 2
    × Ends standard (new_calls late_standard last 6) standard_again 2
    × Ends fast (old_calls early_fast old_fast last 6) fast_run 2
    × Ends fast (new_calls new_fast last 6) fast_again 2
    × Ends none (none_calls []) (none_run []) 0
    × Ends none (none_calls (nan ∷ [])) (none_run (nan ∷ [])) 0
unfolding
    accepted_among state_after successive table step_of accepted_of step_fault state_fault number_fault length_fault stop_fault lists_fault
    settings_fault size_fault depth_fault bad_side any_of count_of walk_back backward_of is_scaled fast_threshold answered factor_by scale_of ◌or_else◌ of_bits
    of_int sub mul div lt le eq
computed = ((refl, refl), (refl, refl), (refl, refl), (refl, refl), (refl, refl), (refl, refl))

-- ---- each pair has one measurement

standard_last : OfFilm standard standard_pairs (last 13)
standard_last zero h = refl
standard_last (suc k) h = absurd (omega arith)

fast_last : OfFilm fast fast_pairs (last 13)
fast_last zero h = refl
fast_last (suc k) h = absurd (omega arith)

-- ---- every hypothesis

standard_again_lem : (r : ℕ) → r ≡ 2 → Again standard r standard_run standard_again
unfolding successive
standard_again_lem r e = record {
  from = 3;
  early = omega arith;
  same = refl;
  measured = λ mode. film_agrees standard standard_pairs standard_run
      (all_join (OfFilm standard standard_pairs) (old_until early_standard late_standard 6) (last 13 ∷ [])
      (old_all (OfFilm standard standard_pairs) early_standard late_standard 6 (λ n. standard_film n n) (standard_film 0)) (standard_last, tt));
}

fast_again_lem : (r : ℕ) → r ≡ 2 → Again fast r fast_run fast_again
unfolding successive
fast_again_lem r e = record {
  from = 3;
  early = omega arith;
  same = refl;
  measured = λ mode. film_agrees fast fast_pairs fast_run
      (all_join (OfFilm fast fast_pairs) (old_until early_fast old_fast 6) (last 13 ∷ [])
      (old_all (OfFilm fast fast_pairs) early_fast old_fast 6 (λ n. fast_film [] n n) (fast_film [] 0)) (fast_last, tt));
}

none_again : (r : ℕ) → r ≡ 0 → Again none r (none_run []) (none_run (nan ∷ []))
none_again r e = record { from = 1; early = omega arith; same = refl; measured = λ mode. absurd (true≢false mode) }

-- ---- of a detector that runs: its histories of these calls, from a fresh one on, satisfy the hypotheses, so they end in one state

module _ (D : Detector) (S : Shows D) (M : Makes D) (Alike : D.Kept → D.Kept → Type 0) (release : D.Kept → ℕ)
    (reads : (k : D.Kept) → release k ≡ (S.seen k).release)
  where
    abbrev pub Same : (g : Settings) → List Call → List Call → Type 0
    Same g old new =
        (k : D.Kept) (b : D.Begins g k) → SameButFirst D Alike release (last_kept (history_of D M g k b old)) (last_kept (history_of D M g k b new))

    abbrev pub AllSame : Type 0
    AllSame =
        Same standard (old_calls early_standard late_standard last 6) (new_calls late_standard last 6)
        × Same fast (old_calls early_fast old_fast last 6) (new_calls new_fast last 6)
        × Same none (none_calls []) (none_calls (nan ∷ []))

    module _ (p : Replay D Alike release) where
      one_same : (g : Settings) (r : ℕ) (old new run again : List Call) → Ends g old run r → Ends g new again r
          → ((q : ℕ) → q ≡ r → Again g q run again) → Same g old new
      one_same g r old new run again o n a k b =
          let h = history_of D M g k b old in
          let is = history_accepted D M S g k b old ∙ o.0 in
          let number : release (last_kept h) ≡ r
          = reads (last_kept h) ∙ ap (λ (s : View). s.release) (left D S g h).0
          ∙ ap (λ (cs : List Call). (state_after (fresh_view g) cs).release) is ∙ o.1 in
          p.replayed g h (history_of D M g k b new) (rw (is, history_accepted D M S g k b new ∙ n.0) (a _ number))

      all_same : AllSame
      all_same = (
        one_same standard 2 _ _ _ _ computed.0 computed.1 standard_again_lem,
        one_same fast 2 _ _ _ _ computed.2 computed.3 fast_again_lem,
        one_same none 0 _ _ _ _ computed.4 computed.5 none_again,
      )

pub value_same : AllSame by_value value_shows value_makes SameState (λ (s : State). s.release_number) (λ s. refl)
value_same = all_same by_value value_shows value_makes SameState (λ (s : State). s.release_number) (λ s. refl) replay_proved.value

pub places_same : AllSame by_places places_show places_make SamePlaces (number_at release_place) (λ p. refl)
places_same = all_same by_places places_show places_make SamePlaces (number_at release_place) (λ p. refl) replay_proved.places

pub c_same : AllSame in_c c_shows c_makes SamePlaces (number_at release_place) (λ p. refl)
c_same = all_same in_c c_shows c_makes SamePlaces (number_at release_place) (λ p. refl) replay_proved.for_c

-- each of the three has a fresh detector in None mode; Witnesses.antt has them for the other modes
none_fine : settings_fault none ≡ 0
unfolding settings_fault size_fault depth_fault bad_side factor_by scale_of answered ◌or_else◌
none_fine = refl

pub none_begins : (ns : List ℕ) (xs : List Float) → is_state ns xs ≡ true
    → by_value.Begins none (state_by (fresh_view none)) × by_places.Begins none (fresh_places ns xs none) × in_c.Begins none (fresh_places ns xs none)
none_begins ns xs is =
    let fine : 0 ≡ fresh_fault ns xs none = fresh_state_lem ns xs none 0 is (sym none_fine) in
    (fresh_begins none none_fine, places_begin ns xs none fine, c_begins ns xs none fine)

-- ---- the frames that a call looks at are those of its set: no set with a frame is passed over

pub looks_first : (c : Call) → 0 < c.number → 0 < c.set_length → LooksAt c (c.number - 1)
looks_first c n l = (omega arith, omega arith)

pub looks_last : (c : Call) → 0 < c.number → 0 < c.set_length → LooksAt c (c.number + c.set_length - 2)
looks_last c n l = (omega arith, omega arith)
