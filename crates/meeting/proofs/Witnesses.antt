-- Every hypothesis of specs/Meeting.antt holds of two histories with sets of seven frames, in Standard mode and in Fast, of each of the
-- three detectors: computed, call by call. The old one begins two calls earlier, has keyframes of its own until then and refused calls
-- strewn in; so has the fresh one; and in Fast mode their unread lists differ. So no statement asks for more than that. Here and
-- in ReplayWitness.antt definitions of other crates are opened, whatever they are: calls are computed by all of them.
-- Assumes nothing.
use mathlib.Core.Path.{◌≡◌, refl, sym, ◌∙◌}
use mathlib.Core.Bool.{true, ◌||◌, cond}
use mathlib.Core.List.{List, [], ◌∷◌, ◌++◌}
use Prim.Native.Nat.{ℕ, zero, suc, ◌+◌, ◌≤◌}
use native.Mathlib.Omega.{arith}
use lib.Dec.{eqb}
use lib.IntN.{pos}
use lib.Ieee.{Float, binary64, nan, of_bits, of_int, sub, mul, div, lt, le, eq}
use Rattle.answer.specs.Refusal.{◌or_else◌}
use Rattle.answer.specs.Answer.{answered}
use Rattle.sums.specs.Table.{table}
use Rattle.sums.proofs.TableLaws.{table_at}
use Rattle.plane.specs.Planes.{bad_side, depth_fault}
use Rattle.scale.specs.Scale.{size_fault, factor_by, scale_of, mode_fast, mode_standard}
use Rattle.settings.specs.declared.Settings.{Settings}
use Rattle.settings.specs.Settings.{normal_lookahead, is_scaled, fast_threshold, settings_fault}
use Rattle.score.specs.declared.Measure.{Measure}
use Rattle.score.specs.Search.{any_of, count_of}
use Rattle.score.specs.Scores.{zero_f, walk_back, backward_of}
use Rattle.state.specs.State.{Call, call}
use Rattle.state.specs.Refusals.{state_fault, number_fault, length_fault, stop_fault, lists_fault, step_fault}
use Rattle.detector.specs.Fresh.{fresh_view}
use Rattle.detector.specs.Step.{accepted_of, step_of}
use Rattle.detector.specs.Runs.{state_after}
use Rattle.detector.specs.Histories.{Detector, last_kept, accepted_calls, by_value}
use Rattle.detector.proofs.Histories.{Shows, value_shows}
use Rattle.detector.proofs.Makes.{Makes, accepted_among, history_of, history_accepted, state_by, fresh_begins, value_makes}
use Rattle.lent.specs.Places.{is_state}
use Rattle.lent.specs.Lent.{fresh_fault}
use Rattle.lent.specs.Histories.{by_places, SamePlaces}
use Rattle.lent.proofs.Sizes.{fresh_state_lem}
use Rattle.lent.proofs.Histories.{places_show, places_make, places_begin, fresh_places}
use Rattle.brinepulley.specs.Histories.{in_c}
use Rattle.brinepulley.proofs.Histories.{c_shows, c_makes, c_begins}
use Rattle.meeting.specs.Calls.{All, full_set}
use Rattle.meeting.specs.Meeting.{Restart, Demand3, SameState}
use Rattle.meeting.proofs.AsRead.{OfFilm, film_agrees}
use Rattle.meeting.proofs.Demand3.{proved}

-- ---- a film, every pair alike but two, and calls of seven frames over it

abbrev pub whole : ℕ → Float
whole n = of_int binary64 (pos n)

-- inter costs 0 except pairs 1 and 6, which are 1
abbrev pub cost : ℕ → Float
cost q = cond (eqb q 1 || eqb q 6) (whole 1) (whole 0)

abbrev row : (ℕ → Float) → ℕ → List Float
row f n = table 6 (λ (i : ℕ). f (n + i))

-- by the keyframe and the number; Fast does not read `others`
abbrev standard_call : ℕ → ℕ → Call
standard_call p n = call 7 n p (row cost n) (row whole n) (row whole n)

abbrev fast_call : List Float → ℕ → ℕ → Call
fast_call others p n = call 7 n p (row cost n) others others

-- j calls, from call a on
unfoldable pub successive : (ℕ → Call) → ℕ → ℕ → List Call
successive f a zero = []
successive f a (suc j) = f a ∷ successive f (suc a) j

-- ---- two lists of calls with refused ones among them

-- a set of two frames, by what was measured of its pair
abbrev pub short_call : (ℕ → Float) → (ℕ → Float) → ℕ → Call
short_call inter other n = call 2 n 0 (inter n ∷ []) (other n ∷ []) (other n ∷ [])

-- behind the meeting: its pair is measured otherwise
abbrev otherwise : ℕ → Call
otherwise n = short_call (λ (q : ℕ). whole 9) (λ (q : ℕ). whole 9) n

-- from 3 on: 4 + j calls, and a last one behind them
abbrev pub new_accepted : (ℕ → Call) → (ℕ → Call) → ℕ → List Call
new_accepted late last j = successive late 3 (4 + j) ++ (last (7 + j) ∷ [])

-- refused is a set of 17 frames (8)
abbrev pub new_calls : (ℕ → Call) → (ℕ → Call) → ℕ → List Call
new_calls late last j = call 17 3 0 [] [] [] ∷ new_accepted late last j

-- calls 1 and 2, and then the same
abbrev pub old_accepted : (ℕ → Call) → (ℕ → Call) → (ℕ → Call) → ℕ → List Call
old_accepted early late last j = early 1 ∷ early 2 ∷ new_accepted late last j

-- refused are number 0 (7), a longer set (8) and a list that is too short (10)
abbrev pub old_calls : (ℕ → Call) → (ℕ → Call) → (ℕ → Call) → ℕ → List Call
old_calls early late last j =
    late 0 ∷ early 1 ∷ call 8 2 0 [] [] [] ∷ early 2 ∷ (successive late 3 4 ++ (call 7 7 0 [] [] [] ∷ (successive late 7 j ++ (last (7 + j) ∷ []))))

-- the old one's until they meet
abbrev pub old_until : (ℕ → Call) → (ℕ → Call) → ℕ → List Call
old_until early late j = early 1 ∷ early 2 ∷ successive late 3 (4 + j)

abbrev pub plain_settings : ℕ → Settings
plain_settings mode = record {
  width = 64;
  height = 64;
  bit_depth = 8;
  lookahead_distance = normal_lookahead;
  mode = mode;
  min_key_frame_interval = 0;
  max_key_frame_interval = 100;
}

abbrev pub standard : Settings
standard = plain_settings mode_standard

abbrev pub fast : Settings
fast = plain_settings mode_fast

-- each call before the later start has its own number as keyframe, each from then on 0
abbrev pub early_standard : ℕ → Call
early_standard n = standard_call n n

abbrev pub late_standard : ℕ → Call
late_standard n = standard_call 0 n

abbrev pub early_fast : ℕ → Call
early_fast n = fast_call [] n n

abbrev pub old_fast : ℕ → Call
old_fast n = fast_call [] 0 n

abbrev pub new_fast : ℕ → Call
new_fast n = fast_call (nan ∷ []) 0 n

tested : ((accepted_among (fresh_view standard) (old_calls early_standard late_standard otherwise 6) ≡ old_accepted early_standard late_standard otherwise 6)
    × (accepted_among (fresh_view standard) (new_calls late_standard otherwise 6) ≡ new_accepted late_standard otherwise 6))
    × ((accepted_among (fresh_view fast) (old_calls early_fast old_fast otherwise 1) ≡ old_accepted early_fast old_fast otherwise 1)
    × (accepted_among (fresh_view fast) (new_calls new_fast otherwise 1) ≡ new_accepted new_fast otherwise 1))
unfolding
    accepted_among successive table step_of accepted_of step_fault state_fault number_fault length_fault stop_fault lists_fault settings_fault
    size_fault depth_fault bad_side any_of count_of walk_back backward_of is_scaled fast_threshold answered factor_by scale_of ◌or_else◌ of_bits of_int sub mul div
    lt le eq
tested = ((refl, refl), (refl, refl))

-- ---- what is asked of the old one's calls until they meet

from_all : (P : Call → Type 0) (f : ℕ → Call) → ((n : ℕ) → P (f n)) → (a j : ℕ) → All P (successive f a j)
unfolding successive
from_all P f p a zero = tt
from_all P f p a (suc j) = (p a, from_all P f p (suc a) j)

pub old_all : (P : Call → Type 0) (early late : ℕ → Call) (j : ℕ) → ((n : ℕ) → P (early n)) → ((n : ℕ) → P (late n)) → All P (old_until early late j)
old_all P early late j p q = (p 1, (p 2, from_all P late q 3 (4 + j)))

abbrev pub standard_pairs : ℕ → Measure
standard_pairs q = record { inter = cost q; importance = whole q; threshold = whole q }

pub standard_film : (p n : ℕ) → OfFilm standard standard_pairs (standard_call p n)
standard_film p n k h = rw (table_at nan 6 (λ (i : ℕ). cost (n + i)) k (omega arith), table_at nan 6 (λ (i : ℕ). whole (n + i)) k (omega arith))

abbrev pub fast_pairs : ℕ → Measure
fast_pairs q = record { inter = cost q; importance = zero_f; threshold = zero_f }

pub fast_film : (others : List Float) (p n : ℕ) → OfFilm fast fast_pairs (fast_call others p n)
fast_film others p n k h = rw (table_at nan 6 (λ (i : ℕ). cost (n + i)) k (omega arith))

-- ---- every hypothesis

standard_calls : Restart standard 2 (old_accepted early_standard late_standard otherwise 6) (new_accepted late_standard otherwise 6)
unfolding successive
standard_calls = record {
  mode = refl;
  lookahead = omega arith;
  measured = film_agrees standard standard_pairs (old_until early_standard late_standard 6)
      (old_all (OfFilm standard standard_pairs) early_standard late_standard 6 (λ n. standard_film n n) (standard_film 0));
  same = refl;
  full = old_all (λ (c : Call). full_set ≤ c.set_length) early_standard late_standard 6 (λ n. omega arith) (λ n. omega arith);
  enough = omega arith;
}

fast_calls : Restart fast 2 (old_accepted early_fast old_fast otherwise 1) (new_accepted new_fast otherwise 1)
unfolding successive
fast_calls = record {
  mode = refl;
  lookahead = omega arith;
  measured = film_agrees fast fast_pairs (old_until early_fast old_fast 1)
      (old_all (OfFilm fast fast_pairs) early_fast old_fast 1 (λ n. fast_film [] n n) (fast_film [] 0));
  same = refl;
  full = old_all (λ (c : Call). full_set ≤ c.set_length) early_fast old_fast 1 (λ n. omega arith) (λ n. omega arith);
  enough = omega arith;
}

-- ---- of a detector that runs: its histories of these calls, from a fresh one on, satisfy the hypotheses, so they have met

abbrev old_standard : List Call
old_standard = old_calls early_standard late_standard otherwise 6

abbrev new_standard : List Call
new_standard = new_calls late_standard otherwise 6

abbrev old_in_fast : List Call
old_in_fast = old_calls early_fast old_fast otherwise 1

abbrev new_in_fast : List Call
new_in_fast = new_calls new_fast otherwise 1

module _ (D : Detector) (M : Makes D) (Alike : D.Kept → D.Kept → Type 0) where
  -- two histories that begin with k
  abbrev pub Met : (g : Settings) → List Call → List Call → Type 0
  Met g old new = (k : D.Kept) (b : D.Begins g k) → Alike (last_kept (history_of D M g k b old)) (last_kept (history_of D M g k b new))

  abbrev pub BothMet : Type 0
  BothMet = Met standard old_standard new_standard × Met fast old_in_fast new_in_fast

module _ (D : Detector) (S : Shows D) (M : Makes D) where
  pub standard_restart : (k : D.Kept) (b : D.Begins standard k)
      → Restart standard 2 (accepted_calls (history_of D M standard k b old_standard)) (accepted_calls (history_of D M standard k b new_standard))
  standard_restart k b =
      rw (history_accepted D M S standard k b old_standard ∙ tested.0.0, history_accepted D M S standard k b new_standard ∙ tested.0.1) standard_calls

  pub fast_restart : (k : D.Kept) (b : D.Begins fast k)
      → Restart fast 2 (accepted_calls (history_of D M fast k b old_in_fast)) (accepted_calls (history_of D M fast k b new_in_fast))
  fast_restart k b =
      rw (history_accepted D M S fast k b old_in_fast ∙ tested.1.0, history_accepted D M S fast k b new_in_fast ∙ tested.1.1) fast_calls

  both_met : (Alike : D.Kept → D.Kept → Type 0) → Demand3 D Alike → BothMet D M Alike
  both_met Alike p = (
    λ k b. p.meeting standard 2 (history_of D M standard k b old_standard) (history_of D M standard k b new_standard) (standard_restart k b),
    λ k b. p.meeting fast 2 (history_of D M fast k b old_in_fast) (history_of D M fast k b new_in_fast) (fast_restart k b),
  )

pub value_met : BothMet by_value value_makes SameState
value_met = both_met by_value value_shows value_makes SameState proved.value

pub places_met : BothMet by_places places_make SamePlaces
places_met = both_met by_places places_show places_make SamePlaces proved.places

pub c_met : BothMet in_c c_makes SamePlaces
c_met = both_met in_c c_shows c_makes SamePlaces proved.for_c

-- ---- each of the three has a fresh detector of these settings; the lent places held anything of their lengths before

settings_fine : (settings_fault standard ≡ 0) × (settings_fault fast ≡ 0)
unfolding settings_fault size_fault depth_fault bad_side factor_by scale_of answered ◌or_else◌
settings_fine = (refl, refl)

pub value_begins : by_value.Begins standard (state_by (fresh_view standard)) × by_value.Begins fast (state_by (fresh_view fast))
value_begins = (fresh_begins standard settings_fine.0, fresh_begins fast settings_fine.1)

module _ (ns : List ℕ) (xs : List Float) (is : is_state ns xs ≡ true) where
  fine : (0 ≡ fresh_fault ns xs standard) × (0 ≡ fresh_fault ns xs fast)
  fine = (fresh_state_lem ns xs standard 0 is (sym settings_fine.0), fresh_state_lem ns xs fast 0 is (sym settings_fine.1))

  pub places_begins : by_places.Begins standard (fresh_places ns xs standard) × by_places.Begins fast (fresh_places ns xs fast)
  places_begins = (places_begin ns xs standard fine.0, places_begin ns xs fast fine.1)

  pub in_c_begins : in_c.Begins standard (fresh_places ns xs standard) × in_c.Begins fast (fresh_places ns xs fast)
  in_c_begins = (c_begins ns xs standard fine.0, c_begins ns xs fast fine.1)

-- the release number has to be left out: of these two in Fast mode it is 0 and 2
abbrev release_after : List Call → ℕ
release_after cs = (state_after (fresh_view fast) cs).release

pub releases_apart : (release_after (old_accepted early_fast old_fast otherwise 1) ≡ 0) × (release_after (new_accepted new_fast otherwise 1) ≡ 2)
unfolding
    state_after successive table step_of accepted_of step_fault state_fault number_fault length_fault stop_fault lists_fault settings_fault
    size_fault depth_fault bad_side any_of count_of is_scaled fast_threshold answered factor_by scale_of ◌or_else◌ of_bits of_int sub mul div lt le eq
releases_apart = (refl, refl)
