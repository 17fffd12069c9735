-- The state after accepted calls in closed form: rules 4, 5 and 7 keep the first ten entries of the pairs that were scored, call by call.
-- Assumes nothing.
use mathlib.Core.Path.{◌≡◌, refl, sym, ◌∙◌, ap}
use mathlib.Core.Bool.{Bool, true, false}
use mathlib.Core.List.{List, [], ◌∷◌}
use Prim.Native.Nat.{ℕ, zero, suc, ◌+◌, ◌≤◌, ◌<◌}
use native.Mathlib.Omega.{arith}
use lib.Dec.{eqb, ltb, leb}
use lib.ListN.{length, take, length-take}
use lib.Seq.{take-take}
use lib.Ieee.{Float}
use borrow.Author.Tests.{lt-ltb, le-leb, ne_eqb, eqb-true}
use Rattle.settings.specs.declared.Settings.{Settings}
use Rattle.settings.specs.Settings.{normal_lookahead, lookahead_offset, is_none, is_fast, fast_threshold}
use Rattle.score.specs.declared.ScenecutResult.{ScenecutResult}
use Rattle.score.specs.Scores.{score_of}
use Rattle.state.specs.State.{View, Call}
use Rattle.state.specs.Refusals.{step_fault}
use Rattle.state.proofs.Tests.{and_both}
use Rattle.detector.specs.Rules.{Turn, items_of, rule4, rule5}
use Rattle.detector.specs.Step.{item_in, progress_of, step_of}
use Rattle.detector.specs.Runs.{compared, state_after, all_accepted}
use Rattle.detector.specs.Fresh.{fresh_view}
use Rattle.detector.proofs.Cases.{step_scored}
use Rattle.detector.proofs.Views.{fault_blind, step_blind}
use Rattle.meeting.specs.Calls.{full_set, FullSets}
use Rattle.meeting.proofs.ClosedForm.{span, keeps, Item, item_at, first_items, scored_then, last_call, closed_entries_of, closed_deque, state_with}
use Rattle.meeting.proofs.Closed.{score_entries, score_take, entries_long, first_long, trim}

module _ (g : Settings) (mode : is_none g ≡ false) (lookahead : normal_lookahead ≤ g.lookahead_distance) where
  abbrev fast : Bool
  fast = is_fast g

  abbrev level : Float
  level = fast_threshold g

  abbrev entries_of : List Item → List ScenecutResult
  entries_of past = closed_entries_of fast level [] past

  ahead : leb normal_lookahead g.lookahead_distance ≡ true
  ahead = le-leb normal_lookahead g.lookahead_distance lookahead

  offset : lookahead_offset g ≡ span
  offset = rw ahead

  -- rule 4's first half
  items : (c : Call) (k : ℕ) → items_of fast level span c.number (item_in g c) k [] ≡ entries_of (first_items g c k)
  unfolding first_items
  items c zero = refl
  items c (suc k) = rw (items c k) (score_entries level fast (item_at g c k) (first_items g c k))

  abbrev turn_with : List ScenecutResult → Turn
  turn_with l = record { entries = l; offset = span; again = false }

  module _ (c : Call) (h : full_set ≤ c.set_length) where
    longer : ltb (span + 1) c.set_length ≡ true
    longer = lt-ltb (span + 1) c.set_length (omega arith)

    -- rule 5 scores pair n + 5
    rule5_scores : (l : List ScenecutResult)
        → rule5 g c.set_length c.number (item_in g c) (turn_with l) ≡ turn_with (score_of fast level span (c.number + span) (item_in g c span) l)
    rule5_scores l = rw longer

    -- the first call scores six pairs
    first_turn : progress_of (fresh_view g) c ≡ turn_with (entries_of (first_items g c (suc span)))
    unfolding first_items
    first_turn =
        let four : rule4 g c.set_length c.number (item_in g c) span [] ≡ turn_with (entries_of (first_items g c span)) = rw (longer, items c span) in
        rw (ahead, four, rule5_scores (entries_of (first_items g c span)), score_entries level fast (item_at g c span) (first_items g c span))

    begun : step_fault (fresh_view g) c ≡ 0 → compared (step_of (fresh_view g) c).state ≡ state_with g c (closed_deque g (first_items g c (suc span)))
    begun r =
        let now = entries_of (first_items g c (suc span)) in
        let few : length now ≤ suc keeps = omega (arith, entries_long level fast [] (first_items g c (suc span)), first_long g c (suc span)) in
        rw (step_scored (fresh_view g) c r (rw offset (omega arith)) mode, first_turn, ahead) (ap (state_with g c) (trim keeps now few))

    -- each further call scores one
    next_turn : (b : Call) (l : List ScenecutResult) → (length l ≡ 0 → ⊥)
        → progress_of (state_with g b l) c ≡ turn_with (score_of fast level span (c.number + span) (item_in g c span) l)
    next_turn b l some = rw (ne_eqb (length l) 0 some) (rule5_scores l)

    went : (b : Call) (past : List Item) → 0 < length past → step_fault (state_with g b (closed_deque g past)) c ≡ 0
        → compared (step_of (state_with g b (closed_deque g past)) c).state ≡ state_with g c (closed_deque g (item_at g c span ∷ past))
    went b past some r =
        let was = entries_of past in
        let now = entries_of (item_at g c span ∷ past) in
        let long : length was ≡ length past = entries_long level fast [] past in
        let e : score_of fast level span (c.number + span) (item_in g c span) (take keeps was) ≡ take (suc keeps) now
        = score_take level fast (c.number + span) (item_in g c span) keeps was (omega arith)
        ∙ ap (take (suc keeps)) (score_entries level fast (item_at g c span) past) in
        let few : length (take (suc keeps) now) ≤ suc keeps = omega (arith, length-take (suc keeps) now) in
        rw (
          step_scored (state_with g b (take keeps was)) c r (rw offset (omega arith)) mode,
          next_turn b (take keeps was) (λ z. omega (arith, length-take keeps was)),
          e,
          ahead,
        ) (ap (state_with g c) (trim keeps (take (suc keeps) now) few ∙ take-take keeps (suc keeps) now (omega arith)))

  -- further calls, from a state in closed form on
  then_closed : (s : View) (b : Call) (past : List Item) (cs : List Call) → compared s ≡ state_with g b (closed_deque g past) → 0 < length past
      → all_accepted s cs ≡ true → FullSets cs
      → compared (state_after s cs) ≡ state_with g (last_call b cs) (closed_deque g (scored_then g past cs))
  unfolding all_accepted state_after scored_then
  then_closed s b past [] e some t full = e
  then_closed s b past (c ∷ cs) e some t full =
      let u = and_both (eqb (step_fault s c) 0) _ t in
      let r : step_fault (state_with g b (closed_deque g past)) c ≡ 0
      = ap (λ (v : View). step_fault v c) (sym e) ∙ fault_blind s c 0 0 ∙ eqb-true _ _ u.0 in
      let next : compared (step_of s c).state ≡ state_with g c (closed_deque g (item_at g c span ∷ past))
      = sym (step_blind s c 0 0).1 ∙ ap (λ (v : View). compared (step_of v c).state) e ∙ went c full.0 b past some r in
      then_closed (step_of s c).state c (item_at g c span ∷ past) cs next (omega arith) u.1 full.1

  -- the state of a detector after one call or more
  pub calls_closed : (c : Call) (cs : List Call) → all_accepted (fresh_view g) (c ∷ cs) ≡ true → FullSets (c ∷ cs)
      → compared (state_after (fresh_view g) (c ∷ cs)) ≡ state_with g (last_call c cs) (closed_deque g (scored_then g (first_items g c (suc span)) cs))
  unfolding all_accepted state_after
  calls_closed c cs t full =
      let u = and_both (eqb (step_fault (fresh_view g) c) 0) _ t in
      let next = begun c full.0 (eqb-true _ _ u.0) in
      then_closed (step_of (fresh_view g) c).state c (first_items g c (suc span)) cs next (omega (arith, first_long g c (suc span))) u.1 full.1
