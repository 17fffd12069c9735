-- Demand 3. Each deque is the first ten entries of the closed form of what its calls scored; these depend on the newest fifteen pairs
-- alone, ten in Fast mode, and both detectors have scored those. The statements stand in specs/Meeting.antt.
-- Assumes nothing.
use mathlib.Core.Path.{◌≡◌, refl, sym, ◌∙◌, ap}
use mathlib.Core.Bool.{Bool, true, false}
use mathlib.Core.List.{List, [], ◌∷◌, ◌++◌, map, nil≢cons, head-eq_of_cons-eq, tail-eq_of_cons-eq}
use Prim.Native.Nat.{ℕ, zero, suc, ◌+◌, ◌≤◌}
use native.Mathlib.Omega.{arith}
use lib.ListN.{length, take, drop, take-append-drop, length-take}
use lib.Seq.{drop-drop}
use Rattle.settings.specs.declared.Settings.{Settings}
use Rattle.settings.specs.Settings.{normal_lookahead, is_none, is_fast, fast_threshold}
use Rattle.state.specs.State.{Call}
use Rattle.detector.specs.Fresh.{fresh_view}
use Rattle.detector.specs.Runs.{state_after, all_accepted, compared}
use Rattle.detector.proofs.Account.{after_parts, accepted_parts, settings_after}
use Rattle.meeting.specs.Calls.{as_read, Agree, All, OneMeasurement, full_set, FullSets}
use Rattle.meeting.specs.Meeting.{calls_to_meet, Restart}
use Rattle.meeting.proofs.Lists.{same_take, same_drop, drop_taken, all_parts, all_so, all_both}
use Rattle.meeting.proofs.ClosedForm.{span, keeps, Item, item_at, first_items, scored_then, last_call, closed_entries_of, closed_deque, state_with}
use Rattle.meeting.proofs.Closed.{pairs_needed, local}
use Rattle.meeting.proofs.AsRead.{same_item, same_scored, same_last, same_after, same_full, same_agree}
use Rattle.meeting.proofs.Settle.{calls_closed}
use Rattle.meeting.proofs.Newest.{scored_parts, scored_front, scored_long, take_behind, InTurn, run_turn, Agreed, agreed, newest_same}

-- ---- the states meet

-- after so many calls the pairs that ten entries depend on are scored
enough : (fast : Bool) (j : ℕ) → calls_to_meet fast ≤ suc j → pairs_needed fast keeps ≤ j + suc span
enough true j h = omega arith
enough false j h = omega arith

some_calls : (fast : Bool) → calls_to_meet fast ≤ 0 → ⊥
some_calls true h = omega arith
some_calls false h = omega arith

-- deques whose newest pairs are the same are the same
same_deque : (g : Settings) (x y : List Item) → let m = pairs_needed (is_fast g) keeps in take m x ≡ take m y → closed_deque g x ≡ closed_deque g y
same_deque g x y e =
    let fast = is_fast g in
    let level = fast_threshold g in
    let m = pairs_needed fast keeps in
    let all : pairs_needed fast keeps ≤ m = omega arith in
    sym (local level fast keeps m [] x all) ∙ ap (λ (l : List Item). take keeps (closed_entries_of fast level [] l)) e ∙ local level fast keeps m [] y all

last_parts : (x : Call) (xs : List Call) (y : Call) (ys : List Call) → last_call x (xs ++ (y ∷ ys)) ≡ last_call y ys
last_parts x [] y ys = refl
last_parts x (c ∷ xs) y ys = last_parts c xs y ys

turn_parts : (x : Call) (xs : List Call) (y : Call) (ys : List Call) → InTurn x (xs ++ (y ∷ ys)) → InTurn x xs × (y.number ≡ suc (last_call x xs).number)
turn_parts x [] y ys t = (tt, t.0.0)
turn_parts x (c ∷ xs) y ys t =
    let r = turn_parts c xs y ys t.1 in
    ((t.0, r.0), r.1)

-- the old one's calls x, xs, y, ys, and the fresh one's z, zs, which begins as the old one comes to y
module _ (g : Settings) (mode : is_none g ≡ false) (x y z : Call) (xs ys zs : List Call) (first : as_read g y ≡ as_read g z)
    (further : map (as_read g) ys ≡ map (as_read g) zs)
  where
    abbrev old_pairs : List Item
    old_pairs = scored_then g (first_items g x (suc span)) (xs ++ (y ∷ ys))

    abbrev new_pairs : List Item
    new_pairs = scored_then g (first_items g z (suc span)) zs

    pairs_meet : InTurn x (xs ++ (y ∷ ys)) → All (λ (c : Call). Agreed g c z) (x ∷ xs)
        → calls_to_meet (is_fast g) ≤ length (z ∷ zs)
        → let m = pairs_needed (is_fast g) keeps in take m old_pairs ≡ take m new_pairs
    unfolding scored_then first_items
    pairs_meet t agree h =
        let m = pairs_needed (is_fast g) keeps in
        let past = scored_then g (first_items g x (suc span)) xs in
        let front = scored_then g [] zs in
        let p = turn_parts x xs y ys t in
        let next : z.number ≡ suc (last_call x xs).number = ap (λ (c : Call). c.number) (sym first) ∙ p.1 in
        let five : take span past ≡ first_items g z span = newest_same g z x xs p.0 agree next in
        let six : take (suc span) (item_at g y span ∷ past) ≡ take (suc span) (first_items g z (suc span))
        = rw (same_item g mode y z span first, five) in
        let long : m ≤ length front + suc span = omega (arith, scored_long g [] zs, enough (is_fast g) (length zs) h) in
        let old : old_pairs ≡ front ++ (item_at g y span ∷ past)
        = scored_parts g (first_items g x (suc span)) xs (y ∷ ys)
        ∙ scored_front g (item_at g y span ∷ past) ys
        ∙ ap (λ (l : List Item). l ++ (item_at g y span ∷ past)) (same_scored g mode [] ys zs further) in
        let new : new_pairs ≡ front ++ first_items g z (suc span) = scored_front g (first_items g z (suc span)) zs in
        ap (take m) old ∙ take_behind m (suc span) front (item_at g y span ∷ past) (first_items g z (suc span)) long six ∙ sym (ap (take m) new)

    states_meet : normal_lookahead ≤ g.lookahead_distance
        → (old : List Call) → old ≡ xs ++ (y ∷ ys)
        → all_accepted (fresh_view g) (x ∷ old) ≡ true → all_accepted (fresh_view g) (z ∷ zs) ≡ true
        → All (λ (c : Call). Agreed g c z) (x ∷ old) → FullSets (x ∷ old) → FullSets (z ∷ zs) → calls_to_meet (is_fast g) ≤ length (z ∷ zs)
        → compared (state_after (fresh_view g) (x ∷ old)) ≡ compared (state_after (fresh_view g) (z ∷ zs))
    states_meet ahead old split t u agree full sizes h =
        let accepted = rw split at t in
        let turn = run_turn g x (xs ++ (y ∷ ys)) accepted in
        let before = (all_parts (λ (c : Call). Agreed g c z) (x ∷ xs) (y ∷ ys) (rw split at agree)).0 in
        let deques : closed_deque g old_pairs ≡ closed_deque g new_pairs = same_deque g old_pairs new_pairs (pairs_meet turn before h) in
        let calls : as_read g (last_call x (xs ++ (y ∷ ys))) ≡ as_read g (last_call z zs)
        = ap (as_read g) (last_parts x xs y ys) ∙ same_last g y z ys zs first further in
        rw split (calls_closed g mode ahead x (xs ++ (y ∷ ys)) accepted (rw split at full))
        ∙ ap (state_with g (last_call x (xs ++ (y ∷ ys)))) deques
        ∙ ap (λ (c : Call). state_with g c (closed_deque g new_pairs)) calls
        ∙ sym (calls_closed g mode ahead z zs u sizes)

-- of calls that are full, each pair measured once, and no more than are needed
first_meet : (g : Settings) (d : ℕ) (old new : List Call) → is_none g ≡ false → normal_lookahead ≤ g.lookahead_distance
    → OneMeasurement g old → FullSets old → map (as_read g) (drop d old) ≡ map (as_read g) new → calls_to_meet (is_fast g) ≤ length new
    → all_accepted (fresh_view g) old ≡ true → all_accepted (fresh_view g) new ≡ true
    → compared (state_after (fresh_view g) old) ≡ compared (state_after (fresh_view g) new)
first_meet g zero old new mode ahead one full same h t u = same_after g (fresh_view g) (fresh_view g) old new refl refl refl same
first_meet g (suc d) old [] mode ahead one full same h t u = absurd (some_calls (is_fast g) h)
first_meet g (suc d) [] (z ∷ zs) mode ahead one full same h t u = absurd (nil≢cons same)
first_meet g (suc d) (x ∷ old) (z ∷ zs) mode ahead one full same h t u = by (drop d old) refl
  where
    by : (after : List Call) → drop d old ≡ after → compared (state_after (fresh_view g) (x ∷ old)) ≡ compared (state_after (fresh_view g) (z ∷ zs))
    by [] e = absurd (nil≢cons (sym (ap (map (as_read g)) e) ∙ same))
    by (y ∷ ys) e =
        let equal = sym (ap (map (as_read g)) e) ∙ same in
        let split : old ≡ take d old ++ (y ∷ ys) = sym (take-append-drop d old) ∙ ap (λ (l : List Call). take d old ++ l) e in
        let sizes = (all_parts (λ (c : Call). full_set ≤ c.set_length) (x ∷ take d old) (y ∷ ys) (rw split at full)).1 in
        let again = same_full g (y ∷ ys) (z ∷ zs) equal sizes in
        let agree : All (λ (c : Call). Agreed g c z) (x ∷ old)
        = all_so (λ (c : Call). All (Agree g c) (x ∷ old) × (full_set ≤ c.set_length)) (λ (c : Call). Agreed g c z)
        (λ c a. agreed g c z a.1 again.0
        (same_agree g c y z mode (head-eq_of_cons-eq equal) (all_parts (Agree g c) (x ∷ take d old) (y ∷ ys) (rw split at a.0)).1.0))
        (x ∷ old) (all_both (λ (c : Call). All (Agree g c) (x ∷ old)) (λ (c : Call). full_set ≤ c.set_length) (x ∷ old) one full) in
        states_meet g mode x y z (take d old) ys zs (head-eq_of_cons-eq equal) (tail-eq_of_cons-eq equal) ahead old split t u agree full again h

-- of any accepted calls: they meet after the first of them, and stay so
pub calls_meet : (g : Settings) (d : ℕ) (old new : List Call) → Restart g d old new
    → all_accepted (fresh_view g) old ≡ true → all_accepted (fresh_view g) new ≡ true
    → compared (state_after (fresh_view g) old) ≡ compared (state_after (fresh_view g) new)
calls_meet g d old new r t u =
    let n = calls_to_meet (is_fast g) in
    let first = take (d + n) old in
    let again = take n new in
    let old-is : old ≡ first ++ drop (d + n) old = sym (take-append-drop (d + n) old) in
    let new_is : new ≡ again ++ drop n new = sym (take-append-drop n new) in
    let equal : map (as_read g) (drop d first) ≡ map (as_read g) again
    = ap (map (as_read g)) (drop_taken d n old) ∙ same_take (as_read g) n (drop d old) new r.same in
    let further : map (as_read g) (drop (d + n) old) ≡ map (as_read g) (drop n new)
    = ap (map (as_read g)) (sym (drop-drop n d old)) ∙ same_drop (as_read g) n (drop d old) new r.same in
    let long : n ≤ length again = omega (arith, length-take n new, r.enough) in
    let both = accepted_parts (fresh_view g) first (drop (d + n) old) (rw old-is at t) in
    let other = accepted_parts (fresh_view g) again (drop n new) (rw new_is at u) in
    let met = first_meet g d first again r.mode r.lookahead r.measured r.full equal long both.0 other.0 in
    ap (λ (l : List Call). compared (state_after (fresh_view g) l)) old-is
    ∙ ap compared (after_parts (fresh_view g) first (drop (d + n) old))
    ∙ same_after g (state_after (fresh_view g) first) (state_after (fresh_view g) again) (drop (d + n) old) (drop n new)
    (settings_after (fresh_view g) first) (settings_after (fresh_view g) again) met further
    ∙ sym (ap compared (after_parts (fresh_view g) again (drop n new)))
    ∙ sym (ap (λ (l : List Call). compared (state_after (fresh_view g) l)) new_is)
