-- The replay theorem, of accepted calls. Those above the release number are the whole run, or they begin with ten full sets: then the two
-- detectors meet (Meets.antt). Their release numbers are the same, since it is counted from the end. The statements stand in
-- specs/Replay.antt.
-- Assumes nothing.
use mathlib.Core.Path.{◌≡◌, refl, sym, ◌∙◌, ap}
use mathlib.Core.Bool.{Bool, true, false}
use mathlib.Core.List.{List, [], ◌∷◌, map, nil≢cons, head-eq_of_cons-eq}
use Prim.Native.Nat.{ℕ, zero, suc, ◌+◌, ◌-◌, ◌≤◌, ◌<◌}
use native.Mathlib.Omega.{arith}
use borrow.Author.Tests.{leb-true, leb-false, le-leb}
use lib.Dec.{leb}
use lib.ListN.{length, take, drop, length-drop, length-map}
use lib.Seq.{drop-nil}
use Rattle.settings.specs.declared.Settings.{Settings}
use Rattle.settings.specs.Settings.{normal_lookahead, is_none, is_fast}
use Rattle.state.specs.State.{Call}
use Rattle.detector.specs.Rules.{release_reach}
use Rattle.detector.specs.Fresh.{fresh_view}
use Rattle.detector.specs.Runs.{state_after, all_accepted, compared}
use Rattle.detector.proofs.Release.{moving, Numbered, numbered}
use Rattle.meeting.specs.Calls.{as_read, Agree, All, OneMeasurement}
use Rattle.meeting.specs.Meeting.{calls_to_meet, Restart}
use Rattle.meeting.specs.Replay.{calls_from, first_again, Again}
use Rattle.meeting.proofs.Lists.{all_so, all_take}
use Rattle.meeting.proofs.AsRead.{same_after}
use Rattle.meeting.proofs.Newest.{InTurn, run_turn}
use Rattle.meeting.proofs.Meets.{calls_meet}
use Rattle.meeting.proofs.Moving.{settings_move, moving_few, first_moves, first_full, moving_drop, same_moving}

-- ---- the calls from a number on, of calls that are numbered one after the other

all_from : (q : ℕ) (b : Call) (cs : List Call) → InTurn b cs → q ≤ b.number → calls_from q cs ≡ cs
all_from q b [] t h = refl
all_from q b (c ∷ cs) t h = rw (le-leb q c.number (omega (arith, t.0.0)), all_from q c cs t.1 (omega (arith, t.0.0)))

one_more : (q : ℕ) (b : Call) (cs : List Call) → InTurn b cs → calls_from q cs ≡ drop (q - suc b.number) cs
    → calls_from q (b ∷ cs) ≡ drop (q - b.number) (b ∷ cs)
one_more q b cs t behind = by (leb q b.number) refl
  where
    by : (x : Bool) → leb q b.number ≡ x → calls_from q (b ∷ cs) ≡ drop (q - b.number) (b ∷ cs)
    by true e =
        let none : q - b.number ≡ 0 = omega (arith, leb-true q b.number e) in
        rw (e, none, all_from q b cs t (leb-true q b.number e))
    by false e =
        let some : q - b.number ≡ suc (q - suc b.number) = omega (arith, leb-false q b.number e) in
        rw (e, some, behind)

from_drop : (q : ℕ) (b : Call) (cs : List Call) → InTurn b cs → calls_from q (b ∷ cs) ≡ drop (q - b.number) (b ∷ cs)
from_drop q b [] t = one_more q b [] t (sym (drop-nil {A = Call} (q - suc b.number)))
from_drop q b (c ∷ cs) t = one_more q b (c ∷ cs) t (from_drop q c cs t.1 ∙ ap (λ (n : ℕ). drop (q - n) (c ∷ cs)) t.0.0)

-- the first of them has that number
number_at_lem : (d : ℕ) (b : Call) (cs : List Call) (y : Call) (ys : List Call) → InTurn b cs → drop d (b ∷ cs) ≡ y ∷ ys → y.number ≡ b.number + d
number_at_lem zero b cs y ys t e = omega (arith, ap (λ (c : Call). c.number) (head-eq_of_cons-eq e))
number_at_lem (suc d) b [] y ys t e = absurd (nil≢cons (sym (drop-nil {A = Call} d) ∙ e))
number_at_lem (suc d) b (c ∷ cs) y ys t e = omega (arith, number_at_lem d c cs y ys t.1 e, t.0.0)

-- the first of some calls, each pair of which has one measurement
one_taken : (g : Settings) (n : ℕ) (cs : List Call) → OneMeasurement g cs → OneMeasurement g (take n cs)
one_taken g n cs one =
    all_so (λ (c : Call). All (Agree g c) cs) (λ (c : Call). All (Agree g c) (take n cs)) (λ c a. all_take (Agree g c) n cs a) (take n cs)
    (all_take (λ (c : Call). All (Agree g c) cs) n cs one)

most_to_meet : (fast : Bool) → calls_to_meet fast ≤ suc release_reach
most_to_meet true = omega arith
most_to_meet false = omega arith

-- ---- a run x, xs, and a fresh detector that is given its calls from q on

module _ (g : Settings) (x : Call) (xs : List Call) (t : all_accepted (fresh_view g) (x ∷ xs) ≡ true) where
  abbrev old : List Call
  old = x ∷ xs

  turn : InTurn x xs
  turn = run_turn g x xs t

  numbers : Numbered g x.number (moving g (x ∷ xs)) (state_after (fresh_view g) (x ∷ xs))
  numbers = numbered g x xs t

  abbrev m : ℕ
  m = moving g old

  -- how many calls it leaves out: as many as there are above ten that move the release number, or fewer
  pub left_out : (q : ℕ) → q ≤ first_again (state_after (fresh_view g) old).release → q - x.number ≤ m - suc release_reach
  left_out q h = omega (arith, numbers.above)

  pub calls_are : (q : ℕ) (ds : List Call) → map (as_read g) (calls_from q old) ≡ map (as_read g) ds
      → map (as_read g) (drop (q - x.number) old) ≡ map (as_read g) ds
  calls_are q ds e = ap (map (as_read g)) (sym (from_drop q x xs turn)) ∙ e

  -- where it leaves some out, the mode scores and the lookahead is five or more
  pub scoring : (d : ℕ) → d ≤ m - suc release_reach → 0 < d → (is_none g ≡ false) × (normal_lookahead ≤ g.lookahead_distance)
  scoring d few some = settings_move g x.set_length (first_moves g x xs turn (omega arith))

  module _ (d : ℕ) (few : d ≤ m - suc release_reach) (z : Call) (zs : List Call) (same : map (as_read g) (drop d old) ≡ map (as_read g) (z ∷ zs)) where
    long : length (drop d old) ≡ length (z ∷ zs)
    long = sym (length-map (drop d old) (as_read g)) ∙ ap length same ∙ length-map (z ∷ zs) (as_read g)

    begins_at : z.number ≡ x.number + d
    begins_at = by (drop d old) refl
      where
        by : (l : List Call) → drop d old ≡ l → z.number ≡ x.number + d
        by [] e = absurd (nil≢cons (ap (map (as_read g)) (sym e) ∙ same))
        by (y ∷ ys) e =
            let number : y.number ≡ z.number = ap (λ (c : Call). c.number) (head-eq_of_cons-eq (ap (map (as_read g)) (sym e) ∙ same)) in
            sym number ∙ number_at_lem d x xs y ys turn e

    same_release : all_accepted (fresh_view g) (z ∷ zs) ≡ true
        → (state_after (fresh_view g) old).release ≡ (state_after (fresh_view g) (z ∷ zs)).release
    same_release u =
        let left = sym (moving_drop g d x xs turn) ∙ same_moving g (drop d old) (z ∷ zs) same in
        omega (arith, numbers.above, (numbered g z zs u).above, begins_at)

    -- where it leaves some out, ten full sets come
    restart : 0 < d → OneMeasurement g old → Restart g d old (z ∷ zs)
    restart some one =
        let n = calls_to_meet (is_fast g) in
        let most = most_to_meet (is_fast g) in
        let set = scoring d few some in
        record {
          mode = set.0;
          lookahead = set.1;
          measured = one_taken g (d + n) old one;
          same = same;
          full = first_full g (d + n) x xs turn (omega arith);
          enough = omega (arith, long, length-drop d old, moving_few g old);
        }

    same_state : (is_none g ≡ false → OneMeasurement g old) → all_accepted (fresh_view g) (z ∷ zs) ≡ true
        → compared (state_after (fresh_view g) old) ≡ compared (state_after (fresh_view g) (z ∷ zs))
    same_state one u = by d refl
      where
        by : (k : ℕ) → d ≡ k → compared (state_after (fresh_view g) old) ≡ compared (state_after (fresh_view g) (z ∷ zs))
        by zero e = same_after g (fresh_view g) (fresh_view g) old (z ∷ zs) refl refl refl (rw e at same)
        by (suc k) e =
            let some : 0 < d = omega arith in
            calls_meet g d old (z ∷ zs) (restart some (one (scoring d few some).0)) t u

  -- it is given some
  given : (d : ℕ) → d ≤ m - suc release_reach → map (as_read g) (drop d old) ≡ [] → ⊥
  given d few e =
      let n = sym (length-map (drop d old) (as_read g)) ∙ ap length e in
      omega (arith, n, length-drop d old, moving_few g old)

pub calls_replay : (g : Settings) (old new : List Call) → Again g (state_after (fresh_view g) old).release old new
    → all_accepted (fresh_view g) old ≡ true → all_accepted (fresh_view g) new ≡ true
    → (compared (state_after (fresh_view g) old) ≡ compared (state_after (fresh_view g) new))
    × ((state_after (fresh_view g) old).release ≡ (state_after (fresh_view g) new).release)
calls_replay g [] [] a t u = (refl, refl)
calls_replay g [] (z ∷ zs) a t u = absurd (nil≢cons a.same)
calls_replay g (x ∷ xs) [] a t u =
    absurd (given g x xs t (a.from - x.number) (left_out g x xs t a.from a.early) (calls_are g x xs t a.from [] a.same))
calls_replay g (x ∷ xs) (z ∷ zs) a t u =
    let d = a.from - x.number in
    let few = left_out g x xs t a.from a.early in
    let same = calls_are g x xs t a.from (z ∷ zs) a.same in
    (same_state g x xs t d few z zs same a.measured u, same_release g x xs t d few z zs same u)
