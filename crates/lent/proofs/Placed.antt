-- What an accepted call writes reads back as the next state, so the places carry a detector from call to call as the state itself
-- would; and the score that was decided on is the entry at the offset. Assumes nothing.
use mathlib.Core.Path.{◌≡◌, refl, sym, ap, ◌∙◌}
use mathlib.Core.Bool.{true}
use mathlib.Core.List.{List, [], ◌∷◌, ◌++◌}
use Rattle.std.specs.Prelude.{Option, Some, None}
use Prim.Native.Nat.{ℕ, zero, suc, ◌+◌, ◌≤◌, ◌<◌}
use native.Mathlib.Omega.{arith}
use lib.Ieee.{Float}
use lib.ListN.{length, take, drop, get_or}
use Rattle.answer.specs.Answer.{gives}
use Rattle.answer.proofs.Laws.{lent_written}
use Rattle.settings.specs.declared.Settings.{Settings}
use Rattle.settings.specs.Settings.{room}
use Rattle.score.specs.declared.ScenecutResult.{ScenecutResult}
use Rattle.score.specs.Deque.{no_score}
use Rattle.score.specs.Numbers.{numbers_of}
use Rattle.state.specs.State.{View, Call}
use Rattle.detector.specs.Fresh.{fresh_view}
use Rattle.detector.specs.Step.{Verdict, Outcome, step_of}
use Rattle.detector.proofs.Cases.{decided_accepted, leaves}
use Rattle.detector.proofs.Reach.{score_in, score_stands}
use Rattle.detector.proofs.Left.{settings_kept, entries_kept, entries_few}
use Rattle.lent.specs.Places.{numbers_long, settings_long, call_long, pairs_place, count_place, score_long, is_state, settings_of, scores_of, entries_of, state_of, setting_numbers, call_numbers, placed}
use Rattle.lent.specs.Lent.{fresh_fault, fresh_numbers, lent_step, pairs_by, numbers_after, scores_after}
use Rattle.lent.proofs.Sizes.{state_long}
use Rattle.lent.proofs.Numbers.{written, same_settings, called, behind}
use Rattle.lent.proofs.Scores.{take_least}

-- ---- the scores

read_placed : (k : ℕ) (l : List ScenecutResult) (rest : List ℕ) (xs : List Float) → length l ≤ k → take (length l) (scores_of k (numbers_of l ++ rest) (placed l xs)) ≡ l
unfolding scores_of placed
read_placed k [] rest xs h = refl
read_placed zero (e ∷ l) rest xs h = absurd (omega arith)
read_placed (suc k) (e ∷ l) rest xs h = ap (λ (r : List ScenecutResult). e ∷ r) (read_placed k l rest (drop score_long xs) (omega arith))

-- ---- the state

module _ (ns : List ℕ) (xs : List Float) (c : Call) (size : length ns ≡ numbers_long) where
  abbrev before : View
  before = state_of ns xs

  abbrev after : View
  after = (step_of before c).state

  -- the pair numbers that it leaves
  abbrev left : Verdict → List ℕ
  left v = pairs_by v.score after (drop pairs_place ns)

  entries_back : (v : Verdict) → (step_of before c).answer ≡ gives v → entries_of (length after.entries) (left v) (scores_after (record { answer = gives v; state = after }) xs) ≡ after.entries
  entries_back v e = by v.score refl
    where
      by : (o : Option ScenecutResult) → v.score ≡ o → entries_of (length after.entries) (left v) (scores_after (record { answer = gives v; state = after }) xs) ≡ after.entries
      by None h =
          rw (h, entries_kept before c (ap score_in e ∙ h)) (take_least (get_or ns count_place 0) (scores_of room (drop pairs_place ns) xs))
      by (Some x) h =
          rw h (read_placed room after.entries (drop (length after.entries) (drop pairs_place ns)) xs (entries_few before c v e))

  reads_back : (v : Verdict) → (step_of before c).answer ≡ gives v → state_of (numbers_after (step_of before c) ns) (scores_after (step_of before c) xs) ≡ after
  reads_back v e =
      let entries = entries_back v e in
      let settings : settings_of (written ns after (left v)) ≡ after.settings = same_settings ns after (left v) size ∙ sym (settings_kept before c) in
      let numbers : numbers_after (step_of before c) ns ≡ written ns after (left v) = rw e in
      let scores : scores_after (step_of before c) xs ≡ scores_after (record { answer = gives v; state = after }) xs = rw e in
      let counted = (leaves before c (decided_accepted before c v e)).counted in
      let call : (i : ℕ) → i < call_long → get_or (written ns after (left v)) (settings_long + i) 0 ≡ get_or (call_numbers after) i 0 = called ns after (left v) size in
      rw (numbers, scores, call 5 (omega arith), behind ns after (left v) size, entries, call 0 (omega arith), call 1 (omega arith), call 2 (omega arith), call 3 (omega arith), call 4 (omega arith), settings, ← counted)

-- ---- the theorems

module _ (ns : List ℕ) (xs : List Float) (c : Call) (is : is_state ns xs ≡ true) where
  abbrev lent : Outcome
  lent = lent_step ns xs c

  pub stepped : lent ≡ step_of (state_of ns xs) c
  stepped = rw is

  size : length ns ≡ numbers_long
  size = (state_long ns xs is).0

  -- after an accepted call the places hold the next state
  pub carried : (v : Verdict) → lent.answer ≡ gives v → state_of (numbers_after lent ns) (scores_after lent xs) ≡ lent.state
  carried v e = rw stepped (reads_back ns xs c size v (rw stepped at e))

  -- and the score, if there is one, stands at their offset
  pub score_placed : (v : Verdict) (e : ScenecutResult) → lent.answer ≡ gives v → v.score ≡ Some e
      → let t = state_of (numbers_after lent ns) (scores_after lent xs) in get_or t.entries t.offset no_score ≡ e
  score_placed v e a h =
      ap (λ (t : View). get_or t.entries t.offset no_score) (carried v a)
      ∙ ap (λ (o : Outcome). get_or o.state.entries o.state.offset no_score) stepped
      ∙ score_stands (state_of ns xs) c e (ap score_in (rw stepped at a) ∙ h)

-- the numbers of a fresh detector hold a fresh state
pub fresh_carried : (ns : List ℕ) (xs : List Float) (g : Settings) → fresh_fault ns xs g ≡ 0 → state_of (fresh_numbers ns xs g) xs ≡ fresh_view g
fresh_carried ns xs g e =
    ap (λ (l : List ℕ). state_of l xs) (sym (lent_written (fresh_fault ns xs g) (setting_numbers g ++ call_numbers (fresh_view g) ++ drop pairs_place ns) ns (sym e)))
