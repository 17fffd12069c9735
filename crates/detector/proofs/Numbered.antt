-- Every state that calls reach has the pair numbers that specs/Numbers.antt says: a first call that scores leaves the pairs that it scored,
-- and each later one puts the next pair in front, or none.
-- Assumes nothing.
use mathlib.Core.Path.{◌≡◌, refl, sym, ap, ◌∙◌}
use mathlib.Core.Bool.{Bool, true, false, cond, true≢false}
use mathlib.Core.List.{List, [], ◌∷◌, append-nil}
use Prim.Native.Nat.{ℕ, suc, ◌+◌, ◌-◌, ◌≤◌, ◌<◌}
use native.Mathlib.Nat.{add-zero, zero-add}
use native.Mathlib.Omega.{arith}
use borrow.Author.Tests.{ltb-true, lt-ltb, eqb-true, ne_eqb, not-true, not-false}
use lib.Dec.{eqb, ltb}
use lib.ListN.{length, take, get_or}
use lib.Seq.{get_or-take, length-take-le, take-take, take-length}
use Rattle.settings.specs.declared.Settings.{Settings}
use Rattle.settings.specs.Settings.{normal_lookahead, lookahead_offset, is_none, is_fast, is_scaled, fast_threshold, settings_fault}
use Rattle.score.specs.declared.ScenecutResult.{ScenecutResult}
use Rattle.score.specs.Deque.{trimmed_to}
use Rattle.score.specs.Scores.{score_of}
use Rattle.score.specs.Numbers.{numbers_of}
use Rattle.score.proofs.Scored.{score_long_lem}
use Rattle.score.proofs.PairLaws.{number_at_lem, numbers_long_lem, numbers_taken, numbers_scored}
use Rattle.state.specs.State.{View, Call, view}
use Rattle.state.specs.Refusals.{state_fault, step_fault}
use Rattle.state.proofs.Tests.{and_both, and_right}
use Rattle.state.proofs.Well.{well}
use Rattle.state.proofs.Fine.{Fine, fine}
use Rattle.detector.specs.Rules.{again_of, items_of, starts_ahead, rule7}
use Rattle.detector.specs.Step.{item_of, progress_of, bare_of, scored_of, step_of}
use Rattle.detector.specs.Fresh.{fresh_view}
use Rattle.detector.specs.Runs.{state_after, all_accepted}
use Rattle.detector.specs.Histories.{Detector, accepted_calls, by_value}
use Rattle.detector.specs.Numbers.{pairs_from, repeats, repeated_pair, scored_pairs, NewestPairs, last_scoring, NumberedBy, AlwaysNumbered}
use Rattle.detector.proofs.Items.{items_numbers, pairs_more}
use Rattle.detector.proofs.Cases.{step_cases, step_scored}
use Rattle.detector.proofs.Begins.{empty}
use Rattle.detector.proofs.Reach.{fresh_passes, step_passes, scored_passes, scored_some}
use Rattle.detector.proofs.Left.{settings_kept}
use Rattle.detector.proofs.Account.{after_passes}
use Rattle.detector.proofs.Histories.{Shows, history_leaves, value_shows}

-- ---- the pairs that are scored

module _ (g : Settings) (c : Call) where
  pairs_next : (f : ℕ) → scored_pairs g c (suc f) ≡ suc (get_or (scored_pairs g c f) 0 0) ∷ scored_pairs g c f
  pairs_next f = by (repeats g c) refl
    where
      by : (b : Bool) → repeats g c ≡ b → scored_pairs g c (suc f) ≡ suc (get_or (scored_pairs g c f) 0 0) ∷ scored_pairs g c f
      by true e =
          let n : suc f + 1 ≡ suc (f + 1) = omega arith in
          rw (e, n) (pairs_more (repeated_pair c) (f + 1) (pairs_from c.number (c.set_length - 1)) (omega arith))
      by false e =
          let n : suc f + suc (lookahead_offset g) ≡ suc (f + suc (lookahead_offset g)) = omega arith in
          rw (e, n) (simp append-nil at (pairs_more c.number (f + suc (lookahead_offset g)) [] (omega arith)))

-- ---- dropping the last entry leaves the newest

trimmed_numbers : (m : ℕ) (l : List ScenecutResult) (ps : List ℕ) → numbers_of l ≡ take (length l) ps
    → numbers_of (trimmed_to m l) ≡ take (length (trimmed_to m l)) ps
trimmed_numbers m l ps e = by (ltb m (length l)) refl
  where
    by : (b : Bool) → ltb m (length l) ≡ b
        → numbers_of (cond b (take (length l - 1) l) l) ≡ take (length (cond b (take (length l - 1) l) l)) ps
    by true h =
        let n : length (take (length l - 1) l) ≡ length l - 1 = length-take-le (length l - 1) l (omega arith) in
        rw (n, numbers_taken (length l - 1) l, e) (take-take (length l - 1) (length l) ps (omega arith))
    by false h = e

-- ---- what a state holds after the last call n that scored; as long as sets have more than A frames, that is the last call

record Held (g : Settings) (c : Call) (n : ℕ) (s : View) : Type 0 where
  pairs : NewestPairs g c n s
  live : lookahead_offset g < s.last_length → n ≡ s.last_number

-- ---- a first call

module _ (g : Settings) (c : Call) (q : step_fault (fresh_view g) c ≡ 0) (more : lookahead_offset g < c.set_length) (mode : is_none g ≡ false) where
  abbrev items : ℕ → List ScenecutResult
  items k = items_of (is_fast g) (fast_threshold g) (lookahead_offset g) c.number (item_of (fresh_view g) c) k []

  item_numbers : (k : ℕ) → numbers_of (items k) ≡ pairs_from c.number k
  item_numbers k = items_numbers (is_fast g) (fast_threshold g) (lookahead_offset g) c.number (item_of (fresh_view g) c) [] k ∙ append-nil (pairs_from c.number k)

  -- refusal 9 is not given
  two : 2 ≤ c.set_length
  two = (empty (fresh_view g) c (fine (fresh_view g) c q) more mode refl).1

  first_pairs : numbers_of (progress_of (fresh_view g) c).entries ≡ scored_pairs g c 0
  first_pairs = by (starts_ahead (lookahead_offset g) c.set_length) refl
    where
      scored : (o : ℕ) (again : Bool) (l : List ScenecutResult)
          → numbers_of (score_of (is_fast g) (fast_threshold g) o (c.number + o) (again_of again (item_of (fresh_view g) c o)) l) ≡ (c.number + o) ∷ numbers_of l
      scored o again l = numbers_scored (is_fast g) (fast_threshold g) o (c.number + o) (again_of again (item_of (fresh_view g) c o)) l

      by : (b : Bool) → starts_ahead (lookahead_offset g) c.set_length ≡ b
          → numbers_of (progress_of (fresh_view g) c).entries ≡ scored_pairs g c 0
      by true e =
          let l = (and_both (ltb 0 (lookahead_offset g)) _ e).1 in
          rw (e, l) (scored (lookahead_offset g) false (items (lookahead_offset g)) ∙ rw (item_numbers (lookahead_offset g), zero-add (suc (lookahead_offset g))))
      by false e =
          let l : ltb (c.set_length - 2 + 1) c.set_length ≡ true = lt-ltb (c.set_length - 2 + 1) c.set_length (omega (arith, two)) in
          rw (e, l) (scored (c.set_length - 2) (is_scaled g) (items (c.set_length - 1)) ∙ rw (item_numbers (c.set_length - 1)) (ap (λ (k : ℕ). k ∷ pairs_from c.number (c.set_length - 1)) (sym (add-zero _))))

  first_numbered : settings_fault g ≡ 0 → Held g c c.number (step_of (fresh_view g) c).state
  first_numbered settled =
      let l = (progress_of (fresh_view g) c).entries in
      let all : numbers_of l ≡ take (length l) (scored_pairs g c 0) = first_pairs ∙ rw (← first_pairs, ← numbers_long_lem l) (sym (take-length (numbers_of l))) in
      let some = scored_some (fresh_view g) c q more mode in
      let w = well _ (scored_passes (fresh_view g) c (fresh_passes g settled) q more mode) in
      rw (step_scored (fresh_view g) c q more mode)
      (record {
        pairs = record {
          later = 0;
          some = some;
          numbers = trimmed_numbers (normal_lookahead + lookahead_offset g) l (scored_pairs g c 0) all;
          front = number_at_lem (rule7 g l) 0 ∙ w.front some more;
        };
        live = λ h. refl;
      })

-- ---- a later call

module _ (c : Call) (n : ℕ) (s : View) (d : Call) (e : state_fault s ≡ 0) (q : step_fault s d ≡ 0) (w : Held s.settings c n s) where
  abbrev g : Settings
  g = s.settings

  abbrev v : NewestPairs g c n s
  v = w.pairs

  abbrev ps : List ℕ
  ps = scored_pairs g c v.later

  f : Fine s d
  f = fine s d q

  -- the pair that rule 5 scores is the next one
  next_pair : lookahead_offset g < d.set_length → d.number + s.offset ≡ suc (get_or ps 0 0)
  next_pair more =
      let last = f.state.called v.some in
      let here : get_or (numbers_of s.entries) 0 0 ≡ get_or ps 0 0 = rw v.numbers (get_or-take (length s.entries) ps 0 0 v.some) in
      omega (arith, here, v.front, w.live (omega (arith, f.shrinks last)), f.in_turn last, f.begun)

  filled : eqb (length s.entries) 0 ≡ false
  filled = ne_eqb (length s.entries) 0 (λ z. omega (arith, v.some))

  -- what rules 4 and 5 leave
  went : lookahead_offset g < d.set_length → (b : Bool) → ltb (s.offset + 1) d.set_length ≡ b → let l = (progress_of s d).entries in
      numbers_of l ≡ take (length l) (scored_pairs g c (cond b (suc v.later) v.later))
  went more true t =
      let m = again_of false (item_of s d s.offset) in
      let k = score_long_lem (fast_threshold g) s.offset (d.number + s.offset) m s.entries (is_fast g) in
      let ns = numbers_scored (is_fast g) (fast_threshold g) s.offset (d.number + s.offset) m s.entries in
      rw (filled, t, k, pairs_next g c v.later, ← next_pair more) (ns ∙ ap (λ (l : List ℕ). (d.number + s.offset) ∷ l) v.numbers)
  went more false t = rw (filled, t) v.numbers

  -- the last call that scored
  abbrev scoring : ℕ
  scoring = cond (ltb (lookahead_offset g) d.set_length) d.number n

  next_numbered : is_none g ≡ false → Held g c scoring (step_of s d).state
  next_numbered mode = step_cases s d (λ o. Held g c scoring o.state) (λ h. absurd (h q)) bare scored
    where
      bare : step_fault s d ≡ 0 → (cut : Bool) → (lookahead_offset g < d.set_length → is_none g ≡ true) → Held g c scoring (bare_of s d.set_length d.number cut).state
      bare z cut i = by (ltb (lookahead_offset g) d.set_length) refl
        where
          by : (b : Bool) → ltb (lookahead_offset g) d.set_length ≡ b → Held g c (cond b d.number n) (bare_of s d.set_length d.number cut).state
          by true t = absurd (true≢false (sym (i (ltb-true _ _ t)) ∙ mode))
          by false t = record {
            pairs = record { later = v.later; some = v.some; numbers = v.numbers; front = v.front };
            live = λ h. absurd (true≢false (sym (i h) ∙ mode));
          }

      scored : step_fault s d ≡ 0 → lookahead_offset g < d.set_length → is_none g ≡ false → Held g c scoring (scored_of s d (progress_of s d)).state
      scored z more m =
          let b = ltb (s.offset + 1) d.set_length in
          let later = cond b (suc v.later) v.later in
          let some = scored_some s d q more mode in
          let u = well _ (scored_passes s d e q more mode) in
          rw (lt-ltb (lookahead_offset g) d.set_length more)
          (record {
            pairs = record {
              later = later;
              some = some;
              numbers = trimmed_numbers (normal_lookahead + lookahead_offset g) (progress_of s d).entries (scored_pairs g c later) (went more b refl);
              front = number_at_lem (rule7 g (progress_of s d).entries) 0 ∙ u.front some more;
            };
            live = λ h. refl;
          })

-- ---- no call scores

-- a last set of at most A frames, or None mode
record Quiet (s : View) : Type 0 where
  none : s.entries ≡ []
  called : s.last_number ≡ 0 → ⊥
  short : lookahead_offset s.settings < s.last_length → is_none s.settings ≡ true

first_quiet : (g : Settings) (c : Call) → step_fault (fresh_view g) c ≡ 0 → (lookahead_offset g < c.set_length → is_none g ≡ true) → Quiet (step_of (fresh_view g) c).state
first_quiet g c q short =
    step_cases (fresh_view g) c (λ o. Quiet o.state) (λ h. absurd (h q))
    (λ z cut i. record { none = refl; called = (fine (fresh_view g) c q).begun; short = short })
    (λ z more mode. absurd (true≢false (sym (short more) ∙ mode)))

next_quiet : (s : View) (c : Call) → step_fault s c ≡ 0 → Quiet s → Quiet (step_of s c).state
next_quiet s c q w =
    let shrinks = (fine s c q).shrinks w.called in
    step_cases s c (λ o. Quiet o.state) (λ h. absurd (h q))
    (λ z cut i. record { none = w.none; called = (fine s c q).begun; short = i })
    (λ z more mode. absurd (true≢false (sym (w.short (omega arith)) ∙ mode)))

-- ---- runs

numbered_after : (c : Call) (n : ℕ) (s : View) (cs : List Call) → state_fault s ≡ 0 → is_none s.settings ≡ false → all_accepted s cs ≡ true
    → Held s.settings c n s → NewestPairs s.settings c (last_scoring s.settings n cs) (state_after s cs)
unfolding state_after all_accepted
numbered_after c n s [] e mode a w = w.pairs
numbered_after c n s (d ∷ cs) e mode a w =
    let p = and_both (eqb (step_fault s d) 0) _ a in
    let q = eqb-true (step_fault s d) 0 p.0 in
    let kept = settings_kept s d in
    let more = scoring c n s d e q w in
    rw kept at (numbered_after c more (step_of s d).state cs (step_passes s d e) (rw kept mode) p.1 (rw kept (next_numbered c n s d e q w mode)))

quiet_after : (s : View) (cs : List Call) → all_accepted s cs ≡ true → Quiet s → (state_after s cs).entries ≡ []
unfolding state_after all_accepted
quiet_after s [] a w = w.none
quiet_after s (d ∷ cs) a w =
    let p = and_both (eqb (step_fault s d) 0) _ a in
    quiet_after (step_of s d).state cs p.1 (next_quiet s d (eqb-true (step_fault s d) 0 p.0) w)

-- every state that accepted calls reach from a fresh detector
pub reached_numbered : (g : Settings) (cs : List Call) → settings_fault g ≡ 0 → all_accepted (fresh_view g) cs ≡ true → NumberedBy g cs (state_after (fresh_view g) cs)
unfolding state_after all_accepted
reached_numbered g [] e a = refl
reached_numbered g (c ∷ cs) e a =
    let s = (step_of (fresh_view g) c).state in
    let p = and_both (eqb (step_fault (fresh_view g) c) 0) _ a in
    let q = eqb-true (step_fault (fresh_view g) c) 0 p.0 in
    let kept = settings_kept (fresh_view g) c in (
      λ t.
          let u = and_both (ltb (lookahead_offset g) c.set_length) _ t in
          let mode = not-true (is_none g) u.1 in
          let first = first_numbered g c q (ltb-true _ _ u.0) mode e in
          rw kept at (numbered_after c c.number s cs (step_passes (fresh_view g) c (fresh_passes g e)) (rw kept mode) p.1 (rw kept first)),
      λ t. quiet_after s cs p.1 (first_quiet g c q (λ more. not-false (is_none g) (and_right (ltb (lookahead_offset g) c.set_length) _ t (lt-ltb _ _ more)))),
    )

-- and every history of a detector that keeps to the definitions
pub always_numbered : (D : Detector) (S : Shows D) → AlwaysNumbered D S.seen
always_numbered D S g h =
    let begun = S.begins g h.begun h.fresh in
    let left = history_leaves D S h.begun h.made begun.0 h.follows in
    let same = begun.1 in
    rw (left.0, same)
    (reached_numbered g (accepted_calls h) begun.2 (rw same at left.1), after_passes (fresh_view g) (accepted_calls h) (fresh_passes g begun.2))

pub value_numbered : AlwaysNumbered by_value view
value_numbered = always_numbered by_value value_shows
