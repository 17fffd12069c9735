-- Every state that calls reach from a fresh detector passes 11: a refused call leaves the state, and an accepted one leaves fewer
-- entries than the room, an offset below their number, inter costs that were allowed, and numbers in order, the front's the call's.
-- Assumes nothing.
use mathlib.Core.Path.{◌≡◌, refl, sym, ◌∙◌}
use mathlib.Core.Bool.{Bool, true, false, ◌&&◌, cond, true≢false}
use mathlib.Core.List.{List, [], ◌∷◌}
use Rattle.std.specs.Prelude.{Option, Some, None}
use Prim.Native.Nat.{ℕ, ◌+◌, ◌-◌, ◌≤◌, ◌<◌}
use native.Mathlib.Omega.{arith}
use borrow.Author.Tests.{ltb-true, ltb-false}
use lib.Dec.{ltb}
use lib.ListN.{length, take, get_or}
use lib.Seq.{length-take-le, get_or-take}
use Rattle.answer.specs.Answer.{Answer, gives, refused}
use Rattle.settings.specs.declared.Settings.{Settings}
use Rattle.settings.specs.Settings.{room, normal_lookahead, lookahead_offset, is_none, is_fast, is_scaled, fast_threshold, settings_fault}
use Rattle.settings.proofs.Laws.{lookahead_small}
use Rattle.score.specs.declared.ScenecutResult.{ScenecutResult}
use Rattle.score.specs.Deque.{no_score}
use Rattle.score.specs.Costs.{forbidden_entry}
use Rattle.score.specs.Numbers.{numbers_of}
use Rattle.score.proofs.Counts.{any_none, none_taken}
use Rattle.score.proofs.Scored.{Sound, score_long_lem, score_sound}
use Rattle.score.proofs.PairLaws.{number_at_lem, numbers_taken, numbers_scored}
use Rattle.score.proofs.Order.{InOrder, order_none, order_next, order_again, order_taken}
use Rattle.state.specs.State.{View, Call}
use Rattle.state.specs.Refusals.{state_fault, step_fault}
use Rattle.state.proofs.Well.{Well, well, passes}
use Rattle.state.proofs.Fine.{Fine, fine, settings_refused}
use Rattle.detector.specs.Rules.{Turn, again_of, rule4, rule5, rule7, next_of}
use Rattle.detector.specs.Step.{Verdict, Outcome, item_of, progress_of, bare_of, scored_of, step_of}
use Rattle.detector.specs.Fresh.{fresh_view}
use Rattle.detector.specs.Runs.{next, then_step, run_of}
use Rattle.detector.proofs.Cases.{step_cases}
use Rattle.detector.proofs.Begins.{Begun, item_sound, begun}
use Rattle.detector.proofs.Items.{again_sound}

-- what rules 4 and 5 leave
record Good (g : Settings) (n : ℕ) (t : Turn) : Type 0 where
  few : length t.entries ≤ room
  fewer : lookahead_offset g ≡ normal_lookahead → length t.entries ≤ normal_lookahead + normal_lookahead + 1
  inside : t.offset < length t.entries
  spare : normal_lookahead + lookahead_offset g < length t.entries → t.offset + 1 < length t.entries
  sound : Sound t.entries
  order : InOrder 1 (numbers_of t.entries)
  front : get_or (numbers_of t.entries) 0 0 ≡ n + t.offset

module _ (s : View) (c : Call) (f : Fine s c) (later : lookahead_offset s.settings < c.set_length) (mode : is_none s.settings ≡ false) where
  -- rule 5
  went : (t : Turn) → Begun s.settings c.set_length c.number t → Good s.settings c.number (rule5 s.settings c.set_length c.number (item_of s c) t)
  went t b = by (ltb (t.offset + 1) c.set_length) refl
    where
      -- the number that is scored is the next one, or the front's once more
      ordered : (x : Bool) → t.again ≡ x → InOrder 1 ((c.number + t.offset) ∷ numbers_of t.entries)
      ordered false e = order_next 1 _ _ (λ h. b.next e) b.order
      ordered true e = order_again 0 _ _ (λ h. (b.twice e).1) (b.twice e).2

      not_so : (x : Bool) → (x ≡ true → ⊥) → x ≡ false
      not_so true h = absurd (h refl)
      not_so false h = refl

      by : (x : Bool) → ltb (t.offset + 1) c.set_length ≡ x → Good s.settings c.number (rule5 s.settings c.set_length c.number (item_of s c) t)
      by true p =
          let g = s.settings in
          let o = t.offset in
          let l : o + 1 < c.set_length = ltb-true _ _ p in
          let m = again_of (t.again && is_scaled g) (item_of s c o) in
          let n = score_long_lem (fast_threshold g) o (c.number + o) m t.entries (is_fast g) in
          let ns = numbers_scored (is_fast g) (fast_threshold g) o (c.number + o) m t.entries in
          rw p (record {
            few = omega (arith, n, b.ready.few);
            fewer = λ e. omega (arith, n, b.fewer e);
            inside = omega (arith, n, b.ready.at);
            spare = λ e. omega (arith, n, b.spare (omega (arith, n)));
            sound = score_sound (fast_threshold g) o (c.number + o) m t.entries (is_fast g) (again_sound (t.again && is_scaled g) (item_of s c o) (item_sound s c f later mode o (omega arith))) b.sound;
            order = rw ns (ordered t.again refl);
            front = rw ns refl;
          })
      by false p =
          let less : c.set_length ≤ t.offset + 1 = ltb-false _ _ p in
          let i = b.ready.falls less in
          let once : t.again ≡ false = not_so t.again (λ e. omega (arith, (b.twice e).0)) in
          let h = b.ready.at in
          rw p (record {
            few = omega (arith, b.ready.few);
            fewer = λ e. omega (arith, b.fewer e);
            inside = omega arith;
            spare = λ e. omega (arith, b.spare (omega arith));
            sound = b.sound;
            order = b.order;
            front = omega (arith, b.next once);
          })

  good : Good s.settings c.number (progress_of s c)
  good = went (rule4 s.settings c.set_length c.number (item_of s c) s.offset s.entries) (begun s c f later mode)

-- rule 7 leaves a state that passes 11
module _ (s : View) (long n : ℕ) (t : Turn) (settled : settings_fault s.settings ≡ 0) (begins : n ≡ 0 → ⊥) (mode : is_none s.settings ≡ false) (w : Good s.settings n t) where
  after : Bool → List ScenecutResult
  after dropped = cond dropped (take (length t.entries - 1) t.entries) t.entries

  trimmed_well : (b : Bool) → ltb (normal_lookahead + lookahead_offset s.settings) (length t.entries) ≡ b → Well (next_of s long n (after b) t.offset)
  unfolding after
  trimmed_well true e =
      let more : normal_lookahead + lookahead_offset s.settings < length t.entries = ltb-true _ _ e in
      let k : length (take (length t.entries - 1) t.entries) ≡ length t.entries - 1 = length-take-le _ _ (omega arith) in
      let i = w.spare more in
      record {
        settled = settled;
        few = omega (arith, w.few);
        fewer = λ a. omega (arith, w.fewer a);
        within = λ p. omega arith;
        empty = λ z. absurd (omega arith);
        moded = λ p. mode;
        called = λ p. begins;
        sound = none_taken forbidden_entry (length t.entries - 1) t.entries w.sound;
        order = rw (numbers_taken (length t.entries - 1) t.entries) (order_taken 1 (length t.entries - 1) _ w.order);
        front = λ p l. rw (get_or-take (length t.entries - 1) t.entries 0 no_score (omega arith), ← number_at_lem t.entries 0) w.front;
      }
  trimmed_well false e =
      let less : length t.entries ≤ normal_lookahead + lookahead_offset s.settings = ltb-false _ _ e in
      let a = lookahead_small s.settings in
      record {
        settled = settled;
        few = omega arith;
        fewer = λ q. omega arith;
        within = λ p. w.inside;
        empty = λ z. absurd (omega (arith, w.inside));
        moded = λ p. mode;
        called = λ p. begins;
        sound = w.sound;
        order = w.order;
        front = λ p l. sym (number_at_lem t.entries 0) ∙ w.front;
      }

  kept : state_fault (next_of s long n (rule7 s.settings t.entries) t.offset) ≡ 0
  unfolding after
  kept = passes _ (trimmed_well (ltb (normal_lookahead + lookahead_offset s.settings) (length t.entries)) refl)

-- the rules leave a state that passes 11
module _ (s : View) (c : Call) (e : state_fault s ≡ 0) where
  -- rule 2 leaves the front free, and in None mode there is none
  bare_passes : step_fault s c ≡ 0 → (cut : Bool) → (lookahead_offset s.settings < c.set_length → is_none s.settings ≡ true)
      → state_fault (bare_of s c.set_length c.number cut).state ≡ 0
  bare_passes q cut i =
      let w = well s e in
      passes _ (record {
        settled = w.settled;
        few = w.few;
        fewer = w.fewer;
        within = w.within;
        empty = w.empty;
        moded = w.moded;
        called = λ p. (fine s c q).begun;
        sound = w.sound;
        order = w.order;
        front = λ p l. absurd (true≢false (sym (i l) ∙ w.moded p));
      })

  pub scored_passes : step_fault s c ≡ 0 → lookahead_offset s.settings < c.set_length → is_none s.settings ≡ false → state_fault (scored_of s c (progress_of s c)).state ≡ 0
  scored_passes q l m = kept s c.set_length c.number (progress_of s c) (well s e).settled (fine s c q).begun m (good s c (fine s c q) l m)

  pub step_passes : state_fault (step_of s c).state ≡ 0
  step_passes = step_cases s c (λ o. state_fault o.state ≡ 0) (λ h. e) bare_passes scored_passes

-- ---- where the score is found

abbrev pub score_in : Answer Verdict → Option ScenecutResult
score_in (gives v) = v.score
score_in (refused f) = None

-- rule 7 does not drop entry o
module _ (g : Settings) (n : ℕ) (t : Turn) (w : Good g n t) where
  entry_kept : (b : Bool) → ltb (normal_lookahead + lookahead_offset g) (length t.entries) ≡ b
      → get_or (cond b (take (length t.entries - 1) t.entries) t.entries) t.offset no_score ≡ get_or t.entries t.offset no_score
  entry_kept true e =
      let i = w.spare (ltb-true _ _ e) in
      get_or-take (length t.entries - 1) t.entries t.offset no_score (omega arith)
  entry_kept false e = refl

-- the score that a step answers is the entry at the next state's offset
module _ (s : View) (c : Call) (e : ScenecutResult) where
  none_given : {A : Type 0} → ◌≡◌ {A = Option ScenecutResult} None (Some e) → A
  none_given h = absurd (let z : ◌≡◌ {A = ℕ} 0 1 = cc in omega arith)

  pub score_stands : score_in (step_of s c).answer ≡ Some e → get_or (step_of s c).state.entries (step_of s c).state.offset no_score ≡ e
  score_stands = step_cases s c (λ o. score_in o.answer ≡ Some e → get_or o.state.entries o.state.offset no_score ≡ e) (λ f h. none_given h) (λ q cut i h. none_given h) stands
    where
      t : Turn
      t = progress_of s c

      stands : step_fault s c ≡ 0 → lookahead_offset s.settings < c.set_length → is_none s.settings ≡ false
          → ◌≡◌ {A = Option ScenecutResult} (Some (get_or t.entries t.offset no_score)) (Some e)
          → get_or (rule7 s.settings t.entries) t.offset no_score ≡ e
      stands q l m h =
          let same : get_or t.entries t.offset no_score ≡ e = cc in
          entry_kept s.settings c.number t (good s c (fine s c q) l m) (ltb (normal_lookahead + lookahead_offset s.settings) (length t.entries)) refl ∙ same

-- a step with a score leaves an entry
pub scored_some : (s : View) (c : Call) → step_fault s c ≡ 0 → lookahead_offset s.settings < c.set_length → is_none s.settings ≡ false
    → 0 < length (scored_of s c (progress_of s c)).state.entries
scored_some s c q l m = by (ltb (normal_lookahead + lookahead_offset s.settings) (length t.entries)) refl
  where
    t : Turn
    t = progress_of s c

    by : (b : Bool) → ltb (normal_lookahead + lookahead_offset s.settings) (length t.entries) ≡ b
        → 0 < length (cond b (take (length t.entries - 1) t.entries) t.entries)
    by true e =
        let w = good s c (fine s c q) l m in
        omega (arith, w.spare (ltb-true _ _ e), length-take-le (length t.entries - 1) t.entries (omega arith))
    by false e = omega (arith, (good s c (fine s c q) l m).inside)

then_passes : (before : Outcome) (c : Call) → state_fault before.state ≡ 0 → state_fault (then_step before c).state ≡ 0
then_passes before c e = by before.answer
  where
    by : (a : Answer Verdict) → state_fault (next a before (step_of before.state c)).state ≡ 0
    by (gives v) = step_passes before.state c e
    by (refused f) = e

pub run_passes : (before : Outcome) (cs : List Call) → state_fault before.state ≡ 0 → state_fault (run_of before cs).state ≡ 0
unfolding run_of
run_passes before [] e = e
run_passes before (c ∷ cs) e = run_passes (then_step before c) cs (then_passes before c e)

pub fresh_passes : (g : Settings) → settings_fault g ≡ 0 → state_fault (fresh_view g) ≡ 0
fresh_passes g e =
    passes (fresh_view g) (record {
      settled = e;
      few = omega arith;
      fewer = λ a. omega arith;
      within = λ p. absurd (omega arith);
      empty = λ z. refl;
      moded = λ p. absurd (omega arith);
      called = λ p. absurd (omega arith);
      sound = any_none forbidden_entry;
      order = order_none 1;
      front = λ p. absurd (omega arith);
    })

-- every state that calls reach from a fresh detector passes 11
pub reached_passes : (g : Settings) (a : Answer Verdict) (cs : List Call) → settings_fault g ≡ 0
    → state_fault (run_of (record { answer = a; state = fresh_view g }) cs).state ≡ 0
reached_passes g a cs e = run_passes (record { answer = a; state = fresh_view g }) cs (fresh_passes g e)

-- and every step of a detector whose settings are refused is refused with 11
pub unfit_refused : (g : Settings) (c : Call) → (settings_fault g ≡ 0 → ⊥) → step_fault (fresh_view g) c ≡ 11
unfit_refused g c = settings_refused (fresh_view g) c
