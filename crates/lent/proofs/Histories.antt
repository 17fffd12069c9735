-- The lent places keep to the definitions as the state by value does: each call that is allowed is `step_of` of the state in them, and they
-- stay a state. And places that show the same but for two numbers are the same to whoever reads them.
-- Assumes nothing.
use mathlib.Core.Path.{◌≡◌, refl, sym, ◌∙◌, ap}
use mathlib.Core.Bool.{Bool, true, false, not, cond}
use mathlib.Core.List.{List, [], ◌∷◌, ◌++◌}
use Rattle.std.specs.Prelude.{Option, Some, None}
use Prim.Native.Nat.{ℕ, zero, suc, ◌*◌, ◌≤◌, ◌<◌}
use native.Mathlib.Omega.{arith}
use borrow.Author.Tests.{eqb-false, not-false}
use lib.Dec.{eqb}
use lib.Ieee.{Float, nan}
use lib.ListN.{length, take, drop, get_or, set, length-drop, length-take}
use lib.Seq.{get_or-take, get_or-drop, length-take-le}
use Rattle.answer.specs.Answer.{Answer, gives, refused}
use Rattle.answer.specs.Refusal.{refusal}
use Rattle.answer.proofs.Laws.{or_none, passed, lent_written}
use Rattle.sums.specs.Table.{table}
use Rattle.sums.proofs.TableLaws.{is_table}
use Rattle.settings.specs.declared.Settings.{Settings}
use Rattle.settings.specs.Settings.{room, settings_fault}
use Rattle.score.specs.declared.ScenecutResult.{ScenecutResult}
use Rattle.score.specs.Deque.{no_score}
use Rattle.state.specs.State.{View, Call}
use Rattle.state.specs.Refusals.{state_fault, step_fault}
use Rattle.answer.specs.declared.Refusal.TheVariants.{BadState}
use Rattle.state.proofs.Well.{well}
use Rattle.state.proofs.Refused.{is_refusal}
use Rattle.detector.specs.Fresh.{fresh_view}
use Rattle.detector.specs.Step.{Verdict, Outcome, is_refused, step_answer, step_of}
use Rattle.detector.specs.Runs.{compared}
use Rattle.detector.specs.Numbers.{AlwaysNumbered}
use Rattle.detector.proofs.Cases.{step_refused}
use Rattle.detector.proofs.Left.{entries_few}
use Rattle.detector.proofs.Reach.{fresh_passes, step_passes}
use Rattle.detector.proofs.Unique.{answer_by, answer_only}
use Rattle.detector.proofs.Histories.{Shows, decided_is}
use Rattle.detector.proofs.Makes.{Makes, answer_back}
use Rattle.detector.proofs.Numbered.{always_numbered}
use Rattle.lent.specs.Places.{offset_place, first_number_place, release_place, count_place, pairs_place, numbers_long, score_long, scores_long, is_state, front_score, scores_of, state_of, setting_numbers, call_numbers, doubles, placed}
use Rattle.lent.specs.Lent.{fresh_fault, fresh_numbers, lent_step, pairs_by, numbers_after, scores_after}
use Rattle.lent.specs.Histories.{Places, Leaves, by_places, number_at, double_at, pair_at, compared_numbers, SamePlaces}
use Rattle.lent.proofs.Sizes.{both, state_long}
use Rattle.lent.proofs.Numbers.{written, written_long, pairs_long}
use Rattle.lent.proofs.Scores.{scores_long_lem, score_at}
use Rattle.lent.proofs.Placed.{stepped, carried, fresh_carried}

-- ---- the places stay a state

placed_long : (l : List ScenecutResult) (xs : List Float) → length l * score_long ≤ length xs → length (placed l xs) ≡ length xs
unfolding placed
placed_long [] xs h = refl
placed_long (e ∷ l) xs h =
    let rest = length-drop score_long xs in
    omega (arith, placed_long l (drop score_long xs) (omega arith))

module _ (ns : List ℕ) (xs : List Float) (is : is_state ns xs ≡ true) where
  abbrev long : (length ns ≡ numbers_long) × (length xs ≡ scores_long)
  long = state_long ns xs is

  -- after any outcome with no more entries than there is room for
  still : (a : Answer Verdict) (s : View) → ((v : Verdict) → a ≡ gives v → length s.entries ≤ room)
      → is_state (numbers_after (record { answer = a; state = s }) ns) (scores_after (record { answer = a; state = s }) xs) ≡ true
  still (refused f) s few = is
  still (gives v) s few =
      let rest = pairs_by v.score s (drop pairs_place ns) in
      both (written ns s rest) (scores_after (record { answer = gives v; state = s }) xs)
      (written_long ns s rest long.0 (omega (arith, pairs v.score, length-drop pairs_place ns, long.0))) (by v.score)
    where
      pairs : (o : Option ScenecutResult) → length (pairs_by o s (drop pairs_place ns)) ≡ length (drop pairs_place ns)
      pairs None = refl
      pairs (Some e) = pairs_long s.entries (drop pairs_place ns) (omega (arith, few v refl, length-drop pairs_place ns, long.0))

      by : (o : Option ScenecutResult)
          → length (scores_after (record { answer = gives (record { cut = v.cut; score = o }); state = s }) xs) ≡ scores_long
      by None = long.1
      by (Some e) = placed_long s.entries xs (omega (arith, few v refl, long.1)) ∙ long.1

-- ---- each call is `step_of` of the state in them

abbrev pub Sound : Places → Type 0
Sound p = (is_state p.numbers p.scores ≡ true) × (state_fault (state_of p.numbers p.scores) ≡ 0)

abbrev pub seen : Places → View
seen p = state_of p.numbers p.scores

module _ (p : Places) (c : Call) (w : Sound p) where
  abbrev lent : Outcome
  lent = lent_step p.numbers p.scores c

  abbrev steps : lent ≡ step_of (seen p) c
  steps = stepped p.numbers p.scores c w.0

  holds : state_of (numbers_after lent p.numbers) (scores_after lent p.scores) ≡ (step_of (seen p) c).state
  holds = by lent.answer refl
    where
      by : (a : Answer Verdict) → lent.answer ≡ a → state_of (numbers_after lent p.numbers) (scores_after lent p.scores) ≡ (step_of (seen p) c).state
      by (gives v) e = carried p.numbers p.scores c w.0 v e ∙ ap (λ (o : Outcome). o.state) steps
      by (refused f) e =
          let none : eqb (step_fault (seen p) c) 0 ≡ false
          = sym (decided_is (seen p) c) ∙ ap (λ (a : Answer Verdict). not (is_refused a)) (sym (ap (λ (o : Outcome). o.answer) steps) ∙ e) in
          rw e (sym (ap (λ (o : Outcome). o.state) (step_refused (seen p) c (eqb-false _ _ none))))

  state_still : is_state (numbers_after lent p.numbers) (scores_after lent p.scores) ≡ true
  state_still =
      still p.numbers p.scores w.0 lent.answer lent.state
      (λ v e. rw steps (entries_few (seen p) c v (sym (ap (λ (o : Outcome). o.answer) steps) ∙ e)))

-- what a call leaves in the places, whatever it replies
module _ (p q : Places) (c : Call) (w : Sound p) (l : Leaves p c q) where
  pub leaves_state : seen q ≡ (step_of (seen p) c).state
  leaves_state = rw (l.0, l.1) (holds p c w)

  pub stays_sound : Sound q
  stays_sound = (rw (l.0, l.1) (state_still p c w), rw leaves_state (step_passes (seen p) c w.1))

pub answers : (p : Places) (c : Call) → Sound p → (lent_step p.numbers p.scores c).answer ≡ (step_of (seen p) c).answer
answers p c w = ap (λ (o : Outcome). o.answer) (steps p c w)

pub fresh_sound : (g : Settings) (p : Places) → by_places.Begins g p → Sound p × (seen p ≡ fresh_view g) × (settings_fault g ≡ 0)
fresh_sound g p b =
    let ns = b.0 in
    let none = or_none (refusal 11 (not (is_state ns p.scores))) (settings_fault g) (sym b.1) in
    let was : is_state ns p.scores ≡ true = not-false (is_state ns p.scores) (passed 10 _ none.0) in
    let long = state_long ns p.scores was in
    let fresh = setting_numbers g ++ call_numbers (fresh_view g) ++ drop pairs_place ns in
    let written : p.numbers ≡ fresh = b.2 ∙ sym (lent_written (fresh_fault ns p.scores g) fresh ns b.1) in
    let is : is_state p.numbers p.scores ≡ true = rw written (both fresh p.scores (omega (arith, length-drop pairs_place ns, long.0)) long.1) in
    let shown : seen p ≡ fresh_view g = rw b.2 (fresh_carried ns p.scores g (sym b.1)) in
    ((is, rw shown (fresh_passes g none.1)), shown, none.1)

abbrev pub places_show : Shows by_places
places_show = record {
  Sound = Sound;
  seen = seen;
  begins = fresh_sound;
  stays = λ p q c a w d. stays_sound p q c w d.1;
  steps = λ p q c a w d. leaves_state p q c w d.1;
  tells = λ p q c a w d. ap (λ (x : Answer Verdict). not (is_refused x)) (d.0 ∙ answers p c w) ∙ decided_is (seen p) c;
  replies = λ p q p' q' c d a b w w' h h' e. answer_only a b (h.0 ∙ answers p c w ∙ e ∙ sym (h'.0 ∙ answers p' d w'));
}

-- so the numbers in the places are always in order
pub places_numbered : AlwaysNumbered by_places seen
places_numbered = always_numbered by_places places_show

-- every call has such a result, and so has every fresh detector that is not refused
abbrev pub places_after : Places → Call → Places
places_after p c = record {
  numbers = numbers_after (lent_step p.numbers p.scores c) p.numbers;
  scores = scores_after (lent_step p.numbers p.scores c) p.scores;
}

pub lent_back : (p : Places) (c : Call) → let a = (lent_step p.numbers p.scores c).answer in step_answer (answer_by a) ≡ a
lent_back p c = by (is_state p.numbers p.scores)
  where
    by : (x : Bool)
        → let a = (cond x (step_of (seen p) c) (record { answer = refused 11; state = seen p })).answer in step_answer (answer_by a) ≡ a
    by true = answer_back (seen p) c
    by false = ap refused (is_refusal BadState true (λ z. omega arith))

abbrev pub places_make : Makes by_places
places_make = record {
  reply = λ (p : Places) (c : Call). answer_by (lent_step p.numbers p.scores c).answer;
  after = places_after;
  allowed = λ p c. (lent_back p c, (refl, refl));
}

abbrev pub fresh_places : List ℕ → List Float → Settings → Places
fresh_places ns xs g = record { numbers = fresh_numbers ns xs g; scores = xs }

pub places_begin : (ns : List ℕ) (xs : List Float) (g : Settings) → 0 ≡ fresh_fault ns xs g → by_places.Begins g (fresh_places ns xs g)
places_begin ns xs g e = (ns, e, refl)

-- ---- what a reader of the places sees

-- what `compared_numbers` shows of a view
abbrev shown : View → List ℕ
shown s = setting_numbers s.settings ++ (s.offset ∷ s.last_number ∷ s.last_length ∷ 0 ∷ 0 ∷ s.count ∷ [])

numbers_shown : (p : Places) → Sound p → compared_numbers p ≡ shown (compared (seen p))
unfolding table
numbers_shown p w =
    let at : ℕ → ℕ = λ (k : ℕ). number_at k p in
    let front = take pairs_place p.numbers in
    let long : length front ≡ pairs_place = length-take-le pairs_place p.numbers (omega (arith, (state_long p.numbers p.scores w.0).0)) in
    let listed : front ≡ table pairs_place at = is_table 0 pairs_place at front long (λ k h. get_or-take pairs_place p.numbers k 0 h) in
    let same : set (set (table pairs_place at) first_number_place 0) release_place 0 ≡ shown (compared (seen p)) = refl in
    ap (λ (l : List ℕ). set (set l first_number_place 0) release_place 0) listed ∙ same

-- double j of the score that five doubles are
double_of : ScenecutResult → ℕ → Float
double_of x j = get_or (doubles x) j nan

double_front : (pair : ℕ) (xs : List Float) (j : ℕ) → j < score_long → get_or xs j nan ≡ double_of (front_score pair xs) j
unfolding double_of
double_front pair xs zero h = refl
double_front pair xs (suc zero) h = refl
double_front pair xs (suc (suc zero)) h = refl
double_front pair xs (suc (suc (suc zero))) h = refl
double_front pair xs (suc (suc (suc (suc zero)))) h = refl
double_front pair xs (suc (suc (suc (suc (suc j))))) h = absurd (omega arith)

-- the pair numbers and the doubles below the count are those of the entries
module _ (p : Places) (k : ℕ) (h : k < length (seen p).entries) where
  score_seen : get_or (seen p).entries k no_score ≡ front_score (pair_at k p) (drop (k * score_long) p.scores)
  score_seen =
      let n = number_at count_place p in
      let ps = drop pairs_place p.numbers in
      let most = length-take n (scores_of room ps p.scores) in
      let all = scores_long_lem room ps p.scores in
      get_or-take n (scores_of room ps p.scores) k no_score (omega arith)
      ∙ score_at room k ps p.scores (omega arith)
      ∙ rw (get_or-drop pairs_place p.numbers k 0)

  pair_seen : pair_at k p ≡ (get_or (seen p).entries k no_score).pair_number
  pair_seen = ap (λ (x : ScenecutResult). x.pair_number) (sym score_seen)

  double_seen : (j : ℕ) → j < score_long → double_at k j p ≡ double_of (get_or (seen p).entries k no_score) j
  double_seen j l =
      sym (get_or-drop (k * score_long) p.scores j nan)
      ∙ double_front (pair_at k p) (drop (k * score_long) p.scores) j l
      ∙ ap (λ (x : ScenecutResult). double_of x j) (sym score_seen)

module _ (p q : Places) (w : Sound p) (u : Sound q) (e : compared (seen p) ≡ compared (seen q)) where
  entries_same : (seen p).entries ≡ (seen q).entries
  entries_same = ap (λ (s : View). s.entries) e

  -- a state that passes 11 has as many entries as it counts
  entries_counted : length (seen p).entries ≡ number_at count_place p
  entries_counted =
      omega (
        arith,
        (well (seen p) w.1).few,
        length-take (number_at count_place p) (scores_of room (drop pairs_place p.numbers) p.scores),
        scores_long_lem room (drop pairs_place p.numbers) p.scores,
      )

  same_double : (k j : ℕ) → k < number_at count_place p → j < score_long → double_at k j p ≡ double_at k j q
  same_double k j h l =
      let here : k < length (seen p).entries = omega (arith, entries_counted) in
      double_seen p k here j l
      ∙ ap (λ (es : List ScenecutResult). double_of (get_or es k no_score) j) entries_same
      ∙ sym (double_seen q k (rw entries_same at here) j l)

  same_pair : (k : ℕ) → k < number_at count_place p → pair_at k p ≡ pair_at k q
  same_pair k h =
      let here : k < length (seen p).entries = omega (arith, entries_counted) in
      pair_seen p k here
      ∙ ap (λ (es : List ScenecutResult). (get_or es k no_score).pair_number) entries_same
      ∙ sym (pair_seen q k (rw entries_same at here))

  -- the offset is the same, and lies below the count
  same_offset : number_at offset_place p ≡ number_at offset_place q
  same_offset = ap (λ (s : View). s.offset) e

  offset_counted : 0 < number_at count_place p → number_at offset_place p < number_at count_place p
  offset_counted h = omega (arith, entries_counted, (well (seen p) w.1).within (omega (arith, entries_counted)))

  pub same_places : SamePlaces p q
  same_places = record {
    numbers = numbers_shown p w ∙ ap shown e ∙ sym (numbers_shown q u);
    pairs = same_pair;
    scores = same_double;
    decided_pair = λ h. same_pair (number_at offset_place p) (offset_counted h) ∙ ap (λ (n : ℕ). pair_at n q) same_offset;
    decided = λ j h l. same_double (number_at offset_place p) j (offset_counted h) l ∙ ap (λ (n : ℕ). double_at n j q) same_offset;
  }
