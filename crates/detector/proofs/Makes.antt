-- Every call has a result that the contracts allow, so there is a history of any calls; and which of them it accepts is found by computing.
-- Assumes nothing.
use mathlib.Core.Path.{◌≡◌, refl, sym, ◌∙◌, ap}
use mathlib.Core.Bool.{Bool, true, false, true≢false, cond}
use mathlib.Core.List.{List, [], ◌∷◌, ◌++◌}
use Rattle.std.specs.Prelude.{Result}
use Rattle.answer.specs.declared.Refusal.{Refusal}
use Prim.Native.Nat.{◌-◌}
use native.Mathlib.Omega.{arith}
use borrow.Author.Tests.{eqb-true, eqb-false}
use lib.Dec.{eqb}
use lib.ListN.{length, take, replicate}
use lib.Seq.{take_all, take-append-le}
use Rattle.answer.specs.Answer.{refused}
use Rattle.settings.specs.declared.Settings.{Settings}
use Rattle.settings.specs.Settings.{room, settings_fault}
use Rattle.score.specs.declared.ScenecutResult.{ScenecutResult}
use Rattle.score.specs.Deque.{no_score}
use Rattle.state.specs.State.{View, Call, view}
use Rattle.state.specs.Refusals.{step_fault}
use Rattle.state.specs.declared.State.{State}
use Rattle.state.proofs.Refused.{fault_is}
use Rattle.detector.specs.declared.Decision.{Decision}
use Rattle.detector.specs.Fresh.{fresh_view}
use Rattle.detector.specs.Step.{Outcome, is_refused, step_answer, step_of}
use Rattle.detector.specs.Histories.{Detector, Made, Follows, accepted_in, History, by_value}
use Rattle.detector.proofs.Cases.{leaves, step_cases, step_refused}
use Rattle.detector.proofs.Unique.{answer_by}
use Rattle.detector.proofs.Histories.{Shows}

pub record Makes (D : Detector) : Type 1 where
  pub reply : D.Kept → Call → D.Reply
  pub after : D.Kept → Call → D.Kept
  pub allowed : (k : D.Kept) (c : Call) → D.Allows k c (reply k c) (after k c)

-- the calls that are accepted, by the definitions
unfoldable pub accepted_among : View → List Call → List Call
accepted_among s [] = []
accepted_among s (c ∷ cs) = cond (eqb (step_fault s c) 0) (c ∷ accepted_among (step_of s c).state cs) (accepted_among s cs)

module _ (D : Detector) (M : Makes D) where
  pub made_of : D.Kept → List Call → List (Made D)
  made_of k [] = []
  made_of k (c ∷ cs) = record { call = c; reply = M.reply k c; after = M.after k c } ∷ made_of (M.after k c) cs

  pub made_follows : (k : D.Kept) (cs : List Call) → Follows D k (made_of k cs)
  unfolding made_of
  made_follows k [] = tt
  made_follows k (c ∷ cs) = (M.allowed k c, made_follows (M.after k c) cs)

  -- a history of any calls
  abbrev pub history_of : (g : Settings) (k : D.Kept) → D.Begins g k → List Call → History D g
  history_of g k b cs = record { begun = k; fresh = b; made = made_of k cs; follows = made_follows k cs }

  module _ (S : Shows D) where
    made_accepted : (k : D.Kept) (cs : List Call) → S.Sound k → accepted_in D (made_of k cs) ≡ accepted_among (S.seen k) cs
    unfolding made_of accepted_among
    made_accepted k [] w = refl
    made_accepted k (c ∷ cs) w =
        by (eqb (step_fault (S.seen k) c) 0) refl (made_accepted (M.after k c) cs (S.stays k (M.after k c) c (M.reply k c) w (M.allowed k c)))
      where
        told : D.accepts (M.reply k c) ≡ eqb (step_fault (S.seen k) c) 0
        told = S.tells k (M.after k c) c (M.reply k c) w (M.allowed k c)

        went : S.seen (M.after k c) ≡ (step_of (S.seen k) c).state
        went = S.steps k (M.after k c) c (M.reply k c) w (M.allowed k c)

        by : (x : Bool) → eqb (step_fault (S.seen k) c) 0 ≡ x → accepted_in D (made_of (M.after k c) cs) ≡ accepted_among (S.seen (M.after k c)) cs
            → accepted_in D (made_of k (c ∷ cs)) ≡ accepted_among (S.seen k) (c ∷ cs)
        by true e rest = rw (told ∙ e, e, rest, went)
        by false e rest =
            let stayed : S.seen (M.after k c) ≡ S.seen k = went ∙ ap (λ (o : Outcome). o.state) (step_refused (S.seen k) c (eqb-false _ _ e)) in
            rw (told ∙ e, e, rest, stayed)

    pub history_accepted : (g : Settings) (k : D.Kept) (b : D.Begins g k) (cs : List Call)
        → accepted_in D (history_of g k b cs).made ≡ accepted_among (fresh_view g) cs
    history_accepted g k b cs =
        let w = S.begins g k b in
        made_accepted k cs w.0 ∙ ap (λ (s : View). accepted_among s cs) w.1

-- ---- the detector of this crate

-- a state that shows a view
pub state_by : View → State
state_by v = record {
  settings = v.settings;
  deque = record { entries = v.entries ++ replicate (room - length v.entries) no_score; count = v.count };
  offset = v.offset;
  last_number = v.last_number;
  last_length = v.last_length;
  first_number = v.first_number;
  release_number = v.release;
}

state_shows : (v : View) → v.count ≡ length v.entries → view (state_by v) ≡ v
unfolding state_by
state_shows v e =
    let l = v.entries in
    let all : take v.count (l ++ replicate (room - length l) no_score) ≡ l
    = take-append-le v.count l (replicate (room - length l) no_score) (omega arith) ∙ take_all v.count l (omega arith) in
    ap (λ (x : List ScenecutResult). record {
      settings = v.settings;
      entries = x;
      count = v.count;
      offset = v.offset;
      last_number = v.last_number;
      last_length = v.last_length;
      first_number = v.first_number;
      release = v.release;
    }) all

pub fresh_begins : (g : Settings) → settings_fault g ≡ 0 → by_value.Begins g (state_by (fresh_view g))
fresh_begins g e =
    ap (λ (v : View). record { fault = 0; state = v }) (state_shows (fresh_view g) refl)
    ∙ ap (λ (f : _). record { fault = f; state = fresh_view g }) (sym e)

-- what a step answers is the answer of a result: a number that is given is a refusal's
pub answer_back : (s : View) (c : Call) → step_answer (answer_by (step_of s c).answer) ≡ (step_of s c).answer
answer_back s c =
    step_cases s c (λ o. step_answer (answer_by o.answer) ≡ o.answer) (λ h. ap refused (fault_is s c h)) (λ e cut i. refl) (λ e l m. refl)

module _ (s : State) (c : Call) where
  abbrev replied : Result Decision Refusal
  replied = answer_by (step_of (view s) c).answer

  abbrev left : Bool → State
  left accepted = cond accepted (state_by (step_of (view s) c).state) s

  pub value_allowed : by_value.Allows s c replied (left (eqb (step_fault (view s) c) 0))
  value_allowed = by (eqb (step_fault (view s) c) 0) refl
    where
      back : step_answer replied ≡ (step_of (view s) c).answer
      back = answer_back (view s) c

      by : (x : Bool) → eqb (step_fault (view s) c) 0 ≡ x → by_value.Allows s c replied (left x)
      by true e =
          let w = leaves (view s) c (eqb-true _ _ e) in
          let shows : view (state_by (step_of (view s) c).state) ≡ (step_of (view s) c).state = state_shows _ w.counted in
          (rw (back, shows), λ h. absurd (true≢false (sym h ∙ ap is_refused back ∙ w.decided)))
      by false e =
          let stays : view s ≡ (step_of (view s) c).state = sym (ap (λ (o : Outcome). o.state) (step_refused (view s) c (eqb-false _ _ e))) in
          (rw (back, ← stays), λ h. refl)

abbrev pub value_makes : Makes by_value
value_makes = record {
  reply = λ (s : State) (c : Call). replied s c;
  after = λ (s : State) (c : Call). left s c (eqb (step_fault (view s) c) 0);
  allowed = value_allowed;
}
