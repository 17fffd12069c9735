-- A history of a detector that keeps to the definitions leaves what its accepted calls leave: the refused ones bear on nothing. And the
-- detector of this crate is such a one.
-- Assumes nothing.
use mathlib.Core.Path.{◌≡◌, refl, sym, ◌∙◌, ap}
use mathlib.Core.Bool.{Bool, true, false, not}
use mathlib.Core.List.{List, [], ◌∷◌}
use borrow.Author.Tests.{eq-eqb, ne_eqb, eqb-false}
use lib.Dec.{eqb}
use Rattle.settings.specs.declared.Settings.{Settings}
use Rattle.settings.specs.Settings.{settings_fault}
use Rattle.state.specs.State.{View, Call, view}
use Rattle.state.specs.Refusals.{step_fault}
use Rattle.state.specs.declared.State.{State}
use Rattle.detector.specs.Fresh.{Opening, fresh_view}
use Rattle.detector.specs.Step.{Outcome, is_refused, step_of}
use Rattle.detector.specs.Runs.{state_after, all_accepted}
use Rattle.detector.specs.Histories.{Detector, Made, Follows, kept_after, accepted_in, by_value}
use Rattle.detector.proofs.Cases.{step_cases, step_refused}
use Rattle.detector.proofs.Unique.{answer_only}

-- What is kept shows a view, as long as it is sound; a fresh one shows the fresh view; each step that is allowed is `step_of` of the view;
-- and what it replies is fixed by the answer that `step_of` gives.
pub record Shows (D : Detector) : Type 1 where
  pub Sound : D.Kept → Type 0
  pub seen : D.Kept → View
  pub begins : (g : Settings) (k : D.Kept) → D.Begins g k → Sound k × (seen k ≡ fresh_view g) × (settings_fault g ≡ 0)
  pub stays : (k l : D.Kept) (c : Call) (r : D.Reply) → Sound k → D.Allows k c r l → Sound l
  pub steps : (k l : D.Kept) (c : Call) (r : D.Reply) → Sound k → D.Allows k c r l → seen l ≡ (step_of (seen k) c).state
  pub tells : (k l : D.Kept) (c : Call) (r : D.Reply) → Sound k → D.Allows k c r l → D.accepts r ≡ eqb (step_fault (seen k) c) 0
  pub replies : (k l k' l' : D.Kept) (c d : Call) (r q : D.Reply) → Sound k → Sound k' → D.Allows k c r l → D.Allows k' d q l'
      → (step_of (seen k) c).answer ≡ (step_of (seen k') d).answer → r ≡ q

-- ---- what a history leaves

module _ (D : Detector) (S : Shows D) where
  pub sound_after : (k : D.Kept) (ms : List (Made D)) → S.Sound k → Follows D k ms → S.Sound (kept_after D k ms)
  sound_after k [] s f = s
  sound_after k (m ∷ ms) s f = sound_after m.after ms (S.stays k m.after m.call m.reply s f.0) f.1

  -- the calls that were accepted are so one after the other, and they alone leave the state at the end
  abbrev Left : View → View → List Call → Type 0
  Left s t cs = (t ≡ state_after s cs) × (all_accepted s cs ≡ true)

  pub history_leaves : (k : D.Kept) (ms : List (Made D)) → S.Sound k → Follows D k ms
      → Left (S.seen k) (S.seen (kept_after D k ms)) (accepted_in D ms)
  unfolding state_after all_accepted
  history_leaves k [] s f = (refl, refl)
  history_leaves k (m ∷ ms) s f =
      by (eqb (step_fault before m.call) 0) refl (history_leaves m.after ms (S.stays k m.after m.call m.reply s f.0) f.1)
    where
      before : View
      before = S.seen k

      rest : List Call
      rest = accepted_in D ms

      end : View
      end = S.seen (kept_after D m.after ms)

      by : (x : Bool) → eqb (step_fault before m.call) 0 ≡ x → Left (S.seen m.after) end rest
          → Left before end (accepted_in D (m ∷ ms))
      by true e w =
          let told = S.tells k m.after m.call m.reply s f.0 ∙ e in
          let went = S.steps k m.after m.call m.reply s f.0 in
          rw (told, e, ← went) w
      by false e w =
          let told = S.tells k m.after m.call m.reply s f.0 ∙ e in
          let stayed : S.seen m.after ≡ before
          = S.steps k m.after m.call m.reply s f.0 ∙ ap (λ (o : Outcome). o.state) (step_refused before m.call (eqb-false _ _ e)) in
          rw (told, ← stayed) w

-- ---- the detector of this crate

-- an answer is a decision just where no refusal applies
pub decided_is : (s : View) (c : Call) → not (is_refused (step_of s c).answer) ≡ eqb (step_fault s c) 0
decided_is s c =
    step_cases s c (λ o. not (is_refused o.answer) ≡ eqb (step_fault s c) 0) (λ h. sym (ne_eqb _ 0 h)) (λ e cut i. sym (eq-eqb _ 0 e))
    (λ e l m. sym (eq-eqb _ 0 e))

abbrev pub value_shows : Shows by_value
value_shows = record {
  Sound = λ (s : State). Unit {0};
  seen = view;
  begins = λ g s p. (tt, ap (λ (o : Opening). o.state) p, sym (ap (λ (o : Opening). o.fault) p));
  stays = λ s t c r u p. tt;
  steps = λ s t c r u p. ap (λ (o : Outcome). o.state) p.0;
  tells = λ s t c r u p. ap (λ (o : Outcome). not (is_refused o.answer)) p.0 ∙ decided_is (view s) c;
  replies = λ s t s' t' c d r q u u' p p' e.
      answer_only r q (ap (λ (o : Outcome). o.answer) p.0 ∙ e ∙ sym (ap (λ (o : Outcome). o.answer) p'.0));
}
