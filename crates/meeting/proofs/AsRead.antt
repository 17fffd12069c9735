-- Calls that are equal as their mode reads them: what they score, and what a step makes of them. Assumes nothing.
use mathlib.Core.Path.{◌≡◌, refl, sym, ◌∙◌, ap}
use mathlib.Core.Bool.{Bool, true, false}
use mathlib.Core.List.{List, [], ◌∷◌, map, nil≢cons, head-eq_of_cons-eq, tail-eq_of_cons-eq}
use Prim.Native.Nat.{ℕ, ◌+◌}
use Rattle.settings.specs.declared.Settings.{Settings}
use Rattle.settings.specs.Settings.{is_none, is_fast}
use Rattle.score.specs.declared.Measure.{Measure}
use Rattle.state.specs.State.{View, Call}
use Rattle.state.specs.Refusals.{step_fault}
use Rattle.state.proofs.Fine.{unread}
use Rattle.detector.specs.Step.{Outcome, item_in, step_of}
use Rattle.detector.specs.Runs.{compared, state_after}
use Rattle.detector.proofs.Left.{settings_kept}
use Rattle.detector.proofs.Views.{Alike, alike, unread_blind}
use Rattle.meeting.specs.Calls.{as_read, Has, Agree, All, OneMeasurement, FullSets}
use Rattle.meeting.proofs.Lists.{all_so}
use Rattle.meeting.proofs.ClosedForm.{span, Item, item_at, scored_then, last_call}

-- ---- what they score

module _ (g : Settings) (mode : is_none g ≡ false) where
  item_as_read : (c : Call) (k : ℕ) → item_at g (as_read g c) k ≡ item_at g c k
  item_as_read c k = by (is_fast g) refl
    where
      by : (b : Bool) → is_fast g ≡ b → item_at g (as_read g c) k ≡ item_at g c k
      by true e = rw (mode, e)
      by false e = rw (e, mode)

  pub same_item : (c d : Call) (k : ℕ) → as_read g c ≡ as_read g d → item_at g c k ≡ item_at g d k
  same_item c d k e = sym (item_as_read c k) ∙ ap (λ (x : Call). item_at g x k) e ∙ item_as_read d k

  pub same_scored : (past : List Item) (cs ds : List Call) → map (as_read g) cs ≡ map (as_read g) ds → scored_then g past cs ≡ scored_then g past ds
  unfolding scored_then
  same_scored past [] [] e = refl
  same_scored past [] (d ∷ ds) e = absurd (nil≢cons e)
  same_scored past (c ∷ cs) [] e = absurd (nil≢cons (sym e))
  same_scored past (c ∷ cs) (d ∷ ds) e =
      ap (λ (i : Item). scored_then g (i ∷ past) cs) (same_item c d span (head-eq_of_cons-eq e))
      ∙ same_scored (item_at g d span ∷ past) cs ds (tail-eq_of_cons-eq e)

pub same_last : (g : Settings) (c d : Call) (cs ds : List Call) → as_read g c ≡ as_read g d → map (as_read g) cs ≡ map (as_read g) ds
    → as_read g (last_call c cs) ≡ as_read g (last_call d ds)
same_last g c d [] [] e f = e
same_last g c d [] (x ∷ ds) e f = absurd (nil≢cons f)
same_last g c d (x ∷ cs) [] e f = absurd (nil≢cons (sym f))
same_last g c d (x ∷ cs) (y ∷ ds) e f = same_last g x y cs ds (head-eq_of_cons-eq f) (tail-eq_of_cons-eq f)

-- ---- what a step makes of them: it looks at a call as its mode reads it

module _ (s : View) (c : Call) where
  step_as_read : step_of s (as_read s.settings c) ≡ step_of s c
  step_as_read = unread_blind s (as_read s.settings c) c refl refl refl (λ e. rw e) (λ e. (rw e, rw e))

  fault_as_read : step_fault s (as_read s.settings c) ≡ step_fault s c
  fault_as_read = unread s (as_read s.settings c) c refl refl refl (λ e. rw e) (λ e. (rw e, rw e))

-- two states that are the same but for the two numbers, and two calls that are the same as read
pub same_step : (g : Settings) (s t : View) (c d : Call) → s.settings ≡ g → t.settings ≡ g → compared s ≡ compared t → as_read g c ≡ as_read g d
    → Alike (step_of s c) (step_of t d)
same_step g s t c d p q e r =
    let x : step_of s (as_read g d) ≡ step_of s c
    = ap (step_of s) (sym r) ∙ ap (λ (h : Settings). step_of s (as_read h c)) (sym p) ∙ step_as_read s c in
    let y : step_of t (as_read g d) ≡ step_of t d = ap (λ (h : Settings). step_of t (as_read h d)) (sym q) ∙ step_as_read t d in
    let z = alike s t (as_read g d) e in (
      sym (ap (λ (o : Outcome). o.answer) x) ∙ z.0 ∙ ap (λ (o : Outcome). o.answer) y,
      sym (ap (λ (o : Outcome). compared o.state) x) ∙ z.1 ∙ ap (λ (o : Outcome). compared o.state) y,
    )

pub same_fault : (g : Settings) (s : View) (c d : Call) → s.settings ≡ g → as_read g c ≡ as_read g d → step_fault s c ≡ step_fault s d
same_fault g s c d p r =
    sym (fault_as_read s c) ∙ ap (λ (h : Settings). step_fault s (as_read h c)) p ∙ ap (step_fault s) r
    ∙ ap (λ (h : Settings). step_fault s (as_read h d)) (sym p) ∙ fault_as_read s d

-- what calls leave that are the same as read
pub same_after : (g : Settings) (s t : View) (cs ds : List Call) → s.settings ≡ g → t.settings ≡ g → compared s ≡ compared t
    → map (as_read g) cs ≡ map (as_read g) ds → compared (state_after s cs) ≡ compared (state_after t ds)
unfolding state_after
same_after g s t [] [] p q e r = e
same_after g s t [] (d ∷ ds) p q e r = absurd (nil≢cons r)
same_after g s t (c ∷ cs) [] p q e r = absurd (nil≢cons (sym r))
same_after g s t (c ∷ cs) (d ∷ ds) p q e r =
    same_after g (step_of s c).state (step_of t d).state cs ds (settings_kept s c ∙ p) (settings_kept t d ∙ q)
    (same_step g s t c d p q e (head-eq_of_cons-eq r)).1 (tail-eq_of_cons-eq r)

-- ---- what is asked of them

pub same_full : (g : Settings) (cs ds : List Call) → map (as_read g) cs ≡ map (as_read g) ds → FullSets cs → FullSets ds
same_full g [] [] e f = tt
same_full g [] (d ∷ ds) e f = absurd (nil≢cons e)
same_full g (c ∷ cs) [] e f = tt
same_full g (c ∷ cs) (d ∷ ds) e f =
    let size : c.set_length ≡ d.set_length = ap (λ (x : Call). x.set_length) (head-eq_of_cons-eq e) in
    (rw size at f.0, same_full g cs ds (tail-eq_of_cons-eq e) f.1)

pub same_agree : (g : Settings) (c y z : Call) → is_none g ≡ false → as_read g y ≡ as_read g z → Agree g c y → Agree g c z
same_agree g c y z mode e a j k h l n =
    let number : y.number ≡ z.number = ap (λ (x : Call). x.number) e in
    let size : y.set_length ≡ z.set_length = ap (λ (x : Call). x.set_length) e in
    a j k h (l.0, rw size l.1) (rw number n) ∙ ap (λ (i : Item). i.measure) (same_item g mode y z k e)

-- one measurement per pair: where every call takes its items from one film, all agree
module _ (g : Settings) (pairs : ℕ → Measure) where
  abbrev pub OfFilm : Call → Type 0
  OfFilm c = (k : ℕ) → Has c k → item_in g c k ≡ pairs (c.number + k)

  pub film_agrees : (cs : List Call) → All OfFilm cs → OneMeasurement g cs
  film_agrees cs f =
      all_so OfFilm (λ (a : Call). All (Agree g a) cs)
      (λ a p. all_so OfFilm (Agree g a) (λ b q j k h l e. p j h ∙ ap pairs e ∙ sym (q k l)) cs f) cs f
