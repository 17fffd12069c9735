-- The step is a function of the view, the first and the release number are in the view for the reader alone, and a list that the mode
-- does not read is not looked at.
-- Assumes nothing.
use mathlib.Core.Path.{◌≡◌, refl, sym, ap, ◌∙◌}
use mathlib.Core.Bool.{Bool, true, false, not, cond}
use Prim.Native.Nat.{ℕ, ◌≤◌, ◌<◌}
use native.Mathlib.Omega.{arith}
use lib.Dec.{eqb, leb}
use lib.ListN.{length, get_or}
use lib.Seq.{ext_get_or, get_or-take, length-take-le}
use Rattle.settings.specs.Settings.{lookahead_offset, is_none, is_fast}
use Rattle.score.specs.declared.ScoreDeque.{ScoreDeque}
use Rattle.score.specs.Deque.{no_score, content}
use Rattle.state.specs.State.{View, Call, view}
use Rattle.state.specs.Refusals.{reads_inter, reads_all, step_fault}
use Rattle.state.proofs.Fine.{step_same, unread}
use Rattle.state.specs.declared.State.{State}
use Rattle.detector.specs.declared.Stepped.{Stepped}
use Rattle.detector.specs.Step.{Outcome, outcome, accepted_of, step_of}
use Rattle.detector.specs.Runs.{renumbered, compared}
use Rattle.detector.proofs.Cases.{step_accepted}

-- ---- the step respects the view

-- deques that agree below the count hold the same
pub same_content : (d e : ScoreDeque) → d.count ≡ e.count → d.count ≤ length d.entries → e.count ≤ length e.entries
    → ((i : ℕ) → i < d.count → get_or d.entries i no_score ≡ get_or e.entries i no_score) → content d ≡ content e
same_content d e n h k f =
    let long : length (content d) ≡ d.count = length-take-le d.count d.entries h in
    let other : length (content e) ≡ e.count = length-take-le e.count e.entries k in
    ext_get_or no_score (content d) (content e) (omega arith)
    (λ i l. get_or-take d.count d.entries i no_score (omega arith) ∙ f i (omega arith) ∙ sym (get_or-take e.count e.entries i no_score (omega arith)))

-- states with one view give one answer and one view
pub step_respects_view : (s t : State) (c : Call) (r q : Stepped) → outcome r ≡ step_of (view s) c → outcome q ≡ step_of (view t) c
    → view s ≡ view t → outcome r ≡ outcome q
step_respects_view s t c r q p u e = p ∙ ap (λ (v : View). step_of v c) e ∙ sym u

-- ---- the first and the release number bear on no decision, score or refusal

pub fault_blind : (s : View) (c : Call) (a b : ℕ) → step_fault (renumbered s a b) c ≡ step_fault s c
fault_blind s c a b = step_same (renumbered s a b) s c refl refl refl refl refl

-- the same answer, and the same state but for the two numbers
abbrev pub Alike : Outcome → Outcome → Type 0
Alike o u = (o.answer ≡ u.answer) × (compared o.state ≡ compared u.state)

either : (t : Bool) (o o' u u' : Outcome) → Alike o u → Alike o' u' → Alike (cond t o o') (cond t u u')
either true o o' u u' p q = p
either false o o' u u' p q = q

accepted_blind : (s : View) (c : Call) (a b : ℕ) → Alike (accepted_of (renumbered s a b) c) (accepted_of s c)
unfolding accepted_of
accepted_blind s c a b =
    either (leb c.set_length (lookahead_offset s.settings)) _ _ _ _ (refl, refl)
    (either (is_none s.settings) _ _ _ _ (refl, refl) (refl, refl))

pub step_blind : (s : View) (c : Call) (a b : ℕ) → Alike (step_of (renumbered s a b) c) (step_of s c)
unfolding step_of
step_blind s c a b = rw (fault_blind s c a b) (either (eqb (step_fault s c) 0) _ _ _ _ (accepted_blind s c a b) (refl, refl))

-- so states that are the same but for them give the same
pub alike : (s t : View) (c : Call) → compared s ≡ compared t → Alike (step_of s c) (step_of t c)
alike s t c e =
    let x = step_blind s c 0 0 in
    let y = step_blind t c 0 0 in
    let z = ap (λ (v : View). step_of v c) e in
    (sym x.0 ∙ ap (λ (o : Outcome). o.answer) z ∙ y.0, sym x.1 ∙ ap (λ (o : Outcome). compared o.state) z ∙ y.1)

-- ---- nor does the count: it is in the view so that a refused state is seen whole

module _ (s : View) (c : Call) (k : ℕ) where
  abbrev recounted : View
  recounted = record {
    settings = s.settings;
    entries = s.entries;
    count = k;
    offset = s.offset;
    last_number = s.last_number;
    last_length = s.last_length;
    first_number = s.first_number;
    release = s.release;
  }

  pub fault_uncounted : step_fault recounted c ≡ step_fault s c
  fault_uncounted = step_same recounted s c refl refl refl refl refl

  accepted_uncounted : accepted_of recounted c ≡ accepted_of s c
  unfolding accepted_of
  accepted_uncounted = refl

  -- an accepted call gives the same outcome whatever the count was
  pub step_uncounted : step_fault s c ≡ 0 → step_of recounted c ≡ step_of s c
  step_uncounted e = step_accepted recounted c (fault_uncounted ∙ e) ∙ accepted_uncounted ∙ sym (step_accepted s c e)

-- ---- a list that the mode does not read may be anything

module _ (s : View) (c d : Call) (k : c.set_length ≡ d.set_length) (n : c.number ≡ d.number) (p : c.keyframe ≡ d.keyframe) where
  pub unread_blind : (reads_inter s.settings ≡ true → c.inter ≡ d.inter)
      → (reads_all s.settings ≡ true → (c.importance ≡ d.importance) × (c.threshold ≡ d.threshold)) → step_of s c ≡ step_of s d
  unfolding step_of accepted_of
  unread_blind inter rest = by (is_none s.settings) (is_fast s.settings) refl refl
    where
      same : step_fault s c ≡ step_fault s d
      same = unread s c d k n p inter rest

      by : (x y : Bool) → is_none s.settings ≡ x → is_fast s.settings ≡ y → step_of s c ≡ step_of s d
      by true y e f = rw (same, e, k, n, p)
      by false true e f = rw (same, f, k, n, p, inter (ap not e))
      by false false e f =
          let all = rest (rw (f, e)) in
          rw (same, k, n, p, inter (ap not e), all.0, all.1)
