-- What histories of a detector that keeps to the definitions have in common: they leave what their accepted calls leave; two of them that
-- stand in a relation which equal calls keep get the same replies from then on; and calls that one accepts are accepted by another.
-- Assumes nothing.
use mathlib.Core.Path.{◌≡◌, refl, sym, ◌∙◌, ap}
use mathlib.Core.Bool.{true}
use mathlib.Core.List.{List, [], ◌∷◌, map, nil≢cons, head-eq_of_cons-eq, tail-eq_of_cons-eq}
use borrow.Author.Tests.{eqb-true, eq-eqb}
use lib.Dec.{eqb}
use Rattle.settings.specs.declared.Settings.{Settings}
use Rattle.state.specs.State.{View, Call}
use Rattle.state.specs.Refusals.{step_fault}
use Rattle.state.proofs.Tests.{and_both}
use Rattle.detector.specs.Fresh.{fresh_view}
use Rattle.detector.specs.Step.{step_of}
use Rattle.detector.specs.Runs.{state_after, all_accepted, compared}
use Rattle.detector.specs.Histories.{Detector, Made, Follows, kept_after, calls_in, accepted_in, replies_in, History}
use Rattle.detector.proofs.Left.{settings_kept}
use Rattle.detector.proofs.Views.{fault_blind}
use Rattle.detector.proofs.Histories.{Shows, sound_after, history_leaves}
use Rattle.meeting.specs.Calls.{as_read, All}
use Rattle.meeting.proofs.AsRead.{same_step, same_fault}

module _ (D : Detector) (S : Shows D) (g : Settings) where
  -- ---- a history leaves what its accepted calls leave of a fresh detector

  pub left : (h : History D g)
      → (S.seen (kept_after D h.begun h.made) ≡ state_after (fresh_view g) (accepted_in D h.made))
      × (all_accepted (fresh_view g) (accepted_in D h.made) ≡ true)
  left h =
      let b = S.begins g h.begun h.fresh in
      rw b.1 at (history_leaves D S h.begun h.made b.0 h.follows)

  pub sound : (h : History D g) → S.Sound (kept_after D h.begun h.made)
  sound h = sound_after D S h.begun h.made (S.begins g h.begun h.fresh).0 h.follows

  -- ---- every later reply is the same

  module _ (R : View → View → Type 0)
      (step : (s t : View) (c d : Call) → R s t → as_read g c ≡ as_read g d
      → ((step_of s c).answer ≡ (step_of t d).answer) × R (step_of s c).state (step_of t d).state)
    where
      pub stay : (k l : D.Kept) (us vs : List (Made D)) → S.Sound k → S.Sound l → R (S.seen k) (S.seen l)
          → Follows D k us → Follows D l vs → map (as_read g) (calls_in D us) ≡ map (as_read g) (calls_in D vs)
          → (replies_in D us ≡ replies_in D vs) × R (S.seen (kept_after D k us)) (S.seen (kept_after D l vs))
      stay k l [] [] p q r f h same = (refl, r)
      stay k l [] (v ∷ vs) p q r f h same = absurd (nil≢cons same)
      stay k l (u ∷ us) [] p q r f h same = absurd (nil≢cons (sym same))
      stay k l (u ∷ us) (v ∷ vs) p q r f h same =
          let both = step (S.seen k) (S.seen l) u.call v.call r (head-eq_of_cons-eq same) in
          let one = S.steps k u.after u.call u.reply p f.0 in
          let two = S.steps l v.after v.call v.reply q h.0 in
          let reply = S.replies k u.after l v.after u.call v.call u.reply v.reply p q f.0 h.0 both.0 in
          let rest = stay u.after v.after us vs (S.stays k u.after u.call u.reply p f.0) (S.stays l v.after v.call v.reply q h.0)
          (rw (one, two) both.1) f.1 h.1 (tail-eq_of_cons-eq same) in
          (rw (reply, rest.0), rest.1)

  -- ---- calls that s accepts are accepted: R is what is asked of the states, P of the calls

  module _ (R : View → View → Type 0) (P : Call → Type 0)
      (step : (s t : View) (c d : Call) → R s t → P c → step_fault s c ≡ 0 → as_read g c ≡ as_read g d
      → (step_fault t d ≡ 0) × R (step_of s c).state (step_of t d).state)
    where
      pub takes : (s : View) (k : D.Kept) (cs : List Call) (ms : List (Made D)) → R s (S.seen k) → all_accepted s cs ≡ true → All P cs
          → S.Sound k → Follows D k ms → map (as_read g) cs ≡ map (as_read g) (calls_in D ms) → accepted_in D ms ≡ calls_in D ms
      unfolding all_accepted
      takes s k cs [] r t ps w f e = refl
      takes s k [] (m ∷ ms) r t ps w f e = absurd (nil≢cons e)
      takes s k (c ∷ cs) (m ∷ ms) r t ps w f e =
          let u = and_both (eqb (step_fault s c) 0) _ t in
          let here = step s (S.seen k) c m.call r ps.0 (eqb-true _ _ u.0) (head-eq_of_cons-eq e) in
          let told = S.tells k m.after m.call m.reply w f.0 ∙ eq-eqb _ 0 here.0 in
          let went = S.steps k m.after m.call m.reply w f.0 in
          let rest = takes (step_of s c).state m.after cs ms (rw went here.1) u.1 ps.1 (S.stays k m.after m.call m.reply w f.0) f.1 (tail-eq_of_cons-eq e) in
          rw (told, rest)

-- ---- such a relation: the same state, "first and release numbers apart"

pub record Met (g : Settings) (s t : View) : Type 0 where
  pub one : s.settings ≡ g
  pub other : t.settings ≡ g
  pub same : compared s ≡ compared t

pub met_step : (g : Settings) (s t : View) (c d : Call) → Met g s t → as_read g c ≡ as_read g d
    → ((step_of s c).answer ≡ (step_of t d).answer) × Met g (step_of s c).state (step_of t d).state
met_step g s t c d m e =
    let both = same_step g s t c d m.one m.other m.same e in
    (both.0, record { one = settings_kept s c ∙ m.one; other = settings_kept t d ∙ m.other; same = both.1 })

pub met_fault : (g : Settings) (s t : View) (c d : Call) → Met g s t → as_read g c ≡ as_read g d → step_fault s c ≡ step_fault t d
met_fault g s t c d m e =
    sym (fault_blind s c 0 0) ∙ ap (λ (v : View). step_fault v c) m.same ∙ fault_blind t c 0 0 ∙ same_fault g t c d m.other e
