-- Calls one after the other: parts of a run, what every run keeps, and that the code's run is the account of specs/Runs.antt.
-- Assumes nothing.
use mathlib.Core.Path.{◌≡◌, refl, ◌∙◌, ap}
use mathlib.Core.Bool.{true, false, true≢false}
use mathlib.Core.List.{List, [], ◌∷◌, ◌++◌}
use borrow.Author.Tests.{eqb-true}
use lib.Dec.{eqb}
use Rattle.answer.specs.Answer.{Answer, gives, refused}
use Rattle.state.specs.State.{View, Call, view}
use Rattle.state.specs.Refusals.{state_fault, step_fault}
use Rattle.state.proofs.Tests.{and_both}
use Rattle.detector.specs.declared.Stepped.{Stepped}
use Rattle.detector.specs.Step.{Verdict, Outcome, is_refused, step_answer, outcome, step_of}
use Rattle.detector.specs.Runs.{state_after, all_accepted, next, then_step, run_of}
use Rattle.detector.proofs.Cases.{leaves}
use Rattle.detector.proofs.Reach.{step_passes}
use Rattle.detector.proofs.Left.{settings_kept}

-- ---- a run in two parts

pub after_parts : (s : View) (cs ds : List Call) → state_after s (cs ++ ds) ≡ state_after (state_after s cs) ds
unfolding state_after
after_parts s [] ds = refl
after_parts s (c ∷ cs) ds = after_parts (step_of s c).state cs ds

pub accepted_parts : (s : View) (cs ds : List Call) → all_accepted s (cs ++ ds) ≡ true
    → (all_accepted s cs ≡ true) × (all_accepted (state_after s cs) ds ≡ true)
unfolding all_accepted state_after
accepted_parts s [] ds e = (refl, e)
accepted_parts s (c ∷ cs) ds e =
    let p = and_both (eqb (step_fault s c) 0) _ e in
    let q = accepted_parts (step_of s c).state cs ds p.1 in
    (rw p.0 q.0, q.1)

-- ---- what every run keeps

-- every state of a run passes 11
pub after_passes : (s : View) (cs : List Call) → state_fault s ≡ 0 → state_fault (state_after s cs) ≡ 0
unfolding state_after
after_passes s [] e = e
after_passes s (c ∷ cs) e = after_passes (step_of s c).state cs (step_passes s c e)

pub settings_after : (s : View) (cs : List Call) → (state_after s cs).settings ≡ s.settings
unfolding state_after
settings_after s [] = refl
settings_after s (c ∷ cs) = settings_after (step_of s c).state cs ∙ settings_kept s c

-- ---- the code's run

then_next : (o : Outcome) (c : Call) → is_refused o.answer ≡ false → then_step o c ≡ step_of o.state c
then_next o c h = by o.answer h
  where
    by : (a : Answer Verdict) → is_refused a ≡ false → next a o (step_of o.state c) ≡ step_of o.state c
    by (gives v) h = refl
    by (refused f) h = absurd (true≢false h)

-- where every call is accepted, `run_of` leaves the state after them
pub run_after : (o : Outcome) (cs : List Call) → is_refused o.answer ≡ false → all_accepted o.state cs ≡ true
    → (run_of o cs).state ≡ state_after o.state cs
unfolding run_of state_after all_accepted
run_after o [] h e = refl
run_after o (c ∷ cs) h e =
    let p = and_both (eqb (step_fault o.state c) 0) _ e in
    let w = leaves o.state c (eqb-true _ _ p.0) in
    ap (λ (u : Outcome). (run_of u cs).state) (then_next o c h) ∙ run_after (step_of o.state c) cs w.decided p.1

-- so for the code, whose contract says that `outcome r` is `run_of` of what stood before
pub code_after : (before r : Stepped) (cs : List Call) → outcome r ≡ run_of (outcome before) cs
    → is_refused (step_answer before.answer) ≡ false → all_accepted (view before.state) cs ≡ true
    → view r.state ≡ state_after (view before.state) cs
code_after before r cs e h a = ap (λ (o : Outcome). o.state) e ∙ run_after (outcome before) cs h a
