-- Histories: calls as they were made, and what came back. A detector that runs is known by its contracts alone, so a history is any list of
-- calls and results, each of which the contracts allow. Refused calls may stand anywhere in it.
use Rattle.std.specs.Prelude.{◌≡◌, List, [], ◌∷◌, map, Bool, not, cond, Result, Ok}
use Rattle.answer.specs.declared.Refusal.{Refusal}
use Rattle.settings.specs.declared.Settings.{Settings}
use Rattle.state.specs.State.{Call, view}
use Rattle.state.specs.declared.State.{State}
use Rattle.detector.specs.declared.Decision.{Decision}
use Rattle.detector.specs.Fresh.{opened, opened_of}
use Rattle.detector.specs.Step.{step_answer, is_refused, outcome, HandsBack, step_of}

-- ---- a detector that runs

pub record Detector : Type 1 where
  -- what is kept between calls
  pub Kept : Type 0
  -- what a call replies
  pub Reply : Type 0
  -- whether that says that the call was accepted
  pub accepts : Reply → Bool
  -- what the contract of `fresh` allows to be kept, where it refuses nothing
  pub Begins : Settings → Kept → Type 0
  -- what the contract of `step` allows: what was kept before, a call, its reply, what is kept after it
  pub Allows : Kept → Call → Reply → Kept → Type 0

-- ---- histories of it

-- a call, its reply, and what was kept after it
pub record Made (D : Detector) : Type 0 where
  pub call : Call
  pub reply : D.Reply
  pub after : D.Kept

module _ (D : Detector) where
  -- each call is given what the one before it left, and its result is one that is allowed
  abbrev pub Follows : D.Kept → List (Made D) → Type 0
  Follows k [] = Unit {0}
  Follows k (m ∷ ms) = D.Allows k m.call m.reply m.after × Follows m.after ms

  -- what is kept at the end
  abbrev pub kept_after : D.Kept → List (Made D) → D.Kept
  kept_after k [] = k
  kept_after k (m ∷ ms) = kept_after m.after ms

  -- all calls, and the accepted ones, in their order
  abbrev pub calls_in : List (Made D) → List Call
  calls_in ms = map (λ (m : Made D). m.call) ms

  abbrev pub accepted_in : List (Made D) → List Call
  accepted_in [] = []
  accepted_in (m ∷ ms) = cond (D.accepts m.reply) (m.call ∷ accepted_in ms) (accepted_in ms)

  -- all replies
  abbrev pub replies_in : List (Made D) → List D.Reply
  replies_in ms = map (λ (m : Made D). m.reply) ms

-- from a fresh detector on
pub record History (D : Detector) (g : Settings) : Type 0 where
  pub begun : D.Kept
  pub fresh : D.Begins g begun
  pub made : List (Made D)
  pub follows : Follows D begun made

-- what it keeps at its end, and its accepted calls
abbrev pub last_kept : {D : Detector} {g : Settings} → History D g → D.Kept
last_kept {D} h = kept_after D h.begun h.made

abbrev pub accepted_calls : {D : Detector} {g : Settings} → History D g → List Call
accepted_calls {D} h = accepted_in D h.made

-- ---- the detector of this crate: proofs/Contracts.antt shows that what it allows are the contracts of `fresh` and `step`, word for word

abbrev pub by_value : Detector
by_value = record {
  Kept = State;
  Reply = Result Decision Refusal;
  accepts = λ (a : Result Decision Refusal). not (is_refused (step_answer a));
  Begins = λ (g : Settings) (s : State). opened (record { answer = Ok tt; state = s }) ≡ opened_of g;
  Allows = λ (s : State) (c : Call) (a : Result Decision Refusal) (t : State).
      (outcome (record { answer = a; state = t }) ≡ step_of (view s) c) × HandsBack (record { answer = a; state = t }) s;
}
