-- Each contract of this crate allows one outcome alone. Assumes nothing.
use mathlib.Core.Path.{◌≡◌, refl, sym, ◌∙◌, ap}
use mathlib.Core.Bool.{true}
use Rattle.std.specs.Prelude.{Option, Some, None, Result, Ok, Err}
use Rattle.answer.specs.Answer.{Answer, gives, refused}
use Rattle.answer.specs.Unique.{OneOutcome}
use Rattle.answer.specs.declared.Refusal.{Refusal}
use Rattle.answer.proofs.Laws.{by_number, by_number_of}
use Rattle.state.specs.State.{View, view}
use Rattle.state.specs.declared.State.{State}
use Rattle.detector.specs.declared.Stepped.{Stepped}
use Rattle.detector.specs.declared.Decision.{Decision}
use Rattle.detector.specs.Step.{Verdict, Outcome, step_answer, outcome, is_refused, HandsBack}
use Rattle.detector.specs.Fresh.{Opening, opened}
use Rattle.detector.proofs.fresh.Kinds as fresh-kinds
use Rattle.detector.proofs.fresh.Reads as fresh-reads
use Rattle.detector.proofs.step.Kinds as step-kinds
use Rattle.detector.proofs.step.Reads as step-reads
use Rattle.detector.proofs.runs.then_step.Kinds as then-step-kinds
use Rattle.detector.proofs.runs.then_step.Reads as then-step-reads
use Rattle.detector.proofs.runs.run.Kinds as run-kinds
use Rattle.detector.proofs.runs.run.Reads as run-reads

-- the result with an answer
abbrev pub answer_by : Answer Verdict → Result Decision Refusal
answer_by (gives v) = Ok (record { cut = v.cut; score = v.score })
answer_by (refused f) = Err (by_number f)

-- two results with the same answer are the same
pub answer_only : (r s : Result Decision Refusal) → step_answer r ≡ step_answer s → r ≡ s
answer_only r s p = sym (same r) ∙ ap answer_by p ∙ same s
  where
    same : (r : Result Decision Refusal) → answer_by (step_answer r) ≡ r
    same (Ok d) = refl
    same (Err e) = ap Err (by_number_of e)

-- what is compared of a run: the answer itself, and the next state's view, with its count
abbrev told : Stepped → Result Decision Refusal × View
told r = (r.answer, view r.state)

same_told : (r q : Stepped) → outcome r ≡ outcome q → told r ≡ told q
same_told r q e =
    let a = answer_only r.answer q.answer (ap (λ (o : Outcome). o.answer) e) in
    let v : view r.state ≡ view q.state = ap (λ (o : Outcome). o.state) e in
    rw (a, v)

-- what is compared of a step: the same, and of a refused one the very state
abbrev kept : Answer Verdict → State → Option State
kept (gives v) s = None
kept (refused f) s = Some s

abbrev seen : Stepped → (Result Decision Refusal × View) × Option State
seen r = (told r, kept (step_answer r.answer) r.state)

same_kept : (x y : Answer Verdict) (s t u : State) → x ≡ y → (is_refused x ≡ true → t ≡ s) → (is_refused y ≡ true → u ≡ s) → kept x t ≡ kept y u
same_kept x y s t u e h k = ap (λ (z : Answer Verdict). kept z t) e ∙ by y (λ r. h (ap is_refused e ∙ r)) k
  where
    by : (y : Answer Verdict) → (is_refused y ≡ true → t ≡ s) → (is_refused y ≡ true → u ≡ s) → kept y t ≡ kept y u
    by (gives v) h k = refl
    by (refused f) h k = ap Some (h refl ∙ sym (k refl))

same_seen : (s : State) (r q : Stepped) → outcome r ≡ outcome q → HandsBack r s → HandsBack q s → seen r ≡ seen q
same_seen s r q e h k =
    rw (same_told r q e, same_kept (step_answer r.answer) (step_answer q.answer) s r.state q.state (ap (λ (o : Outcome). o.answer) e) h k)

pub fresh_unique : OneOutcome 0 fresh-kinds.ps fresh-kinds.r Opening (λ κs r e. opened r) fresh-reads.Post
fresh_unique κs a r r' e e' p q = p ∙ sym q

pub step_unique : OneOutcome 2 step-kinds.ps step-kinds.r ((Result Decision Refusal × View) × Option State) (λ κs r e. seen r) step-reads.Post
step_unique κs a r r' e e' p q = same_seen _ r r' (p.0 ∙ sym q.0) p.1 q.1

pub then_step_unique : OneOutcome 2 then-step-kinds.ps then-step-kinds.r ((Result Decision Refusal × View) × Option State) (λ κs r e. seen r) then-step-reads.Post
then_step_unique κs a r r' e e' p q = same_seen _ r r' (p.0 ∙ sym q.0) p.1 q.1

pub run_unique : OneOutcome 6 run-kinds.ps run-kinds.r (Result Decision Refusal × View) (λ κs r e. told r) run-reads.Post
run_unique κs a r r' e e' p q = same_told r r' (p ∙ sym q)
