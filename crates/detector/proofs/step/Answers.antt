-- `step` meets its contract: the refusal is asked for first, and its branch returns the state that it was given; without one the rules
-- are those of an accepted call, which is no refusal.
-- Assumes nothing.
use mathlib.Core.Path.{sym, ◌∙◌, ap}
use mathlib.Core.Bool.{true≢false}
use Rattle.answer.proofs.Laws.{number_some}
use Rattle.detector.specs.Step.{Outcome, is_refused}
use Rattle.detector.proofs.Cases.{accepted_leaves, step_accepted, step_refused}
use Rattle.detector.proofs.step.Goals as goal

pub returns-in-Ok-clause-result_value : goal.returns-in-Ok-clause-result_value
returns-in-Ok-clause-result_value c = c.accepted.ensures ∙ sym (step_accepted _ _ (sym c.in-Ok.ensures))

pub returns-in-Ok-clause-hands_back : goal.returns-in-Ok-clause-hands_back
returns-in-Ok-clause-hands_back c = λ h.
    absurd (true≢false (sym h ∙ ap (λ (o : Outcome). is_refused o.answer) c.accepted.ensures ∙ (accepted_leaves _ _).decided))

pub returns-in-Err-clause-result_value : goal.returns-in-Err-clause-result_value
returns-in-Err-clause-result_value c =
    let e = c.in-Err.ensures in rw e (sym (step_refused _ _ (λ z. number_some _ (e ∙ z))))
