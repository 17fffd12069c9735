-- `strips::carry::fit_carry` meets its contract: the length first, then what the carry says. Assumes nothing.
use mathlib.Core.Path.{sym, ap, ◌∙◌}
use native.Mathlib.Omega.{arith}
use Rattle.answer.proofs.Laws.{answer_given, answer_refused}
use Rattle.strips.specs.Carry.{carry_unfit}
use Rattle.strips.proofs.CarryLaws.{another_length, unfit_refused, fit_passed}
use Rattle.strips.proofs.carry.fit_carry.Goals as goal

pub returns-then-numbers-ne-CARRY : goal.returns-then-numbers-ne-CARRY
returns-then-numbers-ne-CARRY c = answer_refused _ _ _ (another_length _ c.if-numbers-ne-CARRY.true) (λ z. omega arith)

pub returns-then-carry_unfit : goal.returns-then-carry_unfit
returns-then-carry_unfit c =
    answer_refused _ _ _ (unfit_refused _ c.if-numbers-ne-CARRY.false (sym (ap carry_unfit c.lent_carry-c.ensures) ∙ sym c.carry_unfit.ensures ∙ c.if-carry_unfit.true))
    (λ z. omega arith)

pub returns : goal.returns
returns c =
    answer_given _ _ _ (fit_passed _ c.if-numbers-ne-CARRY.false (sym (ap carry_unfit c.lent_carry-c.ensures) ∙ sym c.carry_unfit.ensures ∙ c.if-carry_unfit.false))
    c.lent_carry-c.ensures
