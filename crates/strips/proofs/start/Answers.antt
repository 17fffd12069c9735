-- `strips::start` meets its contract: 11, 5 and 1 in this order, and else the six numbers. Assumes nothing.
use native.Mathlib.Omega.{arith}
use borrow.Author.Rules.{rules}
use mathlib.Core.Path.{◌≡◌, refl, ◌∙◌}
use Rattle.std.specs.Prelude.{Err}
use Rattle.answer.proofs.Laws.{answer_given, answer_refused, lent_written, lent_kept, number_some}
use Rattle.strips.proofs.ShapeLaws.{start_long, start_depth, start_sides, started}
use Rattle.strips.proofs.start.Goals as goal

pub returns-then-carry-ne-CARRY : goal.returns-then-carry-ne-CARRY
returns-then-carry-ne-CARRY c =
    let e = start_long _ _ _ _ c.if-carry-ne-CARRY.true in
    record { result_value = answer_refused _ _ _ e (λ z. omega arith); carry_after = lent_kept _ _ _ _ e (λ z. omega arith) }

pub returns-in_err-depth_fault : goal.returns-in_err-depth_fault
returns-in_err-depth_fault c =
    let handed : c.from_residual.result ≡ Err c.in_err-depth_fault.field-0.0 = search rules in
    let some = number_some c.in_err-depth_fault.field-0.0 in
    let e = start_depth _ _ _ _ c.if-carry-ne-CARRY.false _ c.in_err-depth_fault.ensures some in
    record { result_value = rw handed (answer_refused _ _ _ e some); carry_after = lent_kept _ _ _ _ e some }

pub returns-then-bad_side : goal.returns-then-bad_side
returns-then-bad_side c =
    let e = start_sides _ _ _ _ c.if-carry-ne-CARRY.false c.in_ok-depth_fault.ensures (rw (← c.bad_side.ensures, ← c.bad_side-2.ensures) c.if-bad_side.true) in
    record { result_value = answer_refused _ _ _ e (λ z. omega arith); carry_after = lent_kept _ _ _ _ e (λ z. omega arith) }

pub returns : goal.returns
returns c =
    let e = started _ _ _ _ c.if-carry-ne-CARRY.false c.in_ok-depth_fault.ensures (rw (← c.bad_side.ensures, ← c.bad_side-2.ensures) c.if-bad_side.false) in
    record { result_value = answer_given _ _ _ e refl; carry_after = c.put_carry.ensures ∙ lent_written _ _ _ e }
