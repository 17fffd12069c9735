-- `score_log::record_fault` meets its contract: the mark first, and then the cut and the number that stand in the bytes. Assumes nothing.
use mathlib.Core.Path.{sym, ◌∙◌}
use native.Mathlib.Omega.{arith}
use Rattle.octets.proofs.Laws.{number_here}
use Rattle.score_log.proofs.Places.{fault_mark, fault_later, mark_tested}
use Rattle.score_log.proofs.record_fault.Goals as goal

pub returns-then-not-starts_with : goal.returns-then-not-starts_with
returns-then-not-starts_with c =
    fault_mark _ _ (sym (mark_tested c.args.bytes.now) ∙ sym c.starts_with.ensures.value ∙ c.if-not-starts_with.true)

pub returns : goal.returns
returns c =
    let bs = c.args.bytes.now in
    let mark = sym (mark_tested bs) ∙ sym c.starts_with.ensures.value ∙ c.if-not-starts_with.false in
    fault_later _ bs _ mark (rw (c.from.ensures, c.u32_at.ensures, number_here 4 2 bs (omega arith)) at c.later_fault.ensures)
