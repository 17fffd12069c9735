-- `importance::importance` meets its contract: a refusal is handed on, and else the total is divided by the number of blocks. Assumes nothing.
use Rattle.std.proofs.Common.{◌≡◌, ℕ, sym, ap, ◌∙◌, rules}
use Rattle.std.specs.Prelude.{Err}
use Rattle.answer.specs.Answer.{answer_of}
use Rattle.answer.proofs.Laws.{answer_given, handed_on, given_by}
use Rattle.plane.specs.Blocks.{block_count}
use Rattle.sums.specs.Quotient.{quotient_of}
use Rattle.importance.proofs.BlockSums.{count_fits}
use Rattle.importance.proofs.Refusals.{one_size}
use Rattle.importance.proofs.importance.Goals as goal

pub returns-in_err-total : goal.returns-in_err-total
returns-in_err-total g c =
    let is : c.from_residual.result ≡ Err c.in_err-total.field-0.0 = search rules in
    ap answer_of is ∙ handed_on _ _ _ _ c.in_err-total.ensures

-- a total that is given says that nothing is refused
pub overflow_mul-count : goal.overflow_mul-count
overflow_mul-count g c =
    let s = c.args in
    let n = given_by _ _ _ c.in_ok-total.ensures in
    record { fits = count_fits _ _ _ _ (one_size g.S.Depths.word s.depth s.p _ s.q _ n.0) }

pub returns : goal.returns
returns g c =
    let n = given_by _ _ _ c.in_ok-total.ensures in
    answer_given _ _ _ (sym n.0) (c.quotient.ensures ∙ ap (λ (total : ℕ). quotient_of total (block_count c.args.p)) n.1)
