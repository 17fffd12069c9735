-- `reduce::reduce` meets its contract: a refusal leaves the lent samples as they were, and else all rows are written. Assumes nothing.
use Rattle.std.proofs.Common.{length, sym, ◌∙◌}
use Rattle.answer.proofs.Laws.{lent_written, lent_kept, number_some}
use Rattle.sums.proofs.SampleLaws.{length_values}
use Rattle.reduce.proofs.ReduceLaws.{Fine, fine}
use Rattle.reduce.proofs.reduce.Given as given
use Rattle.reduce.proofs.reduce.Goals as goal
use Rattle.reduce.proofs.reduce.Goals.{In_ok-reduce_fault}

passes : (g : given.Over) (c : In_ok-reduce_fault g) → let s = c.args in Fine s.factor (length s.s.now) (length s.reduced.now) s.p s.q
passes g c =
    let as_long = length_values g.met.S.Sample.each in
    rw (← as_long c.args.s.now, ← as_long c.args.reduced.now) (fine _ _ _ _ _ _ _ (sym c.in_ok-reduce_fault.ensures))

pub returns-in_err-reduce_fault-clause-reduced_after : goal.returns-in_err-reduce_fault-clause-reduced_after
returns-in_err-reduce_fault-clause-reduced_after g c = lent_kept _ _ _ _ c.in_err-reduce_fault.ensures (number_some c.in_err-reduce_fault.field-0.0)

pub invariant_of-view : goal.invariant_of-view
invariant_of-view g c = record { lies = (passes g (goal.at.invariant_of-view g c).In_ok-reduce_fault).s_value }

pub reduce_plane-requires : goal.reduce_plane-requires
reduce_plane-requires g c =
    let passed = passes g (goal.at.reduce_plane-requires g c).In_ok-reduce_fault in
    record { factor_value = passed.factor_value; reduced_value = passed.reduced_value; q_value = passed.q_value }

pub returns-clause-reduced_after : goal.returns-clause-reduced_after
returns-clause-reduced_after g c = c.reduce_plane.ensures ∙ lent_written _ _ _ c.in_ok-reduce_fault.ensures
