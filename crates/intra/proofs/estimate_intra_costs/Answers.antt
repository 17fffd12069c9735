-- `intra::estimate_intra_costs` meets its contract: where nothing is refused both planes pass, and there is room. Assumes nothing.
use Rattle.std.proofs.Common.{length, sym}
use Rattle.sums.proofs.SampleLaws.{length_values}
use Rattle.intra.proofs.CostLaws.{Fine, fine}
use Rattle.intra.proofs.estimate_intra_costs.Given as given
use Rattle.intra.proofs.estimate_intra_costs.Goals as goal
use Rattle.intra.proofs.estimate_intra_costs.Goals.{In_ok-intra_fault}

passes : (g : given.Over) (c : In_ok-intra_fault g) → let s = c.args in Fine g.S.Depths.word s.depth s.p (length s.s.now) s.w (length s.work.now) (length s.costs.now)
passes g c =
    let as_long = length_values g.met.S.Sample.each in
    fine _ _ (sym c.in_ok-intra_fault.ensures) _ _ (as_long c.args.s.now) (as_long c.args.work.now)

pub flat_sample-flat-requires : goal.flat_sample-flat-requires
flat_sample-flat-requires g c = (passes g (goal.at.flat_sample-flat-requires g c).In_ok-intra_fault).suits_it

pub fill_blocks-requires : goal.fill_blocks-requires
fill_blocks-requires g c = (passes g (goal.at.fill_blocks-requires g c).In_ok-intra_fault).second

pub all_blocks-requires : goal.all_blocks-requires
all_blocks-requires g c =
    let passed = passes g (goal.at.all_blocks-requires g c).In_ok-intra_fault in
    record { s_value = passed.first; p_in_bounds = passed.room_enough }
