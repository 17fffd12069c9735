-- `intra::plane_costs` meets its contract: where nothing is refused the plane passes, and there is room. Assumes nothing.
use Rattle.std.proofs.Common.{length, sym}
use Rattle.sums.proofs.SampleLaws.{length_values}
use Rattle.intra.proofs.CostLaws.{Fine, fine_alone}
use Rattle.intra.proofs.plane_costs.Given as given
use Rattle.intra.proofs.plane_costs.Goals as goal
use Rattle.intra.proofs.plane_costs.Goals.{In_ok-costs_fault}

passes : (g : given.Over) (c : In_ok-costs_fault g) → let s = c.args in let n = length s.s.now in Fine g.S.Depths.word s.depth s.p n s.p n (length s.costs.now)
passes g c = fine_alone _ (sym c.in_ok-costs_fault.ensures) _ (length_values g.met.S.Sample.each c.args.s.now)

pub flat_sample-requires : goal.flat_sample-requires
flat_sample-requires g c = (passes g (goal.at.flat_sample-requires g c).In_ok-costs_fault).suits_it

pub all_blocks-requires : goal.all_blocks-requires
all_blocks-requires g c =
    let passed = passes g (goal.at.all_blocks-requires g c).In_ok-costs_fault in
    record { s_value = passed.first; p_in_bounds = passed.room_enough }
