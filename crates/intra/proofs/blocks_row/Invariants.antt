-- `intra::blocks_row` meets its contract. After x turns the costs of the first x blocks of the row stand in their places. Assumes nothing.
use Rattle.sums.specs.Places.{in_run}
use Rattle.intra.proofs.CostLaws.{cost_from}
use Rattle.sums.proofs.Wrote.{Wrote}
use Rattle.intra.proofs.blocks_row.Given as goal

abbrev pub invariant-loop-x : goal.invariant-loop-x
invariant-loop-x g l = Wrote (in_run l.first l.x) (cost_from (g.S.Sample.value l.flat) (g.S.Sample.values l.s) l.start l.stride l.first) l.initial.costs l.costs
