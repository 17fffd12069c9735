-- `intra::blocks_row` meets its contract. After x turns the costs of the first x blocks of the row stand in their places. Assumes nothing.
use mathlib.Core.Path.{refl}
use native.Mathlib.Omega.{arith}
use lib.ListN.{length}
use Rattle.intra.proofs.CostLaws.{turn_cost, row_done, row_lies, block_lies, costs_in}
use Rattle.sums.proofs.PlaceLaws.{run_none, run_next}
use Rattle.sums.proofs.Wrote.{wrote_none, wrote_one}
use Rattle.intra.proofs.blocks_row.Goals as goal

pub loop-x-init : goal.loop-x-init
loop-x-init g c = wrote_none _ _ _ (run_none _)

pub overflow_add-start : goal.overflow_add-start
overflow_add-start g c =
    omega (arith, c.loop-x-test.true, row_lies {n = length c.args.s.now} c.requires.s_value c.requires.y_bound c.block_row-start.ensures, c.well_formed)

pub block_cost-requires : goal.block_cost-requires
block_cost-requires g c = block_lies (row_lies c.requires.s_value c.requires.y_bound c.block_row-start.ensures) c.loop-x.x _ c.loop-x-test.true refl

pub loop-x-preserved : goal.loop-x-preserved
loop-x-preserved g c =
    let s = c.args in
    let x = c.loop-x.x in
    wrote_one c.loop-x.invariant _ _ (omega (arith, c.loop-x-test.true, costs_in s.p s.y (length s.costs.now) c.requires.p_in_bounds c.requires.y_bound))
    (turn_cost (g.S.Sample.value s.flat) (g.S.Sample.values s.s.now) _ s.p.stride _ x _ c.block_cost.ensures) (run_next _ x)

pub returns : goal.returns
returns g c =
    let s = c.args in
    row_done (g.S.Sample.value s.flat) s.p (g.S.Sample.values s.s.now) s.y _ c.loop-x.x _ _ (row_lies c.requires.s_value c.requires.y_bound c.block_row-start.ensures).start_is c.loop-x.invariant (omega arith)
