-- `intra::fill_row` meets its contract. After x turns the first x blocks of the row are filled. Assumes nothing.
use mathlib.Core.Path.{ap, ◌∙◌}
use Prim.Native.Nat.{ℕ, ◌*◌}
use native.Mathlib.Omega.{arith}
use lib.ListN.{length}
use Rattle.plane.specs.Blocks.{block_side, blocks_across}
use Rattle.sums.specs.Places.{in_rows}
use Rattle.sums.proofs.PlaceLaws.{blocks_none, blocks_next}
use Rattle.sums.proofs.Wrote.{wrote_none, wrote_more, wrote_all}
use Rattle.intra.specs.Fill.{filled}
use Rattle.intra.proofs.CostLaws.{row_lies, block_lies}
use Rattle.intra.proofs.fill_row.Goals as goal

pub loop-x-init : goal.loop-x-init
loop-x-init g c = wrote_none _ _ _ (blocks_none _ _ _)

pub overflow_add-start : goal.overflow_add-start
overflow_add-start g c =
    omega (arith, c.loop-x-test.true, row_lies {n = length c.args.work.now} c.requires.work_value c.requires.y_bound c.block_row-start.ensures, c.well_formed)

pub fill_block-requires : goal.fill_block-requires
fill_block-requires g c = block_lies (row_lies c.requires.work_value c.requires.y_bound c.block_row-start.ensures) c.loop-x.x _ (omega arith) (omega arith)

pub loop-x-preserved : goal.loop-x-preserved
loop-x-preserved g c = wrote_more c.loop-x.invariant _ _ c.fill_block.ensures (blocks_next _ c.args.w.stride block_side block_side c.loop-x.x)

pub returns : goal.returns
returns g c =
    let s = c.args in
    let l = c.loop-x in
    let flat = g.S.Sample.value s.flat in
    wrote_all (λ (n : ℕ). in_rows c.block_row-start.result s.w.stride block_side (n * block_side)) l.x (blocks_across s.w) l.invariant (omega arith)
    ∙ ap (λ (i : ℕ). filled flat i s.w.stride block_side (blocks_across s.w * block_side) (g.S.Sample.values s.work.now)) (row_lies c.requires.work_value c.requires.y_bound c.block_row-start.ensures).start_is
