-- `intra::fill_blocks` meets its contract. After y turns the first y rows of blocks are filled. Assumes nothing.
use mathlib.Core.Path.{ap, ◌∙◌}
use Prim.Native.Nat.{ℕ, ◌*◌}
use native.Mathlib.Omega.{arith}
use Rattle.plane.specs.Blocks.{block_side, blocks_across, blocks_down}
use Rattle.plane.specs.Planes.{plane_fault}
use Rattle.sums.specs.Places.{in_rows}
use Rattle.sums.proofs.PlaceLaws.{bands_none, bands_next}
use Rattle.sums.proofs.Wrote.{wrote_none, wrote_more, wrote_all}
use Rattle.intra.proofs.fill_blocks.Goals as goal

pub loop-y-init : goal.loop-y-init
loop-y-init g c = wrote_none _ _ _ (bands_none _ _ block_side _)

pub fill_row-requires : goal.fill_row-requires
fill_row-requires g c = record { work_value = ap (plane_fault c.args.w) c.loop-y.auto.work ∙ c.requires; y_bound = omega arith }

pub loop-y-preserved : goal.loop-y-preserved
loop-y-preserved g c =
    let w = c.args.w in
    wrote_more c.loop-y.invariant _ _ c.fill_row.ensures (bands_next w.origin w.stride block_side c.loop-y.y (blocks_across w * block_side))

pub returns : goal.returns
returns g c =
    let w = c.args.w in
    wrote_all (λ (n : ℕ). in_rows w.origin w.stride (n * block_side) (blocks_across w * block_side)) c.loop-y.y (blocks_down w) c.loop-y.invariant (omega arith)
