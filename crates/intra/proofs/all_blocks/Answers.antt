-- `intra::all_blocks` meets its contract. After y turns the costs of the first y rows of blocks stand in row order. Assumes nothing.
use mathlib.Core.Path.{refl}
use Prim.Native.Nat.{ℕ, ◌*◌}
use native.Mathlib.Omega.{arith}
use lib.Dec.{ltb}
use lib.ListN.{length}
use Rattle.plane.proofs.PlaneLaws.{lies}
use Rattle.plane.proofs.BlockLaws.{count_most}
use Rattle.plane.specs.Blocks.{blocks_across, blocks_down}
use Rattle.sums.proofs.PlaceLaws.{fronts_none, fronts_next}
use Rattle.sums.proofs.Wrote.{wrote_none, wrote_more, wrote_all}
use Rattle.intra.proofs.all_blocks.Goals as goal

pub loop-y-init : goal.loop-y-init
loop-y-init g c = wrote_none _ _ _ (fronts_none (blocks_across c.args.p))

pub loop-y-preserved : goal.loop-y-preserved
loop-y-preserved g c = wrote_more c.loop-y.invariant _ _ c.blocks_row.ensures (fronts_next (blocks_across c.args.p) c.loop-y.y)

pub overflow_mul-result : goal.overflow_mul-result
overflow_mul-result g c = omega (arith, count_most c.args.p (length c.args.s.now) (lies _ _ c.requires.s_value))

pub returns : goal.returns
returns g c =
    let p = c.args.p in
    record { count = refl; costs_after = wrote_all (λ (n k : ℕ). ltb k (n * blocks_across p)) c.loop-y.y (blocks_down p) c.loop-y.invariant (omega arith) }
