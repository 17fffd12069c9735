-- `intra::fill_block` meets its contract. After y turns y rows are filled, each lent as a part from the block's column onward. Assumes nothing.
use mathlib.Core.Path.{refl}
use Prim.Native.Nat.{ℕ}
use native.Mathlib.Omega.{arith}
use lib.ListN.{replicate}
use Rattle.plane.specs.Blocks.{block_side}
use Rattle.sums.specs.Places.{in_rows}
use Rattle.sums.proofs.PlaceLaws.{rows_none, rows_next}
use Rattle.sums.proofs.Wrote.{wrote_none, wrote_all}
use Rattle.intra.proofs.CostLaws.{wrote_copied, flat_at}
use Rattle.intra.proofs.fill_block.Goals as goal

pub loop-y-init : goal.loop-y-init
loop-y-init g c = wrote_none _ _ _ (rows_none _ _ _)

pub loop-y-preserved : goal.loop-y-preserved
loop-y-preserved g c =
    let s = c.args in
    wrote_copied g.met.S.Sample.each c.loop-y.invariant _ _ block_side (omega arith) (replicate block_side s.flat) _ c.copy.ensures refl
    (c.requires.rows c.loop-y.y (omega arith)) (flat_at g.met.S.Sample.each s.flat) (rows_next s.start s.stride c.loop-y.y block_side)

pub returns : goal.returns
returns g c =
    let s = c.args in
    wrote_all (λ (n : ℕ). in_rows s.start s.stride n block_side) c.loop-y.y block_side c.loop-y.invariant (omega arith)
