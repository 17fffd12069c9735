-- `intra::fill_block` meets its contract. After y turns y rows are filled, each lent as a part from the block's column onward. Assumes nothing.
use Prim.Native.Nat.{ℕ}
use Rattle.plane.specs.Blocks.{block_side}
use Rattle.sums.specs.Places.{in_rows}
use Rattle.sums.proofs.Wrote.{Wrote}
use Rattle.intra.proofs.fill_block.Given as goal

abbrev pub invariant-loop-y : goal.invariant-loop-y
invariant-loop-y g l =
    let values = g.S.Sample.values in
    Wrote (in_rows l.start l.stride l.y block_side) (λ (k : ℕ). g.S.Sample.value l.fn.flat) (values l.initial.work) (values l.work)
