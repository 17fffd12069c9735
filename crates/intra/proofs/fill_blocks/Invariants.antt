-- `intra::fill_blocks` meets its contract. After y turns the first y rows of blocks are filled. Assumes nothing.
use Prim.Native.Nat.{ℕ, ◌*◌}
use Rattle.plane.specs.Blocks.{block_side, blocks_across}
use Rattle.sums.specs.Places.{in_rows}
use Rattle.sums.proofs.Wrote.{Wrote}
use Rattle.intra.proofs.fill_blocks.Given as goal

abbrev pub invariant-loop-y : goal.invariant-loop-y
invariant-loop-y g l =
    let values = g.S.Sample.values in
    Wrote (in_rows l.w.origin l.w.stride (l.y * block_side) (blocks_across l.w * block_side)) (λ (k : ℕ). g.S.Sample.value l.flat) (values l.initial.work) (values l.work)
