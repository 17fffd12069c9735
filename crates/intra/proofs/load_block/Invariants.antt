-- `intra::load_block` meets its contract. After j turns the first j rows of the block are copied, each from a part of the samples. Assumes nothing.
use Prim.Native.Nat.{ℕ, ◌*◌}
use lib.Dec.{ltb}
use Rattle.plane.specs.Blocks.{block_side}
use Rattle.intra.specs.Needs.{square_at}
use Rattle.sums.proofs.Wrote.{Wrote}
use Rattle.intra.proofs.load_block.Given as goal

abbrev pub invariant-loop-j : goal.invariant-loop-j
invariant-loop-j g l =
    let values = g.S.Sample.values in
    Wrote (λ (k : ℕ). ltb k (l.j * block_side)) (square_at (values l.s) l.start l.stride) (values l.initial.rows) (values l.rows)
