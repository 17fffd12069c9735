-- `intra::fill_row` meets its contract. After x turns the first x blocks of the row are filled. Assumes nothing.
use Prim.Native.Nat.{ℕ, ◌*◌}
use Rattle.plane.specs.Blocks.{block_side}
use Rattle.sums.specs.Places.{in_rows}
use Rattle.sums.proofs.Wrote.{Wrote}
use Rattle.intra.proofs.fill_row.Given as goal

abbrev pub invariant-loop-x : goal.invariant-loop-x
invariant-loop-x g l =
    let values = g.S.Sample.values in
    Wrote (in_rows l.start l.w.stride block_side (l.x * block_side)) (λ (k : ℕ). g.S.Sample.value l.flat) (values l.initial.work) (values l.work)
