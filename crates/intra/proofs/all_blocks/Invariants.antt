-- `intra::all_blocks` meets its contract. After y turns the costs of the first y rows of blocks stand in row order. Assumes nothing.
use Prim.Native.Nat.{ℕ, ◌*◌}
use lib.Dec.{ltb}
use Rattle.plane.specs.Blocks.{blocks_across}
use Rattle.intra.specs.Costs.{cost_at}
use Rattle.sums.proofs.Wrote.{Wrote}
use Rattle.intra.proofs.all_blocks.Given as goal

abbrev pub invariant-loop-y : goal.invariant-loop-y
invariant-loop-y g l = Wrote (λ (k : ℕ). ltb k (l.y * blocks_across l.p)) (cost_at (g.S.Sample.value l.flat) l.p (g.S.Sample.values l.s)) l.initial.costs l.costs
