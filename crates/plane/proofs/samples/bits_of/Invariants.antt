-- `plane::bits_of` meets its contract: after x turns the bits are those of the first x samples. Assumes nothing.
use mathlib.Core.Bool.{Bool}
use mathlib.Core.List.{List}
use Prim.Native.Nat.{ℕ, ◌^◌}
use lib.Dec.{leb}
use lib.ListN.{get_or}
use Rattle.plane.proofs.SampleLaws.{Reach}
use Rattle.plane.proofs.samples.bits_of.Given as goal

-- whether sample x of a row reaches 2 to the n
abbrev pub large : List ℕ → ℕ → ℕ → Bool
large s n x = leb (2 ^ n) (get_or s x 0)

abbrev pub invariant-loop-x : goal.invariant-loop-x
invariant-loop-x g l = let it = g.S.Sample in Reach (it.value l.bits) l.x-index (large (it.values l.row))
