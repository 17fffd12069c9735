-- `importance::byte::sum_row` meets its contract. After so many turns the sum is that of as many samples. Assumes nothing.
use mathlib.Core.Path.{◌≡◌}
use Prim.Native.Nat.{ℕ}
use native.Mathlib.Omega.{arith}
use borrow.Author.Rules.{rules}
use lib.ListN.{length, get_or, take, length-take}
use lib.Seq.{get_or-take}
use Rattle.sums.proofs.SumLaws.{sum_none, sum_more}
use Rattle.importance.proofs.byte.sum_row.Goals as goal

pub loop-x-init : goal.loop-x-init
loop-x-init c = (omega arith, omega arith, sum_none _)

pub loop-x-preserved : goal.loop-x-preserved
loop-x-preserved c =
    let eight : length (take 8 c.args.s.now) ≡ 8 = simp length-take (omega arith) in
    let here = get_or-take 8 c.args.s.now c.loop-x.x-index 0 (omega arith) in
    (omega arith, search rules, omega (arith, here, c.loop-x.invariant.2, sum_more c.loop-x.x-index (λ (n : ℕ). get_or c.args.s.now n 0)))
