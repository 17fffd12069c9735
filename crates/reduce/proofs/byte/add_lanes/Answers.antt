-- `reduce::byte::add_lanes` meets its contract. After a turn one sum more has gained both rows, and the next is as it was. Assumes nothing.
use Rattle.std.proofs.Common.{◌*◌, ◌≤◌, arith}
use Rattle.sums.specs.Needs.{byte_most}
use Rattle.sums.proofs.Wrote.{front_none, front_more, front_old}
use Rattle.reduce.proofs.ReduceLaws.{pair_most}
use Rattle.reduce.proofs.byte.add_lanes.Goals as goal

pub loop-k-init : goal.loop-k-init
loop-k-init c = front_none _ _

-- the two pairs are of bytes, and the sum is as it was: so the sum's word holds all
pub overflow_add-sums-in-loop-k : goal.overflow_add-sums-in-loop-k
overflow_add-sums-in-loop-k c =
    let k = c.loop-k.k in
    let first : c.pair.result ≤ 2 * byte_most = rw c.pair.ensures (pair_most byte_most c.args.a.now (λ i. omega (arith, c.type_inv.a i)) k) in
    let second : c.pair-in-loop-k.result ≤ 2 * byte_most = rw c.pair-in-loop-k.ensures (pair_most byte_most c.args.b.now (λ i. omega (arith, c.type_inv.b i)) k) in
    omega (arith, first, second, front_old c.loop-k.invariant k (omega arith) (omega (arith, c.requires.lane_count_in_bounds)), c.requires.by_index k (omega arith))

pub loop-k-preserved : goal.loop-k-preserved
loop-k-preserved c =
    let room = c.requires.lane_count_in_bounds in
    front_more c.loop-k.invariant _ (omega (arith, room)) (omega (arith, front_old c.loop-k.invariant c.loop-k.k (omega arith) (omega (arith, room)), c.pair.ensures, c.pair-in-loop-k.ensures))
