-- `reduce::byte::add_rows` meets its contract. After a turn eight sums more, lent as a part, have gained both rows. Assumes nothing.
use Rattle.std.proofs.Common.{ℕ, ◌+◌, ◌*◌, ltb, refl, ◌∙◌, arith}
use Rattle.sums.proofs.PlaceLaws.{fronts_none, fronts_next}
use Rattle.sums.proofs.WrittenLaws.{prefix_all}
use Rattle.sums.proofs.Wrote.{wrote_none, wrote_part, wrote_all}
use Rattle.reduce.specs.Needs.{sum_count, lane_count, turn_count}
use Rattle.reduce.proofs.ChunkLaws.{lanes_old}
use Rattle.reduce.proofs.ReduceLaws.{pair_shift}
use Rattle.reduce.proofs.byte.add_rows.Goals as goal

pub loop-g-init : goal.loop-g-init
loop-g-init c = wrote_none _ _ _ (fronts_none lane_count)

pub add_lanes-requires-clause-by_index : goal.add_lanes-requires-clause-by_index
add_lanes-requires-clause-by_index c k h =
    rw (lanes_old c.loop-g.g c.loop-g.invariant (omega (arith, c.requires.sums_len)) k h) (c.requires.by_index (c.loop-g.g * lane_count + k) (omega arith))

pub loop-g-preserved : goal.loop-g-preserved
loop-g-preserved c =
    let s = c.args in
    let at = c.loop-g.g * lane_count in
    let room = c.requires.sum_count_in_bounds in
    wrote_part c.loop-g.invariant at lane_count _ (omega (arith, c.requires.sums_len))
    (λ k h.
    omega (arith, lanes_old c.loop-g.g c.loop-g.invariant (omega (arith, c.requires.sums_len)) k h, pair_shift s.a.now at (2 * at) k refl (omega (arith, room)), pair_shift s.b.now at (2 * at) k refl (omega (arith, room)))) _
    c.add_lanes.ensures (fronts_next lane_count c.loop-g.g)

pub returns : goal.returns
returns c =
    wrote_all (λ (n k : ℕ). ltb k (n * lane_count)) c.loop-g.g turn_count c.loop-g.invariant (omega arith)
    ∙ prefix_all sum_count _ c.args.sums.now c.requires.sums_len
