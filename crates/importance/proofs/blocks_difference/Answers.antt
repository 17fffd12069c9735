-- `importance::blocks_difference` meets its contract. After x turns the total is that of the first x blocks, and a block that is whole lies within the samples. Assumes nothing.
use native.Mathlib.Omega.{arith}
use borrow.Author.Rules.{rules}
use Rattle.plane.proofs.PairLaws.{sizes_values}
use Rattle.sums.proofs.SampleLaws.{length_values}
use Rattle.sums.proofs.SumLaws.{sum_none}
use Rattle.importance.proofs.BlockSums.{blocks_row, across_most, blocks_in, blocks_small, gap_turn, gaps_are}
use Rattle.importance.proofs.blocks_difference.Goals as goal

pub loop-x-init : goal.loop-x-init
loop-x-init g c = (omega arith, omega arith, sum_none _)

pub overflow_add-start : goal.overflow_add-start
overflow_add-start g c =
    let as_long = length_values g.met.S.Sample.each in
    let sizes = sizes_values g.met.S.Sample.each _ _ _ _ c.args.pair.now.one_size in
    let row = blocks_row sizes c.requires.y_bound (as_long c.args.pair.now.a.now) c.block_row-start.ensures (as_long c.args.pair.now.b.now) c.block_row-start2.ensures in
    let inside = blocks_in row c.loop-x.x (omega arith) in
    omega (arith, inside.first, as_long c.args.pair.now.a.now)

pub block_mean-org-requires : goal.block_mean-org-requires
block_mean-org-requires g c =
    let as_long = length_values g.met.S.Sample.each in
    let sizes = sizes_values g.met.S.Sample.each _ _ _ _ c.args.pair.now.one_size in
    let row = blocks_row sizes c.requires.y_bound (as_long c.args.pair.now.a.now) c.block_row-start.ensures (as_long c.args.pair.now.b.now) c.block_row-start2.ensures in
    record { inside = (blocks_in row c.loop-x.x (omega arith)).first; small_rows = (blocks_small row c.requires.small_blocks c.loop-x.x (omega arith)).0 }

pub overflow_add-start2 : goal.overflow_add-start2
overflow_add-start2 g c =
    let as_long = length_values g.met.S.Sample.each in
    let sizes = sizes_values g.met.S.Sample.each _ _ _ _ c.args.pair.now.one_size in
    let row = blocks_row sizes c.requires.y_bound (as_long c.args.pair.now.a.now) c.block_row-start.ensures (as_long c.args.pair.now.b.now) c.block_row-start2.ensures in
    let inside = blocks_in row c.loop-x.x (omega arith) in
    omega (arith, inside.second, as_long c.args.pair.now.b.now)

pub block_mean-other-requires : goal.block_mean-other-requires
block_mean-other-requires g c =
    let as_long = length_values g.met.S.Sample.each in
    let sizes = sizes_values g.met.S.Sample.each _ _ _ _ c.args.pair.now.one_size in
    let row = blocks_row sizes c.requires.y_bound (as_long c.args.pair.now.a.now) c.block_row-start.ensures (as_long c.args.pair.now.b.now) c.block_row-start2.ensures in
    record { inside = (blocks_in row c.loop-x.x (omega arith)).second; small_rows = (blocks_small row c.requires.small_blocks c.loop-x.x (omega arith)).1 }

pub overflow_add-total : goal.overflow_add-total
overflow_add-total g c =
    let as_long = length_values g.met.S.Sample.each in
    let sizes = sizes_values g.met.S.Sample.each _ _ _ _ c.args.pair.now.one_size in
    let row = blocks_row sizes c.requires.y_bound (as_long c.args.pair.now.a.now) c.block_row-start.ensures (as_long c.args.pair.now.b.now) c.block_row-start2.ensures in
    omega (arith, across_most row)

pub loop-x-preserved : goal.loop-x-preserved
loop-x-preserved g c =
    let as_long = length_values g.met.S.Sample.each in
    let sizes = sizes_values g.met.S.Sample.each _ _ _ _ c.args.pair.now.one_size in
    let row = blocks_row sizes c.requires.y_bound (as_long c.args.pair.now.a.now) c.block_row-start.ensures (as_long c.args.pair.now.b.now) c.block_row-start2.ensures in
    (omega arith, omega arith, gap_turn row _ _ _ _ _ c.loop-x.invariant.2 c.block_mean-org.ensures c.block_mean-other.ensures (search rules))

pub returns : goal.returns
returns g c =
    let as_long = length_values g.met.S.Sample.each in
    let sizes = sizes_values g.met.S.Sample.each _ _ _ _ c.args.pair.now.one_size in
    let row = blocks_row sizes c.requires.y_bound (as_long c.args.pair.now.a.now) c.block_row-start.ensures (as_long c.args.pair.now.b.now) c.block_row-start2.ensures in
    record { is = gaps_are row c.loop-x.x _ c.loop-x.invariant.2 (omega arith); at_most = omega (arith, across_most row) }
