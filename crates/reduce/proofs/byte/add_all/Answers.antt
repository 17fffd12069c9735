-- `reduce::byte::add_all` meets its contract. After a turn each sum has gained two rows, for which it has room. Assumes nothing.
use Rattle.std.proofs.Common.{◌*◌, ◌∙◌, arith}
use Rattle.sums.specs.Needs.{byte_most}
use Rattle.sums.proofs.SumLaws.{sum_none}
use Rattle.sums.proofs.TableLaws.{is_table}
use Rattle.reduce.specs.Needs.{sum_count}
use Rattle.reduce.proofs.ChunkLaws.{sum_so_far, two_rows_more}
use Rattle.reduce.proofs.ReduceLaws.{pairs_most}
use Rattle.reduce.proofs.byte.add_all.Goals as goal

pub loop-j-init : goal.loop-j-init
loop-j-init c = is_table 0 sum_count _ c.args.sums.now c.requires.sums_len (λ k _. c.requires.by_index k ∙ sum_none _)

pub add_rows-requires-clause-by_index : goal.add_rows-requires-clause-by_index
add_rows-requires-clause-by_index c k h =
    let s = c.args in
    let j = c.loop-j.j in
    omega (
      arith,
      sum_so_far s.s.now _ s.start s.stride j c.loop-j.invariant k h,
      c.requires.half_bound,
      pairs_most byte_most s.s.now (λ i. omega (arith, c.type_inv.s i)) s.start s.stride (2 * j) k,
    )

pub loop-j-preserved : goal.loop-j-preserved
loop-j-preserved c =
    let s = c.args in
    c.add_rows.ensures ∙ two_rows_more s.s.now _ s.start s.stride c.loop-j.j c.loop-j.invariant s.half c.loop-j-test.true c.requires.rows_in
