-- `sad::sad_plane` meets its contract: after y turns the total and the bits are those of the first y rows. Assumes nothing.
use mathlib.Core.Path.{sym, ◌∙◌}
use Prim.Native.Nat.{◌<◌}
use native.Mathlib.Omega.{arith}
use Rattle.answer.proofs.Laws.{answer_given, answer_refused, test_given, test_passed}
use Rattle.plane.proofs.PairLaws.{sizes_values}
use Rattle.plane.proofs.PlaneLaws.{pair}
use Rattle.plane.proofs.SampleLaws.{reach_none}
use Rattle.sums.proofs.SumLaws.{sum_none, sum_more, sum_to}
use Rattle.sad.specs.Difference.{row_sad, plane_sad}
use Rattle.sad.proofs.ByteLaws.{large_rows, row_reach, rows_more, rows_reach}
use Rattle.sad.proofs.SadLaws.{row_lengths, row_sad_is}
use Rattle.sad.proofs.sad_plane.Goals as goal

pub loop-y-init : goal.loop-y-init
loop-y-init g c =
    let s = c.args in
    let values = g.S.Sample.values in
    (omega arith, omega arith, sum_none (row_sad s.pair.now.p (values s.pair.now.a.now) s.pair.now.q (values s.pair.now.b.now)), reach_none (large_rows s.pair.now.p (values s.pair.now.a.now) s.pair.now.q (values s.pair.now.b.now)) s.depth)

pub row_sad-row-requires : goal.row_sad-row-requires
row_sad-row-requires g c =
    let s = c.args in
    let values = g.S.Sample.values in
    let planes = pair _ _ _ _ (sizes_values g.met.S.Sample.each _ _ _ _ c.args.pair.now.one_size) in
    let l = row_lengths s.pair.now.p (values s.pair.now.a.now) s.pair.now.q (values s.pair.now.b.now) c.loop-y.y planes (omega arith) in
    rw (c.row.ensures, c.row-in-loop-y.ensures) (record { a_len = l.0 ∙ sym l.1; a_len_bound = omega (arith, l.0, planes.first.width_most) })

pub loop-y-preserved : goal.loop-y-preserved
loop-y-preserved g c =
    let s = c.args in
    let values = g.S.Sample.values in
    let planes = pair _ _ _ _ (sizes_values g.met.S.Sample.each _ _ _ _ c.args.pair.now.one_size) in
    let y< : c.loop-y.y < s.pair.now.p.height = omega arith in
    let row = rw (c.row.ensures, c.row-in-loop-y.ensures) at c.row_sad-row.ensures in
    let sum = row_sad_is s.pair.now.p (values s.pair.now.a.now) s.pair.now.q (values s.pair.now.b.now) c.loop-y.y planes y< _ row.sum_value in (
      omega arith,
      omega arith,
      omega (arith, sum_more c.loop-y.y (row_sad s.pair.now.p (values s.pair.now.a.now) s.pair.now.q (values s.pair.now.b.now)), c.loop-y.invariant.2, sum),
      rows_more (large_rows s.pair.now.p (values s.pair.now.a.now) s.pair.now.q (values s.pair.now.b.now) s.depth) _ _ _ _ c.loop-y.invariant.3
          (row_reach s.pair.now.p (values s.pair.now.a.now) s.pair.now.q (values s.pair.now.b.now) c.loop-y.y planes y< s.depth _ (row.by_index s.depth c.requires)),
    )

pub returns-then-reaches : goal.returns-then-reaches
returns-then-reaches g c =
    let s = c.args in
    let values = g.S.Sample.values in
    let look = rows_reach s.pair.now.p (values s.pair.now.a.now) s.pair.now.q (values s.pair.now.b.now) s.depth _ _ _ c.reaches.ensures c.loop-y.invariant.3 (omega arith) (pair _ _ _ _ (sizes_values g.met.S.Sample.each _ _ _ _ c.args.pair.now.one_size)).heights in
    answer_refused 16 _ _ (test_given 16 _ (sym look ∙ c.if-reaches.true)) (λ e. omega arith)

pub returns : goal.returns
unfolding plane_sad
returns g c =
    let s = c.args in
    let values = g.S.Sample.values in
    let look = rows_reach s.pair.now.p (values s.pair.now.a.now) s.pair.now.q (values s.pair.now.b.now) s.depth _ _ _ c.reaches.ensures c.loop-y.invariant.3 (omega arith) (pair _ _ _ _ (sizes_values g.met.S.Sample.each _ _ _ _ c.args.pair.now.one_size)).heights in
    answer_given _ _ _ (test_passed 16 _ (sym look ∙ c.if-reaches.false)) (sum_to _ _ _ _ c.loop-y.invariant.2 (omega arith))

pub overflow_add-total : goal.overflow_add-total
overflow_add-total g c = omega (arith, (pair _ _ _ _ (sizes_values g.met.S.Sample.each _ _ _ _ c.args.pair.now.one_size)).first.height_most)
