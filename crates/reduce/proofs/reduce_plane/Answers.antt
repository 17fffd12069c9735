-- `reduce::reduce_plane` meets its contract. After a turn one row more of the lent plane has the means of its squares. Assumes nothing.
use Rattle.std.proofs.Common.{◌+◌, ◌*◌, ◌≤◌, length, arith, rules}
use borrow.Author.Rules.{scaled_fits≤}
use Rattle.sums.proofs.PlaceLaws.{rows_none}
use Rattle.sums.proofs.Wrote.{wrote_none}
use Rattle.reduce.proofs.RowLaws.{Turn, plane_turn, lent_squares, lent_wrote, rows_wrote}
use Rattle.reduce.proofs.reduce_plane.Given as given
use Rattle.reduce.proofs.reduce_plane.Goals as goal
use Rattle.reduce.proofs.reduce_plane.Goals.{In-loop-y}

pub loop-y-init : goal.loop-y-init
loop-y-init g c = wrote_none _ _ _ (rows_none _ _ _)

-- what a turn keeps to, and its row of the lent plane
turn : (g : given.Over) (c : In-loop-y g) → let view = c.args.view.now in Turn c.args.factor (length view.samples.now) (length c.args.reduced.now) view.plane c.args.q c.loop-y.y
turn g c =
    let good = c.requires in
    plane_turn _ _ _ _ _ _ (record { factor_value = good.factor_value; s_value = c.args.view.now.lies; reduced_value = good.reduced_value; q_value = good.q_value }) c.loop-y-test.true

lent : (g : given.Over) (c : In-loop-y g) → let q = c.args.q in q.origin + c.loop-y.y * q.stride + q.width ≤ length c.args.reduced.now
lent g c = omega (arith, (turn g c).lent)

pub overflow_mul-at : goal.overflow_mul-at
overflow_mul-at g c = omega (arith, lent g c)

pub overflow_add-at : goal.overflow_add-at
overflow_add-at g c = omega (arith, lent g c)

pub overflow_add-at-in-loop-y : goal.overflow_add-at-in-loop-y
overflow_add-at-in-loop-y g c = omega (arith, lent g c)

pub offset_bounds-reduced-at : goal.offset_bounds-reduced-at
offset_bounds-reduced-at g c =
    let q = c.args.q in
    let begins : q.origin + c.loop-y.y * q.stride ≤ length c.args.reduced.now = omega (arith, lent g c) in
    search (rules, scaled_fits≤)

pub slice_bounds-reduce_row-end : goal.slice_bounds-reduce_row-end
slice_bounds-reduce_row-end g c = omega (arith, lent g c)

pub overflow_mul-y : goal.overflow_mul-y
overflow_mul-y g c = omega (arith, (turn g (goal.at.overflow_mul-y g c).In-loop-y).few)

pub overflow_mul-y-in-loop-y : goal.overflow_mul-y-in-loop-y
overflow_mul-y-in-loop-y g c = omega (arith, (turn g (goal.at.overflow_mul-y-in-loop-y g c).In-loop-y).start)

pub overflow_add-origin : goal.overflow_add-origin
overflow_add-origin g c = omega (arith, (turn g (goal.at.overflow_add-origin g c).In-loop-y).start)

pub reduce_row-requires-clause-rows_in : goal.reduce_row-requires-clause-rows_in
reduce_row-requires-clause-rows_in g c = lent_squares g.met.S.Sample.each _ _ _ _ _ _ c.loop-y.auto.reduced _ (turn g (goal.at.reduce_row-requires-clause-rows_in g c).In-loop-y)

pub loop-y-preserved : goal.loop-y-preserved
loop-y-preserved g c =
    let a = c.args in
    let view = a.view.now in
    lent_wrote g.met.S.Sample.each a.factor view.plane view.samples.now a.q a.reduced.now c.loop-y.reduced c.loop-y.auto.reduced c.loop-y.y (turn g (goal.at.loop-y-preserved g c).In-loop-y) c.loop-y.invariant c.reduce_row.new.out c.reduce_row.ensures

pub returns : goal.returns
returns g c = let a = c.args in rows_wrote a.factor a.view.now.plane _ a.q _ _ c.loop-y.y c.loop-y.invariant (omega arith)
