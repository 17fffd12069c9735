-- `importance::all_differences` meets its contract. After y turns the total is that of the first y rows of blocks, and none of their samples is too large. Assumes nothing.
use Rattle.std.proofs.Common.{◌<◌, refl, sym, ◌∙◌, arith}
use Rattle.answer.proofs.Laws.{or_no}
use Rattle.plane.specs.Blocks.{blocks_down}
use Rattle.plane.proofs.PairLaws.{sizes_values}
use Rattle.plane.proofs.PlaneLaws.{pair}
use Rattle.importance.proofs.FourRows.{small_blocks}
use Rattle.importance.proofs.RowLooks.{look_none, look_refused, look_turn, look_fits, look_passed}
use Rattle.importance.proofs.all_differences.Goals as goal

-- a look that found nothing leaves small samples
pub blocks_difference-total-requires : goal.blocks_difference-total-requires
blocks_difference-total-requires g c =
    let s = c.args in
    let values = g.S.Sample.values in
    let h = pair _ _ _ _ (sizes_values g.met.S.Sample.each _ _ _ _ c.args.pair.now.one_size) in
    let y< : c.loop-y.y < blocks_down s.pair.now.p = omega arith in
    let none = or_no _ _ (sym c.any_large.ensures ∙ c.if-any_large.false) in
    record {
      y_bound = y<;
      small_blocks = (
        small_blocks g.S.Depths.word s.depth s.pair.now.p (values s.pair.now.a.now) c.loop-y.y c.requires h.first y< none.0,
        small_blocks g.S.Depths.word s.depth s.pair.now.q (values s.pair.now.b.now) c.loop-y.y c.requires h.second (omega (arith, h.heights)) none.1,
      );
    }

pub loop-y-init : goal.loop-y-init
loop-y-init g c = look_none _ _ _ _ _

pub returns-then-any_large : goal.returns-then-any_large
returns-then-any_large g c =
    look_refused _ _ _ _ _ (sizes_values g.met.S.Sample.each _ _ _ _ c.args.pair.now.one_size) _ _ c.loop-y.invariant _ _ _ refl (omega arith) (omega arith) c.any_large.ensures c.if-any_large.true

pub overflow_add-total : goal.overflow_add-total
overflow_add-total g c = record { fits = look_fits _ _ _ _ _ (sizes_values g.met.S.Sample.each _ _ _ _ c.args.pair.now.one_size) _ _ c.loop-y.invariant _ (omega arith) c.blocks_difference-total.ensures.at_most }

pub loop-y-preserved : goal.loop-y-preserved
loop-y-preserved g c =
    let part = c.blocks_difference-total.ensures in
    look_turn _ _ _ _ _ (sizes_values g.met.S.Sample.each _ _ _ _ c.args.pair.now.one_size) _ _ c.loop-y.invariant _ (omega arith) c.any_large.ensures c.if-any_large.false part.is part.at_most

pub returns-then-any_large-2 : goal.returns-then-any_large-2
returns-then-any_large-2 g c =
    look_refused _ _ _ _ _ (sizes_values g.met.S.Sample.each _ _ _ _ c.args.pair.now.one_size) _ _ c.loop-y.invariant _ _ _ (omega arith) (omega arith) (omega arith) c.any_large-2.ensures c.if-any_large-2.true

pub returns : goal.returns
returns g c =
    look_passed _ _ _ _ _ (sizes_values g.met.S.Sample.each _ _ _ _ c.args.pair.now.one_size) _ _ c.loop-y.invariant _ (omega arith) (omega arith) c.any_large-2.ensures c.if-any_large-2.false
