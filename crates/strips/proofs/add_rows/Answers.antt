-- `strips::add_rows` meets its contract. After j turns the room, the list and the total are as the first j rows leave them. Assumes nothing.
use mathlib.Core.Path.{ap, ◌∙◌}
use Prim.Native.Nat.{ℕ}
use native.Mathlib.Omega.{arith}
use Rattle.strips.specs.Needs.{held}
use Rattle.strips.specs.Rows.{held_rows}
use Rattle.strips.specs.Strips.{strip}
use Rattle.strips.proofs.ShapeLaws.{taken_again}
use Rattle.strips.proofs.RowLaws.{taken_none, taken_more}
use Rattle.strips.proofs.add_rows.Goals as goal

pub loop-j-init : goal.loop-j-init
loop-j-init g c = taken_none g.S.Depths.word c.args.c _ _ c.requires.carry c.requires.carry.importance

pub add_row-total-requires : goal.add_row-total-requires
add_row-total-requires g c =
    let l = c.loop-j in
    record { taken = taken_again g.S.Depths.word c.args.c c.args.p _ c.args.q _ c.requires l.invariant.room l.invariant.costs; j_lt_height = omega arith }

pub overflow_add-total : goal.overflow_add-total
overflow_add-total g c =
    omega (arith, c.loop-j.invariant.small, c.add_row-total.ensures.upper_bound, c.requires.rows, c.requires.carry.height_most)

pub loop-j-preserved : goal.loop-j-preserved
loop-j-preserved g c =
    let l = c.loop-j in
    taken_more g.S.Depths.word _ _ _ l.j _ l.total (g.S.Sample.values l.room) l.costs _ _ l.invariant c.add_row-total.ensures.upper_bound c.add_row-total.ensures.by_index

pub returns : goal.returns
returns g c =
    let values = g.S.Sample.values in
    let l = c.loop-j in
    let s = c.args in
    l.invariant.is
    ∙ ap (λ (n : ℕ). held_rows g.S.Depths.word s.c (strip s.p (values s.a.now) s.q (values s.b.now)) n (held s.c.importance (values s.room.now) s.costs.now)) (omega arith)
