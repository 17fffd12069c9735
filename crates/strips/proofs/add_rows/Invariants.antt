-- `strips::add_rows` meets its contract. After j turns the room, the list and the total are as the first j rows leave them. Assumes nothing.
use Rattle.strips.specs.Needs.{held}
use Rattle.strips.specs.Strips.{strip}
use Rattle.strips.proofs.RowLaws.{RowsTaken}
use Rattle.strips.proofs.add_rows.Given as goal

abbrev pub invariant-loop-j : goal.invariant-loop-j
invariant-loop-j g l =
    let values = g.S.Sample.values in
    RowsTaken g.S.Depths.word l.c (strip l.p (values l.a) l.q (values l.b)) (held l.initial.total (values l.initial.room) l.initial.costs) l.j (held l.total (values l.room) l.costs)
