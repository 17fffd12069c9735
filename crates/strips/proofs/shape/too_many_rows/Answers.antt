-- `strips::shape::too_many_rows` meets its contract: the rows that are left stand for a sum. Assumes nothing.
use Rattle.strips.proofs.ShapeLaws.{rows_left}
use Rattle.strips.proofs.shape.too_many_rows.Goals as goal

pub returns : goal.returns
returns c = rows_left c.args.c c.args.p c.requires
