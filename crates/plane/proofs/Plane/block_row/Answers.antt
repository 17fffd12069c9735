-- `Plane::block_row` meets its contract: past both tests the row starts within the samples. Assumes nothing.
use mathlib.Core.Path.{sym, ◌∙◌}
use Prim.Native.Nat.{◌/◌}
use borrow.Author.Tests.{lt-ltb, le-ltb}
use Rattle.plane.specs.Blocks.{block_row}
use Rattle.plane.proofs.Plane.block_row.Goals as goal

pub returns-then-row_lies : goal.returns-then-row_lies
unfolding block_row
returns-then-row_lies c =
    let s = c.args in
    rw (lt-ltb s.y (s.self.height / 8) c.if-y-self.true, sym c.row_lies.ensures ∙ c.if-row_lies.true)

pub returns-else-row_lies : goal.returns-else-row_lies
unfolding block_row
returns-else-row_lies c =
    let s = c.args in
    rw (lt-ltb s.y (s.self.height / 8) c.if-y-self.true, sym c.row_lies.ensures ∙ c.if-row_lies.false)

pub returns-else-y-self : goal.returns-else-y-self
unfolding block_row
returns-else-y-self c = let s = c.args in rw (le-ltb s.y (s.self.height / 8) c.if-y-self.false)
