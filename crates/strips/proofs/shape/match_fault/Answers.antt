-- `strips::shape::match_fault` meets its contract: the sizes first, then the blocks, then the lent room and the list. Assumes nothing.
use mathlib.Core.Bool.{false, not, ◌||◌}
use mathlib.Core.Path.{◌≡◌, sym, ap, ◌∙◌}
use lib.Dec.{eqb}
use borrow.Author.Rules.{rules}
use Rattle.std.specs.Prelude.{Err}
use Rattle.answer.proofs.Laws.{number_some}
use Rattle.plane.specs.Blocks.{block_fault}
use Rattle.plane.specs.Planes.{sizes_differ}
use Rattle.strips.specs.Carry.{blocks_in}
use Rattle.strips.proofs.ShapeLaws.{sizes_are, sizes_refused, blocks_refused, room_refused, matched}
use Rattle.strips.proofs.shape.match_fault.Goals as goal

pub returns-then-width-q : goal.returns-then-width-q
returns-then-width-q c = sizes_refused _ _ _ _ _ (sizes_are _ _ _ ∙ c.if-width-q.true)

pub returns-in_err-block_fault : goal.returns-in_err-block_fault
returns-in_err-block_fault c =
    let handed : c.from_residual.result ≡ Err c.in_err-block_fault.field-0.0 = search rules in
    rw handed
    (blocks_refused _ _ _ _ _ (sizes_are _ _ _ ∙ c.if-width-q.false) _ (c.in_err-block_fault.ensures ∙ ap block_fault c.blocks-blocks.ensures) (number_some _))

pub returns-then-costs-blocks : goal.returns-then-costs-blocks
returns-then-costs-blocks c =
    room_refused _ _ _ _ _ (sizes_are _ _ _ ∙ c.if-width-q.false) (c.in_ok-block_fault.ensures ∙ ap block_fault c.blocks-blocks.ensures)
    (rw (← c.blocks-blocks.ensures) c.if-costs-blocks.true)

pub returns : goal.returns
returns c =
    matched _ _ _ _ _ (sizes_are _ _ _ ∙ c.if-width-q.false) (c.in_ok-block_fault.ensures ∙ ap block_fault c.blocks-blocks.ensures)
    (rw (← c.blocks-blocks.ensures) c.if-costs-blocks.false)
