-- `importance::word::sum_8x8_block` meets its contract: a block is four rows and four more. Assumes nothing.
use native.Mathlib.Omega.{arith}
use Rattle.plane.specs.Blocks.{block_side}
use Rattle.importance.proofs.FourRows.{halves_are, upper_rows, lower_rows, rows_most}
use Rattle.importance.proofs.word.sum_8x8_block.Goals as goal

pub sum_rows-requires : goal.sum_rows-requires
sum_rows-requires c = let s = c.args in record { inside = omega arith; small_rows = upper_rows s.s.now s.start s.stride c.requires.small_rows }

pub sum_rows-requires-2 : goal.sum_rows-requires-2
sum_rows-requires-2 c = let s = c.args in record { inside = omega arith; small_rows = lower_rows s.s.now s.start s.stride c.requires.small_rows }

pub overflow_add-result : goal.overflow_add-result
overflow_add-result c =
    let s = c.args in
    let whole = halves_are s.s.now s.start s.stride _ _ c.sum_rows.ensures c.sum_rows-2.ensures in
    omega (arith, whole, rows_most s.s.now s.start s.stride block_side c.requires.small_rows)

pub returns : goal.returns
returns c =
    let s = c.args in
    let whole = halves_are s.s.now s.start s.stride _ _ c.sum_rows.ensures c.sum_rows-2.ensures in
    record { is = whole; at_most = omega (arith, whole, rows_most s.s.now s.start s.stride block_side c.requires.small_rows) }
