-- `hadamard::hadamard8x8` meets its contract: a list that is not refused is a line of 64, which is four columns of 16 and then 16 rows. Assumes
-- nothing.
use mathlib.Core.Path.{◌≡◌, sym, ap, ◌∙◌}
use mathlib.Core.List.{List}
use native.Mathlib.Omega.{arith}
use lib.IntN.{ℤ}
use lib.ListN.{length}
use Rattle.answer.proofs.Laws.{lent_written}
use Rattle.hadamard.specs.Transform.{output, entry_most, transform_fault, transformed}
use Rattle.hadamard.specs.Steps.{all_lined, LineIn}
use Rattle.hadamard.proofs.Grid.{columns_in, rows_in, grid}
use Rattle.hadamard.proofs.Places.{length_lined}
use Rattle.hadamard.proofs.Range.{unrefused}
use Rattle.hadamard.proofs.Square.{square_line, line_square}
use Rattle.hadamard.proofs.hadamard8x8.Goals as goal

-- past the test the list is a line of 64
module _ (l : List ℤ) (free : 0 ≡ transform_fault 8 l) where
  long : length l ≡ 64
  long = (unrefused 8 l (sym free)).0

  line : LineIn 64 0 1 entry_most l
  line = square_line 3 (omega arith) l long entry_most (unrefused 8 l (sym free)).1

pub columns-requires : goal.columns-requires
columns-requires c = columns_in 16 1 (omega arith) entry_most c.args.block.now (line c.args.block.now c.in_ok-fault.ensures)

pub rows-requires : goal.rows-requires
rows-requires c =
    let l = c.args.block.now in
    let free = c.in_ok-fault.ensures in
    rw c.columns.ensures (record { block_len = length_lined (output 16) 16 1 4 4 l ∙ long l free; lines_in = rows_in 16 1 (omega arith) entry_most l (line l free) })

pub returns-clause-block_after : goal.returns-clause-block_after
returns-clause-block_after c =
    let l = c.args.block.now in
    let free = c.in_ok-fault.ensures in
    c.rows.ensures
    ∙ ap (all_lined 4 4 1 16) c.columns.ensures
    ∙ grid 16 1 (omega arith) entry_most l (line l free)
    ∙ line_square 3 (omega arith) l (long l free)
    ∙ lent_written (transform_fault 8 l) (transformed 8 l) l free
