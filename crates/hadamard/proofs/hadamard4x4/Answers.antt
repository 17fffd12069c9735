-- `hadamard::hadamard4x4` meets its contract: a list that is not refused is a line of 16. Assumes nothing.
use mathlib.Core.Path.{sym, ◌∙◌}
use native.Mathlib.Omega.{arith}
use Rattle.answer.proofs.Laws.{lent_written}
use Rattle.hadamard.specs.Transform.{entry_most, transform_fault, transformed}
use Rattle.hadamard.proofs.Range.{unrefused}
use Rattle.hadamard.proofs.Square.{square_line, line_square}
use Rattle.hadamard.proofs.hadamard4x4.Goals as goal

pub line16-requires-clause-line_in : goal.line16-requires-clause-line_in
line16-requires-clause-line_in c =
    let l = c.args.block.now in
    let f = unrefused 4 l (sym c.in_ok-fault.ensures) in
    square_line 2 (omega arith) l f.0 entry_most f.1

pub returns-clause-block_after : goal.returns-clause-block_after
returns-clause-block_after c =
    let l = c.args.block.now in
    c.line16.ensures ∙ line_square 2 (omega arith) l (unrefused 4 l (sym c.in_ok-fault.ensures)).0 ∙ lent_written (transform_fault 4 l) (transformed 4 l) l c.in_ok-fault.ensures
