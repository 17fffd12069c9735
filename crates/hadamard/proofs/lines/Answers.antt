-- `hadamard::lines` meets its contract. The loop's invariant: the lines passed are transformed; those to come are as they were, since no
-- two lines share a place. Assumes nothing.
use mathlib.Core.Path.{ap, ◌∙◌}
use Prim.Native.Nat.{ℕ, ◌*◌}
use native.Mathlib.Omega.{arith}
use borrow.Author.Rules.{rules}
use lib.ListN.{length}
use Rattle.hadamard.specs.Transform.{output}
use Rattle.hadamard.specs.Steps.{lined, all_lined, line_most}
use Rattle.hadamard.proofs.Places.{none_lined, more_lined, length_lined, next_line}
use Rattle.hadamard.proofs.lines.Goals as goal

pub loop-i-init : goal.loop-i-init
loop-i-init c = let s = c.args in (search rules, none_lined (output 4) 4 s.first s.step s.block.now)

pub overflow_mul-i : goal.overflow_mul-i
overflow_mul-i c =
    omega (arith, c.requires.room c.loop-i.i 0 (omega arith) (omega arith), c.well_formed.0.0)

pub line4-requires : goal.line4-requires
line4-requires c =
    rw c.loop-i.invariant.1 (next_line (output 4) 4 c.args.first c.args.step 4 line_most c.args.block.now c.requires c.loop-i.i (omega arith))

pub loop-i-preserved : goal.loop-i-preserved
loop-i-preserved c =
    let s = c.args in (
      search rules,
      c.line4.ensures ∙ ap (lined 4 (c.loop-i.i * s.first) s.step) c.loop-i.invariant.1 ∙ more_lined (output 4) 4 s.first s.step c.loop-i.i s.block.now,
    )

pub shape_of-block : goal.shape_of-block
shape_of-block c = let s = c.args in ap length c.loop-i.invariant.1 ∙ length_lined (output 4) 4 s.first s.step c.loop-i.i s.block.now

pub returns : goal.returns
returns c =
    let s = c.args in
    c.loop-i.invariant.1 ∙ ap (λ (m : ℕ). all_lined 4 s.first s.step m s.block.now) (omega arith)
