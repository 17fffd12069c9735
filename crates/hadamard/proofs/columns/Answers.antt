-- `hadamard::columns` meets its contract. The loop's invariant: the columns passed are transformed; those to come are as they were, since no
-- two share a place. Assumes nothing.
use mathlib.Core.Path.{◌≡◌, ap, subst, ◌∙◌}
use Prim.Native.Nat.{ℕ, ◌*◌}
use native.Mathlib.Omega.{arith}
use borrow.Author.Rules.{rules}
use lib.ListN.{length}
use Rattle.hadamard.specs.Transform.{output, entry_most}
use Rattle.hadamard.specs.Steps.{lined, all_lined, LineIn}
use Rattle.hadamard.proofs.Parts.{part_line, part_lined}
use Rattle.hadamard.proofs.Places.{none_lined, more_lined, length_lined, next_line}
use Rattle.hadamard.proofs.columns.Goals as goal

pub loop-i-init : goal.loop-i-init
loop-i-init c = (search rules, none_lined (output 16) 16 1 4 c.args.block.now)

pub slice_bounds-line16-count : goal.slice_bounds-line16-count
slice_bounds-line16-count c =
    -- the next column lies in the list
    let column : LineIn 16 c.loop-i.i 4 entry_most c.loop-i.block = rw c.loop-i.invariant.1
    (subst (λ (at : ℕ). LineIn 16 at 4 entry_most (all_lined 16 1 4 c.loop-i.i c.args.block.now)) (omega arith)
    (next_line (output 16) 16 1 4 4 entry_most c.args.block.now c.requires c.loop-i.i (omega arith))) in
    omega (arith, column.room 0 (omega arith))

pub slice_bounds-line16-start : goal.slice_bounds-line16-start
slice_bounds-line16-start c =
    let column : LineIn 16 c.loop-i.i 4 entry_most c.loop-i.block = rw c.loop-i.invariant.1
    (subst (λ (at : ℕ). LineIn 16 at 4 entry_most (all_lined 16 1 4 c.loop-i.i c.args.block.now)) (omega arith)
    (next_line (output 16) 16 1 4 4 entry_most c.args.block.now c.requires c.loop-i.i (omega arith))) in
    omega (arith, column.room 0 (omega arith))

pub line16-requires : goal.line16-requires
line16-requires c =
    let column : LineIn 16 c.loop-i.i 4 entry_most c.loop-i.block = let l = c in
    let s = l in
    rw l.loop-i.invariant.1
    (subst (λ (at : ℕ). LineIn 16 at 4 entry_most (all_lined 16 1 4 l.loop-i.i s.args.block.now)) (omega arith)
    (next_line (output 16) 16 1 4 4 entry_most s.args.block.now s.requires l.loop-i.i (omega arith))) in
    let l = c.loop-i in
    record { step_nonzero = omega arith; line_in = part_line 16 l.i 4 l.block (omega (arith, column.room 0 (omega arith))) entry_most column }

pub loop-i-preserved : goal.loop-i-preserved
loop-i-preserved c =
    let column : LineIn 16 c.loop-i.i 4 entry_most c.loop-i.block = let l = c in
    let s = l in
    rw l.loop-i.invariant.1
    (subst (λ (at : ℕ). LineIn 16 at 4 entry_most (all_lined 16 1 4 l.loop-i.i s.args.block.now)) (omega arith)
    (next_line (output 16) 16 1 4 4 entry_most s.args.block.now s.requires l.loop-i.i (omega arith))) in
    let l = c.loop-i in
    let first = c.args.block.now in
    let next : l.i ≡ l.i * 1 = omega arith in (
      search rules,
      part_lined 16 l.i 4 l.block (omega (arith, column.room 0 (omega arith))) c.line16.new.block c.line16.ensures
          ∙ ap (lined 16 l.i 4) l.invariant.1
          ∙ ap (λ (at : ℕ). lined 16 at 4 (all_lined 16 1 4 l.i first)) next
          ∙ more_lined (output 16) 16 1 4 l.i first,
    )

pub shape_of-block : goal.shape_of-block
shape_of-block c = ap length c.loop-i.invariant.1 ∙ length_lined (output 16) 16 1 4 c.loop-i.i c.args.block.now

pub returns : goal.returns
returns c = c.loop-i.invariant.1 ∙ ap (λ (m : ℕ). all_lined 16 1 4 m c.args.block.now) (omega arith)
