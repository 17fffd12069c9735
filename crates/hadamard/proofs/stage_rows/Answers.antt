-- `hadamard::stage_rows` meets its contract. The loop's invariant: the rows passed have had their stage; those to come are as they were, since no
-- two share a place. Assumes nothing.
use mathlib.Core.Path.{ap, ◌∙◌}
use Prim.Native.Nat.{ℕ, ◌*◌}
use native.Mathlib.Omega.{arith}
use borrow.Author.Rules.{rules}
use lib.ListN.{length}
use Rattle.hadamard.specs.Steps.{stage_of, lined_by, all_lined_by, stage_most}
use Rattle.hadamard.proofs.Places.{none_lined, more_lined, length_lined, next_line}
use Rattle.hadamard.proofs.stage_rows.Goals as goal

pub loop-i-init : goal.loop-i-init
loop-i-init c = (search rules, none_lined stage_of 4 4 1 c.args.block.now)

pub stage-requires : goal.stage-requires
stage-requires c =
    rw c.loop-i.invariant.1 (next_line stage_of 4 4 1 16 stage_most c.args.block.now c.requires c.loop-i.i (omega arith))

pub loop-i-preserved : goal.loop-i-preserved
loop-i-preserved c = (
  search rules,
  c.stage.ensures ∙ ap (lined_by stage_of 4 (c.loop-i.i * 4) 1) c.loop-i.invariant.1 ∙ more_lined stage_of 4 4 1 c.loop-i.i c.args.block.now,
)

pub shape_of-block : goal.shape_of-block
shape_of-block c = ap length c.loop-i.invariant.1 ∙ length_lined stage_of 4 4 1 c.loop-i.i c.args.block.now

pub returns : goal.returns
returns c = c.loop-i.invariant.1 ∙ ap (λ (m : ℕ). all_lined_by stage_of 4 4 1 m c.args.block.now) (omega arith)
