-- `strips::end` meets its contract: 11, 5, 19 and 18 in this order, and else what the carry holds. Assumes nothing.
use native.Mathlib.Omega.{arith}
use borrow.Author.Rules.{rules}
use mathlib.Core.Path.{◌≡◌, ap, ◌∙◌}
use Rattle.std.specs.Prelude.{Err}
use Rattle.answer.proofs.Laws.{answer_given, answer_refused, refused_is, number_some}
use Rattle.plane.specs.Blocks.{block_fault}
use Rattle.plane.specs.Planes.{depth_fault}
use Rattle.strips.specs.declared.carry.Carry.{Carry}
use Rattle.strips.specs.Carry.{blocks_in}
use Rattle.strips.specs.Strips.{totals_of}
use Rattle.strips.proofs.CarryLaws.{carry_given, fit}
use Rattle.strips.proofs.ShapeLaws.{end_unfit, end_depth, end_blocks, end_early, ended}
use Rattle.strips.proofs.end.Goals as goal

pub returns-in_err-c : goal.returns-in_err-c
returns-in_err-c c =
    let handed : c.from_residual.result ≡ Err c.in_err-c.field-0.0 = search rules in
    let some = number_some c.in_err-c.field-0.0 in
    rw handed (answer_refused _ _ _ (end_unfit _ _ (refused_is _ _ _ c.in_err-c.ensures) some) some)

pub returns-in_err-depth_fault : goal.returns-in_err-depth_fault
returns-in_err-depth_fault c =
    let handed : c.from_residual-in_err-depth_fault.result ≡ Err c.in_err-depth_fault.field-0.0 = search rules in
    let some = number_some c.in_err-depth_fault.field-0.0 in
    let k = carry_given _ _ c.in_ok-c.ensures in
    rw handed (answer_refused _ _ _ (end_depth _ k.0 _ (c.in_err-depth_fault.ensures ∙ ap (λ (b : Carry). depth_fault b.depth) k.1) some) some)

pub blocks-blocks-requires : goal.blocks-blocks-requires
blocks-blocks-requires c =
    let f = fit _ (carry_given _ _ c.in_ok-c.ensures).2 in
    (f.width_most, f.height_most)

pub returns-in_err-block_fault : goal.returns-in_err-block_fault
returns-in_err-block_fault c =
    let handed : c.from_residual-in_err-block_fault.result ≡ Err c.in_err-block_fault.field-0.0 = search rules in
    let some = number_some c.in_err-block_fault.field-0.0 in
    let k = carry_given _ _ c.in_ok-c.ensures in
    rw handed
    (answer_refused _ _ _
    (end_blocks _ k.0 (c.in_ok-depth_fault.ensures ∙ ap (λ (b : Carry). depth_fault b.depth) k.1) _
    (c.in_err-block_fault.ensures ∙ ap block_fault (c.blocks-blocks.ensures ∙ ap blocks_in k.1)) some)
    some)

pub returns-then-c : goal.returns-then-c
returns-then-c c =
    let k = carry_given _ _ c.in_ok-c.ensures in
    let rows = ap (λ (b : Carry). b.rows) k.1 in
    let height = ap (λ (b : Carry). b.height) k.1 in
    answer_refused _ _ _
    (end_early _ k.0 (c.in_ok-depth_fault.ensures ∙ ap (λ (b : Carry). depth_fault b.depth) k.1)
    (c.in_ok-block_fault.ensures ∙ ap block_fault (c.blocks-blocks.ensures ∙ ap blocks_in k.1)) (omega (arith, rows, height, c.if-c.true)))
    (λ z. omega arith)

pub returns : goal.returns
returns c =
    let k = carry_given _ _ c.in_ok-c.ensures in
    let rows = ap (λ (b : Carry). b.rows) k.1 in
    let height = ap (λ (b : Carry). b.height) k.1 in
    answer_given _ _ _
    (ended _ k.0 (c.in_ok-depth_fault.ensures ∙ ap (λ (b : Carry). depth_fault b.depth) k.1)
    (c.in_ok-block_fault.ensures ∙ ap block_fault (c.blocks-blocks.ensures ∙ ap blocks_in k.1)) (omega (arith, rows, height, c.if-c.false)))
    (rw c.blocks-blocks.ensures (ap totals_of k.1))
