-- Each contract of this crate allows one result alone. Assumes nothing.
use mathlib.Core.Path.{sym, ◌∙◌}
use mathlib.Core.Bool.{Bool}
use Prim.Native.Nat.{ℕ}
use Rattle.std.specs.Prelude.{Result}
use Rattle.answer.specs.Unique.{OneOutcome}
use Rattle.answer.specs.declared.Refusal.{Refusal}
use Rattle.answer.proofs.Laws.{fault_only}
use Rattle.plane.proofs.bad_side.Kinds as bad-side-kinds
use Rattle.plane.proofs.bad_side.Reads as bad-side-reads
use Rattle.plane.proofs.Plane.fault.Kinds as fault-kinds
use Rattle.plane.proofs.Plane.fault.Reads as fault-reads
use Rattle.plane.proofs.Plane.block_row.Kinds as block-row-kinds
use Rattle.plane.proofs.Plane.block_row.Reads as block-row-reads
use Rattle.plane.proofs.depth_fault.Kinds as depth-fault-kinds
use Rattle.plane.proofs.depth_fault.Reads as depth-fault-reads
use Rattle.plane.proofs.block_fault.Kinds as block-fault-kinds
use Rattle.plane.proofs.block_fault.Reads as block-fault-reads

pub bad_side_unique : OneOutcome 0 bad-side-kinds.ps bad-side-kinds.r Bool (λ κs r e. r) bad-side-reads.Post
bad_side_unique κs a r r' e e' p q = p ∙ sym q

pub fault_unique : OneOutcome 0 fault-kinds.ps fault-kinds.r (Result Unit Refusal) (λ κs r e. r) fault-reads.Post
fault_unique κs a r r' e e' p q = fault_only r r' (p ∙ sym q)

pub block_row_unique : OneOutcome 0 block-row-kinds.ps block-row-kinds.r ℕ (λ κs r e. r) block-row-reads.Post
block_row_unique κs a r r' e e' p q = p ∙ sym q

pub depth_fault_unique : OneOutcome 0 depth-fault-kinds.ps depth-fault-kinds.r (Result Unit Refusal) (λ κs r e. r) depth-fault-reads.Post
depth_fault_unique κs a r r' e e' p q = fault_only r r' (p ∙ sym q)

pub block_fault_unique : OneOutcome 0 block-fault-kinds.ps block-fault-kinds.r (Result Unit Refusal) (λ κs r e. r) block-fault-reads.Post
block_fault_unique κs a r r' e e' p q = fault_only r r' (p ∙ sym q)
