-- Each contract of this crate allows one outcome alone. Assumes nothing.
use mathlib.Core.Path.{sym, ◌∙◌}
use Prim.Native.Nat.{ℕ}
use Rattle.std.specs.Prelude.{Result}
use Rattle.answer.specs.declared.Refusal.{Refusal}
use Rattle.answer.proofs.Laws.{fault_only}
use Rattle.answer.specs.Unique.{OneOutcome}
use Rattle.state.proofs.items_of.Kinds as items-of-kinds
use Rattle.state.proofs.items_of.Reads as items-of-reads
use Rattle.state.proofs.step_fault.Kinds as step-fault-kinds
use Rattle.state.proofs.step_fault.Reads as step-fault-reads

pub items_of_unique : OneOutcome 0 items-of-kinds.ps items-of-kinds.r ℕ (λ κs r e. r) items-of-reads.Post
items_of_unique κs a r r' e e' p q = p ∙ sym q

pub step_fault_unique : OneOutcome 2 step-fault-kinds.ps step-fault-kinds.r (Result Unit Refusal) (λ κs r e. r) step-fault-reads.Post
step_fault_unique κs a r r' e e' p q = fault_only r r' (p ∙ sym q)
