-- The contract of a refusal's number allows one result alone. Assumes nothing.
use mathlib.Core.Path.{sym, ◌∙◌}
use Prim.Native.Nat.{ℕ}
use Rattle.answer.specs.Unique.{OneOutcome}
use Rattle.answer.proofs.Refusal.number.Kinds as number-kinds
use Rattle.answer.proofs.Refusal.number.Reads as number-reads

pub number_unique : OneOutcome 0 number-kinds.ps number-kinds.r ℕ (λ κs r e. r) number-reads.Post
number_unique κs a r r' e e' p q = p ∙ sym q
