-- Each public contract allows one result and one list at exit alone. Assumes nothing.
use mathlib.Core.Path.{◌≡◌, sym, ap₂, ◌∙◌}
use mathlib.Core.List.{List}
use Prim.Native.Nat.{ℕ}
use lib.IntN.{ℤ}
use Rattle.std.specs.Prelude.{Result}
use Rattle.answer.specs.Answer.{fault_in}
use Rattle.answer.specs.declared.Refusal.{Refusal}
use Rattle.answer.specs.Unique.{OneOutcome}
use Rattle.answer.proofs.Laws.{fault_only}
use Rattle.hadamard.proofs.hadamard4x4.Kinds as hadamard4x4-kinds
use Rattle.hadamard.proofs.hadamard4x4.Reads as hadamard4x4-reads
use Rattle.hadamard.proofs.hadamard8x8.Kinds as hadamard8x8-kinds
use Rattle.hadamard.proofs.hadamard8x8.Reads as hadamard8x8-reads

-- two outcomes that both have the fault f and the list l
same : {f : ℕ} {l : List ℤ} (r r' : Result Unit Refusal) (x x' : List ℤ) → (fault_in r ≡ f) × (x ≡ l) → (fault_in r' ≡ f) × (x' ≡ l) → ◌≡◌ {A = Result Unit Refusal × List ℤ} (r, x) (r', x')
same r r' x x' p q = ap₂ (λ (n : Result Unit Refusal) (l : List ℤ). (n, l)) (fault_only r r' (p.0 ∙ sym q.0)) (p.1 ∙ sym q.1)

pub hadamard4x4_unique : OneOutcome 1 hadamard4x4-kinds.ps hadamard4x4-kinds.r (Result Unit Refusal × List ℤ) (λ κs r e. (r, e.0.now)) hadamard4x4-reads.Post
hadamard4x4_unique κs a r r' e e' p q = same r r' e.0.now e'.0.now p q

pub hadamard8x8_unique : OneOutcome 1 hadamard8x8-kinds.ps hadamard8x8-kinds.r (Result Unit Refusal × List ℤ) (λ κs r e. (r, e.0.now)) hadamard8x8-reads.Post
hadamard8x8_unique κs a r r' e e' p q = same r r' e.0.now e'.0.now p q
