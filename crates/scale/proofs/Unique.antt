-- Each contract of this crate allows one result alone. Assumes nothing.
use mathlib.Core.Path.{◌≡◌, sym, ap, ◌∙◌}
use Prim.Native.Nat.{ℕ}
use Rattle.answer.specs.Unique.{OneOutcome}
use Rattle.std.specs.Prelude.{Result, Ok, Err}
use Rattle.answer.specs.Refusal.{number_of}
use Rattle.answer.specs.declared.Refusal.{Refusal}
use Rattle.answer.proofs.Laws.{answer_only, fault_only, number_only}
use Rattle.scale.specs.Scale.{sides_answer}
use Rattle.scale.specs.declared.Sides.{Sides}
use Rattle.scale.proofs.size_fault.Kinds as size-fault-kinds
use Rattle.scale.proofs.size_fault.Reads as size-fault-reads
use Rattle.scale.proofs.detect_scale_factor.Kinds as factor-kinds
use Rattle.scale.proofs.detect_scale_factor.Reads as factor-reads
use Rattle.scale.proofs.reduced_sides.Kinds as sides-kinds
use Rattle.scale.proofs.reduced_sides.Reads as sides-reads

sides_only : (r s : Result Sides Refusal) → sides_answer r ≡ sides_answer s → r ≡ s
sides_only (Ok a) (Ok b) p =
    let same : ◌≡◌ {A = ℕ × ℕ} (a.width, a.height) (b.width, b.height) = cc p in
    ap (λ (s : ℕ × ℕ). Ok (record { width = s.0; height = s.1 })) same
sides_only (Ok a) (Err d) p = cc p
sides_only (Err e) (Ok b) p = cc p
sides_only (Err e) (Err d) p =
    let same : number_of e ≡ number_of d = cc p in ap Err (number_only e d same)

pub size_fault_unique : OneOutcome 0 size-fault-kinds.ps size-fault-kinds.r (Result Unit Refusal) (λ κs r e. r) size-fault-reads.Post
size_fault_unique κs a r r' e e' p q = fault_only r r' (p ∙ sym q)

pub detect_scale_factor_unique : OneOutcome 0 factor-kinds.ps factor-kinds.r (Result ℕ Refusal) (λ κs r e. r) factor-reads.Post
detect_scale_factor_unique κs a r r' e e' p q = answer_only r r' (p ∙ sym q)

pub reduced_sides_unique : OneOutcome 0 sides-kinds.ps sides-kinds.r (Result Sides Refusal) (λ κs r e. r) sides-reads.Post
reduced_sides_unique κs a r r' e e' p q = sides_only r r' (p ∙ sym q)
