-- Each contract of this crate allows one outcome alone: the answer, and what the lent places hold at exit. Assumes nothing.
use mathlib.Core.List.{List}
use mathlib.Core.Path.{◌≡◌, sym, ap₂, ◌∙◌}
use Prim.Native.Nat.{ℕ}
use lib.Ieee.{Float}
use Rattle.std.specs.Prelude.{Result}
use Rattle.answer.specs.declared.Refusal.{Refusal}
use Rattle.answer.proofs.Laws.{fault_only}
use Rattle.answer.specs.Unique.{OneOutcome}
use Rattle.detector.specs.declared.Decision.{Decision}
use Rattle.detector.proofs.Unique.{answer_only}
use Rattle.lent.proofs.fresh.Kinds as fresh-kinds
use Rattle.lent.proofs.fresh.Reads as fresh-reads
use Rattle.lent.proofs.step.Kinds as step-kinds
use Rattle.lent.proofs.step.Reads as step-reads

pub fresh_unique : OneOutcome 2 fresh-kinds.ps fresh-kinds.r (Result Unit Refusal × List ℕ) (λ κs r e. (r, e.1.0.now)) fresh-reads.Post
fresh_unique κs a r r' e e' p q = ap₂ (λ (n : Result Unit Refusal) (l : List ℕ). (n, l)) (fault_only r r' (p.0 ∙ sym q.0)) (p.1 ∙ sym q.1)

pub step_unique : OneOutcome 4 step-kinds.ps step-kinds.r (Result Decision Refusal × List ℕ × List Float) (λ κs r e. (r, e.0.now, e.1.0.now)) step-reads.Post
step_unique κs a r r' e e' p q =
    let answers = answer_only r r' (p.0 ∙ sym q.0) in
    let numbers : e.0.now ≡ e'.0.now = p.1.0 ∙ sym q.1.0 in
    let scores : e.1.0.now ≡ e'.1.0.now = p.1.1 ∙ sym q.1.1 in
    rw (answers, numbers, scores)
