-- Each contract of this crate allows one outcome alone: the answer, and what every lent place holds at exit. Assumes nothing.
use mathlib.Core.List.{List}
use mathlib.Core.Path.{◌≡◌, sym, ◌∙◌}
use Prim.Native.Nat.{ℕ}
use Rattle.std.specs.Prelude.{Result}
use Rattle.answer.specs.declared.Refusal.{Refusal}
use Rattle.answer.specs.Unique.{OneOutcome}
use Rattle.answer.proofs.Laws.{answer_only}
use Rattle.score_log.proofs.scan.Kinds as scan-kinds
use Rattle.score_log.proofs.scan.Reads as scan-reads
use Rattle.score_log.proofs.read.Kinds as read-kinds
use Rattle.score_log.proofs.read.Reads as read-reads
use Rattle.score_log.proofs.append.Kinds as append-kinds
use Rattle.score_log.proofs.append.Reads as append-reads

pub scan_unique : OneOutcome 2 scan-kinds.ps scan-kinds.r (Result ℕ Refusal × ℕ) (λ κs r e. (r, e.1.0.now)) scan-reads.Post
scan_unique κs a r r' e e' p q =
    let answers : r ≡ r' = answer_only r r' (p.0 ∙ sym q.0) in
    let torn : e.1.0.now ≡ e'.1.0.now = p.1 ∙ sym q.1 in
    rw (answers, torn)

pub read_unique : OneOutcome 5 read-kinds.ps read-kinds.r (Result ℕ Refusal × List ℕ × List ℕ × List ℕ × ℕ) (λ κs r e. (r, e.1.0.now, e.1.1.0.now, e.1.1.1.0.now, e.1.1.1.1.0.now)) read-reads.Post
read_unique κs a r r' e e' p q =
    let answers : r ≡ r' = answer_only r r' (p.0 ∙ sym q.0) in
    let numbers : e.1.0.now ≡ e'.1.0.now = p.1.0 ∙ sym q.1.0 in
    let bits : e.1.1.0.now ≡ e'.1.1.0.now = p.1.1.0 ∙ sym q.1.1.0 in
    let cuts : e.1.1.1.0.now ≡ e'.1.1.1.0.now = p.1.1.1.0 ∙ sym q.1.1.1.0 in
    let torn : e.1.1.1.1.0.now ≡ e'.1.1.1.1.0.now = p.1.1.1.1 ∙ sym q.1.1.1.1 in
    rw (answers, numbers, bits, cuts, torn)

pub append_unique : OneOutcome 1 append-kinds.ps append-kinds.r (Result ℕ Refusal × List ℕ) (λ κs r e. (r, e.0.now)) append-reads.Post
append_unique κs a r r' e e' p q =
    let answers : r ≡ r' = answer_only r r' (p.0 ∙ sym q.0) in
    let lent : e.0.now ≡ e'.0.now = p.1 ∙ sym q.1 in
    rw (answers, lent)
