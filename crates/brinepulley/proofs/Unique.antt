-- Each contract of this crate allows one outcome alone: the number, and what every lent place holds at exit. Assumes nothing.
use mathlib.Core.List.{List}
use mathlib.Core.Path.{◌≡◌, sym, ap₂, ◌∙◌}
use Prim.Native.Nat.{ℕ}
use lib.IntN.{ℤ}
use lib.Ieee.{Float}
use Rattle.answer.specs.Unique.{OneOutcome}
use Rattle.brinepulley.proofs.brine_scale_factor.Kinds as scale-factor-kinds
use Rattle.brinepulley.proofs.brine_scale_factor.Reads as scale-factor-reads
use Rattle.brinepulley.proofs.brine_threshold.Kinds as threshold-kinds
use Rattle.brinepulley.proofs.brine_threshold.Reads as threshold-reads
use Rattle.brinepulley.proofs.brine_hadamard4x4.Kinds as hadamard4x4-kinds
use Rattle.brinepulley.proofs.brine_hadamard4x4.Reads as hadamard4x4-reads
use Rattle.brinepulley.proofs.brine_hadamard8x8.Kinds as hadamard8x8-kinds
use Rattle.brinepulley.proofs.brine_hadamard8x8.Reads as hadamard8x8-reads
use Rattle.brinepulley.proofs.brine_detector_fresh.Kinds as detector-fresh-kinds
use Rattle.brinepulley.proofs.brine_detector_fresh.Reads as detector-fresh-reads
use Rattle.brinepulley.proofs.brine_detector_step.Kinds as detector-step-kinds
use Rattle.brinepulley.proofs.brine_detector_step.Reads as detector-step-reads
use Rattle.brinepulley.proofs.card.brine_log_scan.Kinds as log-scan-kinds
use Rattle.brinepulley.proofs.card.brine_log_scan.Reads as log-scan-reads
use Rattle.brinepulley.proofs.card.brine_log_read.Kinds as log-read-kinds
use Rattle.brinepulley.proofs.card.brine_log_read.Reads as log-read-reads
use Rattle.brinepulley.proofs.card.brine_log_append.Kinds as log-append-kinds
use Rattle.brinepulley.proofs.card.brine_log_append.Reads as log-append-reads

-- two outcomes that are both the number c and the place's content x
pub same : {A : Type 0} {c : ℤ} {x : A} (r r' : ℤ) (y y' : A) → (r ≡ c) × (y ≡ x) → (r' ≡ c) × (y' ≡ x) → ◌≡◌ {A = ℤ × A} (r, y) (r', y')
same {A} r r' y y' p q = ap₂ (λ (z : ℤ) (a : A). (z, a)) (p.0 ∙ sym q.0) (p.1 ∙ sym q.1)

-- ---- no lent place is written

pub scale_factor_unique : OneOutcome 0 scale-factor-kinds.ps scale-factor-kinds.r ℤ (λ κs r e. r) scale-factor-reads.Post
scale_factor_unique κs a r r' e e' p q = p ∙ sym q

-- ---- one lent place is written

pub threshold_unique : OneOutcome 2 threshold-kinds.ps threshold-kinds.r (ℤ × Float) (λ κs r e. (r, e.1.1.0.now)) threshold-reads.Post
threshold_unique κs a r r' e e' p q = same r r' e.1.1.0.now e'.1.1.0.now p q

pub hadamard4x4_unique : OneOutcome 1 hadamard4x4-kinds.ps hadamard4x4-kinds.r (ℤ × List ℤ) (λ κs r e. (r, e.0.now)) hadamard4x4-reads.Post
hadamard4x4_unique κs a r r' e e' p q = same r r' e.0.now e'.0.now p q

pub hadamard8x8_unique : OneOutcome 1 hadamard8x8-kinds.ps hadamard8x8-kinds.r (ℤ × List ℤ) (λ κs r e. (r, e.0.now)) hadamard8x8-reads.Post
hadamard8x8_unique κs a r r' e e' p q = same r r' e.0.now e'.0.now p q

pub log_scan_unique : OneOutcome 2 log-scan-kinds.ps log-scan-kinds.r (ℤ × ℕ) (λ κs r e. (r, e.1.0.now)) log-scan-reads.Post
log_scan_unique κs a r r' e e' p q = same r r' e.1.0.now e'.1.0.now p q

pub log_append_unique : OneOutcome 1 log-append-kinds.ps log-append-kinds.r (ℤ × List ℕ) (λ κs r e. (r, e.0.now)) log-append-reads.Post
log_append_unique κs a r r' e e' p q = same r r' e.0.now e'.0.now p q

-- ---- two lent places are written

pub both : {A B : Type 0} {c : ℤ} {x : A} {y : B} (r r' : ℤ) (a a' : A) (b b' : B)
    → (r ≡ c) × ((a ≡ x) × (b ≡ y)) → (r' ≡ c) × ((a' ≡ x) × (b' ≡ y)) → ◌≡◌ {A = ℤ × A × B} (r, a, b) (r', a', b')
both r r' a a' b b' p q =
    let numbers : r ≡ r' = p.0 ∙ sym q.0 in
    let firsts : a ≡ a' = p.1.0 ∙ sym q.1.0 in
    let seconds : b ≡ b' = p.1.1 ∙ sym q.1.1 in
    rw (numbers, firsts, seconds)

pub detector_fresh_unique : OneOutcome 2 detector-fresh-kinds.ps detector-fresh-kinds.r (ℤ × List ℕ × List Float) (λ κs r e. (r, e.1.1.1.1.1.1.1.0.now, e.1.1.1.1.1.1.1.1.0.now)) detector-fresh-reads.Post
detector_fresh_unique κs a r r' e e' p q = both r r' e.1.1.1.1.1.1.1.0.now e'.1.1.1.1.1.1.1.0.now e.1.1.1.1.1.1.1.1.0.now e'.1.1.1.1.1.1.1.1.0.now p q

pub detector_step_unique : OneOutcome 5 detector-step-kinds.ps detector-step-kinds.r (ℤ × List ℕ × List Float) (λ κs r e. (r, e.0.now, e.1.0.now)) detector-step-reads.Post
detector_step_unique κs a r r' e e' p q = both r r' e.0.now e'.0.now e.1.0.now e'.1.0.now p q

-- ---- four lent places are written

pub log_read_unique : OneOutcome 5 log-read-kinds.ps log-read-kinds.r (ℤ × List ℕ × List ℕ × List ℕ × ℕ) (λ κs r e. (r, e.1.0.now, e.1.1.0.now, e.1.1.1.0.now, e.1.1.1.1.0.now)) log-read-reads.Post
log_read_unique κs a r r' e e' p q =
    let answers : r ≡ r' = p.0 ∙ sym q.0 in
    let numbers : e.1.0.now ≡ e'.1.0.now = p.1.0 ∙ sym q.1.0 in
    let bits : e.1.1.0.now ≡ e'.1.1.0.now = p.1.1.0 ∙ sym q.1.1.0 in
    let cuts : e.1.1.1.0.now ≡ e'.1.1.1.0.now = p.1.1.1.0 ∙ sym q.1.1.1.0 in
    let torn : e.1.1.1.1.0.now ≡ e'.1.1.1.1.0.now = p.1.1.1.1 ∙ sym q.1.1.1.1 in
    rw (answers, numbers, bits, cuts, torn)
