-- Each contract of this crate allows one outcome alone. Assumes nothing.
use mathlib.Core.Path.{sym, ◌∙◌}
use mathlib.Core.Bool.{Bool}
use mathlib.Core.List.{List}
use Prim.Native.Nat.{ℕ}
use lib.Ieee.{Float}
use Rattle.answer.specs.Unique.{OneOutcome}
use Rattle.octets.proofs.u32_at.Kinds as u32-at-kinds
use Rattle.octets.proofs.u32_at.Reads as u32-at-reads
use Rattle.octets.proofs.u64_at.Kinds as u64-at-kinds
use Rattle.octets.proofs.u64_at.Reads as u64-at-reads
use Rattle.octets.proofs.f64_at.Kinds as f64-at-kinds
use Rattle.octets.proofs.f64_at.Reads as f64-at-reads
use Rattle.octets.proofs.put_u32.Kinds as put-u32-kinds
use Rattle.octets.proofs.put_u32.Reads as put-u32-reads
use Rattle.octets.proofs.put_u64.Kinds as put-u64-kinds
use Rattle.octets.proofs.put_u64.Reads as put-u64-reads
use Rattle.octets.proofs.put_f64.Kinds as put-f64-kinds
use Rattle.octets.proofs.put_f64.Reads as put-f64-reads
use Rattle.octets.proofs.float.is_nan.Kinds as is-nan-kinds
use Rattle.octets.proofs.float.is_nan.Reads as is-nan-reads
use Rattle.octets.proofs.float.of_bits.Kinds as of-bits-kinds
use Rattle.octets.proofs.float.of_bits.Reads as of-bits-reads
use Rattle.octets.proofs.float.bits_of.Kinds as bits-of-kinds
use Rattle.octets.proofs.float.bits_of.Reads as bits-of-reads
use Rattle.octets.proofs.float.same.Kinds as same-kinds
use Rattle.octets.proofs.float.same.Reads as SameReads

pub u32_at_unique : OneOutcome 1 u32-at-kinds.ps u32-at-kinds.r ℕ (λ κs r e. r) u32-at-reads.Post
u32_at_unique κs a r r' e e' p q = p ∙ sym q

pub u64_at_unique : OneOutcome 1 u64-at-kinds.ps u64-at-kinds.r ℕ (λ κs r e. r) u64-at-reads.Post
u64_at_unique κs a r r' e e' p q = p ∙ sym q

pub f64_at_unique : OneOutcome 1 f64-at-kinds.ps f64-at-kinds.r Float (λ κs r e. r) f64-at-reads.Post
f64_at_unique κs a r r' e e' p q = p ∙ sym q

pub put_u32_unique : OneOutcome 1 put-u32-kinds.ps put-u32-kinds.r (List ℕ) (λ κs r e. e.0.now) put-u32-reads.Post
put_u32_unique κs a r r' e e' p q = p ∙ sym q

pub put_u64_unique : OneOutcome 1 put-u64-kinds.ps put-u64-kinds.r (List ℕ) (λ κs r e. e.0.now) put-u64-reads.Post
put_u64_unique κs a r r' e e' p q = p ∙ sym q

pub put_f64_unique : OneOutcome 1 put-f64-kinds.ps put-f64-kinds.r (List ℕ) (λ κs r e. e.0.now) put-f64-reads.Post
put_f64_unique κs a r r' e e' p q = p ∙ sym q

pub is_nan_unique : OneOutcome 0 is-nan-kinds.ps is-nan-kinds.r Bool (λ κs r e. r) is-nan-reads.Post
is_nan_unique κs a r r' e e' p q = p ∙ sym q

pub of_bits_unique : OneOutcome 0 of-bits-kinds.ps of-bits-kinds.r Float (λ κs r e. r) of-bits-reads.Post
of_bits_unique κs a r r' e e' p q = p ∙ sym q

pub bits_of_unique : OneOutcome 0 bits-of-kinds.ps bits-of-kinds.r ℕ (λ κs r e. r) bits-of-reads.Post
bits_of_unique κs a r r' e e' p q = p ∙ sym q

pub same_unique : OneOutcome 0 same-kinds.ps same-kinds.r Bool (λ κs r e. r) SameReads.Post
same_unique κs a r r' e e' p q = p ∙ sym q
