-- Each contract of this crate allows one result alone. Assumes nothing.
use Rattle.std.proofs.Common.{ℕ, Bool, sym, ◌∙◌}
use lib.Ieee.{Float}
use Rattle.answer.specs.Unique.{OneOutcome}
use Rattle.std.specs.Prelude.{Result}
use Rattle.answer.specs.declared.Refusal.{Refusal}
use Rattle.answer.proofs.Laws.{fault_only}
use Rattle.settings.proofs.Settings.fault.Kinds as fault-kinds
use Rattle.settings.proofs.Settings.fault.Reads as fault-reads
use Rattle.settings.proofs.Settings.scaled.Kinds as scaled-kinds
use Rattle.settings.proofs.Settings.scaled.Reads as scaled-reads
use Rattle.settings.proofs.Settings.lookahead_offset.Kinds as lookahead-kinds
use Rattle.settings.proofs.Settings.lookahead_offset.Reads as lookahead-reads
use Rattle.settings.proofs.Settings.fast_threshold.Kinds as fast-kinds
use Rattle.settings.proofs.Settings.fast_threshold.Reads as fast-reads
use Rattle.settings.proofs.Settings.importance_threshold.Kinds as importance-kinds
use Rattle.settings.proofs.Settings.importance_threshold.Reads as importance-reads

pub lookahead_offset_unique : OneOutcome 0 lookahead-kinds.ps lookahead-kinds.r ℕ (λ κs r e. r) lookahead-reads.Post
lookahead_offset_unique κs a r r' e e' p q = p ∙ sym q

pub fast_threshold_unique : OneOutcome 0 fast-kinds.ps fast-kinds.r Float (λ κs r e. r) fast-reads.Post
fast_threshold_unique κs a r r' e e' p q = p ∙ sym q

pub importance_threshold_unique : OneOutcome 0 importance-kinds.ps importance-kinds.r Float (λ κs r e. r) importance-reads.Post
importance_threshold_unique κs a r r' e e' p q = p ∙ sym q

pub fault_unique : OneOutcome 0 fault-kinds.ps fault-kinds.r (Result Unit Refusal) (λ κs r e. r) fault-reads.Post
fault_unique κs a r r' e e' p q = fault_only r r' (p ∙ sym q)

pub scaled_unique : OneOutcome 0 scaled-kinds.ps scaled-kinds.r Bool (λ κs r e. r) scaled-reads.Post
scaled_unique κs a r r' e e' p q = p ∙ sym q
