-- Each contract of this crate allows one outcome alone: of a copy the lent list. Assumes nothing.
use Rattle.std.proofs.Common.{ℕ, List, sym, ◌∙◌}
use lib.Ieee.{Float}
use Rattle.answer.specs.Unique.{OneOutcome}
use Rattle.sums.proofs.copy.Kinds as copy-kinds
use Rattle.sums.proofs.copy.Reads as copy-reads
use Rattle.sums.proofs.byte.U8Sample.widened.Kinds as widened-kinds
use Rattle.sums.proofs.byte.U8Sample.widened.Reads as widened-reads
use Rattle.sums.proofs.word.U16Sample.widened.Kinds as deep-widened-kinds
use Rattle.sums.proofs.word.U16Sample.widened.Reads as deep-widened-reads
use Rattle.sums.proofs.byte.U8Sample.narrowed.Kinds as narrowed-kinds
use Rattle.sums.proofs.byte.U8Sample.narrowed.Reads as narrowed-reads
use Rattle.sums.proofs.word.U16Sample.narrowed.Kinds as deep-narrowed-kinds
use Rattle.sums.proofs.word.U16Sample.narrowed.Reads as deep-narrowed-reads
use Rattle.sums.proofs.byte.U8Sample.distance.Kinds as distance-kinds
use Rattle.sums.proofs.byte.U8Sample.distance.Reads as distance-reads
use Rattle.sums.proofs.word.U16Sample.distance.Kinds as deep-distance-kinds
use Rattle.sums.proofs.word.U16Sample.distance.Reads as deep-distance-reads
use Rattle.sums.proofs.Words.{SampleType, byte_type, word_type}
use Rattle.sums.proofs.lesser.Kinds as lesser-kinds
use Rattle.sums.proofs.lesser.Reads as lesser-reads
use Rattle.sums.proofs.quotient.Kinds as quotient-kinds
use Rattle.sums.proofs.quotient.Reads as quotient-reads

pub widened_unique : OneOutcome 0 widened-kinds.ps widened-kinds.r ℕ (λ κs r e. r) widened-reads.Post
widened_unique κs a r r' e e' p q = p.0 ∙ sym q.0

pub deep_widened_unique : OneOutcome 0 deep-widened-kinds.ps deep-widened-kinds.r ℕ (λ κs r e. r) deep-widened-reads.Post
deep_widened_unique κs a r r' e e' p q = p.0 ∙ sym q.0

pub narrowed_unique : OneOutcome 0 narrowed-kinds.ps narrowed-kinds.r ℕ (λ κs r e. r) narrowed-reads.Post
narrowed_unique κs a r r' e e' p q = p.0 ∙ sym q.0

pub deep_narrowed_unique : OneOutcome 0 deep-narrowed-kinds.ps deep-narrowed-kinds.r ℕ (λ κs r e. r) deep-narrowed-reads.Post
deep_narrowed_unique κs a r r' e e' p q = p.0 ∙ sym q.0

pub distance_unique : OneOutcome 0 distance-kinds.ps distance-kinds.r ℕ (λ κs r e. r) distance-reads.Post
distance_unique κs a r r' e e' p q = p ∙ sym q

pub deep_distance_unique : OneOutcome 0 deep-distance-kinds.ps deep-distance-kinds.r ℕ (λ κs r e. r) deep-distance-reads.Post
deep_distance_unique κs a r r' e e' p q = p ∙ sym q

pub quotient_unique : OneOutcome 0 quotient-kinds.ps quotient-kinds.r Float (λ κs r e. r) quotient-reads.Post
quotient_unique κs a r r' e e' p q = p ∙ sym q

pub lesser_unique : OneOutcome 0 lesser-kinds.ps lesser-kinds.r ℕ (λ κs r e. r) lesser-reads.Post
lesser_unique κs a r r' e e' p q = p ∙ sym q

-- of every type that is a `Sample`, and so of both words
abbrev CopyAt : SampleType → Type 0
CopyAt w =
    OneOutcome 3 (copy-kinds.ps w.row w.laws w.copy) (copy-kinds.r w.row w.laws w.copy) (List ℕ) (λ κs r e. w.Sample.values e.0.now)
    (copy-reads.Post w.row w.laws w.copy w.Sample w.Sample_dict w.Clone w.Clone_dict)

copy_at : (w : SampleType) → CopyAt w
copy_at w κs a r r' e e' p q = p ∙ sym q

pub copy_unique : CopyAt byte_type
copy_unique = copy_at byte_type

pub deep_copy_unique : CopyAt word_type
deep_copy_unique = copy_at word_type
