-- Each public contract allows one answer alone, at every type that is a `Sample`, and so at both words. Assumes nothing.
use Rattle.std.proofs.Common.{ℕ, sym, ◌∙◌}
use Rattle.std.specs.Prelude.{Result}
use Rattle.answer.specs.Unique.{OneOutcome}
use Rattle.answer.specs.declared.Refusal.{Refusal}
use Rattle.answer.proofs.Laws.{answer_only}
use Rattle.sums.proofs.Words.{SampleType, byte_type, word_type}
use Rattle.satd.proofs.satd8x8.Kinds as kinds
use Rattle.satd.proofs.satd8x8.Reads as reads
use Rattle.satd.proofs.whole_satd.Kinds as whole-kinds
use Rattle.satd.proofs.whole_satd.Reads as whole-reads

abbrev OneAt : SampleType → Type 0
OneAt w = OneOutcome 3 (kinds.ps w.row w.laws w.copy) (kinds.r w.row w.laws w.copy) (Result ℕ Refusal) (λ κs r e. r) (reads.Post w.row w.laws w.copy w.Sample w.Sample_dict w.Clone w.Clone_dict)

one_at : (w : SampleType) → OneAt w
one_at w κs a r r' e e' p q = answer_only r r' (p ∙ sym q)

pub satd8x8_unique : OneAt byte_type
satd8x8_unique = one_at byte_type

pub deep_satd8x8_unique : OneAt word_type
deep_satd8x8_unique = one_at word_type

abbrev WholeAt : SampleType → Type 0
WholeAt w =
    OneOutcome 3 (whole-kinds.ps w.row w.laws w.copy) (whole-kinds.r w.row w.laws w.copy) ℕ (λ κs r e. r)
    (whole-reads.Post w.row w.laws w.copy w.Sample w.Sample_dict w.Clone w.Clone_dict)

whole_at : (w : SampleType) → WholeAt w
whole_at w κs a r r' e e' p q = p ∙ sym q

pub whole_satd_unique : WholeAt byte_type
whole_satd_unique = whole_at byte_type

pub deep_whole_satd_unique : WholeAt word_type
deep_whole_satd_unique = whole_at word_type
