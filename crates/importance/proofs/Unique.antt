-- Each contract of this crate allows one result alone, at every type that a block's word is, and so at both. Assumes nothing.
use mathlib.Core.Path.{sym, ◌∙◌}
use Prim.Native.Nat.{ℕ}
use lib.Ieee.{Float}
use Rattle.std.specs.Prelude.{Result}
use Rattle.answer.specs.Unique.{OneOutcome}
use Rattle.answer.specs.declared.Refusal.{Refusal}
use Rattle.answer.proofs.Laws.{answer_only}
use Rattle.importance.proofs.Words.{BlockMeanType, byte_blocks_type, word_blocks_type}
use Rattle.importance.proofs.byte.U8BlockMean.block_mean.Kinds as block-mean-kinds
use Rattle.importance.proofs.byte.U8BlockMean.block_mean.Reads as block-mean-reads
use Rattle.importance.proofs.word.U16BlockMean.block_mean.Kinds as deep-block-mean-kinds
use Rattle.importance.proofs.word.U16BlockMean.block_mean.Reads as deep-block-mean-reads
use Rattle.importance.proofs.importance_total.Kinds as total-kinds
use Rattle.importance.proofs.importance_total.Reads as total-reads
use Rattle.importance.proofs.importance.Kinds as importance-kinds
use Rattle.importance.proofs.importance.Reads as importance-reads

pub block_mean_unique : OneOutcome 1 block-mean-kinds.ps block-mean-kinds.r ℕ (λ κs r e. r) block-mean-reads.Post
block_mean_unique κs a r r' e e' p q = p ∙ sym q

pub deep_block_mean_unique : OneOutcome 1 deep-block-mean-kinds.ps deep-block-mean-kinds.r ℕ (λ κs r e. r) deep-block-mean-reads.Post
deep_block_mean_unique κs a r r' e e' p q = p ∙ sym q

abbrev TotalAt : BlockMeanType → Type 0
TotalAt w =
    let d = w.of in
    let s = d.of in
    OneOutcome 3 (total-kinds.ps s.row s.laws s.copy) (total-kinds.r s.row s.laws s.copy) (Result ℕ Refusal) (λ κs r e. r)
    (total-reads.Post s.row s.laws s.copy w.BlockMean w.BlockMean_dict d.Depths d.Depths_dict s.Sample s.Sample_dict s.Clone s.Clone_dict)

total_at : (w : BlockMeanType) → TotalAt w
total_at w κs a r r' e e' p q = answer_only r r' (p ∙ sym q)

pub importance_total_unique : TotalAt byte_blocks_type
importance_total_unique = total_at byte_blocks_type

pub deep_importance_total_unique : TotalAt word_blocks_type
deep_importance_total_unique = total_at word_blocks_type

abbrev ImportanceAt : BlockMeanType → Type 0
ImportanceAt w =
    let d = w.of in
    let s = d.of in
    OneOutcome 3 (importance-kinds.ps s.row s.laws s.copy) (importance-kinds.r s.row s.laws s.copy) (Result Float Refusal) (λ κs r e. r)
    (importance-reads.Post s.row s.laws s.copy w.BlockMean w.BlockMean_dict d.Depths d.Depths_dict s.Sample s.Sample_dict s.Clone s.Clone_dict)

importance_at : (w : BlockMeanType) → ImportanceAt w
importance_at w κs a r r' e e' p q = answer_only r r' (p ∙ sym q)

pub importance_unique : ImportanceAt byte_blocks_type
importance_unique = importance_at byte_blocks_type

pub deep_importance_unique : ImportanceAt word_blocks_type
deep_importance_unique = importance_at word_blocks_type
