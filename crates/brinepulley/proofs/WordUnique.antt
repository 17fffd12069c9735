-- The contracts that are over both words allow one outcome alone, at every type that a word is, and so at both: the number, and what every
-- lent place holds at exit. Assumes nothing.
use mathlib.Core.List.{List}
use mathlib.Core.Path.{sym, ◌∙◌}
use Prim.Native.Nat.{ℕ}
use lib.IntN.{ℤ}
use lib.Ieee.{Float}
use Rattle.answer.specs.Unique.{OneOutcome}
use Rattle.importance.proofs.Words.{BlockMeanType, byte_blocks_type, word_blocks_type}
use Rattle.plane.proofs.Words.{DepthsType, byte_depths_type, word_depths_type}
use Rattle.reduce.proofs.Words.{ReduceRowType, byte_reduce_row_type, word_reduce_row_type}
use Rattle.sad.proofs.Words.{RowSadType, byte_rows_type, word_rows_type}
use Rattle.strips.specs.Strips.{Kept, kept}
use Rattle.strips.proofs.Words.{MeasuredType, byte_measured_type, word_measured_type}
use Rattle.sums.proofs.Words.{SampleType, byte_type, word_type}
use Rattle.brinepulley.proofs.Unique.{same, both}
use Rattle.brinepulley.proofs.brine_plane_difference.Kinds as plane-difference-kinds
use Rattle.brinepulley.proofs.brine_plane_difference.Reads as plane-difference-reads
use Rattle.brinepulley.proofs.brine_importance_total.Kinds as importance-total-kinds
use Rattle.brinepulley.proofs.brine_importance_total.Reads as importance-total-reads
use Rattle.brinepulley.proofs.brine_satd8x8.Kinds as satd8x8-kinds
use Rattle.brinepulley.proofs.brine_satd8x8.Reads as satd8x8-reads
use Rattle.brinepulley.proofs.brine_delta.Kinds as delta-kinds
use Rattle.brinepulley.proofs.brine_delta.Reads as delta-reads
use Rattle.brinepulley.proofs.brine_importance.Kinds as importance-kinds
use Rattle.brinepulley.proofs.brine_importance.Reads as importance-reads
use Rattle.brinepulley.proofs.frames.brine_reduce.Kinds as reduce-kinds
use Rattle.brinepulley.proofs.frames.brine_reduce.Reads as reduce-reads
use Rattle.brinepulley.proofs.brine_intra_costs.Kinds as intra-costs-kinds
use Rattle.brinepulley.proofs.brine_intra_costs.Reads as intra-costs-reads
use Rattle.brinepulley.proofs.sensor.brine_strips_add.Kinds as strips-add-kinds
use Rattle.brinepulley.proofs.sensor.brine_strips_add.Reads as strips-add-reads

abbrev PlaneDifferenceAt : RowSadType → Type 0
PlaneDifferenceAt w =
    let d = w.of in
    let s = d.of in
    OneOutcome 3 (plane-difference-kinds.ps s.row s.laws s.copy) (plane-difference-kinds.r s.row s.laws s.copy) ℤ (λ κs r e. r)
    (plane-difference-reads.Post s.row s.laws s.copy w.RowSad w.RowSad_dict d.Depths d.Depths_dict s.Sample s.Sample_dict s.Clone s.Clone_dict)

plane_difference_at : (w : RowSadType) → PlaneDifferenceAt w
plane_difference_at w κs a r r' e e' p q = p ∙ sym q

pub plane_difference_unique : PlaneDifferenceAt byte_rows_type
plane_difference_unique = plane_difference_at byte_rows_type

pub deep_plane_difference_unique : PlaneDifferenceAt word_rows_type
deep_plane_difference_unique = plane_difference_at word_rows_type

abbrev ImportanceTotalAt : BlockMeanType → Type 0
ImportanceTotalAt w =
    let d = w.of in
    let s = d.of in
    OneOutcome 3 (importance-total-kinds.ps s.row s.laws s.copy) (importance-total-kinds.r s.row s.laws s.copy) ℤ (λ κs r e. r)
    (importance-total-reads.Post s.row s.laws s.copy w.BlockMean w.BlockMean_dict d.Depths d.Depths_dict s.Sample s.Sample_dict s.Clone s.Clone_dict)

importance_total_at : (w : BlockMeanType) → ImportanceTotalAt w
importance_total_at w κs a r r' e e' p q = p ∙ sym q

pub importance_total_unique : ImportanceTotalAt byte_blocks_type
importance_total_unique = importance_total_at byte_blocks_type

pub deep_importance_total_unique : ImportanceTotalAt word_blocks_type
deep_importance_total_unique = importance_total_at word_blocks_type

abbrev Satd8x8At : SampleType → Type 0
Satd8x8At w =
    let s = w in
    OneOutcome 3 (satd8x8-kinds.ps s.row s.laws s.copy) (satd8x8-kinds.r s.row s.laws s.copy) ℤ (λ κs r e. r)
    (satd8x8-reads.Post s.row s.laws s.copy s.Sample s.Sample_dict s.Clone s.Clone_dict)

satd8x8_at : (w : SampleType) → Satd8x8At w
satd8x8_at w κs a r r' e e' p q = p ∙ sym q

pub satd8x8_unique : Satd8x8At byte_type
satd8x8_unique = satd8x8_at byte_type

pub deep_satd8x8_unique : Satd8x8At word_type
deep_satd8x8_unique = satd8x8_at word_type

abbrev DeltaAt : RowSadType → Type 0
DeltaAt w =
    let d = w.of in
    let s = d.of in
    OneOutcome 4 (delta-kinds.ps s.row s.laws s.copy) (delta-kinds.r s.row s.laws s.copy) (ℤ × Float) (λ κs r e. (r, e.1.1.1.1.1.1.1.1.1.1.1.0.now))
    (delta-reads.Post s.row s.laws s.copy w.RowSad w.RowSad_dict d.Depths d.Depths_dict s.Sample s.Sample_dict s.Clone s.Clone_dict)

delta_at : (w : RowSadType) → DeltaAt w
delta_at w κs a r r' e e' p q = same r r' _ _ p q

pub delta_unique : DeltaAt byte_rows_type
delta_unique = delta_at byte_rows_type

pub deep_delta_unique : DeltaAt word_rows_type
deep_delta_unique = delta_at word_rows_type

abbrev ImportanceAt : BlockMeanType → Type 0
ImportanceAt w =
    let d = w.of in
    let s = d.of in
    OneOutcome 4 (importance-kinds.ps s.row s.laws s.copy) (importance-kinds.r s.row s.laws s.copy) (ℤ × Float) (λ κs r e. (r, e.1.1.1.1.1.1.1.1.1.1.1.0.now))
    (importance-reads.Post s.row s.laws s.copy w.BlockMean w.BlockMean_dict d.Depths d.Depths_dict s.Sample s.Sample_dict s.Clone s.Clone_dict)

importance_at : (w : BlockMeanType) → ImportanceAt w
importance_at w κs a r r' e e' p q = same r r' _ _ p q

pub importance_unique : ImportanceAt byte_blocks_type
importance_unique = importance_at byte_blocks_type

pub deep_importance_unique : ImportanceAt word_blocks_type
deep_importance_unique = importance_at word_blocks_type

abbrev ReduceAt : ReduceRowType → Type 0
ReduceAt w =
    let d = w.of in
    let s = d.of in
    OneOutcome 3 (reduce-kinds.ps s.row s.laws s.copy) (reduce-kinds.r s.row s.laws s.copy) (ℤ × List ℕ) (λ κs r e. (r, s.Sample.values e.1.1.1.1.1.1.1.0.now))
    (reduce-reads.Post s.row s.laws s.copy w.ReduceRow w.ReduceRow_dict d.Depths d.Depths_dict s.Sample s.Sample_dict s.Clone s.Clone_dict)

reduce_at : (w : ReduceRowType) → ReduceAt w
reduce_at w κs a r r' e e' p q = same r r' _ _ p q

pub reduce_unique : ReduceAt byte_reduce_row_type
reduce_unique = reduce_at byte_reduce_row_type

pub deep_reduce_unique : ReduceAt word_reduce_row_type
deep_reduce_unique = reduce_at word_reduce_row_type

abbrev IntraCostsAt : DepthsType → Type 0
IntraCostsAt w =
    let s = w.of in
    OneOutcome 4 (intra-costs-kinds.ps s.row s.laws s.copy) (intra-costs-kinds.r s.row s.laws s.copy) (ℤ × List ℕ × List ℕ) (λ κs r e. (r, s.Sample.values e.1.1.1.1.1.1.0.now, e.1.1.1.1.1.1.1.1.1.1.1.0.now))
    (intra-costs-reads.Post s.row s.laws s.copy w.Depths w.Depths_dict s.Sample s.Sample_dict s.Clone s.Clone_dict)

intra_costs_at : (w : DepthsType) → IntraCostsAt w
intra_costs_at w κs a r r' e e' p q = both r r' _ _ _ _ p q

pub intra_costs_unique : IntraCostsAt byte_depths_type
intra_costs_unique = intra_costs_at byte_depths_type

pub deep_intra_costs_unique : IntraCostsAt word_depths_type
deep_intra_costs_unique = intra_costs_at word_depths_type

abbrev StripsAddAt : MeasuredType → Type 0
StripsAddAt w =
    let r = w.of in
    let d = r.of in
    let s = d.of in
    OneOutcome 6 (strips-add-kinds.ps s.row s.laws s.copy) (strips-add-kinds.r s.row s.laws s.copy) (ℤ × Kept) (λ κs r e. (r, kept e.0.now (s.Sample.values e.1.1.1.1.1.1.1.1.1.1.1.0.now) e.1.1.1.1.1.1.1.1.1.1.1.1.0.now))
    (strips-add-reads.Post s.row s.laws s.copy w.Measured w.Measured_dict r.RowSad r.RowSad_dict d.Depths d.Depths_dict s.Sample s.Sample_dict s.Clone s.Clone_dict w.BlockMean w.BlockMean_dict)

strips_add_at : (w : MeasuredType) → StripsAddAt w
strips_add_at w κs a r r' e e' p q = same r r' _ _ p q

pub strips_add_unique : StripsAddAt byte_measured_type
strips_add_unique = strips_add_at byte_measured_type

pub strips_add16_unique : StripsAddAt word_measured_type
strips_add16_unique = strips_add_at word_measured_type
