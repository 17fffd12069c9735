-- The contracts that are over both words allow one result alone, at every type that a word is, and so at both. Assumes nothing.
use mathlib.Core.Path.{sym, ◌∙◌}
use mathlib.Core.Bool.{Bool}
use mathlib.Core.List.{List}
use Prim.Native.Nat.{ℕ}
use Rattle.std.specs.Prelude.{Result}
use Rattle.answer.specs.Unique.{OneOutcome}
use Rattle.answer.specs.declared.Refusal.{Refusal}
use Rattle.answer.proofs.Laws.{fault_only}
use Rattle.sums.proofs.Words.{SampleType, byte_type, word_type}
use Rattle.plane.proofs.Words.{DepthsType, byte_depths_type, word_depths_type}
use Rattle.plane.proofs.Plane.row.Kinds as row-kinds
use Rattle.plane.proofs.Plane.row.Reads as row_reads
use Rattle.plane.proofs.depths.U8Depths.suits.Kinds as byte-suits-kinds
use Rattle.plane.proofs.depths.U8Depths.suits.Reads as byte-suits-reads
use Rattle.plane.proofs.depths.U16Depths.suits.Kinds as is-deep-kinds
use Rattle.plane.proofs.depths.U16Depths.suits.Reads as is-deep-reads
use Rattle.plane.proofs.depths.U8Depths.or.Kinds as byte-or-kinds
use Rattle.plane.proofs.depths.U8Depths.or.Reads as byte-or-reads
use Rattle.plane.proofs.depths.U16Depths.or.Kinds as deep-or-kinds
use Rattle.plane.proofs.depths.U16Depths.or.Reads as deep-or-reads
use Rattle.plane.proofs.word_fault.Kinds as word-fault-kinds
use Rattle.plane.proofs.word_fault.Reads as word-fault-reads
use Rattle.plane.proofs.shapes_fault.Kinds as shapes-fault-kinds
use Rattle.plane.proofs.shapes_fault.Reads as shapes-fault-reads
use Rattle.plane.proofs.blocks_fault.Kinds as blocks-fault-kinds
use Rattle.plane.proofs.blocks_fault.Reads as blocks-fault-reads
use Rattle.plane.proofs.samples.sample_fault.Kinds as sample-fault-kinds
use Rattle.plane.proofs.samples.sample_fault.Reads as sample-fault-reads
use Rattle.plane.proofs.samples.pair_fault.Kinds as pair-fault-kinds
use Rattle.plane.proofs.samples.pair_fault.Reads as pair-fault-reads
use Rattle.plane.proofs.samples.reaches.Kinds as reaches-kinds
use Rattle.plane.proofs.samples.reaches.Reads as reaches-reads
use Rattle.plane.proofs.samples.rows_large.Kinds as rows-large-kinds
use Rattle.plane.proofs.samples.rows_large.Reads as rows-large-reads

pub byte_suits_unique : OneOutcome 0 byte-suits-kinds.ps byte-suits-kinds.r Bool (λ κs r e. r) byte-suits-reads.Post
byte_suits_unique κs a r r' e e' p q = p ∙ sym q

pub is_deep_unique : OneOutcome 0 is-deep-kinds.ps is-deep-kinds.r Bool (λ κs r e. r) is-deep-reads.Post
is_deep_unique κs a r r' e e' p q = p ∙ sym q

pub byte_or_unique : OneOutcome 0 byte-or-kinds.ps byte-or-kinds.r ℕ (λ κs r e. r) byte-or-reads.Post
byte_or_unique κs a r r' e e' p q = p ∙ sym q

pub deep_or_unique : OneOutcome 0 deep-or-kinds.ps deep-or-kinds.r ℕ (λ κs r e. r) deep-or-reads.Post
deep_or_unique κs a r r' e e' p q = p ∙ sym q

-- of a part that is handed back, what it holds
abbrev RowAt : SampleType → Type 0
RowAt w =
    OneOutcome 2 (row-kinds.ps w.row w.laws w.copy) (row-kinds.r w.row w.laws w.copy) (List ℕ) (λ κs r e. w.Sample.values r.now)
    (row_reads.Post w.row w.laws w.copy w.Sample w.Sample_dict w.Clone w.Clone_dict)

row_at : (w : SampleType) → RowAt w
row_at w κs a r r' e e' p q = p ∙ sym q

pub row_unique : RowAt byte_type
row_unique = row_at byte_type

pub deep_row_unique : RowAt word_type
deep_row_unique = row_at word_type

abbrev WordFaultAt : DepthsType → Type 0
WordFaultAt w =
    let s = w.of in
    OneOutcome 1 (word-fault-kinds.ps s.row s.laws s.copy) (word-fault-kinds.r s.row s.laws s.copy) (Result Unit Refusal) (λ κs r e. r)
    (word-fault-reads.Post s.row s.laws s.copy w.Depths w.Depths_dict s.Sample s.Sample_dict s.Clone s.Clone_dict)

word_fault_at : (w : DepthsType) → WordFaultAt w
word_fault_at w κs a r r' e e' p q = fault_only r r' (p ∙ sym q)

pub byte_fault_unique : WordFaultAt byte_depths_type
byte_fault_unique = word_fault_at byte_depths_type

pub deep_word_fault_unique : WordFaultAt word_depths_type
deep_word_fault_unique = word_fault_at word_depths_type

abbrev ShapesFaultAt : DepthsType → Type 0
ShapesFaultAt w =
    let s = w.of in
    OneOutcome 1 (shapes-fault-kinds.ps s.row s.laws s.copy) (shapes-fault-kinds.r s.row s.laws s.copy) (Result Unit Refusal) (λ κs r e. r)
    (shapes-fault-reads.Post s.row s.laws s.copy w.Depths w.Depths_dict s.Sample s.Sample_dict s.Clone s.Clone_dict)

shapes_fault_at : (w : DepthsType) → ShapesFaultAt w
shapes_fault_at w κs a r r' e e' p q = fault_only r r' (p ∙ sym q)

pub shapes_fault_unique : ShapesFaultAt byte_depths_type
shapes_fault_unique = shapes_fault_at byte_depths_type

pub deep_shapes_fault_unique : ShapesFaultAt word_depths_type
deep_shapes_fault_unique = shapes_fault_at word_depths_type

abbrev BlocksFaultAt : DepthsType → Type 0
BlocksFaultAt w =
    let s = w.of in
    OneOutcome 1 (blocks-fault-kinds.ps s.row s.laws s.copy) (blocks-fault-kinds.r s.row s.laws s.copy) (Result Unit Refusal) (λ κs r e. r)
    (blocks-fault-reads.Post s.row s.laws s.copy w.Depths w.Depths_dict s.Sample s.Sample_dict s.Clone s.Clone_dict)

blocks_fault_at : (w : DepthsType) → BlocksFaultAt w
blocks_fault_at w κs a r r' e e' p q = fault_only r r' (p ∙ sym q)

pub blocks_fault_unique : BlocksFaultAt byte_depths_type
blocks_fault_unique = blocks_fault_at byte_depths_type

pub deep_blocks_fault_unique : BlocksFaultAt word_depths_type
deep_blocks_fault_unique = blocks_fault_at word_depths_type

abbrev SampleFaultAt : DepthsType → Type 0
SampleFaultAt w =
    let s = w.of in
    OneOutcome 2 (sample-fault-kinds.ps s.row s.laws s.copy) (sample-fault-kinds.r s.row s.laws s.copy) (Result Unit Refusal) (λ κs r e. r)
    (sample-fault-reads.Post s.row s.laws s.copy w.Depths w.Depths_dict s.Sample s.Sample_dict s.Clone s.Clone_dict)

sample_fault_at : (w : DepthsType) → SampleFaultAt w
sample_fault_at w κs a r r' e e' p q = fault_only r r' (p ∙ sym q)

pub sample_fault_unique : SampleFaultAt byte_depths_type
sample_fault_unique = sample_fault_at byte_depths_type

pub deep_sample_fault_unique : SampleFaultAt word_depths_type
deep_sample_fault_unique = sample_fault_at word_depths_type

abbrev PairFaultAt : DepthsType → Type 0
PairFaultAt w =
    let s = w.of in
    OneOutcome 3 (pair-fault-kinds.ps s.row s.laws s.copy) (pair-fault-kinds.r s.row s.laws s.copy) (Result Unit Refusal) (λ κs r e. r)
    (pair-fault-reads.Post s.row s.laws s.copy w.Depths w.Depths_dict s.Sample s.Sample_dict s.Clone s.Clone_dict)

pair_fault_at : (w : DepthsType) → PairFaultAt w
pair_fault_at w κs a r r' e e' p q = fault_only r r' (p ∙ sym q)

pub pair_fault_unique : PairFaultAt byte_depths_type
pair_fault_unique = pair_fault_at byte_depths_type

pub deep_pair_fault_unique : PairFaultAt word_depths_type
deep_pair_fault_unique = pair_fault_at word_depths_type

abbrev ReachesAt : DepthsType → Type 0
ReachesAt w =
    let s = w.of in
    OneOutcome 1 (reaches-kinds.ps s.row s.laws s.copy) (reaches-kinds.r s.row s.laws s.copy) Bool (λ κs r e. r)
    (reaches-reads.Post s.row s.laws s.copy w.Depths w.Depths_dict s.Sample s.Sample_dict s.Clone s.Clone_dict)

reaches_at : (w : DepthsType) → ReachesAt w
reaches_at w κs a r r' e e' p q = p ∙ sym q

pub reaches_unique : ReachesAt byte_depths_type
reaches_unique = reaches_at byte_depths_type

pub deep_reaches_unique : ReachesAt word_depths_type
deep_reaches_unique = reaches_at word_depths_type

abbrev RowsLargeAt : DepthsType → Type 0
RowsLargeAt w =
    let s = w.of in
    OneOutcome 2 (rows-large-kinds.ps s.row s.laws s.copy) (rows-large-kinds.r s.row s.laws s.copy) Bool (λ κs r e. r)
    (rows-large-reads.Post s.row s.laws s.copy w.Depths w.Depths_dict s.Sample s.Sample_dict s.Clone s.Clone_dict)

rows_large_at : (w : DepthsType) → RowsLargeAt w
rows_large_at w κs a r r' e e' p q = p ∙ sym q

pub rows_large_unique : RowsLargeAt byte_depths_type
rows_large_unique = rows_large_at byte_depths_type

pub deep_rows_large_unique : RowsLargeAt word_depths_type
deep_rows_large_unique = rows_large_at word_depths_type
