-- Each contract of this crate allows one result alone, at every type that a row's word is, and so at both. Assumes nothing.
use mathlib.Core.Path.{sym, ◌∙◌}
use Prim.Native.Nat.{ℕ}
use lib.Ieee.{Float}
use Rattle.std.specs.Prelude.{Result}
use Rattle.answer.specs.Unique.{OneOutcome}
use Rattle.answer.specs.declared.Refusal.{Refusal}
use Rattle.answer.proofs.Laws.{answer_only}
use Rattle.sad.proofs.Words.{RowSadType, byte_rows_type, word_rows_type}
use Rattle.sad.proofs.byte.U8RowSad.row_sad.Kinds as row-sad-kinds
use Rattle.sad.proofs.byte.U8RowSad.row_sad.Reads as row-sad-reads
use Rattle.sad.proofs.word.U16RowSad.row_sad.Kinds as deep-row-sad-kinds
use Rattle.sad.proofs.word.U16RowSad.row_sad.Reads as deep-row-sad-reads
use Rattle.sad.proofs.plane_difference.Kinds as difference-kinds
use Rattle.sad.proofs.plane_difference.Reads as difference-reads
use Rattle.sad.proofs.delta_in_planes.Kinds as delta-kinds
use Rattle.sad.proofs.delta_in_planes.Reads as delta-reads

-- of two rows the sum; of the bits the contract says only which depths of the word they reach
pub row_sad_unique : OneOutcome 2 row-sad-kinds.ps row-sad-kinds.r ℕ (λ κs r e. r.sum) row-sad-reads.Post
row_sad_unique κs a r r' e e' p q = p.0 ∙ sym q.0

pub deep_row_sad_unique : OneOutcome 2 deep-row-sad-kinds.ps deep-row-sad-kinds.r ℕ (λ κs r e. r.sum) deep-row-sad-reads.Post
deep_row_sad_unique κs a r r' e e' p q = p.0 ∙ sym q.0

abbrev DifferenceAt : RowSadType → Type 0
DifferenceAt w =
    let d = w.of in
    let s = d.of in
    OneOutcome 3 (difference-kinds.ps s.row s.laws s.copy) (difference-kinds.r s.row s.laws s.copy) (Result ℕ Refusal) (λ κs r e. r)
    (difference-reads.Post s.row s.laws s.copy w.RowSad w.RowSad_dict d.Depths d.Depths_dict s.Sample s.Sample_dict s.Clone s.Clone_dict)

difference_at : (w : RowSadType) → DifferenceAt w
difference_at w κs a r r' e e' p q = answer_only r r' (p ∙ sym q)

pub plane_difference_unique : DifferenceAt byte_rows_type
plane_difference_unique = difference_at byte_rows_type

pub deep_plane_difference_unique : DifferenceAt word_rows_type
deep_plane_difference_unique = difference_at word_rows_type

abbrev DeltaAt : RowSadType → Type 0
DeltaAt w =
    let d = w.of in
    let s = d.of in
    OneOutcome 3 (delta-kinds.ps s.row s.laws s.copy) (delta-kinds.r s.row s.laws s.copy) (Result Float Refusal) (λ κs r e. r)
    (delta-reads.Post s.row s.laws s.copy w.RowSad w.RowSad_dict d.Depths d.Depths_dict s.Sample s.Sample_dict s.Clone s.Clone_dict)

delta_at : (w : RowSadType) → DeltaAt w
delta_at w κs a r r' e e' p q = answer_only r r' (p ∙ sym q)

pub delta_in_planes_unique : DeltaAt byte_rows_type
delta_in_planes_unique = delta_at byte_rows_type

pub deep_delta_in_planes_unique : DeltaAt word_rows_type
deep_delta_in_planes_unique = delta_at word_rows_type
