-- Each contract of this crate allows one outcome alone: the answer, and all that a caller keeps. That of a strip does so at every type that is
-- measured, and so at both words. Assumes nothing.
use mathlib.Core.List.{List}
use mathlib.Core.Path.{sym, ap₂, ◌∙◌}
use Prim.Native.Nat.{ℕ}
use Rattle.std.specs.Prelude.{Result}
use Rattle.answer.specs.Unique.{OneOutcome}
use Rattle.answer.specs.declared.Refusal.{Refusal}
use Rattle.answer.proofs.Laws.{answer_only}
use Rattle.strips.specs.declared.Totals.{Totals}
use Rattle.strips.specs.Strips.{Kept, kept}
use Rattle.strips.proofs.Words.{MeasuredType, byte_measured_type, word_measured_type}
use Rattle.strips.proofs.start.Kinds as start-kinds
use Rattle.strips.proofs.start.Reads as start-reads
use Rattle.strips.proofs.add.Kinds as add-kinds
use Rattle.strips.proofs.add.Reads as add_reads
use Rattle.strips.proofs.end.Kinds as end-kinds
use Rattle.strips.proofs.end.Reads as end_reads

pub start_unique : OneOutcome 1 start-kinds.ps start-kinds.r (Result ℕ Refusal × List ℕ) (λ κs r e. (r, e.1.1.1.0.now)) start-reads.Post
start_unique κs a r r' e e' p q = ap₂ (λ (n : Result ℕ Refusal) (l : List ℕ). (n, l)) (answer_only r r' (p.0 ∙ sym q.0)) (p.1 ∙ sym q.1)

abbrev AddAt : MeasuredType → Type 0
AddAt w =
    let r = w.of in
    let d = r.of in
    let s = d.of in
    OneOutcome 6 (add-kinds.ps s.row s.laws s.copy) (add-kinds.r s.row s.laws s.copy) (Result ℕ Refusal × Kept)
    (λ κs a e. (a, kept e.0.now (s.Sample.values e.1.1.1.1.1.0.now) e.1.1.1.1.1.1.0.now))
    (add_reads.Post s.row s.laws s.copy w.Measured w.Measured_dict r.RowSad r.RowSad_dict d.Depths d.Depths_dict s.Sample s.Sample_dict s.Clone s.Clone_dict
    w.BlockMean w.BlockMean_dict)

add_at : (w : MeasuredType) → AddAt w
add_at w κs a r r' e e' p q = ap₂ (λ (n : Result ℕ Refusal) (k : Kept). (n, k)) (answer_only r r' (p.0 ∙ sym q.0)) (p.1 ∙ sym q.1)

pub add_unique : AddAt byte_measured_type
add_unique = add_at byte_measured_type

pub deep_add_unique : AddAt word_measured_type
deep_add_unique = add_at word_measured_type

pub end_unique : OneOutcome 1 end-kinds.ps end-kinds.r (Result Totals Refusal) (λ κs r e. r) end_reads.Post
end_unique κs a r r' e e' p q = answer_only r r' (p ∙ sym q)
