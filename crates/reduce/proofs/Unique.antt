-- Each contract that is `pub` allows one outcome alone, at every type that a word is, and so at both: the answer, and the lent samples as they
-- are left. Assumes nothing.
use mathlib.Core.List.{List}
use mathlib.Core.Path.{◌≡◌, sym, ◌∙◌}
use Prim.Native.Nat.{ℕ}
use Rattle.std.specs.Prelude.{Result}
use Rattle.answer.specs.Unique.{OneOutcome}
use Rattle.answer.specs.declared.Refusal.{Refusal}
use Rattle.answer.proofs.Laws.{fault_only}
use Rattle.sums.proofs.Words.{SampleType, byte_type, word_type}
use Rattle.reduce.proofs.Words.{ReduceRowType, byte_reduce_row_type, word_reduce_row_type}
use Rattle.reduce.proofs.byte.U8ReduceRow.put_row.Kinds as put-row-kinds
use Rattle.reduce.proofs.byte.U8ReduceRow.put_row.Reads as put-row-reads
use Rattle.reduce.proofs.word.U16ReduceRow.put_row.Kinds as deep-put-row-kinds
use Rattle.reduce.proofs.word.U16ReduceRow.put_row.Reads as deep-put-row-reads
use Rattle.reduce.proofs.squares.sum_row.Kinds as sum-row-kinds
use Rattle.reduce.proofs.squares.sum_row.Reads as sum-row-reads
use Rattle.reduce.proofs.squares.put_squares.Kinds as put-squares-kinds
use Rattle.reduce.proofs.squares.put_squares.Reads as put-squares-reads
use Rattle.reduce.proofs.squares.put_by_factor.Kinds as put-by-factor-kinds
use Rattle.reduce.proofs.squares.put_by_factor.Reads as put-by-factor-reads
use Rattle.reduce.proofs.row.reduce_row.Kinds as reduce-row-kinds
use Rattle.reduce.proofs.row.reduce_row.Reads as reduce-row-reads
use Rattle.reduce.proofs.reduce.Kinds as reduce-kinds
use Rattle.reduce.proofs.reduce.Reads as reduce-reads

pub put_row_unique : OneOutcome 2 put-row-kinds.ps put-row-kinds.r (List ℕ) (λ κs r e. e.0.now) put-row-reads.Post
put_row_unique κs a r r' e e' p q = p ∙ sym q

pub deep_put_row_unique : OneOutcome 2 deep-put-row-kinds.ps deep-put-row-kinds.r (List ℕ) (λ κs r e. e.0.now) deep-put-row-reads.Post
deep_put_row_unique κs a r r' e e' p q = p ∙ sym q

abbrev SumRowAt : SampleType → Type 0
SumRowAt w =
    OneOutcome 2 (sum-row-kinds.ps w.row w.laws w.copy) (sum-row-kinds.r w.row w.laws w.copy) ℕ (λ κs r e. r)
    (sum-row-reads.Post w.row w.laws w.copy w.Sample w.Sample_dict w.Clone w.Clone_dict)

sum_row_at : (w : SampleType) → SumRowAt w
sum_row_at w κs a r r' e e' p q = p ∙ sym q

pub sum_row_unique : SumRowAt byte_type
sum_row_unique = sum_row_at byte_type

pub deep_sum_row_unique : SumRowAt word_type
deep_sum_row_unique = sum_row_at word_type

abbrev PutSquaresAt : SampleType → Type 0
PutSquaresAt w =
    OneOutcome 3 (put-squares-kinds.ps w.row w.laws w.copy) (put-squares-kinds.r w.row w.laws w.copy) (List ℕ) (λ κs r e. w.Sample.values e.0.now)
    (put-squares-reads.Post w.row w.laws w.copy w.Sample w.Sample_dict w.Clone w.Clone_dict)

put_squares_at : (w : SampleType) → PutSquaresAt w
put_squares_at w κs a r r' e e' p q = p ∙ sym q

pub put_squares_unique : PutSquaresAt byte_type
put_squares_unique = put_squares_at byte_type

pub deep_put_squares_unique : PutSquaresAt word_type
deep_put_squares_unique = put_squares_at word_type

abbrev PutByFactorAt : SampleType → Type 0
PutByFactorAt w =
    OneOutcome 3 (put-by-factor-kinds.ps w.row w.laws w.copy) (put-by-factor-kinds.r w.row w.laws w.copy) (List ℕ) (λ κs r e. w.Sample.values e.0.now)
    (put-by-factor-reads.Post w.row w.laws w.copy w.Sample w.Sample_dict w.Clone w.Clone_dict)

put_by_factor_at : (w : SampleType) → PutByFactorAt w
put_by_factor_at w κs a r r' e e' p q = p ∙ sym q

pub put_by_factor_unique : PutByFactorAt byte_type
put_by_factor_unique = put_by_factor_at byte_type

pub deep_put_by_factor_unique : PutByFactorAt word_type
deep_put_by_factor_unique = put_by_factor_at word_type

abbrev ReduceRowAt : ReduceRowType → Type 0
ReduceRowAt w =
    let d = w.of in
    let s = d.of in
    OneOutcome 3 (reduce-row-kinds.ps s.row s.laws s.copy) (reduce-row-kinds.r s.row s.laws s.copy) (List ℕ)
    (λ κs r e. s.Sample.values e.0.now) (reduce-row-reads.Post s.row s.laws s.copy w.ReduceRow w.ReduceRow_dict d.Depths d.Depths_dict s.Sample s.Sample_dict s.Clone s.Clone_dict)

reduce_row_at : (w : ReduceRowType) → ReduceRowAt w
reduce_row_at w κs a r r' e e' p q = p ∙ sym q

pub reduce_row_unique : ReduceRowAt byte_reduce_row_type
reduce_row_unique = reduce_row_at byte_reduce_row_type

pub deep_reduce_row_unique : ReduceRowAt word_reduce_row_type
deep_reduce_row_unique = reduce_row_at word_reduce_row_type

abbrev ReduceAt : ReduceRowType → Type 0
ReduceAt w =
    let d = w.of in
    let s = d.of in
    OneOutcome 3 (reduce-kinds.ps s.row s.laws s.copy) (reduce-kinds.r s.row s.laws s.copy) (Result Unit Refusal × List ℕ)
    (λ κs r e. (r, s.Sample.values e.1.1.1.1.1.0.now)) (reduce-reads.Post s.row s.laws s.copy w.ReduceRow w.ReduceRow_dict d.Depths d.Depths_dict s.Sample s.Sample_dict s.Clone s.Clone_dict)

reduce_at : (w : ReduceRowType) → ReduceAt w
reduce_at w κs a r r' e e' p q =
    let answers = fault_only r r' (p.0 ∙ sym q.0) in
    let values = w.of.of.Sample.values in
    let lists : values e.1.1.1.1.1.0.now ≡ values e'.1.1.1.1.1.0.now = p.1 ∙ sym q.1 in
    rw (answers, lists)

pub reduce_unique : ReduceAt byte_reduce_row_type
reduce_unique = reduce_at byte_reduce_row_type

pub deep_reduce_unique : ReduceAt word_reduce_row_type
deep_reduce_unique = reduce_at word_reduce_row_type
