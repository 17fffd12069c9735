-- `sad::byte::row_sad` meets its contract: a row is its chunks, the small chunks of what is left, and the rest, each cut off where the one before it ends.
-- Assumes nothing.
use native.Mathlib.Omega.{arith}
use mathlib.Core.Path.{refl}
use borrow.Author.Rules.{rules}
use Rattle.sums.specs.Needs.{byte_most}
use Rattle.sad.proofs.ByteLaws.{none_large}
use Rattle.sad.proofs.ChunkLaws.{gaps_most, row_parts}
use Rattle.sad.proofs.byte.U8RowSad.row_sad.Goals as goal

-- both kinds of chunks, and with the rest all of the row
pub overflow_add-sum : goal.overflow_add-sum
overflow_add-sum c =
    let s = c.args in
    let row = row_parts s.a.now s.b.now _ _ _ _ _ c.requires.a_len (omega arith) c.chunks_sad.ensures c.chunks_sad-2.ensures refl in
    omega (arith, row, gaps_most byte_most s.a.now s.b.now (λ i. search rules) (λ i. search rules) c.requires.a_len_bound)

pub overflow_add-result : goal.overflow_add-result
overflow_add-result c =
    let s = c.args in
    let row = row_parts s.a.now s.b.now _ _ _ _ _ c.requires.a_len (omega arith) c.chunks_sad.ensures c.chunks_sad-2.ensures c.rest_sad.ensures in
    omega (arith, row, gaps_most byte_most s.a.now s.b.now (λ i. search rules) (λ i. search rules) c.requires.a_len_bound)

pub returns : goal.returns
returns c =
    let s = c.args in
    record {
      sum_value = row_parts s.a.now s.b.now _ _ _ _ _ c.requires.a_len (omega arith) c.chunks_sad.ensures c.chunks_sad-2.ensures c.rest_sad.ensures;
      by_index = none_large s.a.now s.b.now (λ i. search rules) (λ i. search rules) _;
    }
