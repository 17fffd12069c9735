-- `sad::byte::rest_sad` meets its contract: what is left is a few samples at once and then the others. Assumes nothing.
use native.Mathlib.Omega.{arith}
use borrow.Author.Rules.{rules}
use Rattle.sums.specs.Needs.{byte_most}
use Rattle.sad.proofs.ChunkLaws.{gaps_most, two_parts}
use Rattle.sad.proofs.byte.rest_sad.Goals as goal

pub overflow_add-result : goal.overflow_add-result
overflow_add-result c =
    let s = c.args in
    let row = two_parts s.a.now s.b.now _ _ _ c.requires.lengths (omega arith) c.chunks_sad.ensures c.chunks_sad-2.ensures in
    omega (arith, row, gaps_most byte_most s.a.now s.b.now (λ i. search rules) (λ i. search rules) c.requires.a_len_bound)

pub returns : goal.returns
returns c =
    let s = c.args in
    two_parts s.a.now s.b.now _ _ _ c.requires.lengths (omega arith) c.chunks_sad.ensures c.chunks_sad-2.ensures
