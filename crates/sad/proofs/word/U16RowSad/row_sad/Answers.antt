-- `sad::word::row_sad` meets its contract: what was summed and what is left are the whole row's, and so are the bits. Assumes nothing.
use mathlib.Core.Logic.{inl, inr}
use mathlib.Core.Path.{◌≡◌}
use native.Mathlib.Omega.{arith}
use borrow.Author.Rules.{rules}
use lib.ListN.{length}
use Rattle.sums.specs.Needs.{word_most}
use Rattle.sad.proofs.ChunkLaws.{gaps_most, chunk_taken, left_long, bits_taken, sum_is, bits_are}
use Rattle.sad.proofs.word.U16RowSad.row_sad.Goals as goal

pub overflow_add-sum-in-loop-x : goal.overflow_add-sum-in-loop-x
overflow_add-sum-in-loop-x c =
    let s = c.args in
    let l = c.loop-x in
    let step = c.in-Some.ensures.steps in
    let taken = chunk_taken _ l.sum _ _ _ _ _ _ _ l.invariant.5 step.0.1.0 step.1.1.0 (search rules) c.chunk_sad-chunk.ensures.high_value in
    omega (arith, taken, gaps_most word_most s.a.now s.b.now (λ i. search rules) (λ i. search rules) c.requires.a_len_bound)

pub loop-x-preserved : goal.loop-x-preserved
loop-x-preserved c =
    let l = c.loop-x in
    let step = c.in-Some.ensures.steps in
    let equal : length c.in-Some.x.now ≡ length c.in-Some.y.now = search rules in
    let taken = chunk_taken _ l.sum _ _ _ _ _ _ _ l.invariant.5 step.0.1.0 step.1.1.0 equal c.chunk_sad-chunk.ensures.high_value in
    let long = left_long _ _ _ _ _ _ l.invariant.4 step.0.1.0 step.1.1.0 equal in (
      search rules,
      search rules,
      search rules,
      search rules,
      long,
      taken,
      λ m. bits_taken _ l.bits _ m _ _ _ _ _ _ (l.invariant.6 m) step.0.1.0 step.1.1.0 equal (c.chunk_sad-chunk.ensures.by_index m),
    )

pub returns : goal.returns
returns c =
    let l = c.loop-x in
    let empty : length l.x-iterator.a.rest.now ≡ 0
    = elim c.in-None.ensures.steps [ inl u ↦ u.1.1.0 | inr u ↦ omega (arith, u.1.1.0, l.invariant.4) ] in
    record { sum_value = sum_is _ l.sum _ _ l.invariant.5 empty; by_index = λ m _. bits_are _ l.bits m _ _ (l.invariant.6 m) empty }
