-- `sad::byte::chunks_sad` meets its contract: the sum so far and that of what is left are the whole sum. Assumes nothing.
use mathlib.Core.Logic.{inl, inr}
use mathlib.Core.Path.{◌≡◌}
use Prim.Native.Nat.{◌<◌}
use native.Mathlib.Omega.{arith}
use borrow.Author.Rules.{rules}
use lib.ListN.{length}
use Rattle.sums.specs.Needs.{byte_most}
use Rattle.sad.proofs.ChunkLaws.{gaps_most, chunk_taken, left_long, whole_left, none_left}
use Rattle.sad.proofs.byte.chunks_sad.Goals as goal

pub overflow_add-sum : goal.overflow_add-sum
overflow_add-sum c =
    let s = c.args in
    let l = c.loop-x in
    let step = c.in-Some.ensures.steps in
    let most = gaps_most byte_most s.a.now s.b.now (λ i. search rules) (λ i. search rules) c.requires.a_len_bound in
    let taken = chunk_taken _ l.sum _ _ _ _ _ _ _ l.invariant.6 step.0.1.0 step.1.1.0 (search rules) c.chunk_sad.ensures in
    omega (arith, most, taken)

pub loop-x-preserved : goal.loop-x-preserved
loop-x-preserved c =
    let l = c.loop-x in
    let step = c.in-Some.ensures.steps in
    let equal : length c.in-Some.x.now ≡ length c.in-Some.y.now = search rules in
    let taken = chunk_taken _ l.sum _ _ _ _ _ _ _ l.invariant.6 step.0.1.0 step.1.1.0 equal c.chunk_sad.ensures in
    let full : length c.in-Some.x.now ≡ c.args.n = search rules in
    let whole = whole_left c.args.n _ _ _ l.invariant.5 step.0.1.0 full in
    let long = left_long _ _ _ _ _ _ l.invariant.4 step.0.1.0 step.1.1.0 equal in
    (search rules, search rules, search rules, search rules, long, whole, taken)

pub returns : goal.returns
returns c =
    let l = c.loop-x in
    let short : length l.x-iterator.a.rest.now < c.args.n
    = elim c.in-None.ensures.steps [ inl u ↦ omega (arith, u.1.1.0, l.invariant.2) | inr u ↦ omega (arith, u.1.1.0, l.invariant.3, l.invariant.4) ] in
    none_left _ l.sum c.args.n _ _ l.invariant.6 l.invariant.5 short
