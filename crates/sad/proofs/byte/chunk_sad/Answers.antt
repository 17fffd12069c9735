-- `sad::byte::chunk_sad` meets its contract: the sum is that of the pairs so far, which by the bound on a sample fits. Assumes nothing.
use Prim.Native.Nat.{◌^◌}
use borrow.Author.Rules.{rules}
use mathlib.Core.Path.{sym}
use lib.ListN.{length, length-append}
use Rattle.std.proofs.lemmas.Slice.Zip.{zip_turn}
use Rattle.sums.specs.Needs.{byte_most}
use Rattle.sums.proofs.SumLaws.{sum_none, sum_to}
use Rattle.sad.proofs.SadLaws.{pair_next}
use Rattle.sad.proofs.byte.chunk_sad.Goals as goal

pub loop-x-init : goal.loop-x-init
loop-x-init c = sum_none _

pub overflow_add-sum : goal.overflow_add-sum
overflow_add-sum c =
    let s = c.args in
    let l = c.loop-x in
    let turn = zip_turn s.a.now s.b.now l.yielded _ _ c.next.new.self _ (search rules) (search rules) l.yielded_by _ c.in-Some.is c.next.ensures.steps in
    let next = pair_next byte_most s.a.now s.b.now (λ i. search rules) (λ i. search rules) (2 ^ 16) c.requires.byte_most_bound (length l.yielded) l.sum _ _ _ turn.0 l.invariant (turn.2 0) (turn.3 0) c.distance-sum.ensures in
    record { fits = next.1 }

pub loop-x-preserved : goal.loop-x-preserved
loop-x-preserved c =
    let s = c.args in
    let l = c.loop-x in
    let turn = zip_turn s.a.now s.b.now l.yielded _ _ c.next.new.self _ (search rules) (search rules) l.yielded_by _ c.in-Some.is c.next.ensures.steps in
    let next = pair_next byte_most s.a.now s.b.now (λ i. search rules) (λ i. search rules) (2 ^ 16) c.requires.byte_most_bound (length l.yielded) l.sum _ _ _ turn.0 l.invariant (turn.2 0) (turn.3 0) c.distance-sum.ensures in
    sum_to _ _ _ _ next.0 (sym (length-append l.yielded _))
