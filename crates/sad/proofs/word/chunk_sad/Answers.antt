-- `sad::word::chunk_sad` meets its contract: the sums and the bits are those of the pairs so far. Assumes nothing.
use mathlib.Core.Path.{◌≡◌, sym, ap, ◌∙◌}
use Prim.Native.Nat.{ℕ, ◌/◌, ◌%◌}
use native.Mathlib.Omega.{arith}
use borrow.Author.Rules.{rules}
use lib.ListN.{length, length-append}
use Rattle.std.proofs.lemmas.Slice.Zip.{zip_turn, zip_end}
use Rattle.plane.proofs.SampleLaws.{reach_none, reach_both, reach_to}
use Rattle.sums.proofs.SumLaws.{sum_none, sum_to}
use Rattle.sad.specs.Needs.{large_from}
use Rattle.sad.proofs.ByteLaws.{low_next, high_next, bytes_are, pair_large}
use Rattle.sad.proofs.ChunkLaws.{gap_is}
use Rattle.sad.proofs.word.chunk_sad.Goals as goal

pub loop-x-init : goal.loop-x-init
loop-x-init c = (sum_none _, sum_none _, reach_none _)

pub overflow_add-low : goal.overflow_add-low
overflow_add-low c =
    let s = c.args in
    let l = c.loop-x in
    let turn = zip_turn s.a.now s.b.now l.yielded _ _ c.next.new.self _ (search rules) (search rules) l.yielded_by _ c.in-Some.is c.next.ensures.steps in
    let gap = gap_is s.a.now s.b.now (length l.yielded) _ _ (turn.2 0) (turn.3 0) in
    let low = low_next s.a.now s.b.now c.requires.short (length l.yielded) l.low _ turn.0 l.invariant.0 (ap (λ (d : ℕ). d % 256) (c.distance-d.ensures ∙ gap)) in
    record { fits = low.1 }

pub overflow_add-high : goal.overflow_add-high
overflow_add-high c =
    let s = c.args in
    let l = c.loop-x in
    let turn = zip_turn s.a.now s.b.now l.yielded _ _ c.next.new.self _ (search rules) (search rules) l.yielded_by _ c.in-Some.is c.next.ensures.steps in
    let gap = gap_is s.a.now s.b.now (length l.yielded) _ _ (turn.2 0) (turn.3 0) in
    let high = high_next s.a.now s.b.now c.requires.short (λ i. search rules) (λ i. search rules) (length l.yielded) l.high _ turn.0 l.invariant.1 (ap (λ (d : ℕ). d / 256) (c.distance-d.ensures ∙ gap)) in
    record { fits = high.1 }

pub loop-x-preserved : goal.loop-x-preserved
loop-x-preserved c =
    let s = c.args in
    let l = c.loop-x in
    let turn = zip_turn s.a.now s.b.now l.yielded _ _ c.next.new.self _ (search rules) (search rules) l.yielded_by _ c.in-Some.is c.next.ensures.steps in
    let gap = gap_is s.a.now s.b.now (length l.yielded) _ _ (turn.2 0) (turn.3 0) in
    let low = low_next s.a.now s.b.now c.requires.short (length l.yielded) l.low _ turn.0 l.invariant.0 (ap (λ (d : ℕ). d % 256) (c.distance-d.ensures ∙ gap)) in
    let high = high_next s.a.now s.b.now c.requires.short (λ i. search rules) (λ i. search rules) (length l.yielded) l.high _ turn.0 l.invariant.1 (ap (λ (d : ℕ). d / 256) (c.distance-d.ensures ∙ gap)) in
    let bits = reach_both (large_from s.a.now s.b.now 0) _ (length l.yielded) _ _ l.invariant.2 (pair_large s.a.now s.b.now (length l.yielded) _ _ (turn.2 0) (turn.3 0)) in
    let more = sym (length-append l.yielded _) in
    (sum_to _ _ _ _ low.0 more, sum_to _ _ _ _ high.0 more, reach_to (large_from s.a.now s.b.now 0) _ _ _ bits more)

pub returns-clause-high_value : goal.returns-clause-high_value
returns-clause-high_value c =
    let s = c.args in
    let l = c.loop-x in
    let ended = zip_end s.a.now s.b.now l.yielded _ _ c.next.new.self _ (search rules) (search rules) l.yielded_by c.in-None.is c.next.ensures.steps in
    let all : length l.yielded ≡ length s.a.now = omega (arith, ended, c.requires.lengths) in
    bytes_are s.a.now s.b.now (length s.a.now) l.low l.high (sum_to _ _ _ _ l.invariant.0 all) (sum_to _ _ _ _ l.invariant.1 all)
