-- `standard::threshold` meets its contract: the mean of the part is that of the first costs, and it is multiplied by 1.0 − 0.7 as the float literals
-- give it. Assumes nothing.
use mathlib.Core.Path.{◌≡◌, refl, sym, ap, ap₂, ◌∙◌}
use mathlib.Core.Bool.{Bool, false, ◌&&◌}
use mathlib.Core.List.{List}
use Prim.Native.Nat.{ℕ, ◌≤◌, ◌^◌}
use native.Mathlib.Omega.{arith}
use borrow.Author.Tests.{le-leb, ltb-false}
use lib.Dec.{leb, ltb}
use lib.Ieee.{binary64, of_bits, round, mul, sub}
use lib.ListN.{length, get_or, take}
use Rattle.std.proofs.Common.{length-take-le}
use lib.Seq.{get_or-take}
use Rattle.answer.proofs.Laws.{or_none, passed, answer_given}
use Rattle.answer.specs.Refusal.{refusal, ◌or_else◌}
use Rattle.plane.specs.Blocks.{block_fault}
use Rattle.sums.specs.Quotient.{quotient_of}
use Rattle.sums.specs.Sums.{sum_below}
use Rattle.sums.proofs.SumLaws.{sum_ext}
use Rattle.intra.specs.Threshold.{one_f, bias, cost_sum, threshold_fault}
use Rattle.intra.proofs.standard.threshold.Goals as goal

-- what is known of a count that is not refused
counted : (n count : ℕ) → threshold_fault n count ≡ 0 → (count ≤ n) × (count ≤ 2 ^ 32)
unfolding threshold_fault
counted n count e =
    let t = or_none (refusal 1 (leb count n && ltb (2 ^ 32) count)) (block_fault count or_else refusal 4 (ltb n count)) e in
    let some : count ≤ n = ltb-false n count (passed 3 _ (or_none (block_fault count) (refusal 4 (ltb n count)) t.1).1) in
    let few : leb count n && ltb (2 ^ 32) count ≡ false = passed 0 _ t.0 in
    (some, ltb-false (2 ^ 32) count (sym (ap (λ (b : Bool). b && ltb (2 ^ 32) count) (le-leb count n some)) ∙ few))

-- the sum of a part is that of the first costs
part_sum : (costs : List ℕ) (count : ℕ) → count ≤ length costs → cost_sum (take count costs) (length (take count costs)) ≡ cost_sum costs count
unfolding cost_sum
part_sum costs count h =
    ap (λ (n : ℕ). sum_below n (λ (k : ℕ). get_or (take count costs) k 0)) (length-take-le count costs h)
    ∙ sum_ext count _ _ (λ k k<. get_or-take count costs k 0 k<)

pub slice_bounds-cost_sum-end : goal.slice_bounds-cost_sum-end
slice_bounds-cost_sum-end c = sym (length-take-le _ _ (counted _ _ (sym c.in_ok-threshold_fault.ensures)).0)

pub cost_sum-requires : goal.cost_sum-requires
cost_sum-requires c =
    let known = counted (length c.args.costs.now) c.args.count (sym c.in_ok-threshold_fault.ensures) in
    omega (arith, length-take-le c.args.count c.args.costs.now known.0, known.1)

-- the literals are the definition's numbers
one_is : of_bits binary64 4607182418800017408 ≡ one_f
unfolding of_bits round
one_is = refl

bias-is : of_bits binary64 4604480259023595110 ≡ bias
unfolding of_bits round
bias-is = refl

pub returns : goal.returns
returns c =
    let s = c.args in
    let none = c.in_ok-threshold_fault.ensures in
    let sum = c.cost_sum.ensures ∙ part_sum s.costs.now s.count (counted _ _ (sym none)).0 in
    answer_given _ _ _ none (ap₂ (mul binary64) (c.quotient.ensures ∙ ap (λ (n : ℕ). quotient_of n s.count) sum) (ap₂ (sub binary64) one_is bias-is))
