-- What the measures give, the detector takes: the promise of specs/Promises.antt. Sums and counts are at most 2 ^ 64. Assumes nothing.
use mathlib.Core.Path.{◌≡◌, refl, sym, ap, ◌∙◌}
use mathlib.Core.Bool.{Bool, true, false, ◌&&◌, ◌||◌}
use mathlib.Core.List.{List}
use Prim.Native.Nat.{ℕ, ◌*◌, ◌≤◌, ◌<◌, ◌^◌}
use native.Mathlib.Nat.{mul-le-mul, mul-pos}
use native.Mathlib.Omega.{arith}
use borrow.Author.Tests.{le-leb, ltb-false}
use lib.Dec.{leb, ltb, lit≤}
use lib.Ieee.{Float, binary64, round, sub}
use lib.ListN.{length, get_or}
use Rattle.answer.specs.Answer.{Answer, gives, refused, answered}
use Rattle.answer.specs.Refusal.{refusal, ◌or_else◌}
use Rattle.answer.proofs.Laws.{or_none, passed, answer_cases}
use Rattle.plane.specs.declared.Plane.{Plane}
use Rattle.plane.specs.Blocks.{block_count, block_fault, blocks_fault}
use Rattle.plane.specs.Planes.{Word, too_large}
use Rattle.plane.proofs.BlockLaws.{count_most, some_block, by_blocks}
use Rattle.plane.proofs.PlaneLaws.{pair}
use Rattle.plane.proofs.SampleLaws.{measured}
use Rattle.sums.proofs.SumLaws.{sum_most}
use Rattle.sad.specs.Difference.{plane_sad, delta_of}
use Rattle.sad.proofs.SadLaws.{sad_most}
use Rattle.importance.specs.Importance.{importance_total, importance_fault, importance_of}
use Rattle.importance.proofs.BlockSums.{total_most}
use Rattle.importance.proofs.Refusals.{one_size}
use Rattle.intra.specs.Threshold.{one_f, bias, cost_sum, threshold_fault, threshold_of}
use Rattle.score.specs.Costs.{forbidden}
use Rattle.brinepulley.specs.Promises.{Taken, MeasuresPass}
use Rattle.brinepulley.proofs.Quotients.{UpTo, most, quotient_passes, part_passes}

-- a value that passes where nothing is refused passes where it is given
abbrev verdict : Answer Float → Bool
verdict (gives x) = forbidden x
verdict (refused f) = false

taken : (fault : ℕ) (v : Float) → (fault ≡ 0 → forbidden v ≡ false) → Taken (answered fault v)
taken fault v h x e = sym (ap verdict e) ∙ answer_cases (λ (r : Answer Float). verdict r ≡ false) fault v h (λ _. refl)

-- ---- two planes

module _ (word : Word) (depth : ℕ) (p : Plane) (a : List ℕ) (q : Plane) (b : List ℕ) where
  -- where importance is not refused there is a block
  some_blocks : importance_fault word depth p a q b ≡ 0 → 0 < block_count p
  unfolding importance_fault
  some_blocks e =
      let t = or_none (blocks_fault word depth p (length a) q (length b)) (refusal 16 (too_large depth p a || too_large depth q b)) e in
      (by_blocks word depth p (length a) q (length b) t.0).1

  module _ (k : ℕ) (s : k < 2 ^ 16) (l : (i : ℕ) → get_or a i 0 ≤ k) (m : (i : ℕ) → get_or b i 0 ≤ k) where
    delta_taken : Taken (delta_of word depth p a q b)
    delta_taken =
        taken _ _
        (λ e.
        let f = (pair p (length a) q (length b) (measured word depth p a q b e)).first in
        quotient_passes (plane_sad p a q b) (p.width * p.height) (omega (arith, sad_most k a b l m word depth p q s e))
        (mul-pos f.some_width f.some_height) (omega (arith, mul-le-mul f.width_most f.height_most)))

    importance_taken : Taken (importance_of word depth p a q b)
    importance_taken =
        taken _ _
        (λ e.
        let f = (pair p (length a) q (length b) (one_size word depth p a q b e)).first in
        quotient_passes (importance_total p a q b) (block_count p) (omega (arith, total_most k p a q b l m word depth s e))
        (some_blocks e) (omega (arith, count_most p (length a) f)))

-- ---- the threshold

-- where it is not refused there are costs, and not more than their sum has room for
few : (n count : ℕ) → threshold_fault n count ≡ 0 → (0 < count) × (count ≤ 2 ^ 32)
unfolding threshold_fault
few n count e =
    let t = or_none (refusal 1 (leb count n && ltb (2 ^ 32) count)) (block_fault count or_else refusal 4 (ltb n count)) e in
    let u = or_none (block_fault count) (refusal 4 (ltb n count)) t.1 in
    let long : leb count n ≡ true = le-leb count n (ltb-false n count (passed 3 (ltb n count) u.1)) in
    let not-many : ltb (2 ^ 32) count ≡ false = rw long at (passed 0 (leb count n && ltb (2 ^ 32) count) t.0) in
    (some_block count u.0, ltb-false (2 ^ 32) count not-many)

sum_small : (costs : List ℕ) (count : ℕ) → ((i : ℕ) → get_or costs i 0 < 2 ^ 32) → count ≤ 2 ^ 32 → cost_sum costs count ≤ most
unfolding cost_sum
sum_small costs count h c = omega (arith, sum_most 4294967295 count (λ (i : ℕ). get_or costs i 0) (λ i _. omega (arith, h i)))

-- 1.0 − 0.7 lies between 0 and 1
factor_small : UpTo 1 (sub binary64 one_f bias)
unfolding sub round
factor_small = (refl, lit≤ tt)

threshold_taken : (costs : List ℕ) (count : ℕ) → ((i : ℕ) → get_or costs i 0 < 2 ^ 32) → Taken (threshold_of costs count)
threshold_taken costs count h =
    taken _ _
    (λ e.
    let f = few (length costs) count e in
    part_passes (cost_sum costs count) count (sum_small costs count h f.1) f.0 (omega (arith, f.1)) (sub binary64 one_f bias) factor_small)

pub measures_pass : MeasuresPass
measures_pass = (delta_taken, importance_taken, threshold_taken)
