-- The totals of the first rows of two frames that no measure refuses, and the carry that has them: it is never unfit. Assumes nothing.
use mathlib.Core.Bool.{Bool, true, false, ◌&&◌}
use mathlib.Core.List.{List}
use mathlib.Core.Path.{◌≡◌, refl}
use Prim.Native.Nat.{ℕ, ◌+◌, ◌-◌, ◌*◌, ◌/◌, ◌≤◌, ◌<◌, ◌^◌}
use native.Mathlib.Nat.{mul_assoc, mul-le-mul}
use native.Mathlib.Omega.{arith}
use borrow.Author.Tests.{le-ltb}
use lib.Dec.{eqb}
use lib.ListN.{length}
use Rattle.importance.specs.Importance.{mean, block_sum, block_difference, blocks_difference}
use Rattle.plane.specs.Blocks.{block_side, blocks_across, block_sample}
use Rattle.plane.specs.Planes.{Word, max_side, depth_fault, sample_at, pair_fault}
use Rattle.plane.specs.declared.Plane.{Plane}
use Rattle.plane.proofs.PlaneLaws.{Pair, pair, side_passes}
use Rattle.plane.proofs.SampleLaws.{measured, measured_below, sample_below}
use Rattle.sad.specs.Difference.{row_sad}
use Rattle.sums.specs.Sums.{sum_below, apart}
use Rattle.sums.proofs.MeanLaws.{mean_most}
use Rattle.sums.proofs.SumLaws.{sum_most}
use Rattle.strips.specs.declared.carry.Carry.{Carry}
use Rattle.strips.specs.Carry.{carry_by, totals_most, totals_past, carry_unfit}
use Rattle.strips.specs.Rows.{Strip}
use Rattle.strips.proofs.CarryLaws.{above}

-- a carry is fit where its sides, its rows and its totals are
pub fits_back : (c : Carry) → 0 < c.width → c.width ≤ max_side → 0 < c.height → c.height ≤ max_side → c.rows ≤ c.height
    → c.difference ≤ totals_most c → c.importance ≤ totals_most c → carry_unfit c ≡ false
unfolding carry_unfit totals_past
fits_back c w w≤ h h≤ r d i =
    let totals : above c (totals_most c) ≡ false = rw (le-ltb (totals_most c) c.difference d, le-ltb (totals_most c) c.importance i) refl in
    rw (side_passes c.width w w≤, side_passes c.height h h≤, le-ltb c.height c.rows r) (silent (eqb (depth_fault c.depth) 0) (above c (totals_most c)) totals)
  where
    silent : (a t : Bool) → t ≡ false → a && t ≡ false
    silent true t e = e
    silent false t e = refl

module _ (word : Word) (depth : ℕ) (frames : Strip) (fine : pair_fault word depth frames.first frames.a frames.second frames.b ≡ 0) where
  abbrev p : Plane
  p = frames.first

  abbrev q : Plane
  q = frames.second

  abbrev a : List ℕ
  a = frames.a

  abbrev b : List ℕ
  b = frames.b

  -- the largest sample
  abbrev pub most : ℕ
  most = 2 ^ depth - 1

  pub planes : Pair p (length a) q (length b)
  planes = pair p (length a) q (length b) (measured word depth p a q b fine)

  pub samples_below : (y x : ℕ) → y < p.height → x < p.width → (sample_at p a y x < 2 ^ depth) × (sample_at q b y x < 2 ^ depth)
  samples_below y x h l =
      let t = measured_below word depth p a q b fine in
      (sample_below depth p a t.0 y x h l, sample_below depth q b t.1 y x (omega (arith, planes.heights)) (omega (arith, planes.widths)))

  -- ---- the totals

  -- of two samples, and of r rows
  pub rows_most : (r : ℕ) → r ≤ p.height → sum_below r (row_sad p a q b) ≤ r * (p.width * most)
  rows_most r h =
      sum_most (p.width * most) r (row_sad p a q b)
      (λ y y<. sum_most most p.width (λ (x : ℕ). apart (sample_at p a y x) (sample_at q b y x))
      (λ x x<. let s = samples_below y x (omega arith) x< in omega (arith, s.0, s.1)))

  -- of two blocks, and of n rows of them
  block_most : (s : List ℕ) (f : Plane) (y x : ℕ) → ((j i : ℕ) → j < block_side → i < block_side → block_sample f s y x j i ≤ most) → mean (block_sum f s y x) ≤ most
  block_most s f y x h =
      mean_most most 64 (block_sum f s y x) (omega arith)
      (omega (arith, sum_most (block_side * most) block_side (λ (j : ℕ). sum_below block_side (block_sample f s y x j)) (λ j j<. sum_most most block_side (block_sample f s y x j) (λ i i<. h j i j< i<))))

  pub blocks_most : (n : ℕ) → n ≤ p.height / block_side → sum_below n (blocks_difference p a q b) ≤ n * (blocks_across p * most)
  blocks_most n h =
      sum_most (blocks_across p * most) n (blocks_difference p a q b)
      (λ y y<. sum_most most (blocks_across p) (block_difference p a q b y)
      (λ x x<.
      let first = block_most a p y x (λ j i j< i<. let s = samples_below (y * block_side + j) (x * block_side + i) (omega arith) (omega arith) in omega (arith, s.0)) in
      let second = block_most b q y x (λ j i j< i<. let s = samples_below (y * block_side + j) (x * block_side + i) (omega arith) (omega arith) in omega (arith, s.1)) in
      omega (arith, first, second)))

  -- ---- the carry that has them

  -- once r rows have come
  abbrev pub carry_at : ℕ → Carry
  carry_at r = carry_by p.width p.height depth r (sum_below r (row_sad p a q b)) (sum_below (r / block_side) (blocks_difference p a q b))

  pub carry_fits : (r : ℕ) → r ≤ p.height → carry_unfit (carry_at r) ≡ false
  carry_fits r h =
      let l = planes.first in
      let limit = mul_assoc r p.width most in
      let few : r / block_side ≤ r = omega arith in
      let narrow : blocks_across p ≤ p.width = omega arith in
      let same : most ≤ most = omega arith in
      let blocks : r / block_side * (blocks_across p * most) ≤ r * (p.width * most) = mul-le-mul few (mul-le-mul narrow same) in
      fits_back (carry_at r) l.some_width l.width_most l.some_height l.height_most h
      (omega (arith, rows_most r h, limit)) (omega (arith, blocks_most (r / block_side) (omega arith), blocks, limit))
