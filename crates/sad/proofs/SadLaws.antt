-- Sums of absolute differences, of a row and of a plane, over the largest sample k. Assumes nothing.
use mathlib.Core.Path.{◌≡◌, refl, ◌∙◌}
use mathlib.Core.List.{List}
use Prim.Native.Nat.{ℕ, ◌+◌, ◌*◌, ◌≤◌, ◌<◌, ◌^◌}
use native.Mathlib.Omega.{arith}
use lib.ListN.{length, get_or}
use Rattle.plane.specs.declared.Plane.{Plane}
use Rattle.plane.specs.Planes.{Word, sample_at, row_of, pair_fault}
use Rattle.plane.proofs.PlaneLaws.{Pair, length_row, row_at, pair, total_fits}
use Rattle.plane.proofs.SampleLaws.{measured}
use Rattle.sums.specs.Sums.{sum_below, apart}
use Rattle.sums.proofs.SumLaws.{NextSum, next_sum, sum_ext, sum_most, sum_to}
use Rattle.sad.specs.Difference.{row_sad, plane_sad}
use Rattle.sad.specs.Needs.{gap_at}

module _ (k : ℕ) (a b : List ℕ) (l : (i : ℕ) → get_or a i 0 ≤ k) (m : (i : ℕ) → get_or b i 0 ≤ k) where
  gap_most : (x : ℕ) → gap_at a b x ≤ k
  gap_most x = omega (arith, l x, m x)

  -- a turn of the sum over pairs, of which x and y are the next
  pub pair_next : (room : ℕ) → length a * k < room → (i sum x y part : ℕ) → i < length a → sum ≡ sum_below i (gap_at a b)
      → x ≡ get_or a i 0 → y ≡ get_or b i 0 → part ≡ apart x y → NextSum room i sum part (gap_at a b)
  pair_next room fits i sum x y part i< e d f g =
      next_sum k (length a) room (gap_at a b) (λ i _. gap_most i) fits i sum part i< e (g ∙ rw (d, f) refl)

  -- what a row of two planes comes to
  row_most : (p q : Plane) (y : ℕ) → row_sad p a q b y ≤ p.width * k
  row_most p q y =
      sum_most k p.width (λ (x : ℕ). apart (sample_at p a y x) (sample_at q b y x))
      (λ x _. omega (arith, l (p.origin + y * p.stride + x), m (q.origin + y * q.stride + x)))

  -- two planes that are not refused
  pub sad_most : (word : Word) (depth : ℕ) (p q : Plane) → k < 2 ^ 16 → pair_fault word depth p a q b ≡ 0 → plane_sad p a q b < 2 ^ 42
  unfolding plane_sad
  sad_most word depth p q s e =
      let f = (pair p (length a) q (length b) (measured word depth p a q b e)).first in
      omega (arith, sum_most (p.width * k) p.height (row_sad p a q b) (λ y _. row_most p q y), total_fits p.height p.width k f.height_most f.width_most s)

-- two rows that were taken out of their planes are as long as the planes are wide, and their sum is the planes' own
module _ (p : Plane) (a : List ℕ) (q : Plane) (b : List ℕ) (y : ℕ) (h : Pair p (length a) q (length b)) (y< : y < p.height) where
  pub row_lengths : (length (row_of p a y) ≡ p.width) × (length (row_of q b y) ≡ p.width)
  row_lengths =
      let heights = h.heights in
      (length_row p a y h.first y<, omega (arith, length_row q b y h.second (omega arith), h.widths))

  pub row_sad_is : (part : ℕ) → part ≡ sum_below (length (row_of p a y)) (gap_at (row_of p a y) (row_of q b y)) → part ≡ row_sad p a q b y
  row_sad_is part e =
      let heights = h.heights in
      let widths = h.widths in
      sum_to _ _ _ _ e row_lengths.0
      ∙ sum_ext p.width (gap_at (row_of p a y) (row_of q b y)) (λ (x : ℕ). apart (sample_at p a y x) (sample_at q b y x))
      (λ x x<.
      let x<' : x < q.width = omega arith in
      let y<' : y < q.height = omega arith in
      rw (row_at p a y h.first y< x x<, row_at q b y h.second y<' x x<'))
