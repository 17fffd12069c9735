-- Samples outside the visible part bear on nothing. Assumes nothing.
use mathlib.Core.Path.{◌≡◌, ap, ◌∙◌}
use mathlib.Core.List.{List}
use Prim.Native.Nat.{ℕ, ◌*◌, ◌<◌, ◌^◌}
use native.Mathlib.Omega.{arith}
use lib.Dec.{leb}
use lib.ListN.{length}
use Rattle.answer.specs.Answer.{answered}
use Rattle.answer.proofs.Laws.{answer_same}
use Rattle.plane.specs.declared.Plane.{Plane}
use Rattle.plane.specs.Planes.{Word, sample_at, sizes_fault, too_large, pair_fault, pair_answer}
use Rattle.plane.proofs.PlaneLaws.{pair}
use Rattle.plane.proofs.SampleLaws.{measured, large_at, large_in}
use Rattle.sums.specs.Quotient.{quotient_of}
use Rattle.sums.specs.Sums.{apart}
use Rattle.sums.proofs.AnyLaws.{any_below_lem}
use Rattle.sums.proofs.SumLaws.{sum_ext}
use Rattle.sad.specs.Difference.{row_sad, plane_sad, difference_of, delta_of}

-- two lists of samples of one length that agree where the plane is visible
pub record Alike (p : Plane) (s t : List ℕ) : Type 0 where
  pub lengths : length s ≡ length t
  pub samples : (y x : ℕ) → y < p.height → x < p.width → sample_at p s y x ≡ sample_at p t y x

-- the visible samples alone are too large or not
large_alike : (depth : ℕ) (p : Plane) (s t : List ℕ) → Alike p s t → too_large depth p s ≡ too_large depth p t
unfolding too_large
large_alike depth p s t a =
    any_below_lem p.height (large_in p s depth) (large_in p t depth)
    (λ y y<. any_below_lem p.width (large_at p s y depth) (large_at p t y depth) (λ x x<. ap (leb (2 ^ depth)) (a.samples y x y< x<)))

module _ (word : Word) (depth : ℕ) (p : Plane) (a a' : List ℕ) (q : Plane) (b b' : List ℕ) (first : Alike p a a') (second : Alike q b b') where
  -- both sums run over the visible samples alone
  sums_alike : sizes_fault p (length a) q (length b) ≡ 0 → plane_sad p a q b ≡ plane_sad p a' q b'
  unfolding plane_sad
  sums_alike e =
      let h = pair p (length a) q (length b) e in
      sum_ext p.height (row_sad p a q b) (row_sad p a' q b')
      (λ y y<.
      sum_ext p.width (λ (x : ℕ). apart (sample_at p a y x) (sample_at q b y x)) (λ (x : ℕ). apart (sample_at p a' y x) (sample_at q b' y x))
      (λ x x<. rw (first.samples y x y< x<, second.samples y x (omega arith) (omega arith))))

  -- and the refusals look at the lengths and at the visible samples
  faults_alike : pair_fault word depth p a q b ≡ pair_fault word depth p a' q b'
  unfolding pair_fault
  faults_alike = rw (first.lengths, second.lengths, large_alike depth p a a' first, large_alike depth q b b' second)

  any_alike : {A : Type 0} (of : ℕ → A)
      → pair_answer word depth p a q b (of (plane_sad p a q b)) ≡ pair_answer word depth p a' q b' (of (plane_sad p a' q b'))
  any_alike of =
      answer_same _ _ _ (λ e. ap of (sums_alike (measured word depth p a q b e)))
      ∙ ap (λ (fault : ℕ). answered fault (of (plane_sad p a' q b'))) faults_alike

  pub difference_visible : difference_of word depth p a q b ≡ difference_of word depth p a' q b'
  difference_visible = any_alike (λ (n : ℕ). n)

  pub delta_visible : delta_of word depth p a q b ≡ delta_of word depth p a' q b'
  delta_visible = any_alike (λ (n : ℕ). quotient_of n (p.width * p.height))
