-- Document 01, "Plane difference and scale": the sum of absolute differences over the visible samples, and delta.
use Rattle.std.specs.Prelude.{ℕ, ◌*◌, List, Float}
use Rattle.answer.specs.Answer.{Answer}
use Rattle.plane.specs.Planes.{Word, sample_at, pair_answer}
use Rattle.plane.specs.declared.Plane.{Plane}
use Rattle.sums.specs.Quotient.{quotient_of}
use Rattle.sums.specs.Sums.{sum_below, apart}

-- row y's part of the sum
abbrev pub row_sad : Plane → List ℕ → Plane → List ℕ → ℕ → ℕ
row_sad p a q b y = sum_below p.width (λ (x : ℕ). apart (sample_at p a y x) (sample_at q b y x))

-- "Its sum of absolute differences covers the visible samples"
unfoldable pub plane_sad : Plane → List ℕ → Plane → List ℕ → ℕ
plane_sad p a q b = sum_below p.height (row_sad p a q b)

abbrev pub difference_of : Word → ℕ → Plane → List ℕ → Plane → List ℕ → Answer ℕ
difference_of word depth p a q b = pair_answer word depth p a q b (plane_sad p a q b)

-- "Delta is that sum over width × height."
abbrev pub delta_of : Word → ℕ → Plane → List ℕ → Plane → List ℕ → Answer Float
delta_of word depth p a q b = pair_answer word depth p a q b (quotient_of (plane_sad p a q b) (p.width * p.height))
