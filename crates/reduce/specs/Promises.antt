-- What a caller of the reduction may rely on. Each is a theorem of proofs/Promises.antt.
use Rattle.std.specs.Prelude.{ℕ, ◌<◌, false, List, ◌≡◌, length}
use Rattle.plane.specs.Planes.{sample_at, plane_fault}
use Rattle.plane.specs.declared.Plane.{Plane}
use Rattle.answer.specs.Answer.{gives}
use Rattle.scale.specs.Scale.{scale_of, reduced_sides}
use Rattle.reduce.specs.Reduce.{square_mean, reduced_after, bad_factor, too_small, not_reduced}

-- sample (x, y) of the lent plane is the mean of square (x, y), once it is written
abbrev pub MeansOfSquares : Type 0
MeansOfSquares =
    (f : ℕ) (p : Plane) (s : List ℕ) (q : Plane) (r : List ℕ) (y x : ℕ) → plane_fault q (length r) ≡ 0 → y < q.height → x < q.width
    → sample_at q (reduced_after f p s q r) y x ≡ square_mean f p s y x

-- what the scale rule answers is taken: of a plane with the sides that it was asked for, its factor gets neither 6 nor the 1 of a plane that
-- is too small, and a lent plane with the sides that it reduces to does not get 3
abbrev pub TakesTheScale : Type 0
TakesTheScale =
    (width height mode : ℕ) (p q : Plane) → p.width ≡ width → p.height ≡ height → reduced_sides width height mode ≡ gives (q.width, q.height)
    → let f = scale_of width height mode in (bad_factor f ≡ false) × (too_small f p ≡ false) × (not_reduced f p q ≡ false)
