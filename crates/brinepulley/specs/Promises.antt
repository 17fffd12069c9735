-- What a caller may rely on beside the contracts: what the measures give, the detector takes. A number that delta, importance or the
-- threshold gives is one that refusal 10 does not forbid: not a NaN, finite and not below 0. So no list of such numbers is refused with 10.
use Rattle.std.specs.Prelude.{◌≡◌, false, List, ℕ, ◌≤◌, ◌<◌, ◌^◌, Float, get_or}
use Rattle.answer.specs.Answer.{Answer, gives}
use Rattle.plane.specs.declared.Plane.{Plane}
use Rattle.plane.specs.Planes.{Word}
use Rattle.sad.specs.Difference.{delta_of}
use Rattle.importance.specs.Importance.{importance_of}
use Rattle.intra.specs.Threshold.{threshold_of}
use Rattle.score.specs.Costs.{forbidden}

-- a number that is given, not refused, passes refusal 10
abbrev pub Taken : Answer Float → Type 0
Taken answer = (x : Float) → answer ≡ gives x → forbidden x ≡ false

-- a measure of any two planes, over lent samples below 2 ^ 16
abbrev pub PlanesTaken : (Word → ℕ → Plane → List ℕ → Plane → List ℕ → Answer Float) → Type 0
PlanesTaken measure =
    (word : Word) (depth : ℕ) (p : Plane) (a : List ℕ) (q : Plane) (b : List ℕ) (k : ℕ) → k < 2 ^ 16
    → ((i : ℕ) → get_or a i 0 ≤ k) → ((i : ℕ) → get_or b i 0 ≤ k) → Taken (measure word depth p a q b)

-- delta, importance, and the threshold of any costs below 2 ^ 32
abbrev pub MeasuresPass : Type 0
MeasuresPass =
    PlanesTaken delta_of
    × PlanesTaken importance_of
    × ((costs : List ℕ) (count : ℕ) → ((i : ℕ) → get_or costs i 0 < 2 ^ 32) → Taken (threshold_of costs count))
