-- What two planes keep to that are measured together, by the values of their samples. Assumes nothing.
use Rattle.std.proofs.Common.{◌≡◌, ℕ, List, length, map}
use Rattle.plane.specs.declared.Plane.{Plane}
use Rattle.plane.specs.Planes.{sizes_fault}
use Rattle.sums.proofs.SampleLaws.{length_values}

pub sizes_values : {A : Type 0} {value : A → ℕ} {values : List A → List ℕ} (each : (s : List A) → values s ≡ map value s) (p : Plane) (a : List A) (q : Plane) (b : List A)
    → sizes_fault p (length a) q (length b) ≡ 0 → sizes_fault p (length (values a)) q (length (values b)) ≡ 0
sizes_values each p a q b h = rw (length_values each a, length_values each b) h
