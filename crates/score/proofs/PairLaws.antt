-- Pair numbers and their neighbours: how many there are, which stand at a place, and which of them scoring and dropping leave.
-- Assumes nothing.
use mathlib.Core.Path.{◌≡◌, refl, ap}
use mathlib.Core.Bool.{Bool, true, false}
use mathlib.Core.List.{List, [], ◌∷◌}
use Prim.Native.Nat.{ℕ, zero, suc, ◌<◌}
use native.Mathlib.Omega.{arith}
use borrow.Author.Tests.{eq-eqb, ne_eqb}
use lib.ListN.{length, take, get_or}
use lib.Ieee.{Float}
use Rattle.score.specs.declared.ScenecutResult.{ScenecutResult}
use Rattle.score.specs.declared.Measure.{Measure}
use Rattle.score.specs.Deque.{no_score}
use Rattle.score.specs.Scores.{updated_from, score_of}
use Rattle.score.specs.Numbers.{numbers_of, neighbours_from, neighbours, are_equal, are_astray}

-- ---- the numbers

pub numbers_long_lem : (l : List ScenecutResult) → length (numbers_of l) ≡ length l
numbers_long_lem [] = refl
numbers_long_lem (e ∷ l) = ap suc (numbers_long_lem l)

pub no_numbers : (l : List ScenecutResult) → length l ≡ 0 → numbers_of l ≡ []
no_numbers [] h = refl
no_numbers (e ∷ l) h = absurd (omega arith)

pub number_at_lem : (l : List ScenecutResult) (i : ℕ) → get_or (numbers_of l) i 0 ≡ (get_or l i no_score).pair_number
number_at_lem [] i = refl
number_at_lem (e ∷ l) zero = refl
number_at_lem (e ∷ l) (suc i) = number_at_lem l i

pub numbers_taken : (k : ℕ) (l : List ScenecutResult) → numbers_of (take k l) ≡ take k (numbers_of l)
numbers_taken zero l = refl
numbers_taken (suc k) [] = refl
numbers_taken (suc k) (e ∷ l) = ap (λ (ns : List ℕ). e.pair_number ∷ ns) (numbers_taken k l)

-- an update keeps them, and a score puts its pair's in front
pub numbers_updated : (first : Bool) (k : ℕ) (new : Float) (l : List ScenecutResult) → numbers_of (updated_from first k new l) ≡ numbers_of l
numbers_updated first zero new l = refl
numbers_updated first (suc k) new [] = refl
numbers_updated first (suc k) new (e ∷ l) = ap (λ (ns : List ℕ). e.pair_number ∷ ns) (numbers_updated false k new l)

pub numbers_scored : (fast : Bool) (level : Float) (o pair : ℕ) (m : Measure) (l : List ScenecutResult) → numbers_of (score_of fast level o pair m l) ≡ pair ∷ numbers_of l
numbers_scored true level o pair m l = refl
numbers_scored false level o pair m l = ap (λ (ns : List ℕ). pair ∷ ns) (numbers_updated true o m.inter l)

-- ---- the neighbours

from_taken : (x : ℕ) (k : ℕ) (ns : List ℕ) → neighbours_from x (take k ns) ≡ take k (neighbours_from x ns)
from_taken x zero ns = refl
from_taken x (suc k) [] = refl
from_taken x (suc k) (y ∷ ns) = ap (λ (ps : List (ℕ × ℕ)). (x, y) ∷ ps) (from_taken y k ns)

pub neighbours_taken : (k : ℕ) (ns : List ℕ) → neighbours (take (suc k) ns) ≡ take k (neighbours ns)
neighbours_taken k [] = by k
  where
    by : (k : ℕ) → ◌≡◌ {A = List (ℕ × ℕ)} [] (take k [])
    by zero = refl
    by (suc k) = refl
neighbours_taken k (x ∷ ns) = from_taken x k ns

-- two numbers are astray where the first is below the other, or more than one above it; else they are not, and equal where they are
module _ (x y : ℕ) where
  pub two_behind : x < y → are_astray (x, y) ≡ true
  two_behind h = rw (ne_eqb x (suc y) (λ e. omega arith), ne_eqb x y (λ e. omega arith))

  pub two_far : suc y < x → are_astray (x, y) ≡ true
  two_far h = rw (ne_eqb x (suc y) (λ e. omega arith), ne_eqb x y (λ e. omega arith))

  pub two_fall : x ≡ suc y → (are_astray (x, y) ≡ false) × (are_equal (x, y) ≡ false)
  two_fall e = (rw (eq-eqb x (suc y) e), ne_eqb x y (λ z. omega arith))

  pub two_equal : x ≡ y → (are_astray (x, y) ≡ false) × (are_equal (x, y) ≡ true)
  two_equal e = (rw (ne_eqb x (suc y) (λ z. omega arith), eq-eqb x y e), eq-eqb x y e)
