-- A line of four entries: what is loaded, transformed and stored, and how large it is. Assumes nothing.
use mathlib.Core.Path.{◌≡◌, refl}
use mathlib.Core.List.{List}
use Prim.Native.Nat.{ℕ, zero, suc, ◌*◌, ◌≤◌, ◌<◌}
use native.Mathlib.Omega.{arith}
use lib.IntN.{ℤ, nat_abs}
use Rattle.hadamard.specs.Transform.{sum_z, output}
use Rattle.hadamard.specs.Steps.{four_of, nth, AllWithin, line_entry, stores, lined_by, LineIn}
use Rattle.hadamard.proofs.Halves.{output_most}
use Rattle.hadamard.proofs.Places.{stores_ext}

-- ---- four numbers by their places
pub nth_four : (g : ℕ → ℤ) (k : ℕ) → k < 4 → nth (four_of g) k ≡ g k
nth_four g zero h = refl
nth_four g (suc zero) h = refl
nth_four g (suc (suc zero)) h = refl
nth_four g (suc (suc (suc zero))) h = refl
nth_four g (suc (suc (suc (suc k)))) h = absurd (omega arith)

-- ---- how large the numbers are
pub four_within : (m : ℕ) (g : ℕ → ℤ) → ((j : ℕ) → j < 4 → nat_abs (g j) ≤ m) → AllWithin m (four_of g)
four_within m g h = record { most = each }
  where
    each : (k : ℕ) → nat_abs (nth (four_of g) k) ≤ m
    each zero = h 0 (omega arith)
    each (suc zero) = h 1 (omega arith)
    each (suc (suc zero)) = h 2 (omega arith)
    each (suc (suc (suc zero))) = h 3 (omega arith)
    each (suc (suc (suc (suc k)))) = omega arith

-- ---- what is loaded, transformed and stored
module _ (l : List ℤ) (at step : ℕ) where
  pub loaded_outputs : four_of (output 4 (nth (four_of (line_entry l at step)))) ≡ four_of (output 4 (line_entry l at step))
  unfolding output sum_z
  loaded_outputs = refl

  pub outputs_within : (m : ℕ) → LineIn 4 at step m l → AllWithin (4 * m) (four_of (output 4 (line_entry l at step)))
  outputs_within m p = four_within (4 * m) (output 4 (line_entry l at step)) (λ k _. output_most m 4 (line_entry l at step) k p.most)

  -- whatever is done to the line, stored it stands in the line's places
  pub line_of_4 : (t : (ℕ → ℤ) → ℕ → ℤ) → stores 4 at step (nth (four_of (t (line_entry l at step)))) l ≡ lined_by t 4 at step l
  line_of_4 t = stores_ext at step (nth (four_of (t (line_entry l at step)))) 4 (t (line_entry l at step)) l (nth_four (t (line_entry l at step)))
