-- A list of samples that are whole numbers already is the list of their values.
use Rattle.std.specs.Prelude.{◌≡◌, ℕ, List, [], ◌∷◌, map, refl}
use Rattle.std.proofs.Common.{ap}

pub same_values : (s : List ℕ) → s ≡ map (λ (x : ℕ). x) s
same_values [] = refl
same_values (x ∷ s) = ap (λ (t : List ℕ). x ∷ t) (same_values s)
