-- A list from a rule for its places.
use Rattle.std.specs.Prelude.{ℕ, zero, suc, List, [], ◌∷◌, ◌++◌}

-- g 0, g 1, .., g (n - 1)
unfoldable pub table : {A : Type 0} → ℕ → (ℕ → A) → List A
table zero g = []
table (suc n) g = table n g ++ (g n ∷ [])
