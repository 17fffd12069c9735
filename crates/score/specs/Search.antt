-- Searching and counting in a list, for every test.
use Rattle.std.specs.Prelude.{List, [], ◌∷◌, Bool, false, ◌||◌, cond, ℕ, ◌+◌}

-- whether some element passes the test
unfoldable pub any_of : {A : Type 0} → (A → Bool) → List A → Bool
any_of test [] = false
any_of test (x ∷ xs) = test x || any_of test xs

-- how many elements pass the test
unfoldable pub count_of : {A : Type 0} → (A → Bool) → List A → ℕ
count_of test [] = 0
count_of test (x ∷ xs) = cond (test x) 1 0 + count_of test xs
