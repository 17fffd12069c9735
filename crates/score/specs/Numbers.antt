-- Document 02, L5: "In the deque numbers fall by one from front to back, save that the entry from a first call's repeat equals the one
-- behind it." What 11 asks of the pair numbers of entries that stand side by side.
use Rattle.std.specs.Prelude.{List, [], ◌∷◌, map, Bool, not, ◌||◌, ℕ, suc, eqb, ltb}
use Rattle.score.specs.declared.ScenecutResult.{ScenecutResult}
use Rattle.score.specs.Search.{any_of, count_of}

-- the pair numbers of some scores, front first
abbrev pub numbers_of : List ScenecutResult → List ℕ
numbers_of l = map (λ (e : ScenecutResult). e.pair_number) l

-- each number with the one behind it, front first: x is the number in front of the list
abbrev pub neighbours_from : ℕ → List ℕ → List (ℕ × ℕ)
neighbours_from x [] = []
neighbours_from x (y ∷ ys) = (x, y) ∷ neighbours_from y ys

abbrev pub neighbours : List ℕ → List (ℕ × ℕ)
neighbours [] = []
neighbours (x ∷ xs) = neighbours_from x xs

-- "two neighbours' numbers .. fall by one"
abbrev pub fall_by_one : ℕ × ℕ → Bool
fall_by_one p = eqb p.0 (suc p.1)

-- ".. or are equal"
abbrev pub are_equal : ℕ × ℕ → Bool
are_equal p = eqb p.0 p.1

-- ".. neither fall by one nor are equal"
abbrev pub are_astray : ℕ × ℕ → Bool
are_astray p = not (fall_by_one p || are_equal p)

-- 11: "for two neighbours' numbers that neither fall by one nor are equal"
abbrev pub numbers_astray : List ScenecutResult → Bool
numbers_astray l = any_of are_astray (neighbours (numbers_of l))

-- ".. for more than one equal pair of neighbours"
abbrev pub repeated_twice : List ScenecutResult → Bool
repeated_twice l = ltb 1 (count_of are_equal (neighbours (numbers_of l)))

abbrev pub misnumbered : List ScenecutResult → Bool
misnumbered l = numbers_astray l || repeated_twice l
