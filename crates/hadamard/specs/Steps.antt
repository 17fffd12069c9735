-- What the private functions leave on the way. Contracts of private functions alone cite this file; no public contract does.
use Rattle.std.specs.Prelude.{◌≡◌, List, [], ◌∷◌, ℕ, zero, suc, ◌+◌, ◌*◌, ◌≤◌, ◌<◌, ℤ, pos, ◌+ℤ◌, ◌-ℤ◌, nat_abs, length, get_or, set}
use Rattle.hadamard.specs.Transform.{output, entry_most}

-- the largest numbers on the way: of a line of four before its transform, which may be the third that its entries go through, after one
-- stage, and after both
abbrev pub line_most : ℕ
line_most = 16 * entry_most

abbrev pub stage_most : ℕ
stage_most = 2 * line_most

abbrev pub out_most : ℕ
out_most = 4 * line_most

-- every entry of l is at most m in size
pub record AllWithin (m : ℕ) (l : List ℤ) : Type 0 where
  pub most : (i : ℕ) → nat_abs (get_or l i (pos 0)) ≤ m

-- four numbers by their places, there and back
abbrev pub four_of : (ℕ → ℤ) → List ℤ
four_of g = g 0 ∷ g 1 ∷ g 2 ∷ g 3 ∷ []

abbrev pub nth : List ℤ → ℕ → ℤ
nth l j = get_or l j (pos 0)

-- a sum and a difference
abbrev pub two_of : ℤ → ℤ → ℤ × ℤ
two_of a b = (a +ℤ b, a -ℤ b)

-- a stage of four numbers: the sums of their two pairs of neighbours, and then the differences. Two stages are the transform.
abbrev pub stage_of : (ℕ → ℤ) → ℕ → ℤ
stage_of f = nth ((f 0 +ℤ f 1) ∷ (f 2 +ℤ f 3) ∷ (f 0 -ℤ f 1) ∷ (f 2 -ℤ f 3) ∷ [])

-- entry j of a line of l: from place at on, a step apart
abbrev pub line_entry : List ℤ → ℕ → ℕ → ℕ → ℤ
line_entry l at step j = get_or l (at + j * step) (pos 0)

-- l with g 0, .., g (n - 1) on that line
unfoldable pub stores : ℕ → ℕ → ℕ → (ℕ → ℤ) → List ℤ → List ℤ
stores zero at step g l = l
stores (suc n) at step g l = set (stores n at step g l) (at + n * step) (g n)

-- l with the n entries of that line replaced by t of them
abbrev pub lined_by : ((ℕ → ℤ) → ℕ → ℤ) → ℕ → ℕ → ℕ → List ℤ → List ℤ
lined_by t n at step l = stores n at step (t (line_entry l at step)) l

-- by their transform
abbrev pub lined : ℕ → ℕ → ℕ → List ℤ → List ℤ
lined n = lined_by (output n) n

-- l after this was done to the first m of its lines, line a from place a * first on
unfoldable pub all_lined_by : ((ℕ → ℤ) → ℕ → ℤ) → ℕ → ℕ → ℕ → ℕ → List ℤ → List ℤ
all_lined_by t n first step zero l = l
all_lined_by t n first step (suc m) l = lined_by t n (m * first) step (all_lined_by t n first step m l)

-- after its lines' transforms
abbrev pub all_lined : ℕ → ℕ → ℕ → ℕ → List ℤ → List ℤ
all_lined n = all_lined_by (output n) n

-- a line of n entries lies in l, and they are at most m in size
pub record LineIn (n at step m : ℕ) (l : List ℤ) : Type 0 where
  pub room : (j : ℕ) → j < n → at + j * step < length l
  pub most : (j : ℕ) → j < n → nat_abs (line_entry l at step j) ≤ m

-- m lines of n entries lie in l, no two share a place, and their entries are at most q in size
pub record LinesIn (n m first step q : ℕ) (l : List ℤ) : Type 0 where
  pub some : 0 < step
  pub own : (a b i j : ℕ) → a < m → b < m → i < n → j < n → a * first + i * step ≡ b * first + j * step → a ≡ b
  pub room : (a i : ℕ) → a < m → i < n → a * first + i * step < length l
  pub most : (a i : ℕ) → a < m → i < n → nat_abs (line_entry l (a * first) step i) ≤ q
