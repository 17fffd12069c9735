-- Sums of the squares of a plane, by their places, of any side and over the largest sample k. Assumes nothing.
use mathlib.Core.List.{List}
use mathlib.Core.Path.{◌≡◌, sym, ap, ◌∙◌}
use Prim.Native.Nat.{ℕ, ◌+◌, ◌-◌, ◌*◌, ◌≤◌, ◌<◌}
use native.Mathlib.Nat.{add-mul}
use native.Mathlib.Omega.{arith}
use lib.ListN.{length, get_or, take, drop}
use lib.Seq.{get_or-take, get_or-drop}
use Rattle.sums.specs.Sums.{sum_below}
use Rattle.sums.proofs.SumLaws.{sum_ext, sum_most, NextSum, next_sum}
use Rattle.plane.specs.declared.Plane.{Plane}
use Rattle.plane.specs.Blocks.{square_sample, square_sum}
use Rattle.plane.specs.Needs.{row_from, square_from}

-- where square (x, y) starts
abbrev pub square_start : ℕ → Plane → ℕ → ℕ → ℕ
square_start n p y x = p.origin + y * n * p.stride + x * n

-- a sample of a square, by its place
pub square_place : (n : ℕ) (p : Plane) (s : List ℕ) (y x j i : ℕ) → square_sample n p s y x j i ≡ get_or s (square_start n p y x + j * p.stride + i) 0
square_place n p s y x j i =
    let place : p.origin + (y * n + j) * p.stride + (x * n + i) ≡ square_start n p y x + j * p.stride + i =
    omega (arith, add-mul (y * n) j p.stride) in
    ap (λ (k : ℕ). get_or s k 0) place

-- a square's sum by its place is the plane's own
pub square_is : (n : ℕ) (p : Plane) (s : List ℕ) (y x : ℕ) → square_from n s (square_start n p y x) p.stride ≡ square_sum n p s y x
square_is n p s y x =
    sum_ext n (row_from n s (square_start n p y x) p.stride) (λ (j : ℕ). sum_below n (λ (i : ℕ). square_sample n p s y x j i))
    (λ j _.
    sum_ext n (λ (i : ℕ). get_or s (square_start n p y x + j * p.stride + i) 0) (λ (i : ℕ). square_sample n p s y x j i)
    (λ i _. sym (square_place n p s y x j i)))

-- a sample of a part that starts at a place, and the sum of its first n
pub part_at : (s : List ℕ) (start i : ℕ) → start + i < length s → get_or (take (length s - start) (drop start s)) i 0 ≡ get_or s (start + i) 0
part_at s start i h = get_or-take (length s - start) (drop start s) i 0 (omega arith) ∙ get_or-drop start s i 0

pub part_sum : (s : List ℕ) (start n : ℕ) → start + n ≤ length s → sum_below n (λ (i : ℕ). get_or (take (length s - start) (drop start s)) i 0) ≡ sum_below n (λ (i : ℕ). get_or s (start + i) 0)
part_sum s start n h =
    sum_ext n (λ (i : ℕ). get_or (take (length s - start) (drop start s)) i 0) (λ (i : ℕ). get_or s (start + i) 0)
    (λ i i<. part_at s start i (omega arith))

module _ (k n : ℕ) (s : List ℕ) (l : (i : ℕ) → get_or s i 0 ≤ k) where
  -- a row of n, and a square
  pub row_most : (start stride j : ℕ) → row_from n s start stride j ≤ n * k
  row_most start stride j = sum_most k n (λ (i : ℕ). get_or s (start + j * stride + i) 0) (λ i _. l (start + j * stride + i))

  pub square_most : (start stride : ℕ) → square_from n s start stride ≤ n * (n * k)
  square_most start stride = sum_most (n * k) n (row_from n s start stride) (λ j _. row_most start stride j)

  -- a turn of the sum of n samples, wherever they stand, in a room that holds them, and one of the sum of a square
  pub row_next : (room : ℕ) (place : ℕ → ℕ) → n * k < room → (i sum part : ℕ) → i < n → sum ≡ sum_below i (λ (m : ℕ). get_or s (place m) 0)
      → part ≡ get_or s (place i) 0 → NextSum room i sum part (λ (m : ℕ). get_or s (place m) 0)
  row_next room place = next_sum k n room (λ (m : ℕ). get_or s (place m) 0) (λ j _. l (place j))

  pub square_next : (room start stride : ℕ) → n * (n * k) < room → (j sum part : ℕ) → j < n
      → sum ≡ sum_below j (row_from n s start stride) → part ≡ row_from n s start stride j → NextSum room j sum part (row_from n s start stride)
  square_next room start stride = next_sum (n * k) n room (row_from n s start stride) (λ j _. row_most start stride j)
