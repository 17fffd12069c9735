-- The first elements of the first elements of a list.
-- Assumes nothing.
use mathlib.Core.Path.{◌≡◌, refl}
use mathlib.Core.Bool.{Bool, true, false}
use mathlib.Core.List.{List}
use Prim.Native.Nat.{ℕ, ◌≤◌, ◌<◌, min}
use native.Mathlib.Omega.{arith}
use borrow.Author.Tests.{leb-true, leb-false}
use lib.Dec.{leb}
use lib.ListN.{length, take, length-take}
use lib.Seq.{take-take, take_all}
use Rattle.std.proofs.lemmas.List as all

module _ {A : Type 0} where
  pub take_min : (m n : ℕ) (l : List A) → take m (take n l) ≡ take (min m n) l
  take_min m n l = by (leb m n) refl
    where
      by : (b : Bool) → leb m n ≡ b → take m (take n l) ≡ take (min m n) l
      by true e =
          let h : m ≤ n = leb-true m n e in
          let k : min m n ≡ m = omega arith in rw k (take-take m n l h)
      by false e =
          let h : n < m = leb-false m n e in
          let k : min m n ≡ n = omega arith in rw k (take_all m (take n l) (omega (arith, length-take n l)))

  pub take_within : (n k : ℕ) (l : List A) → length l ≡ k → take (min n k) l ≡ take n l
  take_within n k l e = rw (← e) (all.take_min n l)
