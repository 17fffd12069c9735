-- Signed numbers: the size of a sum and of a difference, and what a signed local of 32 bits holds. Assumes nothing.
use mathlib.Core.Path.{◌≡◌, ◌∙◌}
use mathlib.Core.Bool.{Bool, true, false, cond}
use Prim.Native.Nat.{ℕ, suc, ◌+◌, ◌-◌, ◌≤◌, ◌<◌, ◌^◌}
use native.Mathlib.Omega.{arith}
use lib.Dec.{ltb}
use lib.IntN.{ℤ, pos, negsuc, ◌+ℤ◌, ◌-ℤ◌, neg_ℤ, nat_abs}
use mir.Syntax.{w32}
use mir.Val.{SFits, to_z, of_z}
use mir.Facts.{to_z-of_z}
use Rattle.hadamard.specs.Steps.{two_of}
use Rattle.sums.proofs.SignedLaws.{abs_flip, mag_abs}

abs_cond : (t : Bool) (a b : ℕ) → nat_abs (cond t (negsuc (suc b - suc a)) (pos (a - suc b))) ≤ a + suc b
abs_cond true a b = omega arith
abs_cond false a b = omega arith

pub abs_add : (a b : ℤ) → nat_abs (a +ℤ b) ≤ nat_abs a + nat_abs b
abs_add (pos a) (pos b) = omega arith
abs_add (pos a) (negsuc b) = abs_cond (ltb a (suc b)) a b
abs_add (negsuc a) (pos b) = let h = abs_cond (ltb b (suc a)) b a in omega arith
abs_add (negsuc a) (negsuc b) = omega arith

pub abs_sub : (a b : ℤ) → nat_abs (a -ℤ b) ≤ nat_abs a + nat_abs b
abs_sub a b = omega (arith, abs_add a (neg_ℤ b), abs_flip b)

pub fits_abs : (z : ℤ) → nat_abs z < 2 ^ 31 → SFits w32 z
fits_abs z h = record { sfits = omega (arith, mag_abs z) }

-- what is read back of a number that is small
pub read_back : (z : ℤ) → nat_abs z < 2 ^ 31 → to_z w32 (of_z w32 z) ≡ z
read_back z h = to_z-of_z (fits_abs z h)

-- what two signed locals hold, each below half of what a local takes: their sum and their difference fit and are read back
module _ (a b : ℤ) (h : nat_abs a < 2 ^ 30) (k : nat_abs b < 2 ^ 30) where
  held_add : to_z w32 (of_z w32 a) +ℤ to_z w32 (of_z w32 b) ≡ a +ℤ b
  held_add = rw (read_back a (omega arith), read_back b (omega arith))

  held_sub : to_z w32 (of_z w32 a) -ℤ to_z w32 (of_z w32 b) ≡ a -ℤ b
  held_sub = rw (read_back a (omega arith), read_back b (omega arith))

  pub add_asked : SFits w32 (to_z w32 (of_z w32 a) +ℤ to_z w32 (of_z w32 b))
  add_asked = rw held_add (fits_abs (a +ℤ b) (omega (arith, abs_add a b)))

  pub sub_asked : SFits w32 (to_z w32 (of_z w32 a) -ℤ to_z w32 (of_z w32 b))
  sub_asked = rw held_sub (fits_abs (a -ℤ b) (omega (arith, abs_sub a b)))

  -- a butterfly's numbers, as they are read back
  pub two_read : (r : ℤ × ℤ) → r ≡ two_of (to_z w32 (of_z w32 a)) (to_z w32 (of_z w32 b)) → (to_z w32 (of_z w32 r.0) ≡ a +ℤ b) × (to_z w32 (of_z w32 r.1) ≡ a -ℤ b)
  two_read r e = rw e (to_z-of_z add_asked ∙ held_add, to_z-of_z sub_asked ∙ held_sub)
