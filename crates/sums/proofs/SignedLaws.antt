-- Sizes and signs of whole numbers, and the distance of two samples by a signed difference of any width. Assumes nothing.
use Rattle.std.proofs.Common.{◌≡◌, ℕ, zero, suc, ◌-◌, ◌^◌, ◌<◌, ◌≤◌, Bool, true, false, cond, T, ltb, ℤ, pos, negsuc, ◌-ℤ◌, neg_ℤ, nat_abs, refl, ap, ◌∙◌, true≢false, arith, to_z-of_z, Fits, SFits, to_z, of_z, ltb-false, ltb-true}
use lib.IntN.{+ℤ_idl}
use lib.Signed.{mag, lt_z, non_neg}
use mir.Syntax.{Width}
use mir.Val.{hbits}
use mir.ValLaws.{pow-bits}
use mir.Facts.{to_z_pos}
use Rattle.sums.specs.Sums.{apart}

-- a difference's size is the distance
abs_cond : (t : Bool) (x y : ℕ) → ltb x (suc y) ≡ t → nat_abs (cond t (negsuc (suc y - suc x)) (pos (x - suc y))) ≡ apart x (suc y)
abs_cond true x y e = omega (arith, ltb-true x (suc y) e)
abs_cond false x y e = omega (arith, ltb-false x (suc y) e)

pub abs_difference : (x y : ℕ) → nat_abs (pos x -ℤ pos y) ≡ apart x y
abs_difference x zero = omega arith
abs_difference x (suc y) = abs_cond (ltb x (suc y)) x y refl

-- a negation is as large
pub abs_flip : (z : ℤ) → nat_abs (neg_ℤ z) ≡ nat_abs z
abs_flip (pos zero) = refl
abs_flip (pos (suc n)) = refl
abs_flip (negsuc n) = refl

pub abs_neg : (z : ℤ) → nat_abs (pos 0 -ℤ z) ≡ nat_abs z
abs_neg z = ap nat_abs (+ℤ_idl (neg_ℤ z)) ∙ abs_flip z

pub mag_abs : (z : ℤ) → mag z ≤ nat_abs z
mag_abs (pos n) = omega arith
mag_abs (negsuc n) = omega arith

-- the test for a sign
pub not_below : (z : ℤ) → lt_z z (pos 0) ≡ false → T (non_neg z)
not_below (pos n) e = tt
not_below (negsuc n) e = absurd (true≢false e)

pub below : (z : ℤ) → lt_z z (pos 0) ≡ true → T (non_neg (pos 0 -ℤ z))
below (pos n) e = absurd (omega (arith, ltb-true n 0 e))
below (negsuc n) e = tt

-- samples that a signed number of width w holds: in 16 bits bytes, in 32 bits samples of 16 bits too
module _ (w : Width) (x y : ℕ) (h : x < 2 ^ hbits w) (k : y < 2 ^ hbits w) where
  fits : (z : ℤ) → nat_abs z ≡ apart x y → SFits w z
  fits z e = record { sfits = omega (arith, mag_abs z) }

  difference_is : to_z w x -ℤ to_z w y ≡ pos x -ℤ pos y
  difference_is = rw (to_z_pos w h, to_z_pos w k)

  -- the difference fits, and is read back as it was
  pub difference_fits : SFits w (to_z w x -ℤ to_z w y)
  difference_fits = rw difference_is (fits (pos x -ℤ pos y) (abs_difference x y))

  pub read_back : to_z w (of_z w (to_z w x -ℤ to_z w y)) ≡ pos x -ℤ pos y
  read_back = to_z-of_z difference_fits ∙ difference_is

  -- below 0 its negation fits and is the distance
  pub negated_fits : SFits w (pos 0 -ℤ (pos x -ℤ pos y))
  negated_fits = fits (pos 0 -ℤ (pos x -ℤ pos y)) (abs_neg (pos x -ℤ pos y) ∙ abs_difference x y)

  pub negated_cast : lt_z (pos x -ℤ pos y) (pos 0) ≡ true → let z = to_z w (of_z w (pos 0 -ℤ (pos x -ℤ pos y))) in T (non_neg z) × Fits w (nat_abs z)
  negated_cast e =
      rw (to_z-of_z negated_fits)
      (below (pos x -ℤ pos y) e, record { fits = omega (arith, pow-bits w, abs_neg (pos x -ℤ pos y), abs_difference x y) })

  pub negated_is : nat_abs (to_z w (of_z w (pos 0 -ℤ (pos x -ℤ pos y)))) ≡ apart x y
  negated_is = ap nat_abs (to_z-of_z negated_fits) ∙ abs_neg (pos x -ℤ pos y) ∙ abs_difference x y

  -- from 0 on it is the distance itself
  pub same_cast : lt_z (pos x -ℤ pos y) (pos 0) ≡ false → T (non_neg (pos x -ℤ pos y)) × Fits w (nat_abs (pos x -ℤ pos y))
  same_cast e = (not_below (pos x -ℤ pos y) e, record { fits = omega (arith, pow-bits w, abs_difference x y) })

  pub same_is : nat_abs (pos x -ℤ pos y) ≡ apart x y
  same_is = abs_difference x y

-- a number that a signed number of width w holds: its negation fits, and is read back as it was
module _ (w : Width) (n : ℕ) (h : n < 2 ^ hbits w) where
  negation_is : pos 0 -ℤ to_z w n ≡ neg_ℤ (pos n)
  negation_is = ap (λ (z : ℤ). pos 0 -ℤ z) (to_z_pos w h) ∙ +ℤ_idl (neg_ℤ (pos n))

  pub negation_fits : SFits w (pos 0 -ℤ to_z w n)
  negation_fits = rw negation_is (record { sfits = omega (arith, mag_abs (neg_ℤ (pos n)), abs_flip (pos n)) })

  pub negation_back : to_z w (of_z w (pos 0 -ℤ to_z w n)) ≡ neg_ℤ (pos n)
  negation_back = to_z-of_z negation_fits ∙ negation_is
