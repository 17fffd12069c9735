-- A transform of twice as many inputs is the sum and the difference of the transforms of its halves, since one more binary
-- digit adds one common one exactly where both numbers have it. Assumes nothing.
use mathlib.Core.Path.{◌≡◌, refl, sym, ap, ◌∙◌}
use mathlib.Core.List.{[], ◌∷◌}
use Prim.Native.Nat.{ℕ, zero, suc, ◌+◌, ◌*◌, ◌≤◌, ◌<◌, ◌^◌}
use native.Mathlib.Nat.{add-zero, add-suc}
use native.Mathlib.Omega.{arith}
use lib.Bits.{bit_and, and_block, and_lt}
use lib.Count.{ones, ones_in, ones_cat}
use lib.IntN.{ℤ, pos, negsuc, ◌+ℤ◌, ◌-ℤ◌, ◌*ℤ◌, neg_ℤ, neg_ℤ-neg_ℤ, neg_ℤ-+ℤ, +ℤ_assoc, +ℤ_idl, +ℤ_idr, *ℤ_comm, *ℤ-one, *ℤ-negsuc, zero-*ℤ, pos-*ℤ-pos, pos-*ℤ-negsuc, negsuc-*ℤ-pos, negsuc-*ℤ-negsuc, one, pow, pow-succ', nat_abs}
use Rattle.sums.proofs.SignedLaws.{abs_flip}
use Rattle.hadamard.specs.Transform.{sum_z, sign, output}
use Rattle.hadamard.specs.Steps.{four_of}
use Rattle.hadamard.proofs.SignedLaws.{abs_add}

-- ---- sums
pub sum_ext : (n : ℕ) (f g : ℕ → ℤ) → ((j : ℕ) → j < n → f j ≡ g j) → sum_z n f ≡ sum_z n g
unfolding sum_z
sum_ext zero f g e = refl
sum_ext (suc n) f g e = rw (sum_ext n f g (λ j h. e j (omega arith)), e n (omega arith))

pub sum_cut : (m n : ℕ) (f : ℕ → ℤ) → sum_z (m + n) f ≡ sum_z m f +ℤ sum_z n (λ (i : ℕ). f (m + i))
unfolding sum_z
sum_cut m zero f = rw add-zero (sym (+ℤ_idr (sum_z m f)))
sum_cut m (suc n) f = rw add-suc (ap (λ (z : ℤ). z +ℤ f (m + n)) (sum_cut m n f) ∙ +ℤ_assoc (sum_z m f) (sum_z n (λ (i : ℕ). f (m + i))) (f (m + n)))

pub sum_neg : (n : ℕ) (f : ℕ → ℤ) → sum_z n (λ (j : ℕ). neg_ℤ (f j)) ≡ neg_ℤ (sum_z n f)
unfolding sum_z
sum_neg zero f = refl
sum_neg (suc n) f = ap (λ (z : ℤ). z +ℤ neg_ℤ (f n)) (sum_neg n f) ∙ sym (neg_ℤ-+ℤ (sum_z n f) (f n))

pub output_ext : (n : ℕ) (f g : ℕ → ℤ) (k : ℕ) → ((j : ℕ) → j < n → f j ≡ g j) → output n f k ≡ output n g k
unfolding output
output_ext n f g k e = sum_ext n (λ (j : ℕ). sign k j *ℤ f j) (λ (j : ℕ). sign k j *ℤ g j) (λ j h. ap (λ (z : ℤ). sign k j *ℤ z) (e j h))

-- ---- signs
pub one_times : (z : ℤ) → pos 1 *ℤ z ≡ z
unfolding one
one_times z = *ℤ_comm (pos 1) z ∙ *ℤ-one z

minus_times : (z : ℤ) → negsuc 0 *ℤ z ≡ neg_ℤ z
unfolding one
minus_times z = *ℤ_comm (negsuc 0) z ∙ *ℤ-negsuc z 0 ∙ ap neg_ℤ (*ℤ-one z)

pub neg_times : (a b : ℤ) → neg_ℤ a *ℤ b ≡ neg_ℤ (a *ℤ b)
neg_times (pos zero) b = rw zero-*ℤ
neg_times (pos (suc m)) (pos n) = negsuc-*ℤ-pos m n ∙ ap neg_ℤ (sym (pos-*ℤ-pos (suc m) n))
neg_times (pos (suc m)) (negsuc n) = negsuc-*ℤ-negsuc m n ∙ sym (ap neg_ℤ (pos-*ℤ-negsuc (suc m) n) ∙ neg_ℤ-neg_ℤ (pos (suc m * suc n)))
neg_times (negsuc m) (pos n) = pos-*ℤ-pos (suc m) n ∙ sym (ap neg_ℤ (negsuc-*ℤ-pos m n) ∙ neg_ℤ-neg_ℤ (pos (suc m * n)))
neg_times (negsuc m) (negsuc n) = pos-*ℤ-negsuc (suc m) n ∙ ap neg_ℤ (sym (negsuc-*ℤ-negsuc m n))

-- the common ones of two numbers, of which a and b are the digits above the lowest p
pub common : (p a b k j x y : ℕ) → k < 2 ^ p → j < 2 ^ p → x ≡ a * 2 ^ p + k → y ≡ b * 2 ^ p + j → ones (bit_and x y) ≡ ones (bit_and a b) + ones (bit_and k j)
common p a b k j x y k< j< d e =
    ap (λ (x : ℕ). ones (bit_and x y)) d ∙ ap (λ (y : ℕ). ones (bit_and (a * 2 ^ p + k) y)) e
    ∙ ap ones (and_block p a b k j k< j<) ∙ ones_cat p (bit_and a b) (bit_and k j) (and_lt p k j k< j<)

alone : (ones (bit_and 0 1) ≡ 0) × (ones (bit_and 1 0) ≡ 0) × (ones (bit_and 1 1) ≡ 1)
unfolding ones ones_in
alone = (refl, refl, refl)

pub minus_power : (n : ℕ) → pow (negsuc 0) (suc n) ≡ neg_ℤ (pow (negsuc 0) n)
minus_power n = pow-succ' (negsuc 0) n ∙ minus_times (pow (negsuc 0) n)

module _ (p k j : ℕ) (k< : k < 2 ^ p) (j< : j < 2 ^ p) where
  sign_right : sign k (2 ^ p + j) ≡ sign k j
  unfolding sign
  sign_right = ap (pow (negsuc 0)) (omega (arith, common p 0 1 k j k (2 ^ p + j) k< j< (omega arith) (omega arith), alone))

  sign_left : sign (2 ^ p + k) j ≡ sign k j
  unfolding sign
  sign_left = ap (pow (negsuc 0)) (omega (arith, common p 1 0 k j (2 ^ p + k) j k< j< (omega arith) (omega arith), alone))

  sign_both : sign (2 ^ p + k) (2 ^ p + j) ≡ neg_ℤ (sign k j)
  unfolding sign
  sign_both =
      let e : ones (bit_and (2 ^ p + k) (2 ^ p + j)) ≡ suc (ones (bit_and k j)) = omega (arith, common p 1 1 k j (2 ^ p + k) (2 ^ p + j) k< j< (omega arith) (omega arith), alone) in
      ap (pow (negsuc 0)) e ∙ minus_power (ones (bit_and k j))

-- ---- the halves
module _ (p : ℕ) (f : ℕ → ℤ) (k : ℕ) (k< : k < 2 ^ p) where
  pub output_low : output (2 ^ p + 2 ^ p) f k ≡ output (2 ^ p) f k +ℤ output (2 ^ p) (λ (j : ℕ). f (2 ^ p + j)) k
  unfolding output
  output_low =
      sum_cut (2 ^ p) (2 ^ p) (λ (j : ℕ). sign k j *ℤ f j)
      ∙ ap (λ (z : ℤ). sum_z (2 ^ p) (λ (j : ℕ). sign k j *ℤ f j) +ℤ z)
      (sum_ext (2 ^ p) (λ (j : ℕ). sign k (2 ^ p + j) *ℤ f (2 ^ p + j)) (λ (j : ℕ). sign k j *ℤ f (2 ^ p + j))
      (λ j j<. ap (λ (z : ℤ). z *ℤ f (2 ^ p + j)) (sign_right p k j k< j<)))

  pub output_high : output (2 ^ p + 2 ^ p) f (2 ^ p + k) ≡ output (2 ^ p) f k -ℤ output (2 ^ p) (λ (j : ℕ). f (2 ^ p + j)) k
  unfolding output
  output_high =
      sum_cut (2 ^ p) (2 ^ p) (λ (j : ℕ). sign (2 ^ p + k) j *ℤ f j)
      ∙ ap (λ (z : ℤ). z +ℤ sum_z (2 ^ p) (λ (j : ℕ). sign (2 ^ p + k) (2 ^ p + j) *ℤ f (2 ^ p + j)))
      (sum_ext (2 ^ p) (λ (j : ℕ). sign (2 ^ p + k) j *ℤ f j) (λ (j : ℕ). sign k j *ℤ f j)
      (λ j j<. ap (λ (z : ℤ). z *ℤ f j) (sign_left p k j k< j<)))
      ∙ ap (λ (z : ℤ). sum_z (2 ^ p) (λ (j : ℕ). sign k j *ℤ f j) +ℤ z)
      (sum_ext (2 ^ p) (λ (j : ℕ). sign (2 ^ p + k) (2 ^ p + j) *ℤ f (2 ^ p + j)) (λ (j : ℕ). neg_ℤ (sign k j *ℤ f (2 ^ p + j)))
      (λ j j<. ap (λ (z : ℤ). z *ℤ f (2 ^ p + j)) (sign_both p k j k< j<) ∙ neg_times (sign k j) (f (2 ^ p + j)))
      ∙ sum_neg (2 ^ p) (λ (j : ℕ). sign k j *ℤ f (2 ^ p + j)))

-- ---- one, two and four inputs
output_1 : (f : ℕ → ℤ) → output 1 f 0 ≡ f 0
unfolding output sum_z sign ones ones_in pow one
output_1 f = +ℤ_idl (pos 1 *ℤ f 0) ∙ one_times (f 0)

output_2 : (f : ℕ → ℤ) → (output 2 f 0 ≡ f 0 +ℤ f 1) × (output 2 f 1 ≡ f 0 -ℤ f 1)
output_2 f =
    let g : ℕ → ℤ = λ (j : ℕ). f (1 + j) in
    (output_low 0 f 0 (omega arith) ∙ cc (output_1 f, output_1 g), output_high 0 f 0 (omega arith) ∙ cc (output_1 f, output_1 g))

-- the network of four
pub output_4 : (f : ℕ → ℤ)
    → four_of (output 4 f)
    ≡ ((f 0 +ℤ f 1) +ℤ (f 2 +ℤ f 3)) ∷ ((f 0 -ℤ f 1) +ℤ (f 2 -ℤ f 3)) ∷ ((f 0 +ℤ f 1) -ℤ (f 2 +ℤ f 3)) ∷ ((f 0 -ℤ f 1) -ℤ (f 2 -ℤ f 3)) ∷ []
output_4 f =
    let g : ℕ → ℤ = λ (j : ℕ). f (2 + j) in
    cc (output_low 1 f 0 (omega arith), output_low 1 f 1 (omega arith), output_high 1 f 0 (omega arith), output_high 1 f 1 (omega arith), (output_2 f).0, (output_2 f).1, (output_2 g).0, (output_2 g).1)

-- ---- an output's size: n times that of the inputs at most
abs_power : (n : ℕ) (z : ℤ) → nat_abs (pow (negsuc 0) n *ℤ z) ≡ nat_abs z
unfolding pow one
abs_power zero z = ap nat_abs (one_times z)
abs_power (suc n) z = ap (λ (y : ℤ). nat_abs (y *ℤ z)) (minus_power n) ∙ ap nat_abs (neg_times (pow (negsuc 0) n) z) ∙ abs_flip (pow (negsuc 0) n *ℤ z) ∙ abs_power n z

sum_most : (m n : ℕ) (f : ℕ → ℤ) → ((j : ℕ) → j < n → nat_abs (f j) ≤ m) → nat_abs (sum_z n f) ≤ n * m
unfolding sum_z
sum_most m zero f h = omega arith
sum_most m (suc n) f h = omega (arith, abs_add (sum_z n f) (f n), sum_most m n f (λ j l. h j (omega arith)), h n (omega arith))

pub output_most : (m n : ℕ) (f : ℕ → ℤ) (k : ℕ) → ((j : ℕ) → j < n → nat_abs (f j) ≤ m) → nat_abs (output n f k) ≤ n * m
unfolding output sign
output_most m n f k h = sum_most m n (λ (j : ℕ). sign k j *ℤ f j) (λ j l. omega (arith, abs_power (ones (bit_and k j)) (f j), h j l))
