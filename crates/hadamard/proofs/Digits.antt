-- A transform of m * 2 ^ p inputs is one in two dimensions, m rows of 2 ^ p: the digits of an output's number are those of its row and of
-- its column, and so are those of an input's. Assumes nothing.
use mathlib.Core.Path.{◌≡◌, refl, sym, ap, ◌∙◌}
use Prim.Native.Nat.{ℕ, zero, suc, ◌+◌, ◌*◌, ◌<◌, ◌^◌}
use native.Mathlib.Nat.{add-zero, add-suc, suc-mul}
use native.Mathlib.Omega.{arith}
use lib.Bits.{bit_and}
use lib.Count.{ones}
use lib.IntN.{ℤ, pos, negsuc, ◌+ℤ◌, ◌*ℤ◌, neg_ℤ, +ℤ_assoc, +ℤ_comm, +ℤ_idl, one, pow}
use Rattle.hadamard.specs.Transform.{sum_z, sign, output}
use Rattle.hadamard.proofs.Halves.{sum_ext, sum_cut, sum_neg, one_times, neg_times, minus_power, common}

-- ---- sums
swap : (a b c d : ℤ) → (a +ℤ b) +ℤ (c +ℤ d) ≡ (a +ℤ c) +ℤ (b +ℤ d)
swap a b c d =
    +ℤ_assoc a b (c +ℤ d)
    ∙ ap (λ (z : ℤ). a +ℤ z) (sym (+ℤ_assoc b c d) ∙ ap (λ (z : ℤ). z +ℤ d) (+ℤ_comm b c) ∙ +ℤ_assoc c b d)
    ∙ sym (+ℤ_assoc a c (b +ℤ d))

sum_both : (n : ℕ) (f g : ℕ → ℤ) → sum_z n f +ℤ sum_z n g ≡ sum_z n (λ (j : ℕ). f j +ℤ g j)
unfolding sum_z
sum_both zero f g = +ℤ_idl (pos 0)
sum_both (suc n) f g = swap (sum_z n f) (f n) (sum_z n g) (g n) ∙ ap (λ (z : ℤ). z +ℤ (f n +ℤ g n)) (sum_both n f g)

sum_none : (n : ℕ) → pos 0 ≡ sum_z n (λ (j : ℕ). pos 0)
unfolding sum_z
sum_none zero = refl
sum_none (suc n) = ap (λ (z : ℤ). z +ℤ pos 0) (sum_none n)

-- row by row, or column by column
sum_grid : (m n : ℕ) (f : ℕ → ℤ) → sum_z (m * n) f ≡ sum_z n (λ (j : ℕ). sum_z m (λ (i : ℕ). f (i * n + j)))
unfolding sum_z
sum_grid zero n f = let none : 0 * n ≡ 0 = omega arith in ap (λ (k : ℕ). sum_z k f) none ∙ sum_none n
sum_grid (suc m) n f =
    ap (λ (k : ℕ). sum_z k f) (suc-mul m n)
    ∙ sum_cut (m * n) n f
    ∙ ap (λ (z : ℤ). z +ℤ sum_z n (λ (j : ℕ). f (m * n + j))) (sum_grid m n f)
    ∙ sum_both n (λ (j : ℕ). sum_z m (λ (i : ℕ). f (i * n + j))) (λ (j : ℕ). f (m * n + j))

-- ---- signs
sum_signed : (e n : ℕ) (f : ℕ → ℤ) → sum_z n (λ (j : ℕ). pow (negsuc 0) e *ℤ f j) ≡ pow (negsuc 0) e *ℤ sum_z n f
unfolding pow one
sum_signed zero n f = sum_ext n (λ (j : ℕ). pos 1 *ℤ f j) f (λ j _. one_times (f j)) ∙ sym (one_times (sum_z n f))
sum_signed (suc e) n f =
    sum_ext n (λ (j : ℕ). pow (negsuc 0) (suc e) *ℤ f j) (λ (j : ℕ). neg_ℤ (pow (negsuc 0) e *ℤ f j)) (λ j _. less (f j))
    ∙ sum_neg n (λ (j : ℕ). pow (negsuc 0) e *ℤ f j)
    ∙ ap neg_ℤ (sum_signed e n f)
    ∙ sym (less (sum_z n f))
  where
    less : (z : ℤ) → pow (negsuc 0) (suc e) *ℤ z ≡ neg_ℤ (pow (negsuc 0) e *ℤ z)
    less z = ap (λ (y : ℤ). y *ℤ z) (minus_power e) ∙ neg_times (pow (negsuc 0) e) z

signed_twice : (a b : ℕ) (z : ℤ) → pow (negsuc 0) (a + b) *ℤ z ≡ pow (negsuc 0) b *ℤ (pow (negsuc 0) a *ℤ z)
unfolding pow one
signed_twice a zero z = rw (add-zero a) (sym (one_times (pow (negsuc 0) a *ℤ z)))
signed_twice a (suc b) z =
    rw (add-suc a b)
    (ap (λ (y : ℤ). y *ℤ z) (minus_power (a + b)) ∙ neg_times (pow (negsuc 0) (a + b)) z
    ∙ ap neg_ℤ (signed_twice a b z)
    ∙ sym (ap (λ (y : ℤ). y *ℤ (pow (negsuc 0) a *ℤ z)) (minus_power b) ∙ neg_times (pow (negsuc 0) b) (pow (negsuc 0) a *ℤ z)))

module _ (p r c : ℕ) (c< : c < 2 ^ p) where
  sign_digits : (i j : ℕ) (z : ℤ) → j < 2 ^ p → sign (r * 2 ^ p + c) (i * 2 ^ p + j) *ℤ z ≡ sign c j *ℤ (sign r i *ℤ z)
  unfolding sign
  sign_digits i j z j< =
      ap (λ (n : ℕ). pow (negsuc 0) n *ℤ z) (common p r i c j (r * 2 ^ p + c) (i * 2 ^ p + j) c< j< refl refl)
      ∙ signed_twice (ones (bit_and r i)) (ones (bit_and c j)) z

  factor : (j m : ℕ) (g : ℕ → ℤ) → sum_z m (λ (i : ℕ). sign c j *ℤ g i) ≡ sign c j *ℤ sum_z m g
  unfolding sign
  factor j m g = sum_signed (ones (bit_and c j)) m g

  -- ---- the outputs
  pub output_digits : (m : ℕ) (f : ℕ → ℤ) → output (m * 2 ^ p) f (r * 2 ^ p + c) ≡ output (2 ^ p) (λ (j : ℕ). output m (λ (i : ℕ). f (i * 2 ^ p + j)) r) c
  unfolding output
  output_digits m f =
      let n : ℕ = 2 ^ p in
      sum_grid m n (λ (t : ℕ). sign (r * n + c) t *ℤ f t)
      ∙ sum_ext n (λ (j : ℕ). sum_z m (λ (i : ℕ). sign (r * n + c) (i * n + j) *ℤ f (i * n + j))) (λ (j : ℕ). sign c j *ℤ sum_z m (λ (i : ℕ). sign r i *ℤ f (i * n + j)))
      (λ j j<.
      sum_ext m (λ (i : ℕ). sign (r * n + c) (i * n + j) *ℤ f (i * n + j)) (λ (i : ℕ). sign c j *ℤ (sign r i *ℤ f (i * n + j))) (λ i _. sign_digits i j (f (i * n + j)) j<)
      ∙ factor j m (λ (i : ℕ). sign r i *ℤ f (i * n + j)))
