-- What the tests of refusal 10 say of a float, and what they say of a NaN. A float of the program fits binary64.
-- Assumes nothing.
use mathlib.Core.Path.{◌≡◌, refl, sym, ap, ◌∙◌}
use mathlib.Core.Bool.{Bool, true, false, not, ◌&&◌, ◌||◌, and-true}
use Prim.Native.Nat.{ℕ, zero, suc, ◌+◌, ◌-◌, ◌*◌, ◌%◌, ◌^◌, ◌≤◌, zero-le, ◌<◌}
use native.Mathlib.Nat.{zero-mul, mul-one, mul_assoc, mul-le-mul, mul-le-mul_left, mul-le-mul_right, lt_of_mul-lt-mul_right, le_trans, lt_of_lt_of_le, mul-pos, le-add_left}
use native.Mathlib.Omega.{arith}
use borrow.Author.Tests.{lt-ltb, le-ltb, ltb-true, ltb-false, leb-true, leb-false, eq-eqb, ne_eqb}
use lib.Dec.{T, eqb, ltb, leb, ltb→lt, lit<, lit≤}
use lib.IntN.{ℤ, pos, negsuc}
use lib.Pow.{pow-add, pow_pos, pow_mono, le_ones}
use lib.Ieee.{Float, nan, inf, fin, binary64, of_bits, lt, le, eq, fits, up, down}
use lib.Ieee.Fits.{and_l, and_r, down_pos}
use Rattle.score.specs.Scores.{zero_f, max_f}
use Rattle.score.specs.declared.ScenecutResult.{ScenecutResult}
use Rattle.score.specs.Cut.{reached, over}
use Rattle.score.specs.Costs.{forbidden}

-- ---- "a NaN must fail both tests": at or above, and below. No list holds one, but a state from before L7 may

pub nan_fails_both : (t : Float) → (le t nan ≡ false) × (lt nan t ≡ false)
unfolding le lt eq
nan_fails_both nan = (refl, refl)
nan_fails_both (inf s) = (refl, refl)
nan_fails_both (fin s m e) = (refl, refl)

-- a threshold that is a NaN is reached by nothing
pub nan_not_reached : (x : Float) → le nan x ≡ false
unfolding le lt eq
nan_not_reached x = refl

-- so an entry with a NaN for its importance is not reached, and one with a NaN for its threshold is not over
pub importance_nan : (t : Float) (e : ScenecutResult) → e.imp_block_cost ≡ nan → reached t e ≡ false
importance_nan t e h = rw h (nan_fails_both t).0

pub threshold_nan : (forward : Bool) (e : ScenecutResult) → e.threshold ≡ nan → over forward e ≡ false
threshold_nan true e h = rw h (nan_not_reached e.forward_adjusted_cost)
threshold_nan false e h = rw h (nan_not_reached e.backward_adjusted_cost)

-- ---- f64::MAX is the largest number of binary64

abbrev digits : ℕ
digits = 2 ^ 53 - 1

max_is : max_f ≡ fin false digits (pos 971)
unfolding of_bits
max_is = refl

zero_is : zero_f ≡ fin false 0 (pos 0)
unfolding of_bits
zero_is = refl

-- a whole number below 2 ^ 1024 with at most 53 binary digits that count
most : (m k : ℕ) → m < 2 ^ 53 → m * 2 ^ k < 2 ^ 1024 → m * 2 ^ k ≤ digits * 2 ^ 971
most m k h g = by (leb k 971) refl
  where
    by : (b : Bool) → leb k 971 ≡ b → m * 2 ^ k ≤ digits * 2 ^ 971
    by true e = mul-le-mul (le_ones 53 h) (pow_mono (leb-true k 971 e))
    by false e =
        let l : 971 < k = leb-false k 971 e in
        let j : k ≡ (k - 971) + 971 = omega arith in
        let s : m * 2 ^ k ≡ (m * 2 ^ (k - 971)) * 2 ^ 971 = ap (λ (i : ℕ). m * 2 ^ i) j ∙ ap (λ (p : ℕ). m * p) (pow-add 2 (k - 971) 971) ∙ sym (mul_assoc m (2 ^ (k - 971)) (2 ^ 971)) in
        let t : (m * 2 ^ (k - 971)) * 2 ^ 971 < 2 ^ 53 * 2 ^ 971 = rw s at g in
        let u : m * 2 ^ (k - 971) < 2 ^ 53 = lt_of_mul-lt-mul_right (2 ^ 971) t in
        rw s (mul-le-mul_right (2 ^ 971) (le_ones 53 u))

-- the same with a part below 1: the exponent is any whole number
most_at : (m : ℕ) (e : ℤ) → m < 2 ^ 53 → m * up e < 2 ^ 1024 * down e → m * up e ≤ digits * 2 ^ 971 * down e
most_at m (pos k) h g = rw mul-one (most m k h (rw mul-one at g))
most_at m (negsuc k) h g =
    let more : (digits * 2 ^ 971) * 1 ≤ (digits * 2 ^ 971) * 2 ^ suc k = mul-le-mul_left (digits * 2 ^ 971) (pow_pos (suc k)) in
    rw mul-one (le_trans (le_ones 53 h) (le_trans (lit≤ tt) (rw mul-one at more)))

bounded : (s : Bool) (m : ℕ) (e : ℤ) → T (fits binary64 (fin s m e)) → m * up e ≤ digits * 2 ^ 971 * down e
unfolding fits
bounded s zero e h = rw (zero-mul (up e)) zero-le
bounded s (suc m) e h =
    let d = ltb (suc m * up e) (2 ^ 1024 * down e) in
    let c = leb (down e) (2 ^ 1074) in
    let b = ltb (suc m) (2 ^ 53) in
    let a = eqb (suc m % 2) 1 in
    most_at (suc m) e (ltb→lt _ _ (and_r a b (and_l (a && b) c (and_l (a && b && c) d h)))) (ltb→lt _ _ (and_r (a && b && c) d h))

-- ---- the tests of two numbers, by naturals a and b

le_by : (a b : ℕ) → ltb a b || (eqb a b && true) ≡ not (ltb b a)
le_by a b = by (ltb a b) (ltb b a) refl refl
  where
    by : (x y : Bool) → ltb a b ≡ x → ltb b a ≡ y → ltb a b || (eqb a b && true) ≡ not (ltb b a)
    by true y p q = rw (p, le-ltb b a (omega (arith, ltb-true a b p)))
    by false true p q = rw (p, q, ne_eqb a b (λ e. omega (arith, ltb-true b a q)))
    by false false p q = rw (p, q, eq-eqb a b (omega (arith, ltb-false a b p, ltb-false b a q)))

zero_by : (a b : ℕ) → a ≡ 0 → eqb a b && (false || eqb a 0) ≡ not (ltb 0 (b + a))
zero_by a b e = by (ltb 0 (b + a)) refl
  where
    by : (x : Bool) → ltb 0 (b + a) ≡ x → eqb a b && (false || eqb a 0) ≡ not (ltb 0 (b + a))
    by true p = rw (p, ne_eqb a b (λ q. omega (arith, ltb-true 0 (b + a) p)))
    by false p = rw (p, eq-eqb a b (omega (arith, ltb-false 0 (b + a) p)), eq-eqb a 0 e)

module _ (m : ℕ) (e : ℤ) where
  -- at or above 0 is: not below 0
  pub zero_le_is : (s : Bool) → le zero_f (fin s m e) ≡ not (lt (fin s m e) zero_f)
  unfolding le lt eq of_bits
  zero_le_is false = le_by (0 * 1 * down e) (m * up e * 1)
  zero_le_is true = zero_by (0 * 1 * down e) (m * up e * 1) (zero-mul (down e))

  pub max_le_is : (s : Bool) → T (fits binary64 (fin s m e)) → le (fin s m e) max_f ≡ true
  unfolding le lt eq of_bits
  max_le_is false h =
      let b : m * up e * 1 ≤ digits * 2 ^ 971 * down e = rw mul-one (bounded false m e h) in
      le_by (m * up e * 1) (digits * 2 ^ 971 * down e) ∙ ap not (le-ltb (digits * 2 ^ 971 * down e) (m * up e * 1) b)
  max_le_is true h =
      let p : 0 < digits * 2 ^ 971 * down e = mul-pos (lit< tt) (down_pos e) in
      let q : 0 < m * up e * 1 + digits * 2 ^ 971 * down e = lt_of_lt_of_le p (le-add_left (digits * 2 ^ 971 * down e) (m * up e * 1)) in
      rw (lt-ltb 0 (m * up e * 1 + digits * 2 ^ 971 * down e) q)

-- ---- refusal 10: "NaN, infinite or below 0"

abbrev pub finite : Float → Bool
finite nan = false
finite (inf s) = false
finite (fin s m e) = true

-- a number is allowed exactly when it is finite and not below 0
pub cost_allowed : (x : Float) → T (fits binary64 x) → forbidden x ≡ not (finite x && not (lt x zero_f))
unfolding le lt eq of_bits
cost_allowed nan h = refl
cost_allowed (inf true) h = refl
cost_allowed (inf false) h = refl
cost_allowed (fin s m e) h = rw (zero_le_is m e s, max_le_is m e s h) (ap not (and-true (not (lt (fin s m e) zero_f))))
