-- Why refusal 10 lets the doubles of the measures pass: rounding keeps the order, so a quotient of numbers up to 2 ^ 64 is one too. Assumes nothing.
use mathlib.Core.Path.{◌≡◌, refl, sym, ap, ◌∙◌, subst}
use mathlib.Core.Bool.{Bool, true, false, not, ◌&&◌, ◌||◌, cond, true≢false}
use Prim.Native.Nat.{ℕ, suc, ◌+◌, ◌*◌, ◌^◌, ◌≤◌, zero-le, ◌<◌}
use native.Mathlib.Nat.{le_trans, le_of_eq, lt_of_lt_of_le, zero-mul, mul-one, one-mul, mul_comm, mul_assoc, mul-le-mul, mul-pos}
use native.Mathlib.Omega.{arith}
use borrow.Author.Tests.{le-ltb, ltb-true, eqb-true, ne_eqb}
use lib.Dec.{T, eqb, ltb, lit<}
use lib.IntN.{ℤ, pos}
use lib.Ieee.{Float, nan, inf, fin, Format, binary64, prec, low, emax, up, down, odd, units, round, lt, le, mul, div, of_int, of_bits, fits}
use lib.Ieee.Exact.{HasValue, odd_sign}
use lib.Ieee.Fits.{down_pos, round_is, mul-fits, div-fits}
use lib.Ieee.Order.{round_mono}
use lib.Ieee.Positive.{first_pos}
use Rattle.sums.specs.Quotient.{quotient_of}
use Rattle.score.specs.Scores.{zero_f}
use Rattle.score.specs.Costs.{forbidden}
use Rattle.score.proofs.Floats.{cost_allowed}

-- a number from 0 up to n, where −0 is left out; and one from 1 on
abbrev pub UpTo : ℕ → Float → Type 0
UpTo n nan = ⊥
UpTo n (inf s) = ⊥
UpTo n (fin s m e) = (s ≡ false) × (m * up e ≤ n * down e)

abbrev FromOne : Float → Type 0
FromOne nan = ⊥
FromOne (inf s) = ⊥
FromOne (fin s m e) = (s ≡ false) × (down e ≤ m * up e)

-- no sum and no count of the measures is above it; and it is a double, as 1 is
abbrev pub most : ℕ
most = 2 ^ 64

most_is : round binary64 false most 1 ≡ fin false 1 (pos 64)
unfolding round
most_is = refl

one_is : round binary64 false 1 1 ≡ fin false 1 (pos 0)
unfolding round
one_is = refl

-- ---- what is rounded with the plus sign has it, and is no NaN

abbrev plus : Float → Bool
plus nan = false
plus (inf s) = not s
plus (fin s m e) = not s

plus_value : (x : Float) (a c : ℕ) → HasValue x false a c → T (plus x)
plus_value nan a c h = absurd h
plus_value (inf s) a c h = absurd h
plus_value (fin true m e) a c h = absurd (true≢false h.0)
plus_value (fin false m e) a c h = tt

module _ (f : Format) where
  plus_units : (q k : ℕ) → T (plus (units f false q k))
  unfolding units
  plus_units q k = by (ltb (q * 2 ^ k) (2 ^ (low f + suc (emax f))))
    where
      by : (b : Bool) → T (plus (cond b (odd (suc (prec f)) false q k (low f)) (inf false)))
      by true = plus_value (odd (suc (prec f)) false q k (low f)) (q * 2 ^ k) (2 ^ low f) (odd_sign (suc (prec f)) false q k (low f))
      by false = tt

  plus_round : (a b : ℕ) → T (plus (round f false a b))
  plus_round a b = subst (λ (x : Float). T (plus x)) (sym (round_is f false a b)) (plus_units _ _)

-- ---- the tests of two numbers, by naturals

le_by : (a b : ℕ) → T (ltb a b || (eqb a b && true)) → a ≤ b
le_by a b = by (ltb a b) (eqb a b) refl refl
  where
    by : (x y : Bool) → ltb a b ≡ x → eqb a b ≡ y → T (x || (y && true)) → a ≤ b
    by true y p q h = omega (arith, ltb-true a b p)
    by false true p q h = omega (arith, eqb-true a b q)
    by false false p q h = absurd h

up_to : (x : Float) → T (plus x) → T (le x (fin false 1 (pos 64))) → UpTo most x
unfolding le
up_to nan p h = absurd p
up_to (inf true) p h = absurd p
up_to (inf false) p h = absurd h
up_to (fin true m e) p h = absurd p
up_to (fin false m e) p h = (refl, rw mul-one at (le_by (m * up e * 1) (most * down e) h))

from_one : (x : Float) → UpTo most x → T (le (fin false 1 (pos 0)) x) → FromOne x
unfolding le
from_one nan p h = absurd p
from_one (inf s) p h = absurd p
from_one (fin true m e) p h = absurd (true≢false p.0)
from_one (fin false m e) p h = (refl, rw (mul-one, one-mul) at (le_by (1 * down e) (m * up e * 1) h))

-- ---- rounded, divided, multiplied

round_up_to : (a b : ℕ) → 0 < b → a ≤ most * b → UpTo most (round binary64 false a b)
round_up_to a b p h =
    up_to (round binary64 false a b) (plus_round binary64 a b)
    (subst (λ (x : Float). T (le (round binary64 false a b) x)) most_is (round_mono binary64 a b most 1 p (lit< tt) (rw mul-one h)))

round_from_one : (n : ℕ) → 0 < n → n ≤ most → FromOne (round binary64 false n 1)
round_from_one n p h =
    from_one (round binary64 false n 1) (round_up_to n 1 (lit< tt) (omega arith))
    (subst (λ (x : Float). T (le x (round binary64 false n 1))) one_is (round_mono binary64 1 1 n 1 (lit< tt) (lit< tt) (omega arith)))

div_up_to : (x y : Float) → UpTo most x → FromOne y → UpTo most (div binary64 x y)
unfolding div
div_up_to nan y p q = absurd p
div_up_to (inf s) y p q = absurd p
div_up_to (fin true m e) y p q = absurd (true≢false p.0)
div_up_to (fin false m e) nan p q = absurd q
div_up_to (fin false m e) (inf t) p q = absurd q
div_up_to (fin false m e) (fin true n d) p q = absurd (true≢false q.0)
div_up_to (fin false m e) (fin false n d) p q =
    let some : 0 < n * up d = lt_of_lt_of_le (down_pos d) q.1 in
    let below : m * up e * down d ≤ most * (n * up d * down e) =
    le_trans (mul-le-mul p.1 q.1) (le_of_eq (mul_assoc most (down e) (n * up d) ∙ ap (λ (k : ℕ). most * k) (mul_comm (down e) (n * up d)))) in
    rw (ne_eqb n 0 (λ z. omega (arith, first_pos n (up d) some))) (round_up_to (m * up e * down d) (n * up d * down e) (mul-pos some (down_pos e)) below)

mul_up_to : (x y : Float) → UpTo most x → UpTo 1 y → UpTo most (mul binary64 x y)
unfolding mul
mul_up_to nan y p q = absurd p
mul_up_to (inf s) y p q = absurd p
mul_up_to (fin true m e) y p q = absurd (true≢false p.0)
mul_up_to (fin false m e) nan p q = absurd q
mul_up_to (fin false m e) (inf t) p q = absurd q
mul_up_to (fin false m e) (fin true n d) p q = absurd (true≢false q.0)
mul_up_to (fin false m e) (fin false n d) p q =
    let part : n * up d ≤ down d = rw one-mul at q.1 in
    round_up_to (m * up e * (n * up d)) (down e * down d) (mul-pos (down_pos e) (down_pos d))
    (le_trans (mul-le-mul p.1 part) (le_of_eq (mul_assoc most (down e) (down d))))

-- ---- refusal 10

-- none of them is below 0
above : (m : ℕ) (e : ℤ) → lt (fin false m e) zero_f ≡ false
unfolding lt of_bits
above m e = le-ltb (m * up e * 1) (0 * 1 * down e) (rw (zero-mul (down e)) zero-le)

passes : (x : Float) → T (fits binary64 x) → UpTo most x → forbidden x ≡ false
passes nan f p = absurd p
passes (inf s) f p = absurd p
passes (fin true m e) f p = absurd (true≢false p.0)
passes (fin false m e) f p = cost_allowed (fin false m e) f ∙ ap (λ (b : Bool). not (true && not b)) (above m e)

module _ (total count : ℕ) (t : total ≤ most) (some : 0 < count) (c : count ≤ most) where
  quotient_up_to : UpTo most (quotient_of total count)
  unfolding of_int
  quotient_up_to =
      div_up_to (round binary64 false total 1) (round binary64 false count 1)
      (round_up_to total 1 (lit< tt) (omega arith)) (round_from_one count some c)

  pub quotient_passes : forbidden (quotient_of total count) ≡ false
  quotient_passes = passes (quotient_of total count) (div-fits binary64 _ _) quotient_up_to

  -- and a part of it: times a number up to 1
  pub part_passes : (y : Float) → UpTo 1 y → forbidden (mul binary64 (quotient_of total count) y) ≡ false
  part_passes y h = passes (mul binary64 (quotient_of total count) y) (mul-fits binary64 _ _) (mul_up_to (quotient_of total count) y quotient_up_to h)
