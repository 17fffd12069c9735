-- The library's words for the bytes of a number are this crate's: `from_le_bytes` reads what `number_of` says, and `to_le_bytes` writes what
-- `bytes_of` says. Assumes nothing.
use mathlib.Core.Path.{◌≡◌, refl, sym, ap, ◌∙◌}
use mathlib.Core.Bool.{true, cond}
use mathlib.Core.List.{List, [], ◌∷◌}
use Prim.Native.Nat.{ℕ, zero, suc, ◌+◌, ◌*◌, ◌/◌, ◌%◌, ◌^◌}
use native.Mathlib.Nat.{pow-succ', le_refl, div-one, div-div-eq-div-mul, zero-mul, mul_left_comm, mul_comm}
use native.Mathlib.Omega.{arith}
use lib.ListN.{length, take, drop, get_or}
use lib.Seq.{take-take}
use Rattle.std.specs.Int.{byte_at, byte_worth, bytes_low_first, sum_through}
use Rattle.octets.specs.Octets.{bytes_of, number_of, overwritten, lies, number_at, with_number}
use Rattle.octets.proofs.Laws.{bytes_long, number_lies}

-- ---- reading

-- what a byte is worth one place higher
worth_more : (i b : ℕ) → byte_worth (suc i) b ≡ 256 * byte_worth i b
worth_more zero b = omega arith
worth_more (suc i) b =
    rw (pow-succ' 256 (suc i)) (mul_left_comm b 256 (256 ^ suc i))

no_worth : (i : ℕ) → byte_worth i 0 ≡ 0
no_worth zero = refl
no_worth (suc i) = zero-mul (256 ^ suc i)

-- one byte more, above the others
number_more : (bs : List ℕ) (n : ℕ) → number_of (take (suc n) bs) ≡ number_of (take n bs) + byte_worth n (get_or bs n 0)
unfolding number_of
number_more [] zero = refl
number_more [] (suc n) = omega (arith, no_worth (suc n))
number_more (b ∷ bs) zero = omega arith
number_more (b ∷ bs) (suc n) = omega (arith, number_more bs n, worth_more n (get_or bs n 0))

number_none : (bs : List ℕ) → number_of (take 0 bs) ≡ 0
unfolding number_of
number_none bs = refl

number_is : (bs : List ℕ) (n : ℕ) → sum_through (λ i. byte_worth i (get_or bs i 0)) n ≡ number_of (take (suc n) bs)
number_is bs zero = omega (arith, number_more bs 0, number_none bs)
number_is bs (suc n) = omega (arith, number_is bs n, number_more bs (suc n))

-- such bytes read where they all lie within the list
pub was_read : (n at : ℕ) (bs s : List ℕ) → lies (suc n) at s ≡ true → bs ≡ take (suc n) (drop at s)
    → sum_through (λ i. byte_worth i (get_or bs i 0)) n ≡ number_at (suc n) at s
was_read n at bs s h e =
    rw (number_is bs n, e, take-take (suc n) (suc n) (drop at s) (le_refl (suc n))) (sym (number_lies (suc n) at s h))

-- ---- writing

byte_is : (i x : ℕ) → byte_at i x ≡ x / 256 ^ i % 256
byte_is zero x = ap (λ (y : ℕ). y % 256) (sym (div-one x))
byte_is (suc i) x = refl

bytes_from : (i n x : ℕ) → bytes_low_first i n x ≡ bytes_of n (x / 256 ^ i)
unfolding bytes_of
bytes_from i zero x = refl
bytes_from i (suc n) x =
    let next : x / 256 ^ i / 256 ≡ x / 256 ^ suc i = rw (pow-succ' 256 i, mul_comm 256 (256 ^ i)) (div-div-eq-div-mul x (256 ^ i) 256) in
    rw (byte_is i x, bytes_from (suc i) n x, next) refl

-- such bytes written where they all lie within the list
pub was_written : (n at x : ℕ) (bs s : List ℕ) → bs ≡ bytes_low_first 0 n x → cond (lies (length bs) at s) (overwritten at bs s) s ≡ with_number n at x s
unfolding with_number
was_written n at x bs s e =
    let are : bs ≡ bytes_of n x = e ∙ bytes_from 0 n x ∙ ap (bytes_of n) (div-one x) in
    rw (are, bytes_long n x)
