-- Numbers as bytes and back: each way undoes the other, over any count of bytes. Assumes nothing.
use mathlib.Core.Path.{◌≡◌, refl, sym, ap, ◌∙◌}
use mathlib.Core.Bool.{true, false}
use mathlib.Core.List.{List, [], ◌∷◌}
use Prim.Native.Nat.{ℕ, zero, suc, ◌+◌, ◌*◌, ◌/◌, ◌%◌, ◌^◌, ◌≤◌, ◌<◌}
use native.Mathlib.Nat.{pow-succ'}
use native.Mathlib.Omega.{arith}
use borrow.Author.Tests.{le-leb, leb-true}
use lib.Dec.{T}
use lib.Ieee.{Float, nan, fits, binary64, nan_bits, to_bits, of_bits}
use lib.Ieee.Bits.{of_bits-to_bits, to_bits-of_bits, to_bits-lt, nan_bits_is}
use lib.ListN.{length, take, drop, length-take, length-drop}
use lib.Seq.{get_or-take, get_or-drop}
use Rattle.octets.specs.Octets.{bytes_of, number_of, overwritten, lies, number_at, with_number}
use Rattle.octets.specs.Needs.{Bytes}
use Rattle.octets.proofs.Over.{over_long, over_here, over_same}

-- ---- numbers and lists of bytes

pub bytes_long : (n x : ℕ) → length (bytes_of n x) ≡ n
unfolding bytes_of
bytes_long zero x = refl
bytes_long (suc n) x = ap suc (bytes_long n (x / 256))

-- a number that n bytes hold is read back from them
pub number_bytes : (n x : ℕ) → x < 256 ^ n → number_of (bytes_of n x) ≡ x
unfolding bytes_of number_of
number_bytes zero x h = omega arith
number_bytes (suc n) x h = rw (number_bytes n (x / 256) (omega (arith, pow-succ' 256 n))) (omega arith)

-- bytes are written back from the number that they stand for
pub bytes_number : (bs : List ℕ) → Bytes bs → bytes_of (length bs) (number_of bs) ≡ bs
unfolding bytes_of number_of
bytes_number [] h = refl
bytes_number (b ∷ bs) h =
    let low : b < 256 = h 0 (omega arith) in
    let first : (b + 256 * number_of bs) % 256 ≡ b = omega arith in
    let rest : (b + 256 * number_of bs) / 256 ≡ number_of bs = omega arith in
    rw (first, rest) (ap (λ (l : List ℕ). b ∷ l) (bytes_number bs (λ i l. h (suc i) (omega arith))))

-- so many bytes hold so much
pub number_below : (bs : List ℕ) → Bytes bs → number_of bs < 256 ^ length bs
unfolding number_of
number_below [] h = omega arith
number_below (b ∷ bs) h =
    let low : b < 256 = h 0 (omega arith) in
    let rest : number_of bs < 256 ^ length bs = number_below bs (λ i l. h (suc i) (omega arith)) in
    omega (arith, pow-succ' 256 (length bs))

-- a part of a list of bytes holds bytes
pub part_bytes : (n at : ℕ) (s : List ℕ) → Bytes s → at + n ≤ length s → Bytes (take n (drop at s))
part_bytes n at s b h i l =
    let long : length (take n (drop at s)) ≡ n = omega (arith, length-take n (drop at s), length-drop at s) in
    rw (get_or-take n (drop at s) i 0 (omega arith), get_or-drop at s i 0) (b (at + i) (omega arith))

-- ---- at a place of a list

module _ (n at : ℕ) (s : List ℕ) (h : at + n ≤ length s) where
  pub number_here : number_at n at s ≡ number_of (take n (drop at s))
  unfolding number_at
  number_here = rw (le-leb (at + n) (length s) h)

  pub with_here : (x : ℕ) → with_number n at x s ≡ overwritten at (bytes_of n x) s
  unfolding with_number
  with_here x = rw (le-leb (at + n) (length s) h)

  fits_here : (x : ℕ) → at + length (bytes_of n x) ≤ length s
  fits_here x = omega (arith, bytes_long n x)

-- by the test of the place
module _ (n at : ℕ) (s : List ℕ) where
  pub number_lies : lies n at s ≡ true → number_at n at s ≡ number_of (take n (drop at s))
  number_lies e = number_here n at s (leb-true (at + n) (length s) e)

  pub number_lacks : lies n at s ≡ false → number_at n at s ≡ 0
  unfolding number_at
  number_lacks e = rw e

  pub with_lacks : (x : ℕ) → lies n at s ≡ false → with_number n at x s ≡ s
  unfolding with_number
  with_lacks x e = rw e

-- what was put there is read there
pub number_back : (n at x : ℕ) (s : List ℕ) → at + n ≤ length s → x < 256 ^ n → number_at n at (with_number n at x s) ≡ x
number_back n at x s h f =
    let long : length (overwritten at (bytes_of n x) s) ≡ length s = over_long at (bytes_of n x) s (fits_here n at s h x) in
    let here : take n (drop at (overwritten at (bytes_of n x) s)) ≡ bytes_of n x
    = ap (λ (k : ℕ). take k (drop at (overwritten at (bytes_of n x) s))) (sym (bytes_long n x)) ∙ over_here at (bytes_of n x) s (omega arith) in
    ap (number_at n at) (with_here n at s h x)
    ∙ number_here n at (overwritten at (bytes_of n x) s) (omega arith)
    ∙ ap number_of here
    ∙ number_bytes n x f

-- what was read there is put back there
pub with_back : (n at : ℕ) (s : List ℕ) → Bytes s → at + n ≤ length s → with_number n at (number_at n at s) s ≡ s
with_back n at s b h =
    let part : List ℕ = take n (drop at s) in
    let long : length part ≡ n = omega (arith, length-take n (drop at s), length-drop at s) in
    let same : bytes_of n (number_of part) ≡ part = ap (λ (k : ℕ). bytes_of k (number_of part)) (sym long) ∙ bytes_number part (part_bytes n at s b h) in
    with_here n at s h (number_at n at s)
    ∙ ap (λ (x : ℕ). overwritten at (bytes_of n x) s) (number_here n at s h)
    ∙ ap (λ (l : List ℕ). overwritten at l s) same
    ∙ over_same at n s h

-- ---- floats

-- "NaNs are written as 7FF8000000000000 (hex)"
pub nan_pattern : to_bits binary64 nan ≡ 0x7FF8_0000_0000_0000
unfolding to_bits
nan_pattern = refl

-- a pattern fills eight bytes at most
pub bits_below : (x : Float) → T (fits binary64 x) → to_bits binary64 x < 256 ^ 8
bits_below x f = to_bits-lt binary64 x f

-- a float that was put there is read there; of a NaN, a NaN
pub float_back : (at : ℕ) (x : Float) (s : List ℕ) → T (fits binary64 x) → at + 8 ≤ length s
    → of_bits binary64 (number_at 8 at (with_number 8 at (to_bits binary64 x) s)) ≡ x
float_back at x s f h = ap (of_bits binary64) (number_back 8 at (to_bits binary64 x) s h (bits_below x f)) ∙ of_bits-to_bits binary64 x f

-- bits that were read there are put back there, if they are no NaN's: a NaN's become the one pattern
pub bits_back : (b : ℕ) → b < 256 ^ 8 → nan_bits binary64 b ≡ false → to_bits binary64 (of_bits binary64 b) ≡ b
bits_back b h e = to_bits-of_bits binary64 b h (rw (sym (nan_bits_is binary64 b) ∙ e) tt)

pub float_with_back : (at : ℕ) (s : List ℕ) → Bytes s → at + 8 ≤ length s → nan_bits binary64 (number_at 8 at s) ≡ false
    → with_number 8 at (to_bits binary64 (of_bits binary64 (number_at 8 at s))) s ≡ s
float_with_back at s b h e =
    let long : length (take 8 (drop at s)) ≡ 8 = omega (arith, length-take 8 (drop at s), length-drop at s) in
    let small : number_of (take 8 (drop at s)) < 256 ^ 8 = rw long at (number_below (take 8 (drop at s)) (part_bytes 8 at s b h)) in
    ap (λ (x : ℕ). with_number 8 at x s) (bits_back (number_at 8 at s) (rw (number_here 8 at s h) small) e) ∙ with_back 8 at s b h
