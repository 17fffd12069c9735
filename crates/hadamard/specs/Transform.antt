-- Document 01, "Hadamard": the transform in one dimension and in two, on whole numbers of any size, and its refusals.
use Rattle.std.specs.Prelude.{List, [], ◌∷◌, Bool, true, false, cond, not, ℕ, zero, suc, ◌+◌, ◌*◌, ◌/◌, ◌%◌, eqb, ltb, ℤ, pos, negsuc, ◌+ℤ◌, ◌*ℤ◌, nat_abs, length, get_or}
use Rattle.std.specs.Int.Bits.{bit_and}
use Rattle.std.specs.Int.Count.{ones}
use Rattle.std.proofs.Math.IntN.{pow}
use Rattle.answer.specs.Answer.{lent_after}
use Rattle.answer.specs.Refusal.{refusal, ◌or_else◌}
use Rattle.sums.specs.Table.{table}

-- f 0 + f 1 + .. + f (n - 1)
unfoldable pub sum_z : ℕ → (ℕ → ℤ) → ℤ
sum_z zero f = pos 0
sum_z (suc n) f = sum_z n f +ℤ f n

-- "−1 to the number of ones common to k and j in binary"
unfoldable pub sign : ℕ → ℕ → ℤ
sign k j = pow (negsuc 0) (ones (bit_and k j))

-- "output k is the sum of input j times" that sign, for the inputs f 0, .., f (n - 1)
unfoldable pub output : ℕ → (ℕ → ℤ) → ℕ → ℤ
output n f k = sum_z n (λ (j : ℕ). sign k j *ℤ f j)

-- entry (r, c) of the transform in two dimensions of the entries f i j: "columns first, then rows"
abbrev pub square : ℕ → (ℕ → ℕ → ℤ) → ℕ → ℕ → ℤ
square n f r c = output n (λ (j : ℕ). output n (λ (i : ℕ). f i j) r) c

-- the n * n entries of l, row by row, transformed
unfoldable pub transformed : ℕ → List ℤ → List ℤ
transformed n l = table (n * n) (λ (t : ℕ). square n (λ (i j : ℕ). get_or l (i * n + j) (pos 0)) (t / n) (t % n))

-- "an entry beyond ±65,535 is refused"
abbrev pub entry_most : ℕ
entry_most = 65535

abbrev pub beyond_most : ℤ → Bool
beyond_most z = ltb entry_most (nat_abs z)

unfoldable pub some_beyond : List ℤ → Bool
some_beyond [] = false
some_beyond (z ∷ l) = cond (beyond_most z) true (some_beyond l)

-- 2: "a transform list hasn't its own transform's length", n * n; 10: "a transform entry out of range"; 2 comes before 10
abbrev pub transform_fault : ℕ → List ℤ → ℕ
transform_fault n l = refusal 2 (not (eqb (length l) (n * n))) or_else refusal 10 (some_beyond l)

-- the list afterwards: as it was where it is refused
abbrev pub after_transform : ℕ → List ℤ → List ℤ
after_transform n l = lent_after (transform_fault n l) (transformed n l) l
