-- The laws of `sum_below`. Each is stated over the function that is summed, so that it serves samples of any width. Assumes nothing.
use Rattle.std.proofs.Common.{◌≡◌, ℕ, zero, suc, ◌+◌, ◌*◌, ◌/◌, ◌%◌, ◌<◌, ◌≤◌, sym, refl, ap, ◌∙◌, add-zero, add-suc, mul-le-mul_right, mul-add, add-one, arith}
use native.Mathlib.Nat.{mod-add-div}
use Rattle.sums.specs.Sums.{sum_below}

-- none, and one more
pub sum_none : (f : ℕ → ℕ) → 0 ≡ sum_below 0 f
unfolding sum_below
sum_none f = refl

pub sum_more : (n : ℕ) (f : ℕ → ℕ) → sum_below (n + 1) f ≡ sum_below n f + f n
unfolding sum_below
sum_more n f = rw add-one

-- equal numbers have equal sums
pub sum_ext : (n : ℕ) (f g : ℕ → ℕ) → ((i : ℕ) → i < n → f i ≡ g i) → sum_below n f ≡ sum_below n g
unfolding sum_below
sum_ext zero f g e = refl
sum_ext (suc n) f g e = let here = e n (omega arith) in let rest = sum_ext n f g (λ i l. e i (omega arith)) in omega arith

-- n numbers of at most b
pub sum_most : (b n : ℕ) (f : ℕ → ℕ) → ((i : ℕ) → i < n → f i ≤ b) → sum_below n f ≤ n * b
unfolding sum_below
sum_most b zero f e = omega arith
sum_most b (suc n) f e = let here = e n (omega arith) in let rest = sum_most b n f (λ i l. e i (omega arith)) in omega arith

-- a sum cut in two, anywhere
pub sum_cut : (m n : ℕ) (f : ℕ → ℕ) → sum_below (m + n) f ≡ sum_below m f + sum_below n (λ (i : ℕ). f (m + i))
unfolding sum_below
sum_cut m zero f = rw (add-zero m) (omega arith)
sum_cut m (suc n) f = let rest = sum_cut m n f in rw add-suc (omega arith)

-- a sum whose end is another number that is the same
pub sum_to : (r m n : ℕ) (f : ℕ → ℕ) → r ≡ sum_below m f → m ≡ n → r ≡ sum_below n f
sum_to r m n f p e = rw (← e) p

-- A turn of a loop that sums n numbers of at most b: the sum so far and one number more is the next sum, and it fits a room that all n fit.
-- This is all that such a loop's proof has to say, whatever the samples' width.
abbrev pub NextSum : ℕ → ℕ → ℕ → ℕ → (ℕ → ℕ) → Type 0
NextSum room i sum part f = (sum + part ≡ sum_below (i + 1) f) × (sum + part < room)

pub next_sum : (b n room : ℕ) (f : ℕ → ℕ) → ((j : ℕ) → j < n → f j ≤ b) → n * b < room
    → (i sum part : ℕ) → i < n → sum ≡ sum_below i f → part ≡ f i → NextSum room i sum part f
next_sum b n room f most fits i sum part h e d =
    let next = sum_more i f in
    let so_far = sum_most b (i + 1) f (λ j l. most j (omega arith)) in
    let all : (i + 1) * b ≤ n * b = mul-le-mul_right b (omega arith) in
    (omega arith, omega arith)

-- ---- sums of sums

-- of two numbers for each place
sum_both : (n : ℕ) (f g : ℕ → ℕ) → sum_below n (λ (i : ℕ). f i + g i) ≡ sum_below n f + sum_below n g
unfolding sum_below
sum_both zero f g = refl
sum_both (suc n) f g = let rest = sum_both n f g in omega arith

-- of remainders and of quotients: a number is both together
pub sum_split : (m n : ℕ) (f : ℕ → ℕ) → sum_below n (λ (i : ℕ). f i % m) + m * sum_below n (λ (i : ℕ). f i / m) ≡ sum_below n f
unfolding sum_below
sum_split m zero f = omega arith
sum_split m (suc n) f =
    let rest = sum_split m n f in
    let here = mod-add-div (f n) m in
    let all = mul-add m (sum_below n (λ (i : ℕ). f i / m)) (f n / m) in
    omega arith

-- of no number but 0
sum_zeros : (n : ℕ) → sum_below n (λ (i : ℕ). 0) ≡ 0
unfolding sum_below
sum_zeros zero = refl
sum_zeros (suc n) = let rest = sum_zeros n in omega arith

-- by rows or by columns
pub sum_swap : (m n : ℕ) (f : ℕ → ℕ → ℕ) → sum_below m (λ (i : ℕ). sum_below n (λ (j : ℕ). f i j)) ≡ sum_below n (λ (j : ℕ). sum_below m (λ (i : ℕ). f i j))
unfolding sum_below
sum_swap zero n f = sym (sum_zeros n)
sum_swap (suc m) n f =
    ap (λ (k : ℕ). k + sum_below n (f m)) (sum_swap m n f) ∙ sym (sum_both n (λ (j : ℕ). sum_below m (λ (i : ℕ). f i j)) (f m))

-- by pairs of neighbours
pub sum_pairs : (n : ℕ) (f : ℕ → ℕ) → sum_below n (λ (i : ℕ). f (2 * i) + f (2 * i + 1)) ≡ sum_below (2 * n) f
unfolding sum_below
sum_pairs zero f = refl
sum_pairs (suc n) f =
    let rest = sum_pairs n f in
    let one = sum_more (2 * n) f in
    let two = sum_more (2 * n + 1) f in
    let ends : 2 * suc n ≡ 2 * n + 1 + 1 = omega arith in
    rw ends (omega arith)
