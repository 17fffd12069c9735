-- The laws of `any_below`. Assumes nothing.
use Rattle.std.proofs.Common.{◌≡◌, ℕ, zero, suc, ◌+◌, ◌<◌, Bool, true, false, ◌||◌, sym, refl, ap, ◌∙◌, true≢false, add-zero, add-suc, add-one, arith}
use native.Mathlib.Decide.{dec_lt}
use Rattle.sums.specs.Any.{any_below}

or_assoc : (a b c : Bool) → (a || b) || c ≡ a || (b || c)
or_assoc true b c = refl
or_assoc false b c = refl

or_swap : (a b c d : Bool) → (a || b) || (c || d) ≡ (a || c) || (b || d)
or_swap true b c d = refl
or_swap false true true d = refl
or_swap false true false d = refl
or_swap false false c d = refl

or_false_right : (a : Bool) → a || false ≡ a
or_false_right true = refl
or_false_right false = refl

-- no number, and one more
pub any_zero : (f : ℕ → Bool) → any_below 0 f ≡ false
unfolding any_below
any_zero f = refl

pub any_more : (n : ℕ) (f : ℕ → Bool) → any_below (n + 1) f ≡ any_below n f || f n
unfolding any_below
any_more n f = rw add-one

-- a test that never holds
pub any_none : (n : ℕ) (f : ℕ → Bool) → ((i : ℕ) → f i ≡ false) → any_below n f ≡ false
unfolding any_below
any_none zero f e = refl
any_none (suc n) f e = rw (any_none n f e, e n)

-- equal tests
pub any_ext : (n : ℕ) (f g : ℕ → Bool) → ((i : ℕ) → f i ≡ g i) → any_below n f ≡ any_below n g
unfolding any_below
any_ext zero f g e = refl
any_ext (suc n) f g e = rw (any_ext n f g e, e n)

-- equal as far as the range goes
pub any_below_lem : (n : ℕ) (f g : ℕ → Bool) → ((i : ℕ) → i < n → f i ≡ g i) → any_below n f ≡ any_below n g
unfolding any_below
any_below_lem zero f g e = refl
any_below_lem (suc n) f g e = rw (any_below_lem n f g (λ i l. e i (omega arith)), e n (omega arith))

-- two tests at once
pub any_or : (n : ℕ) (f g : ℕ → Bool) → any_below n (λ (i : ℕ). f i || g i) ≡ any_below n f || any_below n g
unfolding any_below
any_or zero f g = refl
any_or (suc n) f g = ap (λ (b : Bool). b || (f n || g n)) (any_or n f g) ∙ or_swap (any_below n f) (any_below n g) (f n) (g n)

-- a range cut in two
pub any_cut : (m n : ℕ) (f : ℕ → Bool) → any_below (m + n) f ≡ any_below m f || any_below n (λ (i : ℕ). f (m + i))
unfolding any_below
any_cut m zero f = rw add-zero (sym (or_false_right (any_below m f)))
any_cut m (suc n) f =
    rw add-suc (ap (λ (b : Bool). b || f (m + n)) (any_cut m n f) ∙ or_assoc (any_below m f) (any_below n (λ (i : ℕ). f (m + i))) (f (m + n)))

-- one that holds is enough
or_true_right : (a : Bool) → a || true ≡ true
or_true_right true = refl
or_true_right false = refl

pub any_some : (n i : ℕ) (f : ℕ → Bool) → i < n → f i ≡ true → any_below n f ≡ true
unfolding any_below
any_some zero i f h e = absurd (omega arith)
any_some (suc n) i f h e = go (λ l. any_some n i f l e) (dec_lt i n)
  where
    go : (i < n → any_below n f ≡ true) → Dec (i < n) → any_below n f || f n ≡ true
    go before (yes l) = rw (before l)
    go before (no m) = let last : i ≡ n = omega arith in rw (ap f (sym last) ∙ e) (or_true_right (any_below n f))

-- so where none holds, each fails
pub any_at : (n i : ℕ) (f : ℕ → Bool) → i < n → any_below n f ≡ false → f i ≡ false
any_at n i f h e = by_case (f i) refl
  where
    by_case : (t : Bool) → f i ≡ t → f i ≡ false
    by_case true d = absurd (true≢false (sym (any_some n i f h d) ∙ e))
    by_case false d = d
