-- What is said of each of n places, one after the other: lists joined, and the refusal of the earliest at fault. Assumes nothing.
use mathlib.Core.Path.{◌≡◌, refl, sym, ap, ap₂, ◌∙◌}
use mathlib.Core.List.{List, [], ◌++◌}
use mathlib.Core.Logic.{◌⊎◌, inl, inr}
use Prim.Native.Nat.{ℕ, zero, suc, ◌+◌, ◌*◌, ◌≤◌, ◌<◌}
use native.Mathlib.Decide.{ℕ_discrete}
use native.Mathlib.Nat.{mul-le-mul_right, eq-or-lt_of_le}
use native.Mathlib.Omega.{arith}
use lib.ListN.{length, get_or, length-append, get_or-append}
use lib.Seq.{get_or-append-add}
use Rattle.answer.specs.Refusal.{◌or_else◌}
use Rattle.answer.proofs.Laws.{or_none, or_both, or_given, or_later}
use Rattle.score_log.specs.Log.{earliest, joined}

-- ---- lists, one behind the other

pub joined_same : (n : ℕ) (g h : ℕ → List ℕ) → ((k : ℕ) → k < n → g k ≡ h k) → joined n g ≡ joined n h
unfolding joined
joined_same zero g h e = refl
joined_same (suc n) g h e = ap₂ (λ (a b : List ℕ). a ++ b) (joined_same n g h (λ k l. e k (omega arith))) (e n (omega arith))

pub joined_none : (g : ℕ → List ℕ) → joined 0 g ≡ []
unfolding joined
joined_none g = refl

pub joined_next : (n : ℕ) (g : ℕ → List ℕ) → joined (suc n) g ≡ joined n g ++ g n
unfolding joined
joined_next n g = refl

-- lists of one length, one behind the other: element j of list k
module _ (w : ℕ) (g : ℕ → List ℕ) (long : (k : ℕ) → length (g k) ≡ w) where
  pub joined_long : (n : ℕ) → length (joined n g) ≡ n * w
  unfolding joined
  joined_long zero = omega arith
  joined_long (suc n) = omega (arith, length-append (joined n g) (g n), joined_long n, long n)

  pub joined_place : (n k j : ℕ) → k < n → j < w → get_or (joined n g) (k * w + j) 0 ≡ get_or (g k) j 0
  unfolding joined
  joined_place zero k j l h = absurd (omega arith)
  joined_place (suc n) k j l h = here (joined_place n k j) (ℕ_discrete k n)
    where
      here : (k < n → j < w → get_or (joined n g) (k * w + j) 0 ≡ get_or (g k) j 0) → Dec (k ≡ n) → get_or (joined n g ++ g n) (k * w + j) 0 ≡ get_or (g k) j 0
      here before (yes is) =
          rw is (ap (λ (m : ℕ). get_or (joined n g ++ g n) (m + j) 0) (sym (joined_long n)) ∙ get_or-append-add (joined n g) (g n) j 0)
      here before (no isn't) =
          let less : k < n = omega arith in
          get_or-append (joined n g) (g n) 0 (k * w + j) (omega (arith, joined_long n, mul-le-mul_right w less)) ∙ before less h

-- ---- the earliest at fault

pub earliest_same : (n : ℕ) (f g : ℕ → ℕ) → ((k : ℕ) → k < n → f k ≡ g k) → earliest n f ≡ earliest n g
unfolding earliest
earliest_same zero f g e = refl
earliest_same (suc n) f g e = ap₂ (λ (a b : ℕ). a or_else b) (earliest_same n f g (λ k l. e k (omega arith))) (e n (omega arith))

pub earliest_next : (n : ℕ) (f : ℕ → ℕ) → earliest n f ≡ 0 → f n ≡ 0 → earliest (suc n) f ≡ 0
unfolding earliest
earliest_next n f e d = or_both (earliest n f) (f n) e d

-- where no place is at fault, none is the earliest
pub earliest_none : (n : ℕ) (f : ℕ → ℕ) → ((k : ℕ) → k < n → f k ≡ 0) → earliest n f ≡ 0
unfolding earliest
earliest_none zero f e = refl
earliest_none (suc n) f e = earliest_next n f (earliest_none n f (λ k l. e k (omega arith))) (e n (omega arith))

-- and where there is no earliest, no place is
pub earliest_each : (n : ℕ) (f : ℕ → ℕ) → earliest n f ≡ 0 → (k : ℕ) → k < n → f k ≡ 0
unfolding earliest
earliest_each zero f e k l = absurd (omega arith)
earliest_each (suc n) f e k l = here (or_none (earliest n f) (f n) e) (earliest_each n f) (ℕ_discrete k n)
  where
    here : (earliest n f ≡ 0) × (f n ≡ 0) → (earliest n f ≡ 0 → (k : ℕ) → k < n → f k ≡ 0) → Dec (k ≡ n) → f k ≡ 0
    here (before, last) each (yes is) = rw is last
    here (before, last) each (no isn't) = each before k (omega arith)

-- the first at fault speaks for all that follow
pub earliest_given : (fault : ℕ → ℕ) (r n m : ℕ) → n < m → earliest n fault ≡ 0 → r ≡ fault n → (r ≡ 0 → ⊥) → r ≡ earliest m fault
unfolding earliest
earliest_given fault r n zero l e d h = absurd (omega arith)
earliest_given fault r n (suc m) l e d h = let most : n ≤ m = omega arith in by (λ s. earliest_given fault r n m s e d h) (eq-or-lt_of_le most)
  where
    by : (n < m → r ≡ earliest m fault) → (n ≡ m) ⊎ (n < m) → r ≡ earliest m fault or_else fault m
    by f (inl s) = or_later r (earliest m fault) (fault m) (sym e ∙ ap (λ (k : ℕ). earliest k fault) s) (d ∙ ap fault s)
    by f (inr s) = or_given r (earliest m fault) (fault m) (f s) h
