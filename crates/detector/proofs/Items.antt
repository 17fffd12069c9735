-- The items of a set: scoring k of them makes a deque k entries longer, with their numbers in front, and none is one that refusal 10
-- forbids.
-- Assumes nothing.
use mathlib.Core.Path.{◌≡◌, refl, sym, ap, ◌∙◌}
use mathlib.Core.Bool.{Bool, true, false}
use mathlib.Core.List.{List, ◌∷◌, ◌++◌}
use Prim.Native.Nat.{ℕ, zero, suc, ◌+◌, ◌<◌}
use native.Mathlib.Omega.{arith}
use lib.ListN.{length, get_or}
use lib.Ieee.{Float, of_bits, lt, le, eq}
use Rattle.score.specs.declared.ScenecutResult.{ScenecutResult}
use Rattle.score.specs.declared.Measure.{Measure}
use Rattle.score.specs.Costs.{forbidden}
use Rattle.score.specs.Numbers.{numbers_of}
use Rattle.score.proofs.Scored.{Sound, score_long_lem, score_sound}
use Rattle.score.proofs.PairLaws.{numbers_scored}
use Rattle.score.proofs.Order.{InOrder, order_none, order_next}
use Rattle.detector.specs.Rules.{again_of, items_of}
use Rattle.detector.specs.Numbers.{pairs_from}

module _ (fast : Bool) (level : Float) (o n : ℕ) (item : ℕ → Measure) (l : List ScenecutResult) where
  pub items_long : (k : ℕ) → length (items_of fast level o n item k l) ≡ k + length l
  items_long zero = omega arith
  items_long (suc k) =
      let h = items_long k in
      score_long_lem level o (n + k) (item k) (items_of fast level o n item k l) fast ∙ omega arith

  pub items_sound : (k : ℕ) → ((i : ℕ) → i < k → forbidden (item i).inter ≡ false) → Sound l → Sound (items_of fast level o n item k l)
  items_sound zero f h = h
  items_sound (suc k) f h =
      score_sound level o (n + k) (item k) (items_of fast level o n item k l) fast (f k (omega arith)) (items_sound k (λ i g. f i (omega arith)) h)

  pub items_numbers : (k : ℕ) → numbers_of (items_of fast level o n item k l) ≡ pairs_from n k ++ numbers_of l
  items_numbers zero = refl
  items_numbers (suc k) =
      numbers_scored fast level o (n + k) (item k) (items_of fast level o n item k l) ∙ ap (λ (ns : List ℕ). (n + k) ∷ ns) (items_numbers k)

-- k pairs from n on: their front, and that they fall by one
pub pairs_front : (n k : ℕ) → 0 < length (pairs_from n k) → suc (get_or (pairs_from n k) 0 0) ≡ n + k
pairs_front n zero h = absurd (omega arith)
pairs_front n (suc k) h = omega arith

pub pairs_more : (n k : ℕ) (rest : List ℕ) → 0 < k → pairs_from n (suc k) ++ rest ≡ suc (get_or (pairs_from n k ++ rest) 0 0) ∷ (pairs_from n k ++ rest)
pairs_more n zero rest h = absurd (omega arith)
pairs_more n (suc k) rest h = let e : n + suc k ≡ suc (n + k) = omega arith in rw e

pub pairs_long : (n k : ℕ) → length (pairs_from n k) ≡ k
pairs_long n zero = refl
pairs_long n (suc k) = ap suc (pairs_long n k)

pub pairs_order : (n k : ℕ) → InOrder 0 (pairs_from n k)
pairs_order n zero = order_none 0
pairs_order n (suc k) = order_next 0 (n + k) (pairs_from n k) (λ h. sym (pairs_front n k h)) (pairs_order n k)

-- the second time the cost is 0, which is allowed
pub again_sound : (again : Bool) (m : Measure) → forbidden m.inter ≡ false → forbidden (again_of again m).inter ≡ false
unfolding of_bits lt le eq
again_sound true m h = refl
again_sound false m h = h
