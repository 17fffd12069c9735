-- A list that is filled from its first place on, list behind list. Assumes nothing.
use mathlib.Core.Path.{◌≡◌, refl, sym, ap, ◌∙◌}
use mathlib.Core.List.{List, [], ◌∷◌, ◌++◌}
use Prim.Native.Nat.{ℕ, suc, ◌*◌, ◌≤◌, ◌<◌}
use native.Mathlib.Nat.{zero-add}
use native.Mathlib.Omega.{arith}
use lib.ListN.{length, set}
use Rattle.octets.specs.Octets.{overwritten}
use Rattle.octets.proofs.Over.{over_none, over_long, over_join, over_one}
use Rattle.score_log.specs.Log.{joined}
use Rattle.score_log.proofs.Each.{joined_none, joined_next, joined_long}

-- what a list holds that held `old`, and how long it is
pub record Filled (old now new : List ℕ) : Type 0 where
  pub long : length now ≡ length old
  pub is : now ≡ overwritten 0 new old

module _ (g : ℕ → List ℕ) (old : List ℕ) where
  pub filled_none : Filled old old (joined 0 g)
  filled_none = record { long = refl; is = sym (ap (λ (l : List ℕ). overwritten 0 l old) (joined_none g) ∙ over_none 0 old) }

  module _ (w : ℕ) (each : (k : ℕ) → length (g k) ≡ w) (now : List ℕ) (k : ℕ) (f : Filled old now (joined k g)) (fits : suc k * w ≤ length old) where
    -- the next list goes behind those that are there
    pub filled_more : (xs : List ℕ) → xs ≡ g k → Filled old (overwritten (k * w) xs now) (joined (suc k) g)
    filled_more xs e =
        let long : length (joined k g) ≡ k * w = joined_long w g each k in
        let wide : length xs ≡ w = ap length e ∙ each k in
        record {
          long = over_long (k * w) xs now (omega (arith, f.long)) ∙ f.long;
          is =
              ap (overwritten (k * w) xs) f.is
              ∙ over_join 0 (k * w) (joined k g) xs old (omega arith) (sym (zero-add (length (joined k g)) ∙ long))
              ∙ ap (λ (l : List ℕ). overwritten 0 l old) (ap (λ (l : List ℕ). joined k g ++ l) e ∙ sym (joined_next k g));
        }

-- the same for lists of one
pub filled_one : (g : ℕ → List ℕ) (old : List ℕ) → ((k : ℕ) → length (g k) ≡ 1) → (now : List ℕ) (k : ℕ) → Filled old now (joined k g) → k < length old
    → (x : ℕ) → x ∷ [] ≡ g k → Filled old (set now k x) (joined (suc k) g)
filled_one g old each now k f l x e =
    let one : k * 1 ≡ k = omega arith in
    let here : Filled old (overwritten (k * 1) (x ∷ []) now) (joined (suc k) g) = filled_more g old 1 each now k f (omega arith) (x ∷ []) e in
    rw (over_one k now x (omega (arith, f.long))) (rw one at here)
