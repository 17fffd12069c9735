-- The forward update, one entry at a time, and within the first entries of a longer list.
-- Assumes nothing.
use mathlib.Core.Path.{◌≡◌, refl, ap}
use mathlib.Core.Bool.{Bool, true, false}
use mathlib.Core.List.{List, [], ◌∷◌, ◌++◌}
use Prim.Native.Nat.{ℕ, zero, suc, ◌+◌, ◌<◌, min}
use native.Mathlib.Nat.{zero-min, min-zero, suc-min-suc}
use native.Mathlib.Numerals.{add-one}
use native.Mathlib.Omega.{arith}
use lib.Dec.{eqb}
use borrow.Author.Tests.{ne_eqb}
use lib.ListN.{length, take, drop, get_or, set}
use lib.Ieee.{Float}
use Rattle.score.specs.declared.ScenecutResult.{ScenecutResult}
use Rattle.score.specs.Scores.{with_forward, updated_from, updated_of}

-- whether place i of a list whose first has the mark b has it
abbrev mark_at : Bool → ℕ → Bool
mark_at b zero = b
mark_at b (suc i) = false

unmarked : (i : ℕ) → mark_at false i ≡ false
unmarked zero = refl
unmarked (suc i) = refl

module _ (new : Float) (z : ScenecutResult) where
  more_from : (b : Bool) (i : ℕ) (l : List ScenecutResult) → i < length l
      → updated_from b (suc i) new l ≡ set (updated_from b i new l) i (with_forward (mark_at b i) new (get_or (updated_from b i new l) i z))
  more_from b i [] h = absurd (omega arith)
  more_from b zero (e ∷ es) h = refl
  more_from b (suc i) (e ∷ es) h =
      ap (λ (l : List ScenecutResult). with_forward b new e ∷ l) (rw unmarked at (more_from false i es (omega arith)))

  mark : (i : ℕ) → eqb i 0 ≡ mark_at true i
  mark zero = refl
  mark (suc i) = ne_eqb (suc i) 0 (λ e. omega arith)

  -- one entry more is updated
  pub update_more : (i : ℕ) (l : List ScenecutResult) → i < length l
      → updated_of (i + 1) new l ≡ set (updated_of i new l) i (with_forward (eqb i 0) new (get_or (updated_of i new l) i z))
  update_more i l h = rw (add-one, mark) (more_from true i l h)

pub update_long : (new : Float) (b : Bool) (n : ℕ) (l : List ScenecutResult) → length (updated_from b n new l) ≡ length l
update_long new b zero l = refl
update_long new b (suc n) [] = refl
update_long new b (suc n) (e ∷ es) = ap suc (update_long new false n es)

-- the first n of a list, updated, are the first n of the list updated
pub update_take : (new : Float) (b : Bool) (o n : ℕ) (l : List ScenecutResult) → take n (updated_from b o new l) ≡ updated_from b o new (take n l)
update_take new b zero n l = refl
update_take new b (suc o) zero l = refl
update_take new b (suc o) (suc n) [] = refl
update_take new b (suc o) (suc n) (e ∷ es) = ap (λ (l : List ScenecutResult). with_forward b new e ∷ l) (update_take new false o n es)

-- a list whose first n are updated, in front of the rest
pub update_front : (new : Float) (b : Bool) (n : ℕ) (l : List ScenecutResult) → updated_from b (length (take n l)) new (take n l) ++ drop n l ≡ updated_from b n new l
update_front new b zero l = refl
update_front new b (suc n) [] = refl
update_front new b (suc n) (e ∷ es) = ap (λ (l : List ScenecutResult). with_forward b new e ∷ l) (update_front new false n es)

-- all of them, if there are fewer
pub update_min : (new : Float) (b : Bool) (o : ℕ) (l : List ScenecutResult) → updated_from b (min o (length l)) new l ≡ updated_from b o new l
update_min new b zero l = rw zero-min
update_min new b (suc o) [] = rw min-zero
update_min new b (suc o) (e ∷ es) = rw suc-min-suc (ap (λ (l : List ScenecutResult). with_forward b new e ∷ l) (update_min new false o es))
