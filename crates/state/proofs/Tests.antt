-- What a test that fails, or holds, says of its parts, and back.
-- Assumes nothing.
use mathlib.Core.Path.{◌≡◌, refl, ap}
use mathlib.Core.Bool.{Bool, true, false, not, ◌&&◌, ◌||◌}
use mathlib.Core.List.{List, [], ◌∷◌}
use Prim.Native.Nat.{ℕ, ◌<◌}
use native.Mathlib.Omega.{arith}
use lib.Dec.{eqb}
use borrow.Author.Tests.{eqb-true, not-false}
use Rattle.std.specs.List.{list_any}
use Rattle.score.specs.Search.{any_of}
use Rattle.answer.proofs.Laws.{or_no}

-- a disjunction that fails
pub or_left : (a b : Bool) → a || b ≡ false → a ≡ false
or_left a b e = (or_no a b e).0

pub or_right : (a b : Bool) → a || b ≡ false → b ≡ false
or_right a b e = (or_no a b e).1

-- a conjunction that fails where its first part holds
pub and_right : (a b : Bool) → a && b ≡ false → a ≡ true → b ≡ false
and_right true b e h = e
and_right false b e h = let z : ◌≡◌ {A = ℕ} 0 1 = cc in absurd (omega arith)

pub not_both : (a b : Bool) → (a ≡ true → b ≡ false) → a && b ≡ false
not_both true b f = f refl
not_both false b f = refl

-- a conjunction that holds
pub and_both : (a b : Bool) → a && b ≡ true → (a ≡ true) × (b ≡ true)
and_both true b e = (refl, e)
and_both false b e = let z : ◌≡◌ {A = ℕ} 0 1 = cc in absurd (omega arith)

pub not_eqb : (m n : ℕ) → not (eqb m n) ≡ false → m ≡ n
not_eqb m n e = eqb-true m n (not-false _ e)

pub positive : (n : ℕ) → (n ≡ 0 → ⊥) → 0 < n
positive n h = omega (arith, h)

-- the library's search is this repository's
pub any_same : {A : Type 0} (test : A → Bool) (l : List A) → list_any test l ≡ any_of test l
unfolding any_of
any_same test [] = refl
any_same test (x ∷ l) = ap (λ (b : Bool). test x || b) (any_same test l)
