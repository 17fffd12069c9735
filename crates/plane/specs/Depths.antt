-- A word holds the samples of the depths that suit it.
use Rattle.std.specs.Prelude.{◌≡◌, ℕ, ◌+◌, ◌≤◌, ◌^◌, Bool, true, false, ◌||◌, eqb, refl}
use Rattle.std.proofs.Common.{arith}
use borrow.Author.Tests.{eqb-true}
use Rattle.sums.specs.Needs.{byte_most, word_most}
use Rattle.plane.specs.Planes.{byte, deep, suits}

-- a depth of 16 bits is 10 or 12
pub deep_cases : (P : ℕ → Type 0) → P 10 → P 12 → (depth : ℕ) → suits deep depth ≡ true → P depth
deep_cases P ten twelve depth e = go (eqb depth 10) (eqb-true depth 10) e
  where
    go : (t : Bool) → (t ≡ true → depth ≡ 10) → t || eqb depth 12 ≡ true → P depth
    go true is d = rw (is refl) ten
    go false is d = rw (eqb-true depth 12 d) twelve

pub byte_holds : (depth : ℕ) → suits byte depth ≡ true → 2 ^ depth ≤ byte_most + 1
byte_holds depth e = rw (eqb-true depth 8 e) (omega arith)

pub deep_holds : (depth : ℕ) → suits deep depth ≡ true → 2 ^ depth ≤ word_most + 1
deep_holds = deep_cases (λ (n : ℕ). 2 ^ n ≤ word_most + 1) (omega arith) (omega arith)
