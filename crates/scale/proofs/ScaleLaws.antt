-- The factor is never 0, and at most 32. Assumes nothing.
use mathlib.Core.Bool.{Bool, true, false, cond}
use mathlib.Core.Path.{◌≡◌, refl}
use Prim.Native.Nat.{ℕ, min, ◌≤◌, ◌<◌}
use native.Mathlib.Omega.{arith}
use lib.Dec.{leb, ltb, eqb}
use borrow.Author.Tests.{ltb-true, ltb-false}
use Rattle.scale.specs.Scale.{factor_by, scale_of, small_edge, mode_fast}

-- what holds of two numbers holds of either
abbrev InTable : ℕ → Type 0
InTable n = (0 < n) × (n ≤ 32)

either : (b : Bool) (m n : ℕ) → InTable m → InTable n → InTable (cond b m n)
either true m n h k = h
either false m n h k = k

in_table : (width height mode : ℕ) → InTable (scale_of width height mode)
unfolding scale_of factor_by
in_table width height mode =
    let e = small_edge width height in
    let one : InTable 1 = (omega arith, omega arith) in
    either (eqb mode mode_fast) (factor_by e) 1
    (either (leb e 240) 1 _ one
    (either (leb e 480) 2 _ (omega arith, omega arith)
    (either (leb e 720) 4 _ (omega arith, omega arith)
    (either (leb e 1080) 8 _ (omega arith, omega arith)
    (either (leb e 1600) 16 32 (omega arith, omega arith) (omega arith, omega arith))))))
    one

pub some_factor : (width height mode : ℕ) → 0 < scale_of width height mode
some_factor width height mode = (in_table width height mode).0

pub factor_most : (width height mode : ℕ) → scale_of width height mode ≤ 32
factor_most width height mode = (in_table width height mode).1

-- the smaller side is the lesser of the two
pub smaller : (width height : ℕ) → min width height ≡ small_edge width height
smaller width height = by_case (ltb width height) (ltb-true width height) (ltb-false width height)
  where
    by_case : (t : Bool) → (t ≡ true → width < height) → (t ≡ false → height ≤ width) → min width height ≡ cond t width height
    by_case true is isn't = omega (arith, is refl)
    by_case false is isn't = omega (arith, isn't refl)
