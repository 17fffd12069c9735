-- What a caller of the reduction may rely on is true. Assumes nothing.
use mathlib.Core.Bool.{Bool, true, false, cond, ◌||◌}
use mathlib.Core.Path.{◌≡◌, refl, sym, ap, ◌∙◌}
use Prim.Native.Nat.{ℕ, ◌+◌, ◌-◌, ◌*◌, ◌/◌, ◌%◌, ◌≤◌, ◌<◌}
use native.Mathlib.Omega.{arith}
use borrow.Author.Tests.{le-ltb, leb-false, ltb-true, ltb-false, eq-eqb}
use lib.Arith.{digits_div, digits_mod}
use lib.Dec.{ltb, leb, eqb}
use lib.ListN.{length, get_or}
use Rattle.answer.specs.Answer.{Answer, gives, refused, answered}
use Rattle.answer.proofs.Laws.{or_no, passed, answer_cases}
use Rattle.plane.specs.Planes.{bad_side}
use Rattle.plane.proofs.PlaneLaws.{lies, row_in, good_side}
use Rattle.scale.specs.Scale.{factor_by, scale_of, size_fault, small_edge, mode_fast, mode_standard}
use Rattle.sums.specs.Places.{in_rows}
use Rattle.sums.proofs.PlaceLaws.{rows_hold}
use Rattle.sums.proofs.WrittenLaws.{written_at}
use Rattle.reduce.specs.Promises.{MeansOfSquares, TakesTheScale}
use Rattle.reduce.specs.Reduce.{square_mean, row_at, column_at, bad_factor, too_small, not_reduced}

pub means_of_squares : MeansOfSquares
means_of_squares f p s q r y x e h i =
    let l = lies q (length r) e in
    let k = q.origin + y * q.stride + x in
    let inside : x < q.stride = omega (arith, l.strides) in
    let room : k < length r = omega (arith, row_in q (length r) y l h) in
    let seen : in_rows q.origin q.stride q.height q.width k ≡ true = rows_hold q.origin q.stride q.height q.width y x h i in
    let place : k - q.origin ≡ y * q.stride + x = omega arith in
    let row : row_at q k ≡ y = ap (λ (j : ℕ). j / q.stride) place ∙ digits_div y inside in
    let column : column_at q k ≡ x = ap (λ (j : ℕ). j % q.stride) place ∙ digits_mod y inside in
    written_at (in_rows q.origin q.stride q.height q.width) (λ (j : ℕ). square_mean f p s (row_at q j) (column_at q j)) r k room
    ∙ ap (λ (t : Bool). cond t (square_mean f p s (row_at q k) (column_at q k)) (get_or r k 0)) seen
    ∙ rw (row, column)

-- a factor that is taken, and no side of at least so much is below it
record Taken (edge f : ℕ) : Type 0 where
  good : bad_factor f ≡ false
  small : f ≤ edge

-- of two numbers, by the test that chooses
choose : (edge : ℕ) (t : Bool) (a b : ℕ) → (t ≡ true → Taken edge a) → (t ≡ false → Taken edge b) → Taken edge (cond t a b)
choose edge true a b f g = f refl
choose edge false a b f g = g refl

taken : (edge f : ℕ) → bad_factor f ≡ false → f ≤ edge → Taken edge f
taken edge f e h = record { good = e; small = h }

by_edge : (edge : ℕ) → 0 < edge → Taken edge (factor_by edge)
unfolding factor_by bad_factor
by_edge edge some =
    choose edge (leb edge 240) 1 _ (λ t. taken edge 1 refl some) (λ t1.
    choose edge (leb edge 480) 2 _ (λ t. taken edge 2 refl (omega (arith, leb-false edge 240 t1))) (λ t2.
    choose edge (leb edge 720) 4 _ (λ t. taken edge 4 refl (omega (arith, leb-false edge 480 t2))) (λ t3.
    choose edge (leb edge 1080) 8 _ (λ t. taken edge 8 refl (omega (arith, leb-false edge 720 t3))) (λ t4.
    choose edge (leb edge 1600) 16 32 (λ t. taken edge 16 refl (omega (arith, leb-false edge 1080 t4))) (λ t. taken edge 32 refl (omega (arith, leb-false edge 1600 t)))))))

-- the smaller side is neither above the one nor above the other
edge_least : (width height : ℕ) → (small_edge width height ≤ width) × (small_edge width height ≤ height)
edge_least width height = go (ltb width height) (ltb-true width height) (ltb-false width height)
  where
    go : (t : Bool) → (t ≡ true → width < height) → (t ≡ false → height ≤ width) → (cond t width height ≤ width) × (cond t width height ≤ height)
    go true f g = let h = f refl in (omega arith, omega arith)
    go false f g = let h = g refl in (omega arith, omega arith)

edge_some : (width height : ℕ) → 0 < width → 0 < height → 0 < small_edge width height
edge_some width height h i = go (ltb width height)
  where
    go : (t : Bool) → 0 < cond t width height
    go true = h
    go false = i

by_mode : (width height mode : ℕ) → 0 < width → 0 < height → Taken (small_edge width height) (scale_of width height mode)
unfolding scale_of bad_factor
by_mode width height mode h i =
    let edge = small_edge width height in
    let some = edge_some width height h i in
    choose edge (eqb mode mode_fast) (factor_by edge) 1 (λ _. by_edge edge some) (λ _. taken edge 1 refl some)

-- sides that 6 lets in are not 0
sides : (width height mode : ℕ) → size_fault width height mode ≡ 0 → (0 < width) × (0 < height)
unfolding size_fault
sides width height mode e =
    let t = or_no (bad_side width || bad_side height) (ltb mode_standard mode) (passed 5 _ e) in
    let u = or_no (bad_side width) (bad_side height) t.0 in
    ((good_side width u.0).0, (good_side height u.1).0)

-- what is answered: nothing is refused, and the two sides are the divided ones
answered_sides : (fault a b c d : ℕ) → answered {A = ℕ × ℕ} fault (a, b) ≡ gives (c, d) → (fault ≡ 0) × ((c ≡ a) × (d ≡ b))
answered_sides fault a b c d e =
    answer_cases (λ (x : Answer (ℕ × ℕ)). x ≡ gives (c, d) → (fault ≡ 0) × ((c ≡ a) × (d ≡ b))) fault (a, b) (λ none q. (none, same q)) (λ _ q. absurd (clash fault q)) e
  where
    same : ◌≡◌ {A = Answer (ℕ × ℕ)} (gives (a, b)) (gives (c, d)) → (c ≡ a) × (d ≡ b)
    same q = let pair : ◌≡◌ {A = ℕ × ℕ} (a, b) (c, d) = cc in (sym (ap (λ (x : ℕ × ℕ). x.0) pair), sym (ap (λ (x : ℕ × ℕ). x.1) pair))

    clash : (f : ℕ) → ◌≡◌ {A = Answer (ℕ × ℕ)} (refused f) (gives (c, d)) → ⊥
    clash f q = let z : ◌≡◌ {A = ℕ} 0 1 = cc in omega arith

pub takes_the_scale : TakesTheScale
unfolding too_small not_reduced
takes_the_scale width height mode p q w h e =
    let f = scale_of width height mode in
    let a = answered_sides (size_fault width height mode) (width / f) (height / f) q.width q.height e in
    let s = sides width height mode a.0 in
    let t = by_mode width height mode s.0 s.1 in
    let least = edge_least width height in (
      t.good,
      rw (le-ltb p.width f (omega (arith, t.small, least)), le-ltb p.height f (omega (arith, t.small, least))),
      rw (w, h, eq-eqb q.width (width / f) a.1.0, eq-eqb q.height (height / f) a.1.1),
    )
