-- When a plane is refused, what one that is not refused keeps to, and its rows. Assumes nothing.
use mathlib.Core.Path.{◌≡◌, refl, sym, ◌∙◌}
use mathlib.Core.Bool.{Bool, true, false, not, ◌||◌}
use mathlib.Core.List.{List}
use Prim.Native.Nat.{ℕ, ◌+◌, ◌-◌, ◌*◌, ◌/◌, ◌≤◌, ◌<◌, ◌^◌}
use native.Mathlib.Nat.{pos_of_ne-zero, mul-le-mul, mul-le-mul_right, div-lt_iff_lt-mul, le-div_iff_mul-le}
use native.Mathlib.Decide.{ℕ_discrete}
use native.Mathlib.Omega.{arith}
use lib.Dec.{ltb, leb, eqb}
use lib.ListN.{length, get_or, take, drop, length-take, length-drop}
use lib.Seq.{get_or-take, get_or-drop}
use borrow.Author.Tests.{lt-ltb, le-ltb, le-leb, lt-leb, ltb-false, leb-true, leb-false, eqb-true, eqb-false, eq-eqb, ne_eqb, not-false}
use Rattle.answer.specs.Refusal.{refusal, ◌or_else◌}
use Rattle.answer.proofs.Laws.{or_no, or_none, or_both, or_given, passed, test_given, test_first, test_passed, test_later}
use Rattle.plane.specs.declared.Plane.{Plane}
use Rattle.plane.specs.Planes.{sample_at, row_end, row_of, max_side, bad_side, bad_plane, past_samples, sizes_differ, plane_fault, sizes_fault}

-- ---- tests

-- two tests that hold together and fail together are equal
same_test : (a b c d : ℕ) → (a ≤ b → c ≤ d) → (b < a → d < c) → leb a b ≡ leb c d
same_test a b c d holds fails = go (leb a b) refl
  where
    go : (t : Bool) → leb a b ≡ t → leb a b ≡ leb c d
    go true e = e ∙ sym (le-leb c d (holds (leb-true a b e)))
    go false e = e ∙ sym (lt-leb c d (fails (leb-false a b e)))

-- ---- the room of a row, counted down so that no sum overflows

pub product_fits : (y stride : ℕ) → y < 2 ^ 16 → stride < 2 ^ 48 → y * stride < 2 ^ 64
product_fits y stride h k =
    let a : y ≤ 65535 = omega arith in
    let b : stride ≤ 281474976710655 = omega arith in
    omega (arith, mul-le-mul a b)

pub by_division : (y stride room : ℕ) → 0 < y → leb stride (room / y) ≡ leb (y * stride) room
by_division y stride room some =
    same_test stride (room / y) (y * stride) room
    (λ h. omega (arith, (le-div_iff_mul-le some).0 h))
    (λ h. omega (arith, (div-lt_iff_lt-mul some).0 h))

pub room_left : (strides origin width n : ℕ) → width ≤ n → origin ≤ n - width → leb strides (n - width - origin) ≡ leb (origin + strides + width) n
room_left strides origin width n h k =
    same_test strides (n - width - origin) (origin + strides + width) n (λ l. omega arith) (λ l. omega arith)

-- ---- one plane: its refusals in order

module _ (p : Plane) (n : ℕ) where
  pub fault_shape : bad_plane p ≡ true → 1 ≡ plane_fault p n
  unfolding plane_fault
  fault_shape e = test_first 0 _ _ e

  pub fault_short : bad_plane p ≡ false → leb (row_end p (p.height - 1)) n ≡ false → 2 ≡ plane_fault p n
  unfolding plane_fault past_samples
  fault_short e l = test_later _ _ _ _ e (test_given _ _ (lt-ltb n (row_end p (p.height - 1)) (leb-false _ _ l)))

  pub fault_none : bad_plane p ≡ false → leb (row_end p (p.height - 1)) n ≡ true → 0 ≡ plane_fault p n
  unfolding plane_fault past_samples
  fault_none e l = test_later _ _ _ _ e (test_passed _ _ (le-ltb n (row_end p (p.height - 1)) (leb-true _ _ l)))

-- what a plane keeps to that is not refused over n samples
pub record Lies (p : Plane) (n : ℕ) : Type 0 where
  pub some_width : 0 < p.width
  pub width_most : p.width ≤ max_side
  pub some_height : 0 < p.height
  pub height_most : p.height ≤ max_side
  pub strides : p.width ≤ p.stride
  pub within : row_end p (p.height - 1) ≤ n

pub good_side : (n : ℕ) → bad_side n ≡ false → (0 < n) × (n ≤ max_side)
unfolding bad_side
good_side n e =
    let t = or_no (eqb n 0) (ltb max_side n) e in
    (pos_of_ne-zero (eqb-false n 0 t.0), ltb-false max_side n t.1)

pub shape : (p : Plane) → bad_plane p ≡ false → ((0 < p.width) × (p.width ≤ max_side)) × ((0 < p.height) × (p.height ≤ max_side)) × (p.width ≤ p.stride)
unfolding bad_plane
shape p e =
    let t = or_no (bad_side p.width || bad_side p.height) (ltb p.stride p.width) e in
    let u = or_no (bad_side p.width) (bad_side p.height) t.0 in
    (good_side p.width u.0, good_side p.height u.1, ltb-false _ _ t.1)

pub lies : (p : Plane) (n : ℕ) → plane_fault p n ≡ 0 → Lies p n
unfolding plane_fault past_samples
lies p n e =
    let t = or_none (refusal 1 (bad_plane p)) (refusal 2 (past_samples p n)) e in
    let s = shape p (passed 0 (bad_plane p) t.0) in
    record {
      some_width = s.0.0;
      width_most = s.0.1;
      some_height = s.1.0;
      height_most = s.1.1;
      strides = s.2;
      within = ltb-false n (row_end p (p.height - 1)) (passed 1 (ltb n (row_end p (p.height - 1))) t.1);
    }

-- and the way back: a plane that keeps to this is not refused
pub side_passes : (n : ℕ) → 0 < n → n ≤ max_side → bad_side n ≡ false
unfolding bad_side
side_passes n some most = rw (ne_eqb n 0 (λ z. omega arith), le-ltb max_side n most) refl

pub not_refused : (p : Plane) (n : ℕ) → Lies p n → plane_fault p n ≡ 0
unfolding bad_plane
not_refused p n l =
    let sides : bad_plane p ≡ false =
    rw (side_passes p.width l.some_width l.width_most, side_passes p.height l.some_height l.height_most, le-ltb p.stride p.width l.strides) refl in
    sym (fault_none p n sides (le-leb (row_end p (p.height - 1)) n l.within))

-- ---- its rows

le_sub_one : (y h : ℕ) → y < h → y ≤ h - 1
le_sub_one y h l = omega arith

pub row_in : (p : Plane) (n y : ℕ) → Lies p n → y < p.height → row_end p y ≤ n
row_in p n y l h = omega (arith, mul-le-mul_right p.stride (le_sub_one y p.height h))

module _ (p : Plane) (s : List ℕ) (y : ℕ) (l : Lies p (length s)) (h : y < p.height) where
  row_is : row_of p s y ≡ take p.width (drop (p.origin + y * p.stride) s)
  unfolding row_of
  row_is = rw (le-leb (row_end p y) (length s) (row_in p (length s) y l h))

  pub length_row : length (row_of p s y) ≡ p.width
  length_row = let r = row_in p (length s) y l h in rw row_is (simp (length-take, length-drop) (omega arith))

  pub row_at : (x : ℕ) → x < p.width → get_or (row_of p s y) x 0 ≡ sample_at p s y x
  row_at x k = rw (row_is, get_or-take, get_or-drop)

-- ---- two planes

-- what two planes keep to that are not refused
pub record Pair (p : Plane) (n : ℕ) (q : Plane) (m : ℕ) : Type 0 where
  pub first : Lies p n
  pub second : Lies q m
  pub widths : p.width ≡ q.width
  pub heights : p.height ≡ q.height

pub pair : (p : Plane) (n : ℕ) (q : Plane) (m : ℕ) → sizes_fault p n q m ≡ 0 → Pair p n q m
unfolding sizes_fault sizes_differ
pair p n q m e =
    let f = or_none (plane_fault p n) (plane_fault q m or_else refusal 3 (sizes_differ p q)) e in
    let t = or_none (plane_fault q m) (refusal 3 (sizes_differ p q)) f.1 in
    let d = or_no (not (eqb p.width q.width)) (not (eqb p.height q.height)) (passed 2 (sizes_differ p q) t.1) in
    record {
      first = lies p n f.0;
      second = lies q m t.0;
      widths = eqb-true _ _ (not-false _ d.0);
      heights = eqb-true _ _ (not-false _ d.1);
    }

-- a plane beside itself is refused as it is alone
pub sizes_alone : (p : Plane) (n : ℕ) → sizes_fault p n p n ≡ plane_fault p n
unfolding sizes_fault sizes_differ
sizes_alone p n = go (ℕ_discrete (plane_fault p n) 0)
  where
    same : sizes_differ p p ≡ false
    same = rw (eq-eqb p.width p.width refl, eq-eqb p.height p.height refl)

    go : Dec (plane_fault p n ≡ 0) → sizes_fault p n p n ≡ plane_fault p n
    go (yes e) = or_both _ _ e (or_both _ _ e (sym (test_passed 3 _ same))) ∙ sym e
    go (no h) = sym (or_given _ _ _ refl h)

-- a plane's total, at samples of 8 bits as of 16: any integer of 64 bits holds it, a signed one too
pub total_fits : (n w k : ℕ) → n ≤ max_side → w ≤ max_side → k < 2 ^ 16 → n * (w * k) < 2 ^ 42
total_fits n w k h i j = let j' : k ≤ 65535 = omega arith in omega (arith, mul-le-mul h (mul-le-mul i j'))
