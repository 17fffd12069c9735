-- What the room holds after a row: that row in its place, and the other rows as they were. Assumes nothing.
use mathlib.Core.List.{List}
use mathlib.Core.Path.{◌≡◌, ap, ◌∙◌}
use Prim.Native.Nat.{ℕ, ◌+◌, ◌-◌, ◌*◌, ◌%◌, ◌≤◌, ◌<◌}
use native.Mathlib.Nat.{mul-le-mul_right, add-mul}
use native.Mathlib.Omega.{arith}
use borrow.Author.Tests.{le-leb, lt-leb, lt-ltb, le-ltb}
use lib.ListN.{length, get_or}
use Rattle.plane.specs.Blocks.{block_side}
use Rattle.plane.specs.Planes.{sample_at}
use Rattle.sums.specs.Places.{in_run}
use Rattle.sums.proofs.WrittenLaws.{written_at}
use Rattle.strips.specs.declared.carry.Carry.{Carry}
use Rattle.strips.specs.Rows.{Strip, laid, room_long, room_row}
use Rattle.strips.proofs.RowLaws.{length_laid}

-- ---- a place of a list after n numbers were laid from `at` on

module _ (at n : ℕ) (f : ℕ → ℕ) (s : List ℕ) where
  pub laid_here : (i : ℕ) → i < n → at + i < length s → get_or (laid at n f s) (at + i) 0 ≡ f i
  laid_here i h l =
      let back : at + i - at ≡ i = omega arith in
      written_at (in_run at n) (λ (k : ℕ). f (k - at)) s (at + i) l
      ∙ rw (le-leb at (at + i) (omega arith), lt-ltb (at + i) (at + n) (omega arith)) (ap f back)

  pub laid_before : (k : ℕ) → k < at → k < length s → get_or (laid at n f s) k 0 ≡ get_or s k 0
  laid_before k h l = written_at (in_run at n) (λ (k : ℕ). f (k - at)) s k l ∙ rw (lt-leb at k h)

  pub laid_behind : (k : ℕ) → at + n ≤ k → k < length s → get_or (laid at n f s) k 0 ≡ get_or s k 0
  laid_behind k h l =
      written_at (in_run at n) (λ (k : ℕ). f (k - at)) s k l ∙ rw (le-leb at k (omega arith), le-ltb k (at + n) h)

-- ---- the room

-- sample x of row i, of rows of w samples
place : (i x w m : ℕ) → i < m → x < w → i * w + x < m * w
place i x w m h l = omega (arith, mul-le-mul_right w h, add-mul i 1 w)

module _ (c : Carry) (s : Strip) (j y : ℕ) (room : List ℕ) (enough : room_long c ≤ length room) where
  w : ℕ
  w = c.width

  slot : ℕ
  slot = y % block_side

  f : ℕ → ℕ
  f = sample_at s.first s.a j

  g : ℕ → ℕ
  g = sample_at s.second s.b j

  one : List ℕ
  unfolding w slot f
  one = laid (slot * w) w f room

  long : length one ≡ length room
  unfolding one
  long = length_laid (slot * w) w f room

  -- the first frame's rows: the new one, and those above it
  pub first_new : (x : ℕ) → x < c.width → get_or (room_row c s j y room) (y % block_side * c.width + x) 0 ≡ sample_at s.first s.a j x
  unfolding w slot f g one
  first_new x h =
      let in-first : slot * w + x < 8 * w = place slot x w 8 (omega arith) h in
      let second : 8 * w ≤ (8 + slot) * w = mul-le-mul_right w (omega arith) in
      laid_before ((8 + slot) * w) w g one (slot * w + x) (omega arith) (omega (arith, long))
      ∙ laid_here (slot * w) w f room x h (omega arith)

  pub first_old : (i x : ℕ) → i < y % block_side → x < c.width → get_or (room_row c s j y room) (i * c.width + x) 0 ≡ get_or room (i * c.width + x) 0
  unfolding w slot f g one
  first_old i x l h =
      let above : i * w + x < slot * w = place i x w slot l h in
      let rest : slot * w ≤ 8 * w = mul-le-mul_right w (omega arith) in
      let second : 8 * w ≤ (8 + slot) * w = mul-le-mul_right w (omega arith) in
      laid_before ((8 + slot) * w) w g one (i * w + x) (omega arith) (omega (arith, long))
      ∙ laid_before (slot * w) w f room (i * w + x) above (omega arith)

  -- and the second frame's
  pub second_new : (x : ℕ) → x < c.width → get_or (room_row c s j y room) ((block_side + y % block_side) * c.width + x) 0 ≡ sample_at s.second s.b j x
  unfolding w slot f g one
  second_new x h =
      let inside : (8 + slot) * w + x < 16 * w = place (8 + slot) x w 16 (omega arith) h in
      laid_here ((8 + slot) * w) w g one x h (omega (arith, long))

  pub second_old : (i x : ℕ) → i < y % block_side → x < c.width
      → get_or (room_row c s j y room) ((block_side + i) * c.width + x) 0 ≡ get_or room ((block_side + i) * c.width + x) 0
  unfolding w slot f g one
  second_old i x l h =
      let above : (8 + i) * w + x < (8 + slot) * w = place (8 + i) x w (8 + slot) (omega arith) h in
      let inside : (8 + slot) * w ≤ 16 * w = mul-le-mul_right w (omega arith) in
      let behind : slot * w + w ≤ (8 + i) * w = omega (arith, mul-le-mul_right w (slot_below slot i (omega arith)), add-mul slot 1 w) in
      laid_before ((8 + slot) * w) w g one ((8 + i) * w + x) above (omega (arith, long))
      ∙ laid_behind (slot * w) w f room ((8 + i) * w + x) (omega arith) (omega arith)
    where
      slot_below : (t i : ℕ) → t < 8 → t + 1 ≤ 8 + i
      slot_below t i h = omega arith
