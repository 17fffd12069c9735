-- Where the whole blocks of a plane lie, and refusal 19 where there is none. Assumes nothing.
use mathlib.Core.List.{List}
use mathlib.Core.Path.{◌≡◌, ap}
use Prim.Native.Nat.{ℕ, ◌+◌, ◌*◌, ◌≤◌, ◌<◌}
use native.Mathlib.Nat.{pos_of_ne-zero, add-mul, mul-le-mul}
use native.Mathlib.Omega.{arith}
use borrow.Author.Tests.{lt-ltb, le-leb, eqb-false, ne_eqb}
use lib.Dec.{eqb}
use lib.ListN.{get_or}
use Rattle.answer.specs.Refusal.{◌or_else◌}
use Rattle.answer.proofs.Laws.{or_none, or_given, or_later, passed}
use Rattle.plane.specs.declared.Plane.{Plane}
use Rattle.plane.specs.Blocks.{block_side, blocks_across, blocks_down, block_count, block_sample, blocks_start, block_row, block_fault, blocks_fault}
use Rattle.plane.specs.Needs.{block_start}
use Rattle.plane.specs.Planes.{Word, max_side, row_end, word_fault, plane_fault, shapes_fault}
use Rattle.plane.proofs.PlaneLaws.{Lies, pair, row_in}
use Rattle.plane.proofs.SampleLaws.{by_shapes, shapes_alone}
use Rattle.plane.proofs.SquareLaws.{square_place}

-- how many there are at most, which any integer of 64 bits holds
pub count_most : (p : Plane) (n : ℕ) → Lies p n → block_count p ≤ max_side * max_side
count_most p n l =
    let down : blocks_down p ≤ max_side = omega arith in
    let across : blocks_across p ≤ max_side = omega arith in
    mul-le-mul down across

-- where a row of whole blocks starts, in a plane that is not refused
pub row_starts : (p : Plane) (n y : ℕ) → Lies p n → y < blocks_down p → block_row p n y ≡ blocks_start p y
unfolding block_row
row_starts p n y l hy =
    rw (lt-ltb y (blocks_down p) hy, le-leb (row_end p (y * block_side)) n (row_in p n (y * block_side) l (omega arith)))

-- row j of a block lies within the samples
pub block_in : (p : Plane) (n y x j : ℕ) → Lies p n → y < blocks_down p → x < blocks_across p → j < block_side → block_start p y x + j * p.stride + block_side ≤ n
block_in p n y x j l hy hx hj =
    omega (arith, row_in p n (y * block_side + j) l (omega arith), add-mul (y * block_side) j p.stride)

-- the same from where the row of blocks was found to start
pub block_from : (p : Plane) (n y start : ℕ) → Lies p n → y < blocks_down p → start ≡ block_row p n y
    → (x : ℕ) → x < blocks_across p → (j : ℕ) → j < block_side → start + x * block_side + j * p.stride + block_side ≤ n
block_from p n y start l hy e x hx j hj = omega (arith, row_starts p n y l hy, block_in p n y x j l hy hx hj)

-- a sample of a block, by its place
pub block_place : (p : Plane) (s : List ℕ) (y x j i : ℕ) → block_sample p s y x j i ≡ get_or s (block_start p y x + j * p.stride + i) 0
block_place = square_place block_side

-- ---- 19

-- one block is enough, and less is refused
pub some_block : (count : ℕ) → block_fault count ≡ 0 → 0 < count
unfolding block_fault
some_block count e = pos_of_ne-zero (eqb-false count 0 (passed 18 (eqb count 0) e))

pub block_passes : (count : ℕ) → 0 < count → 0 ≡ block_fault count
unfolding block_fault
block_passes count h = rw (ne_eqb count 0 (λ e. omega arith))

module _ (word : Word) (depth : ℕ) (p : Plane) (n : ℕ) (q : Plane) (m : ℕ) where
  -- their number fits, where it is looked at
  pub shapes_count : shapes_fault word depth p n q m ≡ 0 → block_count p ≤ max_side * max_side
  shapes_count e = count_most p n (pair p n q m (by_shapes word depth p n q m e).1).first

  -- the shapes come first
  pub shapes_first : (r : ℕ) → r ≡ shapes_fault word depth p n q m → (r ≡ 0 → ⊥) → r ≡ blocks_fault word depth p n q m
  unfolding blocks_fault
  shapes_first r e h = or_given r _ _ e h

  pub blocks_next : (r : ℕ) → 0 ≡ shapes_fault word depth p n q m → r ≡ block_fault (block_count p) → r ≡ blocks_fault word depth p n q m
  unfolding blocks_fault
  blocks_next r e d = or_later r _ _ e d

  -- and where nothing is refused there is a block
  pub by_blocks : blocks_fault word depth p n q m ≡ 0 → (shapes_fault word depth p n q m ≡ 0) × (0 < block_count p)
  unfolding blocks_fault
  by_blocks e =
      let t = or_none (shapes_fault word depth p n q m) (block_fault (block_count p)) e in (t.0, some_block (block_count p) t.1)

-- a plane beside itself is refused as it is alone
pub blocks_alone : (word : Word) (depth : ℕ) (p : Plane) (n : ℕ)
    → blocks_fault word depth p n p n ≡ (word_fault word depth or_else plane_fault p n) or_else block_fault (block_count p)
unfolding blocks_fault
blocks_alone word depth p n = ap (λ (f : ℕ). f or_else block_fault (block_count p)) (shapes_alone word depth p n)
