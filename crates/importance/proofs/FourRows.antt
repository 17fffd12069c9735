-- Blocks of 16 bits, by four rows at a time: eight sums of four samples, side by side. Assumes nothing.
use mathlib.Core.Bool.{Bool, true, false, ◌||◌, true≢false}
use mathlib.Core.List.{List}
use mathlib.Core.Path.{◌≡◌, refl, sym, ap, ◌∙◌}
use Prim.Native.Nat.{ℕ, ◌+◌, ◌-◌, ◌*◌, ◌≤◌, ◌<◌, ◌^◌}
use native.Mathlib.Nat.{add-mul}
use native.Mathlib.Omega.{arith}
use borrow.Author.Tests.{eqb-true, leb-false}
use lib.Dec.{eqb}
use lib.ListN.{length, get_or}
use Rattle.plane.specs.Blocks.{block_side, blocks_across, blocks_down, block_row}
use Rattle.plane.specs.Needs.{row_from, square_from}
use Rattle.plane.specs.Planes.{Word, byte, deep, suits, sample_at, rows_large}
use Rattle.plane.specs.declared.Plane.{Plane}
use Rattle.plane.proofs.BlockLaws.{block_place, row_starts}
use Rattle.plane.proofs.PlaneLaws.{Lies}
use Rattle.plane.proofs.SampleLaws.{large_at, large_in, rows_are}
use Rattle.sums.specs.Sums.{sum_below}
use Rattle.sums.proofs.AnyLaws.{any_at}
use Rattle.sums.proofs.SumLaws.{sum_more, sum_cut, sum_ext, sum_most, sum_swap, sum_to}
use Rattle.importance.specs.Needs.{deep_most, SmallRows, SmallBlocks}

-- the sum of four samples below one another, and of the first i such
abbrev pub four_at : List ℕ → ℕ → ℕ → ℕ → ℕ
four_at s at stride i = sum_below 4 (λ (j : ℕ). get_or s (at + j * stride + i) 0)

-- as the code adds them
four_is : (s : List ℕ) (at stride i : ℕ)
    → get_or s (at + i) 0 + get_or s (at + stride + i) 0 + get_or s (at + stride + stride + i) 0 + get_or s (at + stride + stride + stride + i) 0 ≡ four_at s at stride i
unfolding sum_below
four_is s at stride i =
    let g : ℕ → ℕ = λ (k : ℕ). get_or s k 0 in
    let a : g (at + i) ≡ g (at + 0 * stride + i) = ap g (omega arith) in
    let b : g (at + stride + i) ≡ g (at + 1 * stride + i) = ap g (omega arith) in
    let c : g (at + stride + stride + i) ≡ g (at + 2 * stride + i) = ap g (omega arith) in
    let d : g (at + stride + stride + stride + i) ≡ g (at + 3 * stride + i) = ap g (omega arith) in
    omega (arith, a, b, c, d)

module _ (s : List ℕ) (at stride : ℕ) (m : SmallRows s at stride 4) where
  four_most : (i : ℕ) → i < block_side → four_at s at stride i ≤ 4 * deep_most
  unfolding sum_below
  four_most i h = omega (arith, m.most 0 i (omega arith) h, m.most 1 i (omega arith) h, m.most 2 i (omega arith) h, m.most 3 i (omega arith) h)

  -- added one after the other
  pub four_small : (i : ℕ) → i < block_side
      → get_or s (at + i) 0 + get_or s (at + stride + i) 0 + get_or s (at + stride + stride + i) 0 + get_or s (at + stride + stride + stride + i) 0 ≤ 4 * deep_most
  four_small i h = omega (arith, four_is s at stride i, four_most i h)

-- a turn of the sum of eight such
pub four_more : (s : List ℕ) (at stride i sum : ℕ) → sum ≡ sum_below i (four_at s at stride)
    → sum + (get_or s (at + i) 0 + get_or s (at + stride + i) 0 + get_or s (at + stride + stride + i) 0 + get_or s (at + stride + stride + stride + i) 0)
    ≡ sum_below (i + 1) (four_at s at stride)
four_more s at stride i sum e = omega (arith, e, four_is s at stride i, sum_more i (four_at s at stride))

-- they are four rows
pub fours_are : (s : List ℕ) (at stride r i : ℕ) → r ≡ sum_below i (four_at s at stride) → i ≡ block_side → r ≡ sum_below 4 (row_from block_side s at stride)
fours_are s at stride r i e d = sum_to r i block_side (four_at s at stride) e d ∙ sum_swap block_side 4 (λ (i j : ℕ). get_or s (at + j * stride + i) 0)

-- and a block is four rows and four more
module _ (s : List ℕ) (start stride : ℕ) where
  lower : (j i : ℕ) → start + 4 * stride + j * stride + i ≡ start + (4 + j) * stride + i
  lower j i = omega (arith, add-mul 4 j stride)

  pub halves_are : (a b : ℕ) → a ≡ sum_below 4 (row_from block_side s start stride) → b ≡ sum_below 4 (row_from block_side s (start + 4 * stride) stride)
      → a + b ≡ square_from block_side s start stride
  halves_are a b e d =
      let rest = sum_ext 4 (row_from block_side s (start + 4 * stride) stride) (λ (j : ℕ). row_from block_side s start stride (4 + j))
      (λ j _. sum_ext block_side (λ (i : ℕ). get_or s (start + 4 * stride + j * stride + i) 0) (λ (i : ℕ). get_or s (start + (4 + j) * stride + i) 0) (λ i _. ap (λ (k : ℕ). get_or s k 0) (lower j i))) in
      rw (e, d) (omega (arith, rest, sum_cut 4 4 (row_from block_side s start stride)))

  pub upper_rows : SmallRows s start stride block_side → SmallRows s start stride 4
  upper_rows m = record { most = λ j i j< i<. m.most j i (omega arith) i< }

  pub lower_rows : SmallRows s start stride block_side → SmallRows s (start + 4 * stride) stride 4
  lower_rows m = record { most = λ j i j< i<. rw (lower j i) (m.most (4 + j) i (omega arith) i<) }

  -- what n rows of such come to
  pub rows_most : (n : ℕ) → SmallRows s start stride n → sum_below n (row_from block_side s start stride) ≤ n * (block_side * deep_most)
  rows_most n m =
      sum_most (block_side * deep_most) n (row_from block_side s start stride)
      (λ j j<. sum_most deep_most block_side (λ (i : ℕ). get_or s (start + j * stride + i) 0) (λ i i<. m.most j i j< i<))

-- ---- where the bound comes from

limit : (word : Word) (depth : ℕ) → suits word depth ≡ true → 2 ^ depth ≤ 4096
limit byte depth e = rw (eqb-true depth 8 e) (omega arith)
limit deep depth e = go (eqb depth 10) (eqb depth 12) (eqb-true depth 10) (eqb-true depth 12) e
  where
    go : (a b : Bool) → (a ≡ true → depth ≡ 10) → (b ≡ true → depth ≡ 12) → a || b ≡ true → 2 ^ depth ≤ 4096
    go true b f g e = rw (f refl) (omega arith)
    go false true f g e = rw (g refl) (omega arith)
    go false false f g e = absurd (true≢false (sym e))

-- a look that found nothing in a row of blocks
pub small_blocks : (word : Word) (depth : ℕ) (p : Plane) (s : List ℕ) (y : ℕ) → suits word depth ≡ true → Lies p (length s) → y < blocks_down p
    → rows_large depth p s (y * block_side) (y * block_side + block_side) ≡ false → SmallBlocks p s y
small_blocks word depth p s y d l h e =
    let none = sym (rows_are depth p s (y * block_side) (y * block_side + block_side) l (omega arith)) ∙ e in
    record {
      most = λ j x j< x<.
          omega (
            arith,
            limit word depth d,
            leb-false (2 ^ depth) (sample_at p s (y * block_side + j) x)
                (any_at p.width x (large_at p s (y * block_side + j) depth) x<
                (any_at (y * block_side + block_side - y * block_side) j (λ (j : ℕ). large_in p s depth (y * block_side + j)) (omega arith) none)),
          );
    }

-- and one of its blocks
pub small_block : (p : Plane) (s : List ℕ) (y x start : ℕ) → Lies p (length s) → y < blocks_down p → x < blocks_across p → start ≡ block_row p (length s) y → SmallBlocks p s y
    → SmallRows s (start + x * block_side) p.stride block_side
small_block p s y x start l h x< e m =
    record {
      most = λ j i j< i<.
          rw (e ∙ row_starts p (length s) y l h) (rw (sym (block_place p s y x j i)) (m.most j (x * block_side + i) j< (omega arith)));
    }
