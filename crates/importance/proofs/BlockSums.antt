-- Sums and means of blocks, over the largest sample k: what each loop knows after a turn. Assumes nothing.
use mathlib.Core.List.{List}
use mathlib.Core.Path.{◌≡◌, sym, ◌∙◌}
use Prim.Native.Nat.{ℕ, ◌+◌, ◌-◌, ◌*◌, ◌≤◌, ◌<◌, ◌^◌}
use native.Mathlib.Nat.{mul-le-mul_right}
use native.Mathlib.Omega.{arith}
use lib.ListN.{length, get_or, take, drop}
use Rattle.plane.specs.Blocks.{block_side, blocks_across, blocks_down, block_count, block_row}
use Rattle.plane.specs.Needs.{block_start, row_from, square_from}
use Rattle.plane.specs.Planes.{Word, sizes_fault}
use Rattle.plane.specs.declared.Plane.{Plane}
use Rattle.plane.proofs.BlockLaws.{count_most, row_starts, block_from}
use Rattle.plane.proofs.PlaneLaws.{Pair, pair, total_fits}
use Rattle.plane.proofs.SquareLaws.{part_sum, square_is, square_most}
use Rattle.sums.specs.Sums.{sum_below, apart}
use Rattle.sums.proofs.MeanLaws.{mean_most}
use Rattle.sums.proofs.SumLaws.{sum_more, sum_ext, sum_most, sum_to}
use Rattle.importance.specs.Importance.{block_sum, mean, block_difference, blocks_difference, importance_total, importance_fault}
use Rattle.importance.specs.Needs.{SmallRows, SmallBlocks}
use Rattle.importance.proofs.FourRows.{small_block}
use Rattle.importance.proofs.Refusals.{one_size}

-- ---- one block

-- row j of a block lies within the samples, as the last one does
pub row_in : (s : List ℕ) (start stride j : ℕ) → start + 7 * stride + block_side ≤ length s → j < block_side → start + j * stride + block_side ≤ length s
row_in s start stride j h j< = let k : j * stride ≤ 7 * stride = mul-le-mul_right stride (omega arith) in omega arith

-- the sum of j rows and of one more, a part's first samples
pub square_more : (s : List ℕ) (start stride j sum part : ℕ) → sum ≡ sum_below j (row_from block_side s start stride) → start + j * stride + block_side ≤ length s
    → part ≡ sum_below block_side (λ (i : ℕ). get_or (take (length s - (start + j * stride)) (drop (start + j * stride) s)) i 0)
    → sum + part ≡ sum_below (j + 1) (row_from block_side s start stride)
square_more s start stride j sum part h inside e =
    omega (arith, h, e ∙ part_sum s (start + j * stride) block_side inside, sum_more j (row_from block_side s start stride))

module _ (k : ℕ) (s : List ℕ) (l : (i : ℕ) → get_or s i 0 ≤ k) where
  -- a block's sum, by its place and as the plane's own
  squares_most : (start stride : ℕ) → square_from block_side s start stride ≤ 64 * k
  squares_most start stride = omega (arith, square_most k block_side s l start stride)

  block_most : (p : Plane) (y x : ℕ) → block_sum p s y x ≤ 64 * k
  block_most p y x = rw (sym (square_is block_side p s y x)) (squares_most (block_start p y x) p.stride)

-- two means of such sums lie at most k apart
means_most : (k m n : ℕ) → m ≤ 64 * k → n ≤ 64 * k → apart (mean m) (mean n) ≤ k
means_most k m n h i = let a = mean_most k 64 m (omega arith) h in let b = mean_most k 64 n (omega arith) i in omega arith

-- ---- a row of blocks

-- row y of blocks of two planes that are not refused, by the places where it starts
pub record BlocksRow (p : Plane) (a : List ℕ) (q : Plane) (b : List ℕ) (y start start2 : ℕ) : Type 0 where
  pub given : (sizes_fault p (length a) q (length b) ≡ 0) × (y < blocks_down p)
  pub starts : start ≡ block_row p (length a) y
  pub starts2 : start2 ≡ block_row q (length b) y

-- as the code finds them, by the numbers of the samples
pub blocks_row : {p : Plane} {a : List ℕ} {q : Plane} {b : List ℕ} {y n m start start2 : ℕ} → sizes_fault p (length a) q (length b) ≡ 0 → y < blocks_down p
    → length a ≡ n → start ≡ block_row p n y → length b ≡ m → start2 ≡ block_row q m y → BlocksRow p a q b y start start2
blocks_row h l e s d t = record { given = (h, l); starts = rw e s; starts2 = rw d t }

-- the difference of block x, and the sum of the first x
abbrev gap_of : List ℕ → ℕ → ℕ → List ℕ → ℕ → ℕ → ℕ → ℕ
gap_of a start step b start2 step2 x =
    apart (mean (square_from block_side a (start + x * block_side) step)) (mean (square_from block_side b (start2 + x * block_side) step2))

abbrev pub GapSum : List ℕ → ℕ → ℕ → List ℕ → ℕ → ℕ → ℕ → ℕ → Type 0
GapSum a start step b start2 step2 total x = total ≡ sum_below x (gap_of a start step b start2 step2)

module _ {p : Plane} {a : List ℕ} {q : Plane} {b : List ℕ} {y start start2 : ℕ} (r : BlocksRow p a q b y start start2) where
  planes : Pair p (length a) q (length b)
  planes = pair p (length a) q (length b) r.given.0

  -- block x lies within the samples of both planes, and so no sum is too large that leads to a place in it
  pub record BlocksIn (x : ℕ) : Type 0 where
    pub first : start + x * block_side + 7 * p.stride + block_side ≤ length a
    pub second : start2 + x * block_side + 7 * q.stride + block_side ≤ length b

  pub blocks_in : (x : ℕ) → x < blocks_across p → BlocksIn x
  blocks_in x x< =
      let h = planes in
      record {
        first = block_from p (length a) y start h.first r.given.1 r.starts x x< 7 (omega arith);
        second = block_from q (length b) y start2 h.second (omega (arith, r.given.1, h.heights)) r.starts2 x (omega (arith, h.widths)) 7 (omega arith);
      }

  -- and where no sample of the row of blocks is large, none of its own is
  pub blocks_small : SmallBlocks p a y × SmallBlocks q b y → (x : ℕ) → x < blocks_across p
      → SmallRows a (start + x * block_side) p.stride block_side × SmallRows b (start2 + x * block_side) q.stride block_side
  blocks_small m x x< =
      let h = planes in (
        small_block p a y x start h.first r.given.1 x< r.starts m.0,
        small_block q b y x start2 h.second (omega (arith, h.heights, r.given.1)) (omega (arith, h.widths)) r.starts2 m.1,
      )

  -- a row has this many at most
  pub across_most : blocks_across p ≤ 1024
  across_most = omega (arith, planes.first.width_most)

  -- one turn
  pub gap_turn : (x total org other part : ℕ) → GapSum a start p.stride b start2 q.stride total x
      → org ≡ mean (square_from block_side a (start + x * block_side) p.stride) → other ≡ mean (square_from block_side b (start2 + x * block_side) q.stride)
      → part ≡ apart org other → GapSum a start p.stride b start2 q.stride (total + part) (x + 1)
  gap_turn x total org other part h e d f = omega (arith, h, rw (e, d) at f, sum_more x (gap_of a start p.stride b start2 q.stride))

  -- all of the row is the planes' own
  pub gaps_are : (x total : ℕ) → GapSum a start p.stride b start2 q.stride total x → x ≡ blocks_across p → total ≡ blocks_difference p a q b y
  gaps_are x total h e =
      let l = planes in
      sum_to total x (blocks_across p) (gap_of a start p.stride b start2 q.stride) h e
      ∙ sum_ext (blocks_across p) (gap_of a start p.stride b start2 q.stride) (block_difference p a q b y)
      (λ x _. rw (
        r.starts ∙ row_starts p (length a) y l.first r.given.1,
        r.starts2 ∙ row_starts q (length b) y l.second (omega (arith, r.given.1, l.heights)),
        square_is block_side p a y x,
        square_is block_side q b y x,
      ))

-- ---- all of them

-- any integer of 64 bits holds their number
pub count_fits : (p : Plane) (n : ℕ) (q : Plane) (m : ℕ) → sizes_fault p n q m ≡ 0 → block_count p < 2 ^ 64
count_fits p n q m e = omega (arith, count_most p n (pair p n q m e).first)

module _ (k : ℕ) (p : Plane) (a : List ℕ) (q : Plane) (b : List ℕ) (l : (i : ℕ) → get_or a i 0 ≤ k) (m : (i : ℕ) → get_or b i 0 ≤ k) where
  -- n blocks of a row of blocks, and n such rows
  differences_most : (y n : ℕ) → sum_below n (block_difference p a q b y) ≤ n * k
  differences_most y n =
      sum_most k n (block_difference p a q b y)
      (λ x _. means_most k (block_sum p a y x) (block_sum q b y x) (block_most k a l p y x) (block_most k b m q y x))

  totals_most_lem : (n : ℕ) → sum_below n (blocks_difference p a q b) ≤ n * (blocks_across p * k)
  totals_most_lem n = sum_most (blocks_across p * k) n (blocks_difference p a q b) (λ y _. differences_most y (blocks_across p))

  -- all blocks of two planes that are not refused
  pub total_most : (word : Word) (depth : ℕ) → k < 2 ^ 16 → importance_fault word depth p a q b ≡ 0 → importance_total p a q b < 2 ^ 42
  unfolding importance_total
  total_most word depth s e =
      let f = (pair p (length a) q (length b) (one_size word depth p a q b e)).first in
      omega (arith, totals_most_lem (blocks_down p), total_fits (blocks_down p) (blocks_across p) k (omega arith) (omega arith) s)
