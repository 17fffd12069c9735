-- `reduce::byte::put_chunk` meets its contract: the sums of pairs of columns come in groups that are squares, and each arm says their numbers. Assumes nothing.
use Rattle.std.proofs.Common.{◌≡◌, ℕ, ◌*◌, ◌/◌, ◌≤◌, ◌<◌, List, ltb, get_or, replicate, sym, refl, ap, ◌∙◌, arith}
use native.Mathlib.Decide.{dec_lt}
use lib.ListN.{length-replicate, get_or-replicate, get_or-eq_default}
use Rattle.sums.specs.Means.{mean_of}
use Rattle.sums.specs.Needs.{byte_most}
use Rattle.sums.specs.Table.{table}
use Rattle.sums.specs.Written.{written}
use Rattle.reduce.specs.Needs.{sum_count, pairs_from, group_of, mean_from, Half}
use Rattle.reduce.proofs.ReduceLaws.{group_most, chunk_means}
use Rattle.reduce.proofs.byte.put_chunk.Goals as goal

-- the sums begin with 0
pub add_all-requires-clause-by_index : goal.add_all-requires-clause-by_index
add_all-requires-clause-by_index c k = go (dec_lt k sum_count)
  where
    go : Dec (k < sum_count) → ◌≡◌ {A = ℕ} (get_or (replicate sum_count 0) k 0) 0
    go (yes h) = get_or-replicate sum_count k 0 0 h
    go (no h) = get_or-eq_default (replicate sum_count 0) 0 {n = k} (omega (arith, length-replicate {A = ℕ} sum_count 0))

-- what the means are asked for, and what they give, by the numbers of the arm of half m; l are the chunk's sums
module _ (h : ℕ) (half : Half h) (s : List ℕ) (bytes : (i : ℕ) → get_or s i 0 ≤ byte_most) (start stride : ℕ) (l : List ℕ)
    (e : l ≡ table sum_count (pairs_from s start stride (2 * h))) (m : ℕ) (is : h ≡ m) where
  asks : (x : ℕ) → x < sum_count / m → group_of l m x ≤ 4 * m * m * byte_most
  asks = group_most byte_most h half s l bytes start stride e (sum_count / m) m (4 * m * m) (ap (λ (i : ℕ). sum_count / i) (sym is)) (sym is) (ap (λ (i : ℕ). 4 * i * i) (sym is))

  gives : (out new : List ℕ) → new ≡ written (λ (k : ℕ). ltb k (sum_count / m)) (λ (x : ℕ). mean_of (4 * m * m) (group_of l m x)) out
      → new ≡ written (λ (k : ℕ). ltb k (sum_count / h)) (mean_from (2 * h) s start stride) out
  gives out new d =
      d ∙ chunk_means byte_most h half s l bytes start stride e (sum_count / m) m (4 * m * m) (ap (λ (i : ℕ). sum_count / i) (sym is)) (sym is) (ap (λ (i : ℕ). 4 * i * i) (sym is)) out

pub put_means-requires-clause-by_index : goal.put_means-requires-clause-by_index
put_means-requires-clause-by_index c = asks _ c.requires.half _ (λ i. omega (arith, c.type_inv.s i)) _ _ _ c.add_all.ensures 1 c.in-1.is

pub put_means-requires-in-2-clause-by_index : goal.put_means-requires-in-2-clause-by_index
put_means-requires-in-2-clause-by_index c = asks _ c.requires.half _ (λ i. omega (arith, c.type_inv.s i)) _ _ _ c.add_all.ensures 2 c.in-2.is

pub put_means-requires-in-4-clause-by_index : goal.put_means-requires-in-4-clause-by_index
put_means-requires-in-4-clause-by_index c = asks _ c.requires.half _ (λ i. omega (arith, c.type_inv.s i)) _ _ _ c.add_all.ensures 4 c.in-4.is

pub put_means-requires-in_default-clause-by_index : goal.put_means-requires-in_default-clause-by_index
put_means-requires-in_default-clause-by_index c = asks _ c.requires.half _ (λ i. omega (arith, c.type_inv.s i)) _ _ _ c.add_all.ensures _ refl

pub returns-in-1 : goal.returns-in-1
returns-in-1 c = gives _ c.requires.half _ (λ i. omega (arith, c.type_inv.s i)) _ _ _ c.add_all.ensures 1 c.in-1.is _ _ c.put_means.ensures

pub returns-in-2 : goal.returns-in-2
returns-in-2 c = gives _ c.requires.half _ (λ i. omega (arith, c.type_inv.s i)) _ _ _ c.add_all.ensures 2 c.in-2.is _ _ c.put_means-in-2.ensures

pub returns-in-4 : goal.returns-in-4
returns-in-4 c = gives _ c.requires.half _ (λ i. omega (arith, c.type_inv.s i)) _ _ _ c.add_all.ensures 4 c.in-4.is _ _ c.put_means-in-4.ensures

pub returns-in_default : goal.returns-in_default
returns-in_default c = gives _ c.requires.half _ (λ i. omega (arith, c.type_inv.s i)) _ _ _ c.add_all.ensures _ refl _ _ c.put_means-in_default.ensures
