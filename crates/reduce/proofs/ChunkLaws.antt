-- Chunks of a row of squares of bytes: how eight sums gain two rows, where a chunk lies, and what it covers. Assumes nothing.
use mathlib.Core.Bool.{◌||◌}
use mathlib.Core.List.{List}
use mathlib.Core.Path.{◌≡◌, sym, ap, ◌∙◌}
use Prim.Native.Nat.{ℕ, ◌+◌, ◌-◌, ◌*◌, ◌/◌, ◌≤◌, ◌<◌, min}
use native.Mathlib.Decide.{dec_lt}
use native.Mathlib.Nat.{add-mul, zero-mul, mul_left_comm, mul-le-mul_right, min-eq_left, min-eq_right, div-mul-le_self, lt-div-mul-add}
use native.Mathlib.Omega.{arith}
use borrow.Author.Tests.{le-leb, lt-ltb, le-ltb}
use lib.Dec.{ltb}
use lib.ListN.{length, get_or, take, drop}
use Rattle.plane.specs.Needs.{square_from}
use Rattle.plane.proofs.SquareLaws.{part_at}
use Rattle.sums.specs.Means.{mean_of}
use Rattle.sums.specs.Places.{in_run}
use Rattle.sums.proofs.Wrote.{Wrote, front_old}
use Rattle.sums.specs.Table.{table}
use Rattle.sums.proofs.TableLaws.{table_at, table_below}
use Rattle.reduce.specs.Needs.{sum_count, lane_count, RowsIn, pair_at, pair_from, pairs_from, mean_from, Half}
use Rattle.reduce.proofs.ReduceLaws.{pair_part, pairs_next}
use Rattle.reduce.proofs.RowLaws.{first_in}

-- ---- eight sums of a chunk, lent as a part that begins with sum 8 * g: each is as it was
pub lanes_old : {f : ℕ → ℕ} {sums l : List ℕ} (g : ℕ) → Wrote (λ (k : ℕ). ltb k (g * lane_count)) f sums l → g * lane_count + lane_count ≤ length sums
    → (k : ℕ) → k < lane_count → get_or (take (length l - g * lane_count) (drop (g * lane_count) l)) k 0 ≡ get_or sums (g * lane_count + k) 0
lanes_old {f} {sums} {l} g w room k h =
    part_at l (g * lane_count) k (omega (arith, w.same)) ∙ front_old w (g * lane_count + k) (omega arith) (omega arith)

-- ---- all sums of a chunk: those of 2 * j rows gain two more
module _ (s l : List ℕ) (start stride j : ℕ) (e : l ≡ table sum_count (pairs_from s start stride (2 * j))) where
  pub sum_so_far : (k : ℕ) → k < sum_count → get_or l k 0 ≡ pairs_from s start stride (2 * j) k
  sum_so_far k h = ap (λ (t : List ℕ). get_or t k 0) e ∙ table_at 0 sum_count _ k h

  pub two_rows_more : (h : ℕ) → j < h → RowsIn start stride (2 * h) (2 * sum_count) (length s) → let upper = start + 2 * j * stride in let lower = upper + stride in
      table sum_count (λ (k : ℕ). get_or l k 0 + (pair_at (take (length s - upper) (drop upper s)) k + pair_at (take (length s - lower) (drop lower s)) k))
      ≡ table sum_count (pairs_from s start stride (2 * (j + 1)))
  two_rows_more h j< rows =
      let upper = start + 2 * j * stride in
      let lower = upper + stride in
      let first : upper + 2 * sum_count ≤ length s = rows.rows (2 * j) (omega arith) in
      let place : start + (2 * j + 1) * stride ≡ lower = omega (arith, add-mul (2 * j) 1 stride) in
      let second : lower + 2 * sum_count ≤ length s = omega (arith, rows.rows (2 * j + 1) (omega arith), place) in
      table_below sum_count _ (pairs_from s start stride (2 * (j + 1)))
      (λ k k<.
      omega (
        arith,
        sum_so_far k k<,
        pair_part s upper k (omega arith),
        pair_part s lower k (omega arith),
        ap (λ (i : ℕ). pair_from s i k) place,
        pairs_next s start stride j k,
      ))

-- ---- chunks

-- the first m places, and a run that begins among them or right behind them
run_over : (m start n k : ℕ) → start ≤ m → m ≤ start + n → ltb k m || in_run start n k ≡ ltb k (start + n)
run_over m start n k h i = go (dec_lt k m) (dec_lt k (start + n))
  where
    go : Dec (k < m) → Dec (k < start + n) → ltb k m || in_run start n k ≡ ltb k (start + n)
    go (yes l) d = rw (lt-ltb k m l, lt-ltb k (start + n) (omega arith))
    go (no p) (yes l) = rw (le-ltb k m (omega arith), le-leb start k (omega arith), lt-ltb k (start + n) l)
    go (no p) (no q) = rw (le-ltb k m (omega arith), le-leb start k (omega arith), le-ltb k (start + n) (omega arith))

-- how many places c chunks have covered
abbrev pub covered : ℕ → ℕ → ℕ → ℕ
covered per count c = min (c * per) count

module _ (per count : ℕ) (some : 0 < per) (room : per ≤ count) where
  -- a turn's chunk begins before the last place
  turn_in : (c : ℕ) → c < (count - 1) / per + 1 → c * per < count
  turn_in c h =
      let few : c ≤ (count - 1) / per = omega arith in
      omega (arith, mul-le-mul_right per few, div-mul-le_self (count - 1) per)

  -- it lies within the places, and covers its own
  turn_covers : (c : ℕ) → c * per < count → let x = min (c * per) (count - per) in (x + per ≤ count) × ((k : ℕ) → ltb k (covered per count c) || in_run x per k ≡ ltb k (covered per count (c + 1)))
  turn_covers c h = go (dec_lt (count - per) (c * per))
    where
      next : (c + 1) * per ≡ c * per + per
      next = omega (arith, add-mul c 1 per)

      so_far : covered per count c ≡ c * per
      so_far = min-eq_left (omega arith)

      go : Dec (count - per < c * per) → let x = min (c * per) (count - per) in (x + per ≤ count) × ((k : ℕ) → ltb k (covered per count c) || in_run x per k ≡ ltb k (covered per count (c + 1)))
      go (yes l) =
          let back : min (c * per) (count - per) ≡ count - per = min-eq_right (omega arith) in
          let all : count - per + per ≡ count = omega arith in
          let done : covered per count (c + 1) ≡ count = min-eq_right (omega (arith, next)) in
          rw (back, so_far, done) (omega arith, λ k. run_over (c * per) (count - per) per k (omega arith) (omega arith) ∙ ap (ltb k) all)
      go (no m) =
          let here : min (c * per) (count - per) ≡ c * per = min-eq_left (omega arith) in
          let done : covered per count (c + 1) ≡ c * per + per = min-eq_left (omega (arith, next)) ∙ next in
          rw (here, so_far, done) (omega arith, λ k. run_over (c * per) (c * per) per k (omega arith) (omega arith))

  -- none before the first turn, and after the last all
  pub none_covered : covered per count 0 ≡ 0
  none_covered = ap (λ (i : ℕ). min i count) (zero-mul per) ∙ min-eq_left (omega arith)

  pub all_covered : covered per count ((count - 1) / per + 1) ≡ count
  all_covered = min-eq_right (omega (arith, lt-div-mul-add {a = count - 1} some, add-mul ((count - 1) / per) 1 per))

-- the squares of a chunk that begins with square x
pub mean_shift : (f : ℕ) (s : List ℕ) (start stride x k : ℕ) → mean_from f s (start + x * f) stride k ≡ mean_from f s start stride (x + k)
mean_shift f s start stride x k =
    let place : start + x * f + k * f ≡ start + (x + k) * f = omega (arith, add-mul x k f) in
    ap (λ (i : ℕ). mean_of (f * f) (square_from f s i stride)) place

-- a chunk is 128 columns, which lie within the rows of all squares
pub half_some : (h : ℕ) → Half h → 0 < sum_count / h
half_some h half = go (dec_lt 0 (sum_count / h))
  where
    go : Dec (0 < sum_count / h) → 0 < sum_count / h
    go (yes l) = l
    go (no m) =
        let none : sum_count / h ≡ 0 = omega arith in
        let lost : 0 * h ≡ sum_count = ap (λ (i : ℕ). i * h) (sym none) ∙ half.whole in
        absurd (omega (arith, lost))

chunk_in : (h start stride count x most : ℕ) → Half h → x + sum_count / h ≤ count → RowsIn start stride (2 * h) (count * (2 * h)) most
    → RowsIn (start + x * (2 * h)) stride (2 * h) (2 * sum_count) most
chunk_in h start stride count x most half room rows =
    let wide = mul-le-mul_right (2 * h) room in
    let parts = add-mul x (sum_count / h) (2 * h) in
    let whole : sum_count / h * (2 * h) ≡ 2 * (sum_count / h * h) = mul_left_comm (sum_count / h) 2 h in
    let chunk = half.whole in
    record { rows = λ j j<. let row = rows.rows j j< in omega arith }

-- a turn of the chunks of a row: where its chunk lies, and what it covers
pub record ChunkTurn (h start stride count most c x : ℕ) : Type 0 where
  pub ends : x + sum_count / h ≤ count
  pub begins : start + x * (2 * h) ≤ most
  pub rows : RowsIn (start + x * (2 * h)) stride (2 * h) (2 * sum_count) most
  pub covers : (k : ℕ) → ltb k (covered (sum_count / h) count c) || in_run x (sum_count / h) k ≡ ltb k (covered (sum_count / h) count (c + 1))

pub chunk_turn : (h start stride count most c x : ℕ) → Half h → sum_count / h ≤ count → RowsIn start stride (2 * h) (count * (2 * h)) most
    → c < (count - 1) / (sum_count / h) + 1 → x ≡ min (c * (sum_count / h)) (count - sum_count / h) → ChunkTurn h start stride count most c x
chunk_turn h start stride count most c x half room rows c< e =
    let per = sum_count / h in
    let some = half_some h half in
    let t = turn_covers per count some room c (turn_in per count some room c c<) in
    let ends : x + per ≤ count = rw e t.0 in
    let few : x ≤ count = omega arith in
    let wide : 0 < 2 * h = omega (arith, half.some) in
    record {
      ends = ends;
      begins = omega (arith, first_in start stride (2 * h) (count * (2 * h)) most wide rows, mul-le-mul_right (2 * h) few);
      rows = chunk_in h start stride count x most half ends rows;
      covers = rw e t.1;
    }
