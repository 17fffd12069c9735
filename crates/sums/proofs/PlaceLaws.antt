-- Which places are written: runs, rows, blocks side by side, and rows of blocks, each by one more. Assumes nothing.
use Rattle.std.proofs.Common.{◌≡◌, ℕ, ◌+◌, ◌*◌, ◌<◌, ◌≤◌, Bool, true, false, ◌&&◌, ◌||◌, eqb, ltb, leb, sym, refl, ap, ◌∙◌, add-mul, zero-mul, arith, ltb-true, le-ltb, lt-ltb, eq-eqb, ne_eqb, le-leb, leb-true}
use mathlib.Core.Bool.{false≢true}
use native.Mathlib.Decide.{dec_lt, ℕ_discrete}
use borrow.Author.Tests.{lt-leb}
use Rattle.sums.proofs.AnyLaws.{any_none, any_some, any_ext, any_or, any_cut, any_zero, any_more}
use Rattle.sums.specs.Places.{in_run, in_rows}

-- ---- runs

-- of no places, and of one place more
pub run_none : (start k : ℕ) → in_run start 0 k ≡ false
run_none start k = go (dec_lt k start)
  where
    go : Dec (k < start) → in_run start 0 k ≡ false
    go (yes l) = rw (lt-leb start k l)
    go (no m) = rw (le-leb start k (omega arith), le-ltb k (start + 0) (omega arith))

pub run_next : (start n k : ℕ) → in_run start n k || eqb k (start + n) ≡ in_run start (n + 1) k
run_next start n k = go (dec_lt k start) (dec_lt k (start + n)) (ℕ_discrete k (start + n))
  where
    go : Dec (k < start) → Dec (k < start + n) → Dec (k ≡ start + n) → in_run start n k || eqb k (start + n) ≡ in_run start (n + 1) k
    go (yes l) d e = rw (lt-leb start k l, ne_eqb k (start + n) (λ q. omega arith))
    go (no p) (yes l) e = rw (le-leb start k (omega arith), lt-ltb k (start + n) l, lt-ltb k (start + (n + 1)) (omega arith))
    go (no p) (no q) (yes e) = rw (le-leb start k (omega arith), le-ltb k (start + n) (omega arith), eq-eqb k (start + n) e, lt-ltb k (start + (n + 1)) (omega arith))
    go (no p) (no q) (no e) = rw (le-leb start k (omega arith), le-ltb k (start + n) (omega arith), ne_eqb k (start + n) e, le-ltb k (start + (n + 1)) (omega arith))

-- a place of a run lies within it
pub run_holds : (start n k : ℕ) → in_run start n k ≡ true → (start ≤ k) × (k < start + n)
run_holds start n k e = both (leb start k) (ltb k (start + n)) (leb-true start k) (ltb-true k (start + n)) e
  where
    both : (a b : Bool) → (a ≡ true → start ≤ k) → (b ≡ true → k < start + n) → a && b ≡ true → (start ≤ k) × (k < start + n)
    both true true f g e = (f refl, g refl)
    both true false f g e = absurd (false≢true e)
    both false b f g e = absurd (false≢true e)

-- two runs that touch are one
pub beside : (start m n k : ℕ) → in_run start m k || in_run (start + m) n k ≡ in_run start (m + n) k
beside start m n k = go (dec_lt k start) (dec_lt k (start + m)) (dec_lt k (start + m + n))
  where
    go : Dec (k < start) → Dec (k < start + m) → Dec (k < start + m + n) → in_run start m k || in_run (start + m) n k ≡ in_run start (m + n) k
    go (yes l) d e = rw (lt-leb start k l, lt-leb (start + m) k (omega arith))
    go (no p) (yes l) e = rw (le-leb start k (omega arith), lt-ltb k (start + m) l, lt-ltb k (start + (m + n)) (omega arith))
    go (no p) (no q) (yes l) =
        rw (le-leb start k (omega arith), le-ltb k (start + m) (omega arith), le-leb (start + m) k (omega arith), lt-ltb k (start + m + n) l, lt-ltb k (start + (m + n)) (omega arith))
    go (no p) (no q) (no r) =
        rw (le-leb start k (omega arith), le-ltb k (start + m) (omega arith), le-leb (start + m) k (omega arith), le-ltb k (start + m + n) (omega arith), le-ltb k (start + (m + n)) (omega arith))

-- the first m places, and a run of n behind them
pub below_beside : (m n k : ℕ) → ltb k m || in_run m n k ≡ ltb k (m + n)
below_beside m n k = go (dec_lt k m) (dec_lt k (m + n))
  where
    go : Dec (k < m) → Dec (k < m + n) → ltb k m || in_run m n k ≡ ltb k (m + n)
    go (yes l) d = rw (lt-ltb k m l, lt-ltb k (m + n) (omega arith))
    go (no p) (yes l) = rw (le-ltb k m (omega arith), le-leb m k (omega arith), lt-ltb k (m + n) l)
    go (no p) (no q) = rw (le-ltb k m (omega arith), le-leb m k (omega arith), le-ltb k (m + n) (omega arith))

-- places in rows of a places each, from the first place on: no row, and one row more
pub fronts_none : (a k : ℕ) → ltb k (0 * a) ≡ false
fronts_none a k = rw (zero-mul a) (le-ltb k 0 (omega arith))

pub fronts_next : (a y k : ℕ) → ltb k (y * a) || in_run (y * a) a k ≡ ltb k ((y + 1) * a)
fronts_next a y k = let e : y * a + a ≡ (y + 1) * a = omega (arith, add-mul y 1 a) in below_beside (y * a) a k ∙ ap (ltb k) e

-- ---- rows that lie a stride apart

module _ (start stride : ℕ) where
  -- no row, and one row more
  pub rows_none : (n k : ℕ) → in_rows start stride 0 n k ≡ false
  unfolding in_rows
  rows_none n k = any_zero (λ (j : ℕ). in_run (start + j * stride) n k)

  pub rows_next : (m n k : ℕ) → in_rows start stride m n k || in_run (start + m * stride) n k ≡ in_rows start stride (m + 1) n k
  unfolding in_rows
  rows_next m n k = sym (any_more m (λ (j : ℕ). in_run (start + j * stride) n k))

  -- place x of row j is in them
  pub rows_hold : (m n j x : ℕ) → j < m → x < n → in_rows start stride m n (start + j * stride + x) ≡ true
  unfolding in_rows
  rows_hold m n j x h i =
      let k = start + j * stride + x in
      any_some m j (λ (l : ℕ). in_run (start + l * stride) n k) h (rw (le-leb (start + j * stride) k (omega arith), lt-ltb k (start + j * stride + n) (omega arith)))

  -- rows of no places, and of n places more: a block beside others
  pub blocks_none : (rows k : ℕ) → in_rows start stride rows 0 k ≡ false
  unfolding in_rows
  blocks_none rows k = any_none rows (λ (j : ℕ). in_run (start + j * stride) 0 k) (λ j. run_none (start + j * stride) k)

  wider : (rows m n k : ℕ) → in_rows start stride rows m k || in_rows (start + m) stride rows n k ≡ in_rows start stride rows (m + n) k
  unfolding in_rows
  wider rows m n k =
      sym (any_or rows (λ (j : ℕ). in_run (start + j * stride) m k) (λ (j : ℕ). in_run (start + m + j * stride) n k))
      ∙ any_ext rows (λ (j : ℕ). in_run (start + j * stride) m k || in_run (start + m + j * stride) n k) (λ (j : ℕ). in_run (start + j * stride) (m + n) k)
      (λ j.
      let e : start + m + j * stride ≡ start + j * stride + m = omega arith in
      ap (λ (i : ℕ). in_run (start + j * stride) m k || in_run i n k) e ∙ beside (start + j * stride) m n k)

  pub blocks_next : (rows n x k : ℕ) → in_rows start stride rows (x * n) k || in_rows (start + x * n) stride rows n k ≡ in_rows start stride rows ((x + 1) * n) k
  blocks_next rows n x k =
      let e : x * n + n ≡ (x + 1) * n = omega (arith, add-mul x 1 n) in
      wider rows (x * n) n k ∙ ap (λ (m : ℕ). in_rows start stride rows m k) e

  -- more rows below: the first m, and n from row m on
  deeper : (m n width k : ℕ) → in_rows start stride m width k || in_rows (start + m * stride) stride n width k ≡ in_rows start stride (m + n) width k
  unfolding in_rows
  deeper m n width k =
      ap (λ (b : Bool). in_rows start stride m width k || b)
      (any_ext n (λ (j : ℕ). in_run (start + m * stride + j * stride) width k) (λ (j : ℕ). in_run (start + (m + j) * stride) width k)
      (λ j.
      let e : start + m * stride + j * stride ≡ start + (m + j) * stride = omega (arith, add-mul m j stride) in
      ap (λ (i : ℕ). in_run i width k) e))
      ∙ sym (any_cut m n (λ (j : ℕ). in_run (start + j * stride) width k))

  pub bands_none : (n width k : ℕ) → in_rows start stride (0 * n) width k ≡ false
  bands_none n width k = ap (λ (m : ℕ). in_rows start stride m width k) (zero-mul n) ∙ rows_none width k

  pub bands_next : (n y width k : ℕ) → in_rows start stride (y * n) width k || in_rows (start + y * n * stride) stride n width k ≡ in_rows start stride ((y + 1) * n) width k
  bands_next n y width k =
      let e : y * n + n ≡ (y + 1) * n = omega (arith, add-mul y 1 n) in
      deeper (y * n) n width k ∙ ap (λ (m : ℕ). in_rows start stride m width k) e
