-- Sums of distances by their low and their high bytes, and the bits of two rows together. Assumes nothing.
use mathlib.Core.Bool.{Bool, true, false, ◌||◌}
use mathlib.Core.List.{List}
use mathlib.Core.Path.{◌≡◌, refl, sym, ap, ◌∙◌}
use Prim.Native.Nat.{ℕ, ◌+◌, ◌*◌, ◌/◌, ◌%◌, ◌≤◌, ◌<◌, ◌^◌}
use native.Mathlib.Omega.{arith}
use borrow.Author.Tests.{lt-leb, eqb-true}
use lib.Bits.{bit_or}
use lib.Dec.{leb}
use lib.ListN.{length, get_or}
use Rattle.plane.specs.declared.Plane.{Plane}
use Rattle.plane.specs.Planes.{byte, suits, row_of, too_large}
use Rattle.plane.proofs.PlaneLaws.{Pair, length_row}
use Rattle.plane.proofs.SampleLaws.{reach_or, large_in, row_large_lem}
use Rattle.sums.specs.Any.{any_below}
use Rattle.sums.specs.Needs.{byte_most, word_most}
use Rattle.sums.specs.Sums.{sum_below}
use Rattle.sums.proofs.AnyLaws.{any_none, any_more, any_or, any_ext}
use Rattle.sums.proofs.SumLaws.{NextSum, next_sum, sum_split}
use Rattle.sad.specs.Needs.{gap_at, large_from}

-- the low and the high byte of the distance at place i
abbrev pub low_at : List ℕ → List ℕ → ℕ → ℕ
low_at a b i = gap_at a b i % 256

abbrev pub high_at : List ℕ → List ℕ → ℕ → ℕ
high_at a b i = gap_at a b i / 256

-- their sums are the distances' own
pub bytes_are : (a b : List ℕ) (n low high : ℕ) → low ≡ sum_below n (low_at a b) → high ≡ sum_below n (high_at a b) → low + 256 * high ≡ sum_below n (gap_at a b)
bytes_are a b n low high e d = rw (e, d) (sum_split 256 n (gap_at a b))

module _ (a b : List ℕ) (h : length a ≤ 256) where
  -- a turn of each sum, over at most 256 distances
  pub low_next : (i sum part : ℕ) → i < length a → sum ≡ sum_below i (low_at a b) → part ≡ low_at a b i → NextSum (2 ^ 16) i sum part (low_at a b)
  low_next = next_sum 255 (length a) (2 ^ 16) (low_at a b) (λ i _. omega arith) (omega arith)

  pub high_next : ((i : ℕ) → get_or a i 0 ≤ word_most) → ((i : ℕ) → get_or b i 0 ≤ word_most)
      → (i sum part : ℕ) → i < length a → sum ≡ sum_below i (high_at a b) → part ≡ high_at a b i → NextSum (2 ^ 16) i sum part (high_at a b)
  high_next l m = next_sum 255 (length a) (2 ^ 16) (high_at a b) (λ i _. omega (arith, l i, m i)) (omega arith)

-- a pair that is the next has its place's bits
pub pair_large : (a b : List ℕ) (i x y : ℕ) → x ≡ get_or a i 0 → y ≡ get_or b i 0 → (m : ℕ) → leb (2 ^ m) x || leb (2 ^ m) y ≡ large_from a b 0 m i
pair_large a b i x y e f m = rw (e, f) (ap (λ (k : ℕ). leb (2 ^ m) (get_or a k 0) || leb (2 ^ m) (get_or b k 0)) (omega arith))

-- no byte is too large for its depth
pub none_large : (a b : List ℕ) → ((i : ℕ) → get_or a i 0 ≤ byte_most) → ((i : ℕ) → get_or b i 0 ≤ byte_most) → (n depth : ℕ) → suits byte depth ≡ true
    → leb (2 ^ depth) 0 ≡ any_below n (large_from a b 0 depth)
none_large a b l m n depth e =
    let small : (x : ℕ) → x ≤ byte_most → leb (2 ^ 8) x ≡ false = λ x h. lt-leb (2 ^ 8) x (omega arith) in
    rw (eqb-true depth 8 e)
    (small 0 (omega arith) ∙ sym (any_none n (large_from a b 0 8) (λ i. rw (small _ (l (0 + i)), small _ (m (0 + i))) refl)))

-- whether row y of one of two planes has a sample that reaches 2 to the m
abbrev pub large_rows : Plane → List ℕ → Plane → List ℕ → ℕ → ℕ → Bool
large_rows p a q b m y = large_in p a m y || large_in q b m y

-- rows that were taken out of their planes have the planes' own bits ..
pub row_reach : (p : Plane) (a : List ℕ) (q : Plane) (b : List ℕ) (y : ℕ) → Pair p (length a) q (length b) → y < p.height → (m bits : ℕ)
    → leb (2 ^ m) bits ≡ any_below (length (row_of p a y)) (large_from (row_of p a y) (row_of q b y) 0 m) → leb (2 ^ m) bits ≡ large_rows p a q b m y
row_reach p a q b y h y< m bits e =
    let r = row_of p a y in
    let s = row_of q b y in
    let here : List ℕ → ℕ → Bool = λ (l : List ℕ) (x : ℕ). leb (2 ^ m) (get_or l x 0) in
    let down : y < q.height = omega (arith, h.heights) in
    let long : length r ≡ length s = length_row p a y h.first y< ∙ h.widths ∙ sym (length_row q b y h.second down) in
    e
    ∙ any_ext (length r) (large_from r s 0 m) (λ (x : ℕ). here r x || here s x) (λ x. ap (λ (k : ℕ). here r k || here s k) (omega arith))
    ∙ any_or (length r) (here r) (here s)
    ∙ rw (row_large_lem p a y h.first y< m, ap (λ (n : ℕ). any_below n (here s)) long ∙ row_large_lem q b y h.second down m)

-- .. those of one row more are gained by what has them so far ..
pub rows_more : (test : ℕ → Bool) (m bits y x : ℕ) → leb (2 ^ m) bits ≡ any_below y test → leb (2 ^ m) x ≡ test y → leb (2 ^ m) (bit_or bits x) ≡ any_below (y + 1) test
rows_more test m bits y x h e = reach_or m bits x ∙ rw (h, e) (sym (any_more y test))

-- .. and those of all rows say whether a sample is too large
pub rows_reach : (p : Plane) (a : List ℕ) (q : Plane) (b : List ℕ) (depth y bits : ℕ) (looked : Bool) → looked ≡ leb (2 ^ depth) bits
    → leb (2 ^ depth) bits ≡ any_below y (large_rows p a q b depth) → y ≡ p.height → p.height ≡ q.height → looked ≡ too_large depth p a || too_large depth q b
unfolding too_large
rows_reach p a q b depth y bits looked l h e d =
    l ∙ h ∙ rw e (any_or p.height (large_in p a depth) (large_in q b depth))
    ∙ ap (λ (n : ℕ). any_below p.height (large_in p a depth) || any_below n (large_in q b depth)) d
