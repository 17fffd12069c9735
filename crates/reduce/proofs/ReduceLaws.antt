-- The factors, the refusals, and the sums of squares, also by pairs of columns, over the largest sample k and any factor. Assumes nothing.
use mathlib.Core.Bool.{Bool, true, false, not, ◌||◌, true≢false}
use mathlib.Core.List.{List}
use mathlib.Core.Path.{◌≡◌, refl, sym, ap, ap₂, subst, ◌∙◌}
use Prim.Native.Nat.{ℕ, ◌+◌, ◌-◌, ◌*◌, ◌/◌, ◌^◌, ◌≤◌, ◌<◌}
use native.Mathlib.Nat.{mul_assoc, mul_left_comm, mul-le-mul, mul-le-mul_right, mul-pos, add-mul, zero-mul}
use native.Mathlib.Omega.{arith}
use borrow.Author.Tests.{eqb-true, ltb-true}
use lib.Dec.{eqb, ltb}
use lib.ListN.{length, get_or, take, drop, length-drop}
use Rattle.std.proofs.Common.{length-take-le, get_or-take, get_or-drop}
use Rattle.std.specs.Prelude.{map}
use Rattle.answer.proofs.Laws.{or_none, or_given, or_later, passed}
use Rattle.plane.specs.Needs.{row_from, square_from}
use Rattle.plane.specs.Planes.{Word, plane_fault, word_fault, sample_fault}
use Rattle.plane.specs.declared.Plane.{Plane}
use Rattle.plane.proofs.SampleLaws.{sample_fault_is}
use Rattle.plane.proofs.SquareLaws.{part_at, square_most, row_next, square_next}
use Rattle.sums.specs.Means.{mean_of}
use Rattle.sums.specs.Needs.{word_most}
use Rattle.sums.specs.Sums.{sum_below}
use Rattle.sums.specs.Table.{table}
use Rattle.sums.specs.Written.{written}
use Rattle.sums.proofs.MeanLaws.{mean_most}
use Rattle.sums.proofs.SampleLaws.{length_values, values_take, values_drop}
use Rattle.sums.proofs.SumLaws.{NextSum, sum_ext, sum_most, sum_more, sum_none, sum_swap, sum_pairs}
use Rattle.sums.proofs.TableLaws.{table_at}
use Rattle.sums.proofs.WrittenLaws.{written_value}
use Rattle.reduce.specs.Reduce.{bad_factor, not_reduced, sides_fault, reduce_fault, sides_by}
use Rattle.reduce.specs.Needs.{sum_count, pair_at, pair_from, pairs_from, group_of, mean_from, Half}

-- ---- factors

-- what holds of the six holds of a factor that is not refused
pub six : (P : ℕ → Type 0) → P 1 → P 2 → P 4 → P 8 → P 16 → P 32 → (f : ℕ) → bad_factor f ≡ false → P f
unfolding bad_factor
six P p1 p2 p4 p8 p16 p32 f e =
    go (eqb f 1) (eqb f 2) (eqb f 4) (eqb f 8) (eqb f 16) (eqb f 32) (λ t. back 1 p1 t) (λ t. back 2 p2 t) (λ t. back 4 p4 t) (λ t. back 8 p8 t) (λ t. back 16 p16 t)
    (λ t. back 32 p32 t) e
  where
    back : (n : ℕ) → P n → eqb f n ≡ true → P f
    back n p t = subst P (sym (eqb-true f n t)) p

    go : (a b c d g h : Bool) → (a ≡ true → P f) → (b ≡ true → P f) → (c ≡ true → P f) → (d ≡ true → P f) → (g ≡ true → P f) → (h ≡ true → P f)
        → not (a || b || c || d || g || h) ≡ false → P f
    go true b c d g h fa fb fc fd fg fh q = fa refl
    go false true c d g h fa fb fc fd fg fh q = fb refl
    go false false true d g h fa fb fc fd fg fh q = fc refl
    go false false false true g h fa fb fc fd fg fh q = fd refl
    go false false false false true h fa fb fc fd fg fh q = fg refl
    go false false false false false true fa fb fc fd fg fh q = fh refl
    go false false false false false false fa fb fc fd fg fh q = absurd (true≢false q)

-- none is 0, nor above 32
pub factor_small : (f : ℕ) → bad_factor f ≡ false → (0 < f) × (f ≤ 32)
factor_small =
    six (λ (f : ℕ). (0 < f) × (f ≤ 32)) (omega arith, omega arith) (omega arith, omega arith) (omega arith, omega arith) (omega arith, omega arith)
    (omega arith, omega arith) (omega arith, omega arith)

-- so one below 2 is 1
pub factor_one : (f : ℕ) → bad_factor f ≡ false → f < 2 → f ≡ 1
factor_one f h few = omega (arith, (factor_small f h).0, few)

-- so a square has 1,024 samples at most
pub samples_few : (f : ℕ) → f ≤ 32 → f * f ≤ 1024
samples_few f h = mul-le-mul h h

-- one above 1 and below 16, by its order
pub factor_arms : (f : ℕ) → bad_factor f ≡ false → 1 < f → (f < 4 → f ≡ 2) × (4 ≤ f → f < 8 → f ≡ 4) × (8 ≤ f → f < 16 → f ≡ 8)
factor_arms =
    six (λ (f : ℕ). 1 < f → (f < 4 → f ≡ 2) × (4 ≤ f → f < 8 → f ≡ 4) × (8 ≤ f → f < 16 → f ≡ 8))
    (λ h. absurd (omega arith)) (λ _. (λ _. refl, λ a _. absurd (omega arith), λ a _. absurd (omega arith)))
    (λ _. (λ a. absurd (omega arith), λ _ _. refl, λ a _. absurd (omega arith))) (λ _. (λ a. absurd (omega arith), λ _ a. absurd (omega arith), λ _ _. refl))
    (λ _. (λ a. absurd (omega arith), λ _ a. absurd (omega arith), λ _ a. absurd (omega arith)))
    (λ _. (λ a. absurd (omega arith), λ _ a. absurd (omega arith), λ _ a. absurd (omega arith)))

-- one above 1 is twice its half, of which a chunk's sums are whole squares
pub factor_half : (f : ℕ) → bad_factor f ≡ false → 1 < f → (2 * (f / 2) ≡ f) × Half (f / 2)
factor_half =
    six (λ (f : ℕ). 1 < f → (2 * (f / 2) ≡ f) × Half (f / 2)) (λ h. absurd (omega arith)) (λ _. fits 1 (omega arith) (omega arith) refl)
    (λ _. fits 2 (omega arith) (omega arith) refl) (λ _. fits 4 (omega arith) (omega arith) refl) (λ _. fits 8 (omega arith) (omega arith) refl)
    (λ _. fits 16 (omega arith) (omega arith) refl)
  where
    fits : (h : ℕ) → 0 < h → h ≤ 16 → sum_count / h * h ≡ sum_count → (2 * (2 * h / 2) ≡ 2 * h) × Half (2 * h / 2)
    fits h a b e =
        let same : 2 * h / 2 ≡ h = omega arith in
        (omega arith, subst Half (sym same) (record { some = a; most = b; whole = e }))

-- ---- refusals

-- what a reduction over n and m samples that is not refused keeps to: the clauses that the rows of the planes ask, by their names
abbrev pub Fine : ℕ → ℕ → ℕ → Plane → Plane → Type 0
Fine f n m p q = record {
  factor_value : bad_factor f ≡ false;
  s_value : plane_fault p n ≡ 0;
  reduced_value : plane_fault q m ≡ 0;
  q_value : not_reduced f p q ≡ false;
}

module _ (word : Word) (depth f : ℕ) (p : Plane) (s : List ℕ) (q : Plane) (r : List ℕ) where
  by_sides : sides_fault word depth f p (length s) q (length r) ≡ 0
      → (word_fault word depth ≡ 0) × ((bad_factor f ≡ false) × ((plane_fault p (length s) ≡ 0) × ((plane_fault q (length r) ≡ 0) × (not_reduced f p q ≡ false))))
  unfolding sides_fault
  by_sides e =
      let t6 = or_none _ _ e in
      let t5 = or_none _ _ t6.1 in
      let t1 = or_none _ _ t5.1 in
      let first = or_none _ _ t1.1 in
      let second = or_none _ _ first.1 in
      (t5.0, (passed 5 _ t6.0, (first.0, (second.0, passed 2 _ second.1))))

  pub fine : reduce_fault word depth f p s q r ≡ 0 → Fine f (length s) (length r) p q
  unfolding reduce_fault
  fine e =
      let t = (by_sides (or_none _ _ e).0).1 in
      record { factor_value = t.0; s_value = t.1.0; reduced_value = t.1.1.0; q_value = t.1.1.1 }

  -- where the refusal w of the depth was given: one of the sides is the reduction's ..
  module _ (w : ℕ) (d : w ≡ word_fault word depth) where
    by_word : (n : ℕ) → n ≡ sides_by w f p (length s) q (length r) → n ≡ sides_fault word depth f p (length s) q (length r)
    unfolding sides_fault
    by_word n e = e ∙ ap (λ (i : ℕ). sides_by i f p (length s) q (length r)) d

    pub sides_refused : (n : ℕ) → n ≡ sides_by w f p (length s) q (length r) → (n ≡ 0 → ⊥) → n ≡ reduce_fault word depth f p s q r
    unfolding reduce_fault
    sides_refused n e h = or_given n _ _ (by_word n e) h

  -- .. where the sides are not refused, the samples decide
  pub samples_decide : 0 ≡ sides_fault word depth f p (length s) q (length r) → (n : ℕ) → n ≡ sample_fault word depth p s → n ≡ reduce_fault word depth f p s q r
  unfolding reduce_fault
  samples_decide none n e =
      let t = by_sides (sym none) in
      or_later n _ _ none (sample_fault_is word depth p s t.0 t.1.1.0 n e)

-- ---- sums of squares of 32 samples at most on each side: 32 bits hold them, of either word

-- n places that are lent as a part
pub lent_sum : (l : List ℕ) (at n : ℕ) → at + n ≤ length l → (t : List ℕ) → t ≡ take (at + n - at) (drop at l) → sum_below (length t) (λ (i : ℕ). get_or t i 0) ≡ sum_below n (λ (i : ℕ). get_or l (at + i) 0)
lent_sum l at n h t e =
    let long : length t ≡ n = ap length e ∙ length-take-le (at + n - at) (drop at l) (omega (arith, length-drop at l)) ∙ omega arith in
    rw (long, e) (sum_ext n _ _ (λ i i<. get_or-take (at + n - at) (drop at l) i 0 (omega arith) ∙ get_or-drop at l i 0))

-- the same of samples
pub lent_row : {A : Type 0} {value : A → ℕ} {values : List A → List ℕ} → ((s : List A) → values s ≡ map value s) → (s : List A) (at n : ℕ) → at + n ≤ length s → (t : List A) → t ≡ take (at + n - at) (drop at s)
    → sum_below (length t) (λ (i : ℕ). get_or (values t) i 0) ≡ sum_below n (λ (i : ℕ). get_or (values s) (at + i) 0)
lent_row {A} {value} {values} each s at n h t e =
    rw (← length_values each t)
    (lent_sum (values s) at n (omega (arith, length_values each s)) (values t) (ap values e ∙ values_take each (at + n - at) (drop at s) ∙ ap (take (at + n - at)) (values_drop each at s)))

module _ (k n : ℕ) (s : List ℕ) (l : (i : ℕ) → get_or s i 0 ≤ k) (word : k ≤ word_most) (few : n ≤ 32) where
  row_room : n * k ≤ 32 * word_most
  row_room = mul-le-mul few word

  -- a turn of the sum of a row, which is the whole list, and of a square
  pub row_turn : (i sum part : ℕ) → i < n → sum ≡ sum_below i (λ (m : ℕ). get_or s m 0) → part ≡ get_or s i 0 → NextSum (2 ^ 32) i sum part (λ (m : ℕ). get_or s m 0)
  row_turn = row_next k n s l (2 ^ 32) (λ (m : ℕ). m) (omega (arith, row_room))

  pub square_turn : (start stride j sum part : ℕ) → j < n → sum ≡ sum_below j (row_from n s start stride) → part ≡ row_from n s start stride j
      → NextSum (2 ^ 32) j sum part (row_from n s start stride)
  square_turn start stride = square_next k n s l (2 ^ 32) start stride (omega (arith, mul-le-mul few row_room))

  -- a square's mean: half the number of samples can be added, and it is not above a sample
  pub mean_turn : (start stride sum : ℕ) → 0 < n → sum ≡ square_from n s start stride → (sum + n * n / 2 < 2 ^ 32) × ((0 < n * n) × (mean_of (n * n) sum ≤ k))
  mean_turn start stride sum h e =
      let some : 0 < n * n = mul-pos h h in
      let most : sum ≤ n * n * k = rw (e, mul_assoc n n k) (square_most k n s l start stride) in
      (omega (arith, e, square_most k n s l start stride, mul-le-mul few row_room, samples_few n few), (some, mean_most k (n * n) sum some most))

-- ---- pairs

-- pair k of a part that starts at a place
pub pair_part : (s : List ℕ) (at k : ℕ) → at + (2 * k + 1) < length s → pair_at (take (length s - at) (drop at s)) k ≡ pair_from s at k
pair_part s at k h = rw (part_at s at (2 * k) (omega arith), part_at s at (2 * k + 1) h)

-- the same pair of the whole list
pub pair_shift : (s : List ℕ) (at from k : ℕ) → from ≡ 2 * at → from + (2 * k + 1) < length s → pair_at (take (length s - from) (drop from s)) k ≡ pair_at s (at + k)
pair_shift s at from k e h =
    let left : from + 2 * k ≡ 2 * (at + k) = omega arith in
    let right : from + (2 * k + 1) ≡ 2 * (at + k) + 1 = omega arith in
    pair_part s from k h ∙ rw (left, right)

module _ (k : ℕ) (s : List ℕ) (l : (i : ℕ) → get_or s i 0 ≤ k) where
  pub pair_most : (i : ℕ) → pair_at s i ≤ 2 * k
  pair_most i = let a = l (2 * i) in let b = l (2 * i + 1) in omega arith

  pub pairs_most : (start stride n i : ℕ) → pairs_from s start stride n i ≤ n * (2 * k)
  pairs_most start stride n i =
      sum_most (2 * k) n (λ (j : ℕ). pair_from s (start + j * stride) i)
      (λ j _. let a = l (start + j * stride + 2 * i) in let b = l (start + j * stride + (2 * i + 1)) in omega arith)

-- two rows more
pub pairs_next : (s : List ℕ) (start stride j k : ℕ)
    → pairs_from s start stride (2 * j) k + (pair_from s (start + 2 * j * stride) k + pair_from s (start + (2 * j + 1) * stride) k) ≡ pairs_from s start stride (2 * (j + 1)) k
pairs_next s start stride j k =
    let one = sum_more (2 * j) (λ (i : ℕ). pair_from s (start + i * stride) k) in
    let two = sum_more (2 * j + 1) (λ (i : ℕ). pair_from s (start + i * stride) k) in
    let ends : 2 * (j + 1) ≡ 2 * j + 1 + 1 = omega arith in
    rw ends (omega arith)

-- ---- squares by pairs of columns

-- a row of a square: h pairs are 2 * h samples
row_by_pairs : (s : List ℕ) (start stride h x j : ℕ) → sum_below h (λ (i : ℕ). pair_from s (start + j * stride) (x * h + i)) ≡ row_from (2 * h) s (start + x * (2 * h)) stride j
row_by_pairs s start stride h x j =
    sum_ext h (λ (i : ℕ). pair_from s (start + j * stride) (x * h + i)) (λ (i : ℕ). g (2 * i) + g (2 * i + 1))
    (λ i _.
    let wide : x * (2 * h) ≡ 2 * (x * h) = mul_left_comm x 2 h in
    let left : start + j * stride + 2 * (x * h + i) ≡ start + x * (2 * h) + j * stride + 2 * i = omega arith in
    let right : start + j * stride + (2 * (x * h + i) + 1) ≡ start + x * (2 * h) + j * stride + (2 * i + 1) = omega arith in
    rw (left, right))
    ∙ sum_pairs h g
  where
    g : ℕ → ℕ
    g i = get_or s (start + x * (2 * h) + j * stride + i) 0

-- group x of the sums of 2 * h rows is the sum of square x
pub square_by_pairs : (s l : List ℕ) (start stride h x : ℕ) → l ≡ table sum_count (pairs_from s start stride (2 * h)) → x * h + h ≤ sum_count
    → group_of l h x ≡ square_from (2 * h) s (start + x * (2 * h)) stride
square_by_pairs s l start stride h x e room =
    sum_ext h (λ (i : ℕ). get_or l (x * h + i) 0) (λ (i : ℕ). pairs_from s start stride (2 * h) (x * h + i))
    (λ i i<. rw e (table_at 0 sum_count (pairs_from s start stride (2 * h)) (x * h + i) (omega arith)))
    ∙ sum_swap h (2 * h) (λ (i j : ℕ). pair_from s (start + j * stride) (x * h + i))
    ∙ sum_ext (2 * h) (λ (j : ℕ). sum_below h (λ (i : ℕ). pair_from s (start + j * stride) (x * h + i))) (row_from (2 * h) s (start + x * (2 * h)) stride)
    (λ j _. row_by_pairs s start stride h x j)

-- how many samples a square has, by its half side
pub four_halves : (h : ℕ) → 4 * h * h ≡ 2 * h * (2 * h)
four_halves h = let wide : 2 * h * (2 * h) ≡ 2 * (2 * h * h) = mul_left_comm (2 * h) 2 h in let deep = mul_assoc 2 h h in let all = mul_assoc 4 h h in omega arith

-- the square of side 1 is its sample
pub mean_one : (s : List ℕ) (start stride x : ℕ) → mean_from 1 s start stride x ≡ get_or s (start + x) 0
mean_one s start stride x =
    let place : start + x * 1 + 0 * stride + 0 ≡ start + x = omega (arith, zero-mul stride) in
    let row : row_from 1 s (start + x * 1) stride 0 ≡ get_or s (start + x) 0 =
    sum_more 0 (λ (i : ℕ). get_or s (start + x * 1 + 0 * stride + i) 0) ∙ omega (arith, sum_none (λ (i : ℕ). get_or s (start + x * 1 + 0 * stride + i) 0), ap (λ (i : ℕ). get_or s i 0) place) in
    let sum : square_from 1 s (start + x * 1) stride ≡ get_or s (start + x) 0 =
    sum_more 0 (row_from 1 s (start + x * 1) stride) ∙ omega (arith, sum_none (row_from 1 s (start + x * 1) stride)) in
    rw sum (omega arith)

-- ---- the means of a chunk

-- from the chunk's sums l: the means of groups of n sums, of so many samples each, are those of the squares
module _ (k h : ℕ) (half : Half h) (s l : List ℕ) (most : (i : ℕ) → get_or s i 0 ≤ k) (start stride : ℕ) (e : l ≡ table sum_count (pairs_from s start stride (2 * h)))
    (count n samples : ℕ) (whole : count ≡ sum_count / h) (groups : n ≡ h) (all : samples ≡ 4 * h * h) where
  group_in : (x : ℕ) → x < count → x * h + h ≤ sum_count
  group_in x x< =
      let next : x + 1 ≤ sum_count / h = omega arith in
      omega (arith, half.whole, mul-le-mul_right h next, add-mul x 1 h)

  group_is : (x : ℕ) → x < count → group_of l n x ≡ square_from (2 * h) s (start + x * (2 * h)) stride
  group_is x x< = rw groups (square_by_pairs s l start stride h x e (group_in x x<))

  pub group_most : (x : ℕ) → x < count → group_of l n x ≤ samples * k
  group_most x x< =
      rw (group_is x x<, all, four_halves h, mul_assoc (2 * h) (2 * h) k) (square_most k (2 * h) s most (start + x * (2 * h)) stride)

  pub chunk_means : (out : List ℕ) → written (λ (x : ℕ). ltb x count) (λ (x : ℕ). mean_of samples (group_of l n x)) out ≡ written (λ (x : ℕ). ltb x (sum_count / h)) (mean_from (2 * h) s start stride) out
  chunk_means out =
      written_value (λ (x : ℕ). ltb x count) (λ (x : ℕ). mean_of samples (group_of l n x)) (mean_from (2 * h) s start stride) out
      (λ x t. ap₂ mean_of (all ∙ four_halves h) (group_is x (ltb-true x count t)))
      ∙ ap (λ (m : ℕ). written (λ (x : ℕ). ltb x m) (mean_from (2 * h) s start stride) out) whole
