-- The SATD's numbers over the largest sample k: no difference is out of the transform's range where k is at most 65,535, and the SATD is at
-- most 512 times k. So a u32 holds it, and the sum before the division, for samples of 8 and of 16 bits. Assumes nothing.
use mathlib.Core.Path.{◌≡◌, refl, sym, ap, ◌∙◌}
use mathlib.Core.List.{List}
use Prim.Native.Nat.{ℕ, ◌+◌, ◌*◌, ◌/◌, ◌≤◌, ◌<◌}
use native.Mathlib.Omega.{arith}
use borrow.Author.Tests.{eq-eqb, ne_eqb}
use lib.IntN.{ℤ, pos, ◌-ℤ◌, nat_abs}
use Rattle.std.specs.Prelude.{map}
use lib.ListN.{length, get_or, set, length-set}
use Rattle.answer.specs.Answer.{gives, refused}
use Rattle.answer.proofs.Laws.{or_given, or_later, answer_given, answer_refused}
use Rattle.sums.proofs.TableLaws.{length_table, is_table, one_filled}
use Rattle.sums.proofs.SumLaws.{sum_most}
use Rattle.sums.proofs.SignedLaws.{abs_difference}
use Rattle.sums.proofs.SampleLaws.{value_read}
use Rattle.plane.specs.Blocks.{block_side}
use Rattle.hadamard.specs.Transform.{entry_most, transform_fault, transformed, after_transform}
use Rattle.hadamard.specs.Steps.{AllWithin}
use Rattle.hadamard.proofs.Square.{length_transformed, transformed_within}
use Rattle.hadamard.proofs.Range.{table_within, none_beyond, within_more, accepted}
use Rattle.satd.specs.Satd.{block_size, difference, differences, abs_sum, satd_value, satd_of}

-- a block of another length is refused, and two whole blocks have a SATD
module _ (first second : List ℕ) where
  pub first_refused : (length first ≡ block_size → ⊥) → refused 2 ≡ satd_of first second
  first_refused h = answer_refused 2 _ _ (or_given 2 _ _ (rw (ne_eqb (length first) block_size h)) (λ e. omega arith)) (λ e. omega arith)

  pub second_refused : length first ≡ block_size → (length second ≡ block_size → ⊥) → refused 2 ≡ satd_of first second
  second_refused e h =
      answer_refused 2 _ _ (or_later 2 _ _ (rw (eq-eqb (length first) block_size e)) (rw (ne_eqb (length second) block_size h))) (λ e. omega arith)

  pub satd_given : length first ≡ block_size → length second ≡ block_size → gives (satd_value first second) ≡ satd_of first second
  satd_given d e =
      answer_given _ _ _ (or_later 0 _ _ (rw (eq-eqb (length first) block_size d)) (rw (eq-eqb (length second) block_size e))) refl

-- ---- the loop of the subtraction: the first i differences stand in their places
pub record Subtracted (first second : List ℕ) (i : ℕ) (l : List ℤ) : Type 0 where
  pub size : length l ≡ block_size
  pub done : (t : ℕ) → t < i → get_or l t (pos 0) ≡ difference first second t

module _ (first second : List ℕ) where
  pub subtracted_none : (l : List ℤ) → length l ≡ block_size → Subtracted first second 0 l
  subtracted_none l e = record { size = e; done = λ t h. absurd (omega arith) }

  pub subtracted_more : (i : ℕ) (l : List ℤ) (z : ℤ) → Subtracted first second i l → i < block_size → z ≡ difference first second i → Subtracted first second (i + 1) (set l i z)
  subtracted_more i l z p h e =
      record { size = length-set l i z ∙ p.size; done = one_filled (pos 0) (difference first second) l i z (omega (arith, p.size)) p.done e }

  pub subtracted_all : (i : ℕ) (l : List ℤ) → Subtracted first second i l → block_size ≤ i → l ≡ differences first second
  subtracted_all i l p h = is_table (pos 0) block_size (difference first second) l p.size (λ t t<. p.done t (omega arith))

-- a place more: the gap of two samples that were read
module _ {A : Type 0} {value : A → ℕ} {values : List A → List ℕ} (each : (s : List A) → values s ≡ map value s) where
  pub subtracted_gap : {first second : List A} {i : ℕ} {l : List ℤ} {x y : A} → Subtracted (values first) (values second) i l → (z : ℤ) → z ≡ pos (value x) -ℤ pos (value y)
      → i < block_size → length first ≡ block_size → length second ≡ block_size → x ≡ get_or first i x → y ≡ get_or second i y
      → Subtracted (values first) (values second) (i + 1) (set l i z)
  subtracted_gap {first} {second} {i} {l} {x} {y} p z d h f s e k =
      subtracted_more (values first) (values second) i l z p h (d ∙ rw (value_read each first i x (omega arith) e, value_read each second i y (omega arith) k))

-- ---- the transform, the sum and the SATD

-- what the transform leaves of the differences, so that `total` may add it up and the sum leaves room for 4
pub record Left (first second : List ℕ) (x : List ℤ) : Type 0 where
  pub is : x ≡ transformed block_side (differences first second)
  pub size : length x ≡ block_size
  pub within : AllWithin (block_side * (block_side * entry_most)) x
  pub sum_most : abs_sum x ≤ block_size * (block_side * (block_side * entry_most))

-- an eighth of the sum is the SATD
pub left_satd : {first second : List ℕ} {x : List ℤ} → Left first second x → (n : ℕ) → n ≡ abs_sum x → (n + 4) / 8 ≡ satd_value first second
unfolding satd_value
left_satd {first} {second} p n e = ap (λ (m : ℕ). (m + 4) / 8) (e ∙ ap abs_sum p.is)

module _ (k : ℕ) (first second : List ℕ) (p : (i : ℕ) → get_or first i 0 ≤ k) (q : (i : ℕ) → get_or second i 0 ≤ k) where
  differences_within : AllWithin k (differences first second)
  differences_within =
      table_within block_size k (difference first second) (λ i. omega (arith, abs_difference (get_or first i 0) (get_or second i 0), p i, q i))

  transformed_most : AllWithin (block_side * (block_side * k)) (transformed block_side (differences first second))
  transformed_most = transformed_within k block_side (differences first second) differences_within

  sum_at_most : abs_sum (transformed block_side (differences first second)) ≤ block_size * (block_side * (block_side * k))
  sum_at_most = sum_most (block_side * (block_side * k)) block_size (λ (i : ℕ). nat_abs (get_or (transformed block_side (differences first second)) i (pos 0))) (λ i _. transformed_most.most i)

  pub satd_most : satd_value first second ≤ block_size * block_side * k
  unfolding satd_value
  satd_most = omega (arith, sum_at_most)

  -- the differences, as a list d: the transform does not refuse them
  differences_fine : k ≤ entry_most → (0 ≡ transform_fault block_side (differences first second)) × (transformed block_side (differences first second) ≡ after_transform block_side (differences first second))
  differences_fine h =
      accepted block_side (differences first second) (length_table block_size (difference first second))
      (none_beyond (differences first second) (within_more k entry_most (differences first second) h differences_within))

  pub unrefused : k ≤ entry_most → (d : List ℤ) → d ≡ differences first second → transform_fault block_side d ≡ 0
  unrefused h d e = rw e (sym (differences_fine h).0)

  -- and what it leaves of them
  pub left : k ≤ entry_most → (d x : List ℤ) → d ≡ differences first second → x ≡ after_transform block_side d → Left first second x
  left h d x e f =
      rw (f, e, ← (differences_fine h).1)
      (record {
        is = refl;
        size = length_transformed block_side (differences first second);
        within = within_more _ _ (transformed block_side (differences first second)) (omega arith) transformed_most;
        sum_most = omega (arith, sum_at_most);
      })
